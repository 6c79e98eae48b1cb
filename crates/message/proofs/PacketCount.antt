-- The statements of specs/PacketCount.antt, proved.
-- Assumes nothing.
use Rattle.std.specs.Prelude.{Err}
use mathlib.Core.Path.{◌≡◌, refl, sym, ap, ◌∙◌}
use mathlib.Core.List.{List}
use mathlib.Core.Logic.{◌≢◌, ◌⊎◌, inl, inr}
use Prim.Native.Nat.{ℕ, ◌≤◌, ◌<◌}
use native.Mathlib.Omega.{arith}
use lib.ListN.{length}
use Rattle.words.specs.Words.{◌<?◌, ◌=?◌, ◌or◌, refused, gives, number_in}
use Rattle.frame.specs.Bytes.{byte_at, bytes_of}
use Rattle.frame.specs.Identifier.{greatest_dgn}
use Rattle.words.proofs.Words.{by_if}
use Rattle.words.proofs.Tests.{tests}
use Rattle.message.specs.LongMessage.{shortest, longest, packets_of}
use Rattle.message.specs.Splitter.{splits, announcement_bytes, packet_bytes_of, announcement_of, numbered, packet_of}
use Rattle.message.specs.Promises.{announcing_number, splitting_number}
use Rattle.message.specs.PacketCount.{most_packets, FitsExactly, AnnouncementFits, PacketFits}
use Rattle.message.specs.PacketCount.{TooManyToAnnounce, TooManyToSplit}
use Rattle.message.specs.PacketCount.{former_splits, former_announcement_of, former_packet_of}
use Rattle.message.specs.PacketCount.{NeverFourteen, AnnouncementAsBefore, PacketAsBefore}
use Rattle.message.specs.declared.NotSplit.TheVariants.{NoSuchPacket}
use Rattle.message.proofs.Packets.{splits_above, splits_outside, splits_within, by_limits}
use Rattle.message.proofs.Laws.{splitting_number_same, splitter_announces, splitter_splits}

pub fits_exactly : FitsExactly
fits_exactly size = record { holds = λ h. omega arith; no_other = λ h. omega arith }

-- what is refused with neither 12 nor 13 keeps the limits

record Within (size dgn : ℕ) : Type 0 where
  about : dgn ≤ greatest_dgn
  long : shortest ≤ size
  short : size ≤ longest

module _ (size dgn n : ℕ) (twelve : greatest_dgn < dgn → n ≡ 12)
    (thirteen : dgn ≤ greatest_dgn → (size < shortest) ⊎ (longest < size) → n ≡ 13) where
  within : n ≢ 12 → n ≢ 13 → Within size dgn
  within a b =
      by_limits size dgn (λ d. absurd (a (twelve d))) (λ d h. absurd (b (thirteen d h)))
      (λ d l h. record { about = d; long = l; short = h })

  too_many : dgn ≤ greatest_dgn → most_packets < packets_of size → n ≡ 13
  too_many d h = thirteen d (inr (omega arith))

-- the count in the announcement, and the number in a packet

counted_in : (size dgn : ℕ) → byte_at 3 (announcement_bytes size dgn) ≡ packets_of size
unfolding announcement_bytes bytes_of
counted_in size dgn = refl

numbered_in : (message : List ℕ) (number : ℕ) → byte_at 0 (packet_bytes_of message number) ≡ number
unfolding packet_bytes_of
numbered_in message number = refl

pub announcement_fits : AnnouncementFits
announcement_fits message dgn r p a b =
    let s = splitter_announces message dgn r p in
    let w = within (length message) dgn (announcing_number r.answer) s.twelve s.thirteen a b in
    let g = s.given w.about w.long w.short in
    record {
      announced = g.0;
      few = (fits_exactly (length message)).holds w.short;
      counted = ap (byte_at 3) g.1 ∙ counted_in (length message) dgn;
    }

pub packet_fits : PacketFits
packet_fits message dgn number r p a b =
    let s = splitter_splits message dgn number r p in
    let w = within (length message) dgn (splitting_number r.answer) s.twelve s.thirteen a b in
    record {
      few = (fits_exactly (length message)).holds w.short;
      each = λ one most.
          let g = s.given w.about w.long w.short one most in
          (g.0, ap (byte_at 0) g.1 ∙ numbered_in message number);
      other = λ n.
          splitting_number_same r.answer (Err NoSuchPacket) (s.fifteen w.about w.long w.short n);
    }

pub too_many_to_announce : TooManyToAnnounce
too_many_to_announce message dgn r p =
    let s = splitter_announces message dgn r p in
    too_many (length message) dgn (announcing_number r.answer) s.twelve s.thirteen

pub too_many_to_split : TooManyToSplit
too_many_to_split message dgn number r p =
    let s = splitter_splits message dgn number r p in
    too_many (length message) dgn (splitting_number r.answer) s.twelve s.thirteen

-- What the former splitter says, and today's too: 12, 13, or the count.

data Formerly (size dgn : ℕ) : Type 0 where
  twelve : former_splits size dgn ≡ refused 12 → splits size dgn ≡ refused 12 → Formerly size dgn
  thirteen : former_splits size dgn ≡ refused 13 → splits size dgn ≡ refused 13 → Formerly size dgn
  counts : former_splits size dgn ≡ gives (packets_of size) → splits size dgn ≡ gives (packets_of size) → Formerly size dgn

formerly : (size dgn : ℕ) → Formerly size dgn
unfolding former_splits
formerly size dgn =
    by_limits size dgn
    (λ d. twelve (search tests) (splits_above size dgn d))
    (λ d h. thirteen (outside d h) (splits_outside size dgn d h))
    (λ d l h.
    let few = (fits_exactly size).holds h in
    counts (search tests) (splits_within size dgn d l h))
  where
    outside : dgn ≤ greatest_dgn → (size < shortest) ⊎ (longest < size) → former_splits size dgn ≡ refused 13
    outside d (inl h) = search tests
    outside d (inr h) = let l : shortest ≤ size = omega arith in search tests

splits_as_before : (size dgn : ℕ) → splits size dgn ≡ former_splits size dgn
splits_as_before size dgn = go (formerly size dgn)
  where
    go : Formerly size dgn → splits size dgn ≡ former_splits size dgn
    go (twelve e f) = f ∙ sym e
    go (thirteen e f) = f ∙ sym e
    go (counts e f) = f ∙ sym e

pub announcement_as_before : AnnouncementAsBefore
unfolding announcement_of former_announcement_of
announcement_as_before message dgn r p = rw (splits_as_before (length message) dgn) at p

pub packet_as_before : PacketAsBefore
unfolding packet_of former_packet_of
packet_as_before message dgn number r p = rw (splits_as_before (length message) dgn) at p

-- a packet that is not given is refused with 15
not_fourteen : (message : List ℕ) (number count : ℕ) → number_in (numbered message number count) ≢ 14
unfolding numbered
not_fourteen message number count =
    by_if (λ t. number_in t ≢ 14) ((number =? 0) or (count <? number)) (refused 15) _ (λ t e. omega arith)
    (λ t e. omega arith)

pub never_fourteen : NeverFourteen
unfolding former_announcement_of former_packet_of
never_fourteen message dgn number = go (formerly (length message) dgn)
  where
    go : Formerly (length message) dgn
        → (number_in (former_announcement_of message dgn) ≢ 14) × (number_in (former_packet_of message dgn number) ≢ 14)
    go (twelve e f) = (rw e (λ x. omega arith), rw e (λ x. omega arith))
    go (thirteen e f) = (rw e (λ x. omega arith), rw e (λ x. omega arith))
    go (counts e f) = (rw e (λ x. omega arith), rw e (not_fourteen message number (packets_of (length message))))
