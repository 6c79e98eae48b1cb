-- The statements of specs/SplitAndJoin.antt, proved: the message's frames mean what they are to mean, and each packet adds its part.
-- Assumes nothing.
use mathlib.Core.Path.{◌≡◌, refl, sym, ap, ◌∙◌}
use mathlib.Core.Bool.{true}
use mathlib.Core.List.{List, [], ◌∷◌, ◌++◌, append_assoc}
use mathlib.Core.Option.{Option, some, none}
use Prim.Native.Nat.{ℕ, suc, ◌+◌, ◌-◌, ◌*◌, ◌≤◌, ◌<◌}
use native.Mathlib.Omega.{arith}
use borrow.Author.Tests.{eq-eqb, ne_eqb, le-ltb, le-leb}
use lib.ListN.{length, take, drop, replicate, length-drop, length-take, length-append}
use lib.Seq.{take-add, take_all, take-append-le, take-take}
use Rattle.words.specs.Words.{Told, refused, gives}
use Rattle.frame.specs.Bytes.{bytes_of, byte_at}
use Rattle.frame.specs.Identifier.{identifier_of, greatest_dgn, lowest_priority}
use Rattle.frame.specs.Frame.{frame_bytes}
use Rattle.frame.specs.Standard.{Frame, announcement_dgn, packet_dgn, unused, greatest_address}
use Rattle.words.proofs.Words.{true_false}
use Rattle.frame.proofs.Bytes.{number_of_bytes}
use Rattle.frame.proofs.Sent.{sent_checked}
use Rattle.places.specs.Format.{Event, frame, pause, step, fixed}
use Rattle.places.specs.OneKey.{solo, hear_alone, pause_alone, open_after}
use Rattle.places.specs.Telling.{Tells, nothing_to_do, opened, stored, finished}
use Rattle.message.specs.LongMessage.{shortest, longest, packet_bytes, packets_of, idle_limit, to_all, bytes_to}
use Rattle.message.specs.LongMessage.{needed, Meaning, other, announcement, packet, announced, meant, meaning_of}
use Rattle.message.specs.OneSender.{Open, joined, asks_by, long_messages}
use Rattle.message.specs.Splitter.{announcement_bytes, packet_bytes_of}
use Rattle.message.specs.Promises.{Announcement, Packet}
use Rattle.message.specs.declared.Announced.{Announced}
use Rattle.message.specs.declared.Split.{Split}
use Rattle.message.proofs.Laws.{splitter_announces, splitter_splits}
use Rattle.demands.specs.SplitAndJoin.{sent, is_apart, Sending, pauses, sends, next, last, Sent, announces}
use Rattle.demands.specs.SplitAndJoin.{Sendable, SplitAndJoin, JoinedByRules}
use Rattle.demands.proofs.BusyBus.{told_on_bus}

-- a frame as sent passes refusals 3 to 6, and its parts are those that it was formed from
sent_meaning : (priority dgn sender : ℕ) → priority ≤ lowest_priority → dgn ≤ greatest_dgn → sender ≤ greatest_address
    → (bytes : List ℕ) → length bytes ≡ frame_bytes
    → meaning_of (identifier_of priority dgn sender) bytes ≡ meant sender dgn bytes
unfolding meaning_of
sent_meaning priority dgn sender high about low bytes l =
    rw (sent_checked priority dgn sender (length bytes) high about low l)

-- the splitter's bytes

announcement_length : (size dgn : ℕ) → length (announcement_bytes size dgn) ≡ frame_bytes
unfolding announcement_bytes bytes_of
announcement_length size dgn = refl

packet_length : (message : List ℕ) (number : ℕ) → length (packet_bytes_of message number) ≡ frame_bytes
unfolding packet_bytes_of
packet_length message number =
    let l = drop (packet_bytes * (number - 1)) message in
    let e : length (take packet_bytes (l ++ replicate packet_bytes unused)) ≡ packet_bytes = rw (length-take, length-append) (omega arith) in
    ap suc e

-- the announcement means what it is to mean

module _ (size dgn sender : ℕ) (long : shortest ≤ size) (short : size ≤ longest) (about : dgn ≤ greatest_dgn) where
  size_read : bytes_to 1 2 (announcement_bytes size dgn) ≡ size
  unfolding bytes_to announcement_bytes bytes_of
  size_read = number_of_bytes 2 size (omega (arith, short))

  dgn_read : bytes_to 5 7 (announcement_bytes size dgn) ≡ dgn
  unfolding bytes_to announcement_bytes bytes_of
  dgn_read = number_of_bytes 3 dgn (omega (arith, about))

  count_read : byte_at 3 (announcement_bytes size dgn) ≡ packets_of size
  unfolding announcement_bytes bytes_of
  count_read = refl

  announced_well : announced sender size (packets_of size) dgn
      ≡ gives (announcement (record { sender = sender; size = size; dgn = dgn }))
  unfolding announced
  announced_well = rw (le-leb _ _ long, le-leb _ _ short, eq-eqb (packets_of size) (packets_of size) refl, le-leb _ _ about)

  to_all_lem : byte_at 0 (announcement_bytes size dgn) ≡ to_all
  unfolding announcement_bytes
  to_all_lem = refl

  announcement_meant : meant sender announcement_dgn (announcement_bytes size dgn)
      ≡ gives (announcement (record { sender = sender; size = size; dgn = dgn }))
  unfolding meant
  announcement_meant = rw (eq-eqb _ _ to_all_lem, size_read, dgn_read, count_read) announced_well

packet_meant : (message : List ℕ) (number sender : ℕ) → meant sender packet_dgn (packet_bytes_of message number)
    ≡ gives (packet (record { sender = sender; number = number }))
unfolding meant packet_bytes_of
packet_meant message number sender = refl

-- what has been collected when packet `number` is next
abbrev open_at : List ℕ → ℕ → ℕ → ℕ → ℕ → Open
open_at message dgn sender number sum =
    record { sender = sender; size = length message; dgn = dgn; expected = number; idle = sum; collected = take (packet_bytes * (number - 1)) message }

-- a packet adds its part, and no padding
joins : (message : List ℕ) (dgn sender number sum : ℕ) → 1 ≤ number → number ≤ packets_of (length message)
    → joined (open_at message dgn sender number sum) (drop 1 (packet_bytes_of message number))
    ≡ take (packet_bytes * (number - 1) + needed (length message) number) message
unfolding packet_bytes_of
joins message dgn sender number sum one most =
    let from = packet_bytes * (number - 1) in
    let l = drop from message in
    let n = needed (length message) number in
    let h : n ≤ packet_bytes = omega arith in
    let k : n ≤ length l = rw length-drop (omega arith) in
    let e : take n (take packet_bytes (l ++ replicate packet_bytes unused)) ≡ take n l = take-take n packet_bytes (l ++ replicate packet_bytes unused) h ∙ take-append-le n l (replicate packet_bytes unused) k in
    ap (λ (r : List ℕ). take from message ++ r) e ∙ sym (take-add from n message)

module _ (message : List ℕ) (dgn sender : ℕ) (w : Sendable message dgn sender) where
  abbrev ToldLast : List (Event Frame) → Option Open → Type 0
  ToldLast events m = (answers : List (Told Tells)) × (solo long_messages m events
      ≡ answers ++ (gives (finished (record { sender = sender; dgn = dgn; bytes = message })) ∷ []))

  -- one packet, heard alone
  module _ (number sum priority : ℕ) (r : Split) (high : priority ≤ lowest_priority) (one : 1 ≤ number)
      (most : number ≤ packets_of (length message))
      (cut : Packet message dgn number r) where
    abbrev f : Frame
    f = sent priority packet_dgn sender r.bytes

    abbrev m : Open
    m = open_at message dgn sender number sum

    packet_is : r.bytes ≡ packet_bytes_of message number
    packet_is = ((splitter_splits message dgn number r cut).given w.about w.long w.short one most).1

    packet_asks : meaning_of f.id f.bytes ≡ gives (packet (record { sender = sender; number = number }))
    packet_asks =
        let l : length r.bytes ≡ frame_bytes = rw packet_is (packet_length message number) in
        sent_meaning priority packet_dgn sender high (omega arith) w.named r.bytes l ∙ rw packet_is (packet_meant message number sender)

    packet_joins : joined m (drop 1 r.bytes) ≡ take (packet_bytes * (number - 1) + needed (length message) number) message
    packet_joins = rw packet_is (joins message dgn sender number sum one most)

    hears_next : number < packets_of (length message) → hear_alone long_messages f (some m) ≡ step (some (open_at message dgn sender (number + 1) 0)) (gives stored)
    hears_next h =
        let y : packet_bytes * (number - 1) + needed (length message) number ≡ packet_bytes * (number + 1 - 1) = omega arith in
        let c : joined m (drop 1 r.bytes) ≡ take (packet_bytes * (number + 1 - 1)) message = packet_joins ∙ ap (λ (n : ℕ). take n message) y in
        rw (packet_asks, eq-eqb number number refl, ne_eqb number (packets_of (length message)) (λ e. omega arith), c)

    hears_last : number ≡ packets_of (length message) → hear_alone long_messages f (some m)
        ≡ step none (gives (finished (record { sender = sender; dgn = dgn; bytes = message })))
    hears_last h =
        let y : length message ≤ packet_bytes * (number - 1) + needed (length message) number = omega (arith, w.long) in
        let c : joined m (drop 1 r.bytes) ≡ message = packet_joins ∙ take_all _ message y in
        rw (packet_asks, eq-eqb number number refl, eq-eqb number (packets_of (length message)) h, c)

  apart_fixed : (t : Told Meaning) (bytes : List ℕ) → is_apart t ≡ true → (a : Told Tells) × (asks_by t bytes ≡ fixed a)
  apart_fixed (refused n) bytes e = (refused n, refl)
  apart_fixed (gives other) bytes e = (gives nothing_to_do, refl)
  apart_fixed (gives (announcement m)) bytes e = true_false (sym e)
  apart_fixed (gives (packet p)) bytes e = true_false (sym e)

  joined_up : (number sum : ℕ) (events : List (Event Frame)) → 1 ≤ number → Sending message dgn sender number sum events
      → ToldLast events (some (open_at message dgn sender number sum))
  joined_up number sum events one (pauses {events = es} ms h s) =
      let r = joined_up number (sum + ms) es one s in
      (r.0, rw (le-ltb idle_limit (sum + ms) h) r.1)
  joined_up number sum events one (sends {events = es} f q s) =
      let r = joined_up number sum es one s in
      let a = apart_fixed (meaning_of f.id f.bytes) f.bytes q in
      (a.0 ∷ r.0, rw a.1 (ap (λ (l : List (Told Tells)). a.0 ∷ l) r.1))
  joined_up number sum events one (next {events = es} priority c high cut h s) =
      let two : 1 ≤ number + 1 = omega arith in
      let most : number ≤ packets_of (length message) = omega arith in
      let r = joined_up (number + 1) 0 es two s in
      (gives stored ∷ r.0, rw (hears_next number sum priority c high one most cut h) (ap (λ (l : List (Told Tells)). gives stored ∷ l) r.1))
  joined_up number sum events one (last priority c high cut h) =
      let most : number ≤ packets_of (length message) = omega arith in
      ([], rw (hears_last number sum priority c high one most cut h))

  announced_alone : (before : Option Open) (priority : ℕ) (r : Announced) → priority ≤ lowest_priority → Announcement message dgn r
      → hear_alone long_messages (sent priority announcement_dgn sender r.bytes) before ≡ step (some (open_at message dgn sender 1 0)) (gives opened)
  announced_alone before priority r high given =
      let a = ((splitter_announces message dgn r given).given w.about w.long w.short).1 in
      let l : length r.bytes ≡ frame_bytes = rw a (announcement_length (length message) dgn) in
      let e : meaning_of (identifier_of priority announcement_dgn sender) r.bytes
      ≡ gives (announcement (record { sender = sender; size = length message; dgn = dgn })) =
      sent_meaning priority announcement_dgn sender high (omega arith) w.named r.bytes l
      ∙ rw a (announcement_meant (length message) dgn sender w.long w.short w.about)
      in
      rw e

  told_all : (events : List (Event Frame)) → Sent message dgn sender events → (before : Option Open) → ToldLast events before
  told_all events (announces {events = es} priority c high given s) before =
      let r = joined_up 1 0 es (omega arith) s in
      (gives opened ∷ r.0, rw (announced_alone before priority c high given) (ap (λ (l : List (Told Tells)). gives opened ∷ l) r.1))

pub joined_by_rules : JoinedByRules
joined_by_rules message dgn sender events w s before = told_all message dgn sender w events s before

-- the events before the message only lead to some state

solo_append : (m : Option Open) (earlier own : List (Event Frame))
    → solo long_messages m (earlier ++ own) ≡ solo long_messages m earlier ++ solo long_messages (open_after long_messages m earlier) own
solo_append m [] own = refl
solo_append m (frame f ∷ es) own = ap (λ (l : List (Told Tells)). (hear_alone long_messages f m).answer ∷ l) (solo_append (hear_alone long_messages f m).next es own)
solo_append m (pause ms ∷ es) own = solo_append (pause_alone long_messages ms m) es own

pub split_and_join : SplitAndJoin
split_and_join message dgn sender h s earlier own w b e o =
    let r = joined_by_rules message dgn sender own w o (open_after long_messages none earlier) in
    let first = solo long_messages none earlier in
    let last : List (Told Tells) = gives (finished (record { sender = sender; dgn = dgn; bytes = message })) ∷ [] in (
      first ++ r.0,
      told_on_bus h s b sender
          ∙ ap (λ (x : List (Event Frame)). solo long_messages none x) e
          ∙ solo_append none earlier own
          ∙ ap (λ (x : List (Told Tells)). first ++ x) r.1
          ∙ sym (append_assoc first r.0 last),
    )
