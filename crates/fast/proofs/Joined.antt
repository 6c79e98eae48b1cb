-- The frames that `frame_of` answers, heard by the single-pair rules, hand over the message: each means what it is to
-- mean, and adds its part.
-- Assumes nothing.
use mathlib.Core.Path.{◌≡◌, refl, sym, ap, ◌∙◌}
use mathlib.Core.Bool.{true}
use mathlib.Core.List.{List, [], ◌∷◌, ◌++◌}
use mathlib.Core.Option.{Option, some, none}
use Prim.Native.Nat.{ℕ, suc, ◌+◌, ◌≤◌, ◌<◌}
use native.Mathlib.Omega.{arith}
use borrow.Author.Tests.{eq-eqb, ne_eqb, le-ltb, le-leb, lt-leb, leb-true}
use lib.ListN.{length, take, drop, replicate, length-drop, length-take, length-append, length-replicate}
use lib.Seq.{take-add, take_all, take-append-le, take-take}
use Rattle.words.specs.Words.{◌≤?◌, Told, refused, gives}
use Rattle.frame.specs.Identifier.{identifier_of, greatest_dgn, lowest_priority}
use Rattle.frame.specs.Frame.{frame_bytes}
use Rattle.frame.specs.Standard.{Frame, greatest_address, unused}
use Rattle.words.proofs.Words.{both_true, true_false}
use Rattle.frame.proofs.Sent.{sent_checked}
use Rattle.places.specs.Format.{Event, step, fixed}
use Rattle.places.specs.OneKey.{solo, hear_alone}
use Rattle.places.specs.Telling.{Tells, nothing_to_do, opened, stored, finished}
use Rattle.fast.specs.FastPacket.{greatest_sequence, first_bytes, later_bytes, longest, offset_of, last_frame, needed}
use Rattle.fast.specs.FastPacket.{idle_limit, Meaning, other, begins, continues, begun, carried, meant, meaning_of}
use Rattle.fast.specs.Names.{may_be_named, is_well_formed}
use Rattle.fast.specs.OnePair.{Open, joined, asks_by, fast_packets}
use Rattle.fast.specs.Splitter.{first_bytes_of, later_bytes_of, frame_bytes_of}
use Rattle.fast.specs.Promises.{FrameOf}
use Rattle.fast.specs.Sending.{sent, is_apart, Sendable, Sending, pauses, sends, next, last, Sent, at_once}
use Rattle.fast.specs.Sending.{in_frames, JoinedByRules}
use Rattle.fast.specs.declared.Split.{Split}
use Rattle.fast.proofs.Steps.{all_allowed, meant_carried}
use Rattle.fast.proofs.Frames.{named_allowed}
use Rattle.fast.proofs.Laws.{first_byte_read, splitter_splits}

-- a frame as sent passes refusals 3 to 6, and its parts are those that it was formed from
sent_meaning : (priority dgn sender : ℕ) → priority ≤ lowest_priority → dgn ≤ greatest_dgn → sender ≤ greatest_address
    → (names bytes : List ℕ) → length bytes ≡ frame_bytes
    → meaning_of names (identifier_of priority dgn sender) bytes ≡ meant names sender dgn bytes
unfolding meaning_of
sent_meaning priority dgn sender high about low names bytes l =
    rw (sent_checked priority dgn sender (length bytes) high about low l)

may_be_small : (dgn : ℕ) → may_be_named dgn ≡ true → dgn ≤ greatest_dgn
unfolding may_be_named
may_be_small dgn e = leb-true _ _ (both_true (dgn ≤? greatest_dgn) _ e).0

-- the splitter's bytes

padded_length : (l : List ℕ) (n : ℕ) → length (take n (l ++ replicate n unused)) ≡ n
padded_length l n = rw (length-take, length-append, length-replicate) (omega arith)

first_length : (message : List ℕ) (sequence : ℕ) → length (first_bytes_of message sequence) ≡ frame_bytes
unfolding first_bytes_of
first_length message sequence = ap (λ (n : ℕ). suc (suc n)) (padded_length message first_bytes)

later_length : (message : List ℕ) (sequence number : ℕ) → length (later_bytes_of message sequence number) ≡ frame_bytes
unfolding later_bytes_of
later_length message sequence number = ap suc (padded_length (drop (offset_of number) message) later_bytes)

-- of what is padded, as many bytes as there are of the message are the message's
unpadded : (n m : ℕ) (l : List ℕ) → n ≤ m → n ≤ length l → take n (take m (l ++ replicate m unused)) ≡ take n l
unpadded n m l h k = take-take n m (l ++ replicate m unused) h ∙ take-append-le n l (replicate m unused) k

module _ (message : List ℕ) (sequence : ℕ) (numbered : sequence ≤ greatest_sequence) (long : 1 ≤ length message)
    (short : length message ≤ longest) where
  frame_is : (number : ℕ) → number ≤ last_frame (length message) → (r : Split) → FrameOf message sequence number r
      → r.bytes ≡ frame_bytes_of message sequence number
  frame_is number most r c = ((splitter_splits message sequence number r c).given numbered long short most).1

  first_is : (r : Split) → FrameOf message sequence 0 r → r.bytes ≡ first_bytes_of message sequence
  unfolding frame_bytes_of
  first_is r c = frame_is 0 (omega arith) r c

  later_is : (number : ℕ) (r : Split) → 1 ≤ number → number ≤ last_frame (length message)
      → FrameOf message sequence number r → r.bytes ≡ later_bytes_of message sequence number
  unfolding frame_bytes_of
  later_is number r one most c = frame_is number most r c ∙ rw (ne_eqb number 0 (λ e. omega arith))

  -- they mean what they are to mean

  first_carried : (sender dgn : ℕ)
      → carried sender dgn (first_bytes_of message sequence)
      ≡ gives (begins (record { sender = sender; dgn = dgn; sequence = sequence; size = length message }))
  unfolding carried begun first_bytes_of
  first_carried sender dgn =
      let b = first_byte_read sequence 0 numbered (omega arith) in
      rw (b.1, b.0, le-leb _ _ long, le-leb _ _ short)

  later_carried : (sender dgn number : ℕ) → 1 ≤ number → number ≤ last_frame (length message)
      → carried sender dgn (later_bytes_of message sequence number)
      ≡ gives (continues (record { sender = sender; dgn = dgn; sequence = sequence; number = number }))
  unfolding carried later_bytes_of
  later_carried sender dgn number one most =
      let b = first_byte_read sequence number numbered (omega arith) in
      rw (b.1, b.0, ne_eqb number 0 (λ e. omega arith))

-- what has been collected when frame `number` is next
abbrev open_at : List ℕ → ℕ → ℕ → ℕ → ℕ → ℕ → Open
open_at message dgn sender sequence number sum =
    record {
      sender = sender;
      dgn = dgn;
      sequence = sequence;
      size = length message;
      expected = number;
      idle = sum;
      collected = take (offset_of number) message;
    }

-- frame 0 has the first six bytes, or the whole message

six_bytes : (message : List ℕ) (sequence : ℕ) → first_bytes < length message
    → take first_bytes (drop 2 (first_bytes_of message sequence)) ≡ take first_bytes message
unfolding first_bytes_of
six_bytes message sequence h = unpadded first_bytes first_bytes message (omega arith) (omega arith)

all_bytes : (message : List ℕ) (sequence : ℕ) → length message ≤ first_bytes
    → take (length message) (drop 2 (first_bytes_of message sequence)) ≡ message
unfolding first_bytes_of
all_bytes message sequence h =
    unpadded (length message) first_bytes message h (omega arith) ∙ take_all (length message) message (omega arith)

-- a later frame adds its part, and no padding
joins : (message : List ℕ) (dgn sender sequence number sum : ℕ)
    → joined (open_at message dgn sender sequence number sum) (drop 1 (later_bytes_of message sequence number))
    ≡ take (offset_of number + needed (length message) number) message
unfolding later_bytes_of
joins message dgn sender sequence number sum =
    let l = drop (offset_of number) message in
    let n = needed (length message) number in
    let k : n ≤ length l = rw length-drop (omega arith) in
    ap (λ (r : List ℕ). take (offset_of number) message ++ r) (unpadded n later_bytes l (omega arith) k)
    ∙ sym (take-add (offset_of number) n message)

module _ (names message : List ℕ) (dgn sender sequence : ℕ) (well_formed : is_well_formed names ≡ true)
    (w : Sendable names message dgn sender sequence) where
  abbrev ToldLast : List (Event Frame) → Option Open → Type 0
  ToldLast events m =
      (answers : List (Told Tells))
      × (solo (fast_packets names) m events
      ≡ answers ++ (gives (finished (record { sender = sender; dgn = dgn; bytes = message })) ∷ []))

  small : dgn ≤ greatest_dgn
  small = may_be_small dgn (named_allowed names dgn (all_allowed names well_formed) w.about)

  means : (priority : ℕ) (bytes : List ℕ) → priority ≤ lowest_priority → length bytes ≡ frame_bytes
      → meaning_of names (identifier_of priority dgn sender) bytes ≡ carried sender dgn bytes
  means priority bytes high l =
      sent_meaning priority dgn sender high small w.from names bytes l
      ∙ meant_carried names sender dgn bytes w.about

  -- frame 0, heard alone
  module _ (before : Option Open) (priority : ℕ) (r : Split) (high : priority ≤ lowest_priority)
      (cut : FrameOf message sequence 0 r) where
    abbrev f₀ : Frame
    f₀ = sent priority dgn sender r.bytes

    first_bytes_lem : r.bytes ≡ first_bytes_of message sequence
    first_bytes_lem = first_is message sequence w.numbered w.long w.short r cut

    first_means : meaning_of names f₀.id f₀.bytes
        ≡ gives (begins (record { sender = sender; dgn = dgn; sequence = sequence; size = length message }))
    first_means =
        let l : length r.bytes ≡ frame_bytes = rw first_bytes_lem (first_length message sequence) in
        means priority r.bytes high l
        ∙ rw first_bytes_lem (first_carried message sequence w.numbered w.long w.short sender dgn)

    hears_whole : length message ≤ first_bytes
        → hear_alone (fast_packets names) f₀ before
        ≡ step none (gives (finished (record { sender = sender; dgn = dgn; bytes = message })))
    hears_whole h =
        let c : take (length message) (drop 2 r.bytes) ≡ message = rw first_bytes_lem (all_bytes message sequence h) in
        rw (first_means, le-leb _ _ h, c)

    hears_first : first_bytes < length message
        → hear_alone (fast_packets names) f₀ before ≡ step (some (open_at message dgn sender sequence 1 0)) (gives opened)
    hears_first h =
        let c : take first_bytes (drop 2 r.bytes) ≡ take first_bytes message =
        rw first_bytes_lem (six_bytes message sequence h) in
        rw (first_means, lt-leb _ _ h, c)

  -- a later frame, heard alone
  module _ (number sum priority : ℕ) (r : Split) (high : priority ≤ lowest_priority) (one : 1 ≤ number)
      (most : number ≤ last_frame (length message)) (cut : FrameOf message sequence number r) where
    abbrev f : Frame
    f = sent priority dgn sender r.bytes

    abbrev m : Open
    m = open_at message dgn sender sequence number sum

    later_bytes_lem : r.bytes ≡ later_bytes_of message sequence number
    later_bytes_lem = later_is message sequence w.numbered w.long w.short number r one most cut

    later_means : meaning_of names f.id f.bytes
        ≡ gives (continues (record { sender = sender; dgn = dgn; sequence = sequence; number = number }))
    later_means =
        let l : length r.bytes ≡ frame_bytes = rw later_bytes_lem (later_length message sequence number) in
        means priority r.bytes high l
        ∙ rw later_bytes_lem (later_carried message sequence w.numbered w.long w.short sender dgn number one most)

    later_joins : joined m (drop 1 r.bytes) ≡ take (offset_of number + needed (length message) number) message
    later_joins = rw later_bytes_lem (joins message dgn sender sequence number sum)

    hears_next : number < last_frame (length message)
        → hear_alone (fast_packets names) f (some m)
        ≡ step (some (open_at message dgn sender sequence (number + 1) 0)) (gives stored)
    hears_next h =
        let y : offset_of number + needed (length message) number ≡ offset_of (number + 1) = omega arith in
        let c : joined m (drop 1 r.bytes) ≡ take (offset_of (number + 1)) message =
        later_joins ∙ ap (λ (n : ℕ). take n message) y in
        let u = ne_eqb number (last_frame (length message)) (λ e. omega arith) in
        rw (later_means, eq-eqb sequence sequence refl, eq-eqb number number refl, u, c)

    hears_last : number ≡ last_frame (length message)
        → hear_alone (fast_packets names) f (some m)
        ≡ step none (gives (finished (record { sender = sender; dgn = dgn; bytes = message })))
    hears_last h =
        let y : length message ≤ offset_of number + needed (length message) number = omega arith in
        let c : joined m (drop 1 r.bytes) ≡ message = later_joins ∙ take_all _ message y in
        let u = eq-eqb number (last_frame (length message)) h in
        rw (later_means, eq-eqb sequence sequence refl, eq-eqb number number refl, u, c)

  apart_fixed : (t : Told Meaning) (bytes : List ℕ) → is_apart t ≡ true → (a : Told Tells) × (asks_by t bytes ≡ fixed a)
  apart_fixed (refused n) bytes e = (refused n, refl)
  apart_fixed (gives other) bytes e = (gives nothing_to_do, refl)
  apart_fixed (gives (begins m)) bytes e = true_false (sym e)
  apart_fixed (gives (continues f)) bytes e = true_false (sym e)

  joined_up : (number sum : ℕ) (events : List (Event Frame)) → 1 ≤ number
      → Sending names message dgn sender sequence number sum events
      → ToldLast events (some (open_at message dgn sender sequence number sum))
  joined_up number sum events one (pauses {events = es} ms h s) =
      let r = joined_up number (sum + ms) es one s in
      (r.0, rw (le-ltb idle_limit (sum + ms) h) r.1)
  joined_up number sum events one (sends {events = es} f q s) =
      let r = joined_up number sum es one s in
      let a = apart_fixed (meaning_of names f.id f.bytes) f.bytes q in
      (a.0 ∷ r.0, rw a.1 (ap (λ (l : List (Told Tells)). a.0 ∷ l) r.1))
  joined_up number sum events one (next {events = es} priority c high cut h s) =
      let two : 1 ≤ number + 1 = omega arith in
      let most : number ≤ last_frame (length message) = omega arith in
      let r = joined_up (number + 1) 0 es two s in (
        gives stored ∷ r.0,
        rw (hears_next number sum priority c high one most cut h)
            (ap (λ (l : List (Told Tells)). gives stored ∷ l) r.1),
      )
  joined_up number sum events one (last priority c high cut h) =
      let most : number ≤ last_frame (length message) = omega arith in
      ([], rw (hears_last number sum priority c high one most cut h))

  told_all : (events : List (Event Frame)) → Sent names message dgn sender sequence events → (before : Option Open)
      → ToldLast events before
  told_all events (at_once priority c high cut h) before = ([], rw (hears_whole before priority c high cut h))
  told_all events (in_frames {events = es} priority c high cut h s) before =
      let r = joined_up 1 0 es (omega arith) s in (
        gives opened ∷ r.0,
        rw (hears_first before priority c high cut h) (ap (λ (l : List (Told Tells)). gives opened ∷ l) r.1),
      )

pub joined_by_rules : JoinedByRules
joined_by_rules names message dgn sender sequence events v w s before =
    told_all names message dgn sender sequence v w events s before
