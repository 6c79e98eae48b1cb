-- The calls of the receiver, its places seen with their stretches of the storage, do what the places of fast packets
-- do, and a state that keeps its rules leads to one that keeps them; and pauses of fast packets add up.
-- Assumes nothing.
use Rattle.std.specs.Prelude.{Ok, Err}
use Rattle.std.specs.Prelude.{Option, Some, None}
use mathlib.Core.Path.{◌≡◌, refl, sym, ap, ap₂, ◌∙◌, subst, subst⁻¹}
use mathlib.Core.Bool.{true, false, not}
use mathlib.Core.List.{List, ◌++◌, map}
use mathlib.Core.Logic.{◌≢◌}
use mathlib.Core.Option.{some, none}
use Prim.Native.Nat.{ℕ, ◌+◌, ◌*◌, ◌≤◌, ◌<◌}
use native.Mathlib.Omega.{arith}
use borrow.Author.Tests.{eq-eqb, ne_eqb, eqb-true, eqb-false, lt-ltb, le-ltb, le-leb, lt-leb, ltb-true, ltb-false}
use borrow.Author.Tests.{leb-true, leb-false}
use lib.ListN.{length, take, drop, get_or, set, replicate, length-take, length-drop, length-map}
use lib.Seq.{paste, length-paste, take-paste, take-take, set-get_or}
use Rattle.words.specs.Words.{◌≤?◌, ◌<?◌, ◌=?◌, ◌and◌, Told, refused, gives}
use Rattle.words.specs.Lists.{every, count, first}
use Rattle.frame.specs.Identifier.{source_of, dgn_of}
use Rattle.frame.specs.Frame.{frame_bytes}
use Rattle.frame.specs.Standard.{Frame, greatest_address}
use Rattle.frame.specs.declared.BadFrame.TheVariants.{IdentifierTooLarge, NotEightBytes, ReservedBitSet}
use Rattle.frame.specs.declared.BadFrame.TheVariants.{SourceNotAllowed}
use Rattle.words.proofs.Words.{by_test, both_true}
use Rattle.places.specs.Format.{Format, fixed, opens, finishes, goes, ends}
use Rattle.places.specs.OneKey.{pause_alone}
use Rattle.places.specs.Places.{free, Out, said, place_count, rest, closes}
use Rattle.places.specs.Layout.{stretch, AgreeBut, open_by, seat, view, one_each}
use Rattle.places.specs.Statements.{is_opening}
use Rattle.words.proofs.Lists.{found_at, every_at, every_set, every_map}
use Rattle.places.proofs.Stretch.{stretch_same, stretch_other}
use Rattle.places.proofs.View.{one_each_view, length_view, blank_view, view_pass, view_closes}
use Rattle.places.proofs.Receiver.{Shows, shows_fixed, shows_opens_held, shows_opens_free, shows_finishes_held}
use Rattle.places.proofs.Receiver.{shows_finishes_free, shows_full, shows_feeds_nowhere, shows_feeds_goes}
use Rattle.places.proofs.Receiver.{shows_feeds_ends, shows_keeps, pass_keeps}
use Rattle.places.specs.Telling.{Tells, Outcome, nothing_to_do, opened, stored, finished, tells}
use Rattle.places.specs.Telling.{part_at}
use Rattle.fast.specs.FastPacket.{greatest_sequence, first_bytes, longest, offset_of, last_frame, needed_first, needed}
use Rattle.fast.specs.FastPacket.{idle_limit, pair_of, Meaning, other, begins, continues, meaning_of}
use Rattle.fast.specs.Names.{is_named, is_well_formed}
use Rattle.fast.specs.OnePair.{Open, Part, begun_by, joined, expecting_next, fed_by, waits, asks_by}
use Rattle.fast.specs.OnePair.{fast_packets}
use Rattle.fast.specs.Receiver as Eight
use Rattle.fast.specs.Receiver.{room, free_place, is_free, open_message, layout, is_open_by, names_of, is_zero}
use Rattle.fast.specs.Receiver.{place_keeps_rules, keeps_rules, After, leaves, holding, placing, place_for}
use Rattle.fast.specs.Receiver.{new_place, first_kept, enters_at, kept_at, expecting, advanced, frame_at, by_meaning}
use Rattle.fast.specs.Receiver.{heard, idled, paused_state, paused_answer}
use Rattle.fast.specs.Promises.{Answer, told_answer, naming, message_in}
use Rattle.fast.specs.Calls.{Held, Starts, Keeps, Hears, Pauses, open_in, EveryListStarts, FastKeepsPlaces}
use Rattle.fast.specs.Calls.{FastPausesAdd}
use Rattle.fast.specs.declared.Place.{Place}
use Rattle.fast.specs.declared.Receiver.{Receiver}
use Rattle.fast.specs.declared.NotHeard.TheVariants.{BadFrame, MalformedLength, NoPlaceFree, NoOpenMessage}
use Rattle.fast.specs.declared.NotHeard.TheVariants.{UnexpectedFrame}
use Rattle.fast.specs.declared.Event.TheVariants.{NothingToDo, Opened, Stored, Finished}
use Rattle.fast.proofs.Steps.{found_below, Takes, its_own, a_free_one, place_for_at, place_for_nowhere}
use Rattle.fast.proofs.Steps.{begins_at, begins_nowhere, entered_short, entered_long, advanced_last}
use Rattle.fast.proofs.Steps.{advanced_next, frame_expected, frame_other_sequence, frame_other_number}
use Rattle.fast.proofs.Steps.{continues_at, continues_nowhere, rules_of, keeps_rules_lem, all_allowed, OpenRules}
use Rattle.fast.proofs.Steps.{open_rules, rules_open, rules_at, heard_kept}
use Rattle.fast.proofs.Frames.{Known, meaning_known}
use Rattle.fast.proofs.Laws.{named_so, free_keeps_rules, naming_keeps_rules}

not_free : (p : Place) → 1 ≤ p.length → is_free p ≡ false
not_free p h = ne_eqb p.length 0 (λ e. omega arith)

-- a free place that keeps its rules is all zeros
all_zeros : (names : List ℕ) (p : Place) → is_free p ≡ true → place_keeps_rules names p ≡ true → p ≡ free_place
unfolding place_keeps_rules is_zero
all_zeros names p f e =
    let r₁ = both_true (p.sender =? 0) _ (rw f at e) in
    let r₂ = both_true (p.dgn =? 0) _ r₁.1 in
    let r₃ = both_true (p.sequence =? 0) _ r₂.1 in
    let r₄ = both_true (p.expected =? 0) _ r₃.1 in
    let sender = eqb-true p.sender 0 r₁.0 in
    let dgn = eqb-true p.dgn 0 r₂.0 in
    let sequence = eqb-true p.sequence 0 r₃.0 in
    let size = eqb-true p.length 0 f in
    let expected = eqb-true p.expected 0 r₄.0 in
    let idle = eqb-true p.idle 0 r₄.1 in
    λ i.
    record {
      sender = sender i;
      dgn = dgn i;
      sequence = sequence i;
      length = size i;
      expected = expected i;
      idle = idle i;
    }

-- so freeing the lowest free place changes nothing
freed_again : (names : List ℕ) (ps : List Place) (j : ℕ) → every (place_keeps_rules names) ps ≡ true
    → first is_free ps ≡ Some j → set ps j free_place ≡ ps
freed_again names ps j each e =
    let t = found_at j is_free ps free_place e in
    let z = all_zeros names (get_or ps j free_place) t.passes
    (every_at (place_keeps_rules names) ps j free_place t.below each) in
    ap (λ (p : Place). set ps j p) (sym z) ∙ set-get_or ps j free_place

-- bytes written into a place's stretch, from its byte `from` on

module _ (s bytes : List ℕ) (j from count : ℕ) (enough : room ≤ length s) (below : j < place_count)
    (fits : from + count ≤ longest) (there : count ≤ length bytes) where
  abbrev written : List ℕ
  written = paste s (longest * j + from) bytes count

  inside : longest * j + from + count ≤ length s
  inside = omega (arith, fits)

  written_others : AgreeBut longest j s written
  written_others = stretch_other longest j from count s bytes fits inside there

  written_own : take (from + count) (stretch longest j written) ≡ take from (stretch longest j s) ++ take count bytes
  written_own =
      let g : from ≤ length (stretch longest j s) = rw (length-take, length-drop) (omega (arith, fits)) in
      rw (stretch_same longest j from count s bytes fits inside there)
      (take-paste (stretch longest j s) from bytes count g there)

  written_long : length written ≡ length s
  written_long = length-paste s (longest * j + from) bytes count inside there

  -- where they are the last ones, the message is read as they left it
  written_read : (size : ℕ) → size ≡ from + count
      → part_at longest written j size ≡ take from (stretch longest j s) ++ take count bytes
  written_read size e =
      let h : size ≤ longest = omega (arith, fits) in
      rw (lt-leb _ _ below, le-ltb _ _ h)
      (sym (take-take size longest (drop (longest * j) written) h)
      ∙ ap (λ (n : ℕ). take n (stretch longest j written)) e
      ∙ written_own)

-- an answer that tells this
abbrev Answers : Told Outcome → Type 0
Answers t = (x : Answer) × (told_answer x ≡ t)

-- each of the refusals 3 to 7 has an answer
refusal_named : (n : ℕ) → 2 < n → n < 8 → Answers (refused n)
refusal_named n low high =
    by_test (n =? 3) (λ t. (Err (BadFrame IdentifierTooLarge), ap refused (sym (eqb-true n 3 t)))) (λ t₃.
    by_test (n =? 4) (λ t. (Err (BadFrame NotEightBytes), ap refused (sym (eqb-true n 4 t)))) (λ t₄.
    by_test (n =? 5) (λ t. (Err (BadFrame ReservedBitSet), ap refused (sym (eqb-true n 5 t)))) (λ t₅.
    by_test (n =? 6) (λ t. (Err (BadFrame SourceNotAllowed), ap refused (sym (eqb-true n 6 t)))) (λ t₆.
    let e : 7 ≡ n = omega (arith, eqb-false n 3 t₃, eqb-false n 4 t₄, eqb-false n 5 t₅, eqb-false n 6 t₆) in
    (Err MalformedLength, ap refused e)))))

-- one frame at a state that keeps its rules

module _ (f : Frame) (r : Receiver) (s : List ℕ) (eight : length r.places ≡ place_count) (ok : keeps_rules r ≡ true)
    (enough : room ≤ length s) where
  abbrev names : List ℕ
  names = names_of r

  abbrev format : Format
  format = fast_packets names

  abbrev ps : List Place
  ps = r.places

  abbrev key : ℕ
  key = pair_of (source_of f.id) (dgn_of f.id)

  -- what a frame leaves is what the places show, with the same DGNs; each place keeps its rules, the storage its
  -- length, and there is an answer that tells it
  record Agrees (a : After) : Type 0 where
    same : a.receiver ≡ holding r a.receiver.places
    shows :
        Shows format layout f ps s a.receiver.places a.storage
        (tells (message_in a.storage a.answer) a.answer)
    rules : every (place_keeps_rules names) a.receiver.places ≡ true
    long : length a.storage ≡ length s
    answers : Answers a.answer

  each_rules : every (place_keeps_rules names) ps ≡ true
  each_rules = (rules_of r ok).each

  freed : (j : ℕ) → every (place_keeps_rules names) (set ps j free_place) ≡ true
  freed j = every_set (place_keeps_rules names) ps j free_place each_rules (free_keeps_rules names)

  -- a fixed answer
  kept : (t : Told Outcome) (a : Told Tells) → format.asks f ≡ fixed a → tells (message_in s t) t ≡ said a → Answers t
      → Agrees (leaves r s t)
  kept t a e k x =
      record {
        same = refl;
        shows = rw k (shows_fixed format layout f ps s a e);
        rules = each_rules;
        long = refl;
        answers = x;
      }

  -- a frame 0
  module _ (sender dgn sequence size : ℕ) (by : key ≡ pair_of sender dgn) (eight_bytes : length f.bytes ≡ frame_bytes)
      (about : is_named dgn names ≡ true) (from : sender ≤ greatest_address) (numbered : sequence ≤ greatest_sequence)
      (some_bytes : 1 ≤ size) (short : size ≤ longest)
      (asked : format.asks f
      ≡ asks_by (gives (begins (record { sender = sender; dgn = dgn; sequence = sequence; size = size })))
      f.bytes) where
    abbrev new : Place
    new = new_place sender dgn sequence size

    abbrev six : List ℕ
    six = drop 2 f.bytes

    found : (g : Option ℕ) → first (is_open_by (pair_of sender dgn)) ps ≡ g → first (open_by layout key) ps ≡ g
    found g e = ap (λ (k : ℕ). first (open_by layout k) ps) by ∙ e

    room_first : 0 + needed_first size ≤ longest
    room_first = omega arith

    six_there : needed_first size ≤ length six
    six_there = rw length-drop (omega arith)

    -- of six bytes or fewer: it finishes at once, in the pair's place or the lowest free one
    module _ (few : size ≤ first_bytes) where
      abbrev told : Told Tells
      told = gives (finished (record { sender = sender; dgn = dgn; bytes = take size six }))

      asks_finishes : format.asks f ≡ finishes told
      asks_finishes = asked ∙ rw (le-leb _ _ few)

      whole : (j : ℕ) → j < place_count → part_at longest (first_kept j new f.bytes s) j size ≡ take size six
      whole j b =
          let e : needed_first size ≡ size = omega arith in
          written_read s six j 0 (needed_first size) enough b room_first six_there size (omega arith)
          ∙ ap (λ (n : ℕ). take n six) e

      finished_held : (j : ℕ) → first (is_open_by (pair_of sender dgn)) ps ≡ Some j → Agrees (enters_at j new f.bytes r s)
      finished_held j e =
          let b = found_below (is_open_by (pair_of sender dgn)) ps j eight e in
          subst⁻¹ Agrees (entered_short j new r (first_kept j new f.bytes s) few)
          (record {
            same = refl;
            shows =
                rw (whole j b)
                (shows_finishes_held format layout f ps s told j free_place (first_kept j new f.bytes s) asks_finishes
                (found (Some j) e) refl (written_others s six j 0 (needed_first size) enough b room_first six_there));
            rules = freed j;
            long = written_long s six j 0 (needed_first size) enough b room_first six_there;
            answers = (Ok (Finished j sender dgn size), refl);
          })

      finished_free : (j : ℕ) → first (is_open_by (pair_of sender dgn)) ps ≡ None → first is_free ps ≡ Some j
          → Agrees (enters_at j new f.bytes r s)
      finished_free j n e =
          let b = found_below is_free ps j eight e in
          subst⁻¹ Agrees (entered_short j new r (first_kept j new f.bytes s) few)
          (record {
            same = refl;
            shows =
                rw (whole j b, freed_again names ps j each_rules e)
                (shows_finishes_free format layout f ps s told j (first_kept j new f.bytes s) asks_finishes
                (found None n) e (written_others s six j 0 (needed_first size) enough b room_first six_there));
            rules = freed j;
            long = written_long s six j 0 (needed_first size) enough b room_first six_there;
            answers = (Ok (Finished j sender dgn size), refl);
          })

    -- of more: it is open, with its first six bytes
    module _ (many : first_bytes < size) where
      abbrev session : Open
      session = begun_by sender dgn sequence size (take first_bytes six)

      asks_opens : format.asks f ≡ opens session (gives opened)
      asks_opens = asked ∙ rw (lt-leb _ _ many)

      new_rules : place_keeps_rules names new ≡ true
      new_rules =
          rules_open names new (not_free new some_bytes)
          (record {
            about = about;
            from = from;
            numbered = numbered;
            long = many;
            short = short;
            begun = omega arith;
            within = omega arith;
            fresh = omega arith;
          })

      new_open : open_by layout key new ≡ true
      new_open = rw (not_free new some_bytes, eq-eqb (pair_of sender dgn) key (sym by))

      new_session : (j : ℕ) → j < place_count
          → open_message new (stretch longest j (first_kept j new f.bytes s)) ≡ session
      new_session j b =
          let e : needed_first size ≡ first_bytes = omega arith in
          let z : first_bytes ≡ 0 + needed_first size = omega arith in
          let own : take first_bytes (stretch longest j (first_kept j new f.bytes s)) ≡ take first_bytes six =
          ap (λ (n : ℕ). take n (stretch longest j (first_kept j new f.bytes s))) z
          ∙ written_own s six j 0 (needed_first size) enough b room_first six_there
          ∙ ap (λ (n : ℕ). take n six) e in
          rw own

      new_set : (j : ℕ) → every (place_keeps_rules names) (set ps j new) ≡ true
      new_set j = every_set (place_keeps_rules names) ps j new each_rules new_rules

      opened_held : (j : ℕ) → first (is_open_by (pair_of sender dgn)) ps ≡ Some j → Agrees (enters_at j new f.bytes r s)
      opened_held j e =
          let b = found_below (is_open_by (pair_of sender dgn)) ps j eight e in
          subst⁻¹ Agrees (entered_long j new r (first_kept j new f.bytes s) many)
          (record {
            same = refl;
            shows =
                shows_opens_held format layout f ps s session (gives opened) j new
                (first_kept j new f.bytes s) asks_opens (found (Some j) e) new_open (new_session j b)
                (written_others s six j 0 (needed_first size) enough b room_first six_there);
            rules = new_set j;
            long = written_long s six j 0 (needed_first size) enough b room_first six_there;
            answers = (Ok Opened, refl);
          })

      opened_free : (j : ℕ) → first (is_open_by (pair_of sender dgn)) ps ≡ None → first is_free ps ≡ Some j
          → Agrees (enters_at j new f.bytes r s)
      opened_free j n e =
          let b = found_below is_free ps j eight e in
          subst⁻¹ Agrees (entered_long j new r (first_kept j new f.bytes s) many)
          (record {
            same = refl;
            shows =
                shows_opens_free format layout f ps s session (gives opened) j new
                (first_kept j new f.bytes s) asks_opens (found None n) e new_open (new_session j b)
                (written_others s six j 0 (needed_first size) enough b room_first six_there);
            rules = new_set j;
            long = written_long s six j 0 (needed_first size) enough b room_first six_there;
            answers = (Ok Opened, refl);
          })

    entering : (j : ℕ) → Takes (pair_of sender dgn) ps j → Agrees (enters_at j new f.bytes r s)
    entering j (its_own e) =
        by_test (size ≤? first_bytes)
        (λ t. finished_held (leb-true _ _ t) j e)
        (λ t. opened_held (leb-false _ _ t) j e)
    entering j (a_free_one n e) =
        by_test (size ≤? first_bytes)
        (λ t. finished_free (leb-true _ _ t) j n e)
        (λ t. opened_free (leb-false _ _ t) j n e)

    begun : Agrees (Eight.hears_first new f.bytes r s)
    begun = go (place_for (pair_of sender dgn) ps) refl
      where
        opening : is_opening (format.asks f) ≡ true
        opening =
            by_test (size ≤? first_bytes)
            (λ t. rw (asks_finishes (leb-true _ _ t)))
            (λ t. rw (asks_opens (leb-false _ _ t)))

        go : (g : Option ℕ) → place_for (pair_of sender dgn) ps ≡ g → Agrees (Eight.hears_first new f.bytes r s)
        go (Some j) e =
            subst⁻¹ Agrees (begins_at new f.bytes r s j e) (entering j (place_for_at (pair_of sender dgn) ps j e))
        go None e =
            let n = place_for_nowhere (pair_of sender dgn) ps e in
            subst⁻¹ Agrees (begins_nowhere new f.bytes r s e)
            (record {
              same = refl;
              shows = shows_full format layout f ps s opening (found None n.0) n.1;
              rules = each_rules;
              long = refl;
              answers = (Err NoPlaceFree, refl);
            })

  -- a later frame
  module _ (sender dgn sequence number : ℕ) (by : key ≡ pair_of sender dgn) (eight_bytes : length f.bytes ≡ frame_bytes)
      (asks : format.asks f
      ≡ asks_by (gives (continues (record { sender = sender; dgn = dgn; sequence = sequence; number = number })))
      f.bytes) where
    abbrev seven : List ℕ
    seven = drop 1 f.bytes

    abbrev part : Part
    part = record { sequence = sequence; number = number; seven = seven }

    sought : (g : Option ℕ) → first (is_open_by (pair_of sender dgn)) ps ≡ g → first (open_by layout key) ps ≡ g
    sought g e = ap (λ (k : ℕ). first (open_by layout k) ps) by ∙ e

    module _ (j : ℕ) (e : first (is_open_by (pair_of sender dgn)) ps ≡ Some j) where
      abbrev p : Place
      p = get_or ps j free_place

      abbrev m : Open
      m = open_message p (stretch longest j s)

      abbrev t : List ℕ
      t = kept_at j p f.bytes s

      here : OpenRules names p
      here = rules_at (pair_of sender dgn) j r ok e

      below : j < place_count
      below = found_below (is_open_by (pair_of sender dgn)) ps j eight e

      fits : offset_of p.expected + needed p.length p.expected ≤ longest
      fits = omega (arith, here.within, here.short, here.begun)

      seven_there : needed p.length p.expected ≤ length seven
      seven_there = rw length-drop (omega arith)

      others : AgreeBut longest j s t
      others =
          written_others s seven j (offset_of p.expected) (needed p.length p.expected) enough below fits
          seven_there

      own_bytes :
          take (offset_of p.expected + needed p.length p.expected) (stretch longest j t) ≡ joined m seven
      own_bytes =
          written_own s seven j (offset_of p.expected) (needed p.length p.expected) enough below fits
          seven_there

      length_kept : length t ≡ length s
      length_kept =
          written_long s seven j (offset_of p.expected) (needed p.length p.expected) enough below fits
          seven_there

      whole_message : p.expected ≡ last_frame p.length → part_at longest t j p.length ≡ joined m seven
      whole_message u =
          let z : p.length ≡ offset_of p.expected + needed p.length p.expected = omega (arith, here.begun) in
          written_read s seven j (offset_of p.expected) (needed p.length p.expected) enough below fits
          seven_there p.length z

      next_message : p.expected ≢ last_frame p.length
          → open_message (expecting (p.expected + 1) p) (stretch longest j t) ≡ expecting_next m (joined m seven)
      next_message n =
          let y : offset_of (p.expected + 1) ≡ offset_of p.expected + needed p.length p.expected =
          omega (arith, n, here.within, here.begun) in
          rw (y, own_bytes)

      next_rules : p.expected ≢ last_frame p.length → place_keeps_rules names (expecting (p.expected + 1) p) ≡ true
      next_rules n =
          rules_open names (expecting (p.expected + 1) p) (not_free p (omega (arith, here.long)))
          (record {
            about = here.about;
            from = here.from;
            numbered = here.numbered;
            long = here.long;
            short = here.short;
            begun = omega arith;
            within = omega (arith, n, here.within);
            fresh = omega arith;
          })

      of_the_pair : pair_of p.sender p.dgn ≡ pair_of sender dgn
      of_the_pair =
          let k = both_true (not (is_free p)) _ (found_at j (is_open_by (pair_of sender dgn)) ps free_place e).passes in
          eqb-true (pair_of p.sender p.dgn) (pair_of sender dgn) k.1

      next_open : open_by layout key (expecting (p.expected + 1) p) ≡ true
      next_open =
          rw (not_free p (omega (arith, here.long)), eq-eqb (pair_of p.sender p.dgn) key (of_the_pair ∙ sym by))

      last : sequence ≡ p.sequence → number ≡ p.expected → p.expected ≡ last_frame p.length
          → fed_by m part
          ≡ ends (gives (finished (record { sender = p.sender; dgn = p.dgn; bytes = joined m seven })))
      last q n u = rw (eq-eqb _ _ q, eq-eqb _ _ n, eq-eqb _ _ u)

      next : sequence ≡ p.sequence → number ≡ p.expected → p.expected ≢ last_frame p.length
          → fed_by m part ≡ goes (expecting_next m (joined m seven)) (gives stored)
      next q n u = rw (eq-eqb _ _ q, eq-eqb _ _ n, ne_eqb _ _ u)

      expected_last : sequence ≡ p.sequence → number ≡ p.expected → p.expected ≡ last_frame p.length
          → Agrees (advanced j p r t)
      expected_last q n u =
          subst⁻¹ Agrees (advanced_last j p r t u)
          (record {
            same = refl;
            shows =
                subst⁻¹
                (λ (l : List ℕ).
                Shows format layout f ps s (set ps j free_place) t
                (said (gives (finished (record { sender = p.sender; dgn = p.dgn; bytes = l })))))
                (whole_message u)
                (shows_feeds_ends format layout f ps s part (refused 9)
                (gives (finished (record { sender = p.sender; dgn = p.dgn; bytes = joined m seven })))
                j free_place free_place t asks (sought (Some j) e) (last q n u) refl others);
            rules = freed j;
            long = length_kept;
            answers = (Ok (Finished j p.sender p.dgn p.length), refl);
          })

      expected_next : sequence ≡ p.sequence → number ≡ p.expected → p.expected ≢ last_frame p.length
          → Agrees (advanced j p r t)
      expected_next q n u =
          subst⁻¹ Agrees (advanced_next j p r t u)
          (record {
            same = refl;
            shows =
                shows_feeds_goes format layout f ps s part (refused 9) (gives stored)
                (expecting_next m (joined m seven)) j free_place (expecting (p.expected + 1) p) t asks (sought (Some j) e)
                (next q n u) next_open (next_message u) others;
            rules = every_set (place_keeps_rules names) ps j (expecting (p.expected + 1) p) each_rules (next_rules u);
            long = length_kept;
            answers = (Ok Stored, refl);
          })

      -- the expected one
      in_turn : sequence ≡ p.sequence → number ≡ p.expected → Agrees (frame_at j p sequence number f.bytes r s)
      in_turn q n =
          subst⁻¹ Agrees (frame_expected j p r s sequence number f.bytes q n)
          (by_test (p.expected =? last_frame p.length)
          (λ u. expected_last q n (eqb-true p.expected (last_frame p.length) u))
          (λ u. expected_next q n (eqb-false p.expected (last_frame p.length) u)))

      -- any other closes the message
      closed : fed_by m part ≡ ends (refused 10) → Agrees (leaves (placing r j free_place) s (refused 10))
      closed w =
          record {
            same = refl;
            shows =
                shows_feeds_ends format layout f ps s part (refused 9) (refused 10) j free_place free_place s asks
                (sought (Some j) e) w refl (λ i x. refl);
            rules = freed j;
            long = refl;
            answers = (Err UnexpectedFrame, refl);
          }

      at_place : Agrees (frame_at j p sequence number f.bytes r s)
      at_place =
          by_test (sequence =? p.sequence)
          (λ t.
          let q = eqb-true sequence p.sequence t in
          by_test (number =? p.expected)
          (λ u. in_turn q (eqb-true number p.expected u))
          (λ u.
          subst⁻¹ Agrees (frame_other_number j p r s sequence number f.bytes q (eqb-false number p.expected u))
          (closed (rw (t, u)))))
          (λ t.
          subst⁻¹ Agrees
          (frame_other_sequence j p r s sequence number f.bytes (eqb-false sequence p.sequence t))
          (closed (rw t)))

    continued : Agrees (Eight.hears_later (pair_of sender dgn) sequence number f.bytes r s)
    continued = go (first (is_open_by (pair_of sender dgn)) ps) refl
      where
        go : (g : Option ℕ) → first (is_open_by (pair_of sender dgn)) ps ≡ g
            → Agrees (Eight.hears_later (pair_of sender dgn) sequence number f.bytes r s)
        go (Some j) e =
            subst⁻¹ Agrees (continues_at (pair_of sender dgn) sequence number f.bytes r s j e) (at_place j e)
        go None e =
            subst⁻¹ Agrees (continues_nowhere (pair_of sender dgn) sequence number f.bytes r s e)
            (record {
              same = refl;
              shows = shows_feeds_nowhere format layout f ps s part (refused 9) asks (sought None e);
              rules = each_rules;
              long = refl;
              answers = (Err NoOpenMessage, refl);
            })

  -- a frame
  agrees : Agrees (heard f.id f.bytes r s)
  agrees =
      subst⁻¹ Agrees (heard_kept f.id f.bytes r s enough ok)
      (go (meaning_of names f.id f.bytes) refl
      (meaning_known names (all_allowed names (rules_of r ok).well_formed) f.id f.bytes))
    where
      asked : (m : Told Meaning) → meaning_of names f.id f.bytes ≡ m → format.asks f ≡ asks_by m f.bytes
      asked m e = ap (λ (x : Told Meaning). asks_by x f.bytes) e

      pair : (sender dgn : ℕ) → sender ≡ source_of f.id → dgn ≡ dgn_of f.id → key ≡ pair_of sender dgn
      pair sender dgn a b = rw (a, b)

      go : (m : Told Meaning) → meaning_of names f.id f.bytes ≡ m
          → Known names f.id f.bytes (meaning_of names f.id f.bytes)
          → Agrees (by_meaning (meaning_of names f.id f.bytes) f.bytes r s)
      go (refused n) e k =
          let h : (2 < n) × (n < 8) = rw e at k in
          rw e
          (kept (refused n) (refused n) (asked (refused n) e) (rw (ne_eqb n 8 (λ x. omega (arith, h.1))))
          (refusal_named n h.0 h.1))
      go (gives other) e k =
          rw e
          (kept (gives nothing_to_do) (gives nothing_to_do) (asked (gives other) e) refl (Ok NothingToDo, refl))
      go (gives (begins m)) e k =
          let h = rw e at k in
          rw e
          (begun m.sender m.dgn m.sequence m.size (pair m.sender m.dgn h.0 h.1)
          h.2 h.3 h.4 h.5 h.6 h.7 (asked (gives (begins m)) e))
      go (gives (continues l)) e k =
          let h = rw e at k in
          rw e
          (continued l.sender l.dgn l.sequence l.number (pair l.sender l.dgn h.0 h.1) h.2
          (asked (gives (continues l)) e))

-- a pause at one place

seat_idled : (names : List ℕ) (ms : ℕ) (p : Place) (bytes : List ℕ)
    → seat layout (idled ms p) bytes ≡ rest (fast_packets names) ms (seat layout p bytes)
unfolding idled
seat_idled names ms p bytes =
    by_test (is_free p)
    (λ f. rw f (rw f))
    (λ f. by_test (idle_limit <? p.idle + ms) (λ g. rw (f, g)) (λ g. rw (f, g) (rw f)))

seat_closes : (names : List ℕ) (ms : ℕ) (p : Place) (bytes : List ℕ)
    → Eight.closes ms p ≡ closes (fast_packets names) ms (seat layout p bytes)
unfolding Eight.closes
seat_closes names ms p bytes =
    by_test (is_free p)
    (λ f. rw f)
    (λ f. by_test (idle_limit <? p.idle + ms) (λ g. rw (f, g)) (λ g. rw (f, g)))

idled_rules : (names : List ℕ) (ms : ℕ) (p : Place) → place_keeps_rules names p ≡ true
    → place_keeps_rules names (idled ms p) ≡ true
unfolding idled
idled_rules names ms p k =
    by_test (is_free p)
    (λ f. rw f k)
    (λ f. by_test (idle_limit <? p.idle + ms)
    (λ g. rw (f, g) (free_keeps_rules names))
    (λ g.
    let o = open_rules names p f k in
    rw (f, g)
    (rules_open names
    (record {
      sender = p.sender;
      dgn = p.dgn;
      sequence = p.sequence;
      length = p.length;
      expected = p.expected;
      idle = p.idle + ms;
    }) f
    (record {
      about = o.about;
      from = o.from;
      numbered = o.numbered;
      long = o.long;
      short = o.short;
      begun = o.begun;
      within = o.within;
      fresh = ltb-false _ _ g;
    }))))

paused_state_lem : (ms : ℕ) (r : Receiver) → keeps_rules r ≡ true → paused_state ms r ≡ holding r (map (idled ms) r.places)
unfolding paused_state
paused_state_lem ms r v = rw v

paused_count : (ms : ℕ) (r : Receiver) → keeps_rules r ≡ true
    → paused_answer ms r ≡ gives (count (Eight.closes ms) r.places)
unfolding paused_answer
paused_count ms r v = rw v

-- the rules, with other places
held_rules : (r : Receiver) (places : List Place) → keeps_rules r ≡ true
    → every (place_keeps_rules (names_of r)) places ≡ true → one_each layout places ≡ true
    → keeps_rules (holding r places) ≡ true
held_rules r places v e o =
    let k = rules_of r v in
    keeps_rules_lem (holding r places) (record { few = k.few; well_formed = k.well_formed; each = e; alone = o })

-- a pause leads from a state that keeps its rules to one that does
pub idled_keeps : (ms : ℕ) (r : Receiver) → keeps_rules r ≡ true
    → keeps_rules (holding r (map (idled ms) r.places)) ≡ true
idled_keeps ms r v =
    let k = rules_of r v in
    let names = names_of r in
    held_rules r (map (idled ms) r.places) v
    (every_map (place_keeps_rules names) (idled ms) (idled_rules names ms) r.places k.each)
    (pass_keeps (fast_packets names) layout ms (idled ms) (seat_idled names ms) r.places k.alone)

-- the calls, from a state that keeps its rules: there is one answer and one state after each

module _ (names : List ℕ) (s : Held) (k : Keeps names s) where
  abbrev state : Receiver
  state = s.receiver

  alone : one_each layout state.places ≡ true
  alone = (rules_of state k.rules).alone

  module _ (f : Frame) where
    abbrev after : After
    after = heard f.id f.bytes state s.storage

    frame_agrees : Agrees f state s.storage k.eight k.rules k.enough after
    frame_agrees = agrees f state s.storage k.eight k.rules k.enough

    abbrev heard_by : Held
    heard_by = record { receiver = after.receiver; storage = after.storage }

    abbrev told_by : Out (Told Tells)
    told_by = tells (message_in after.storage after.answer) after.answer

    enough_left : room ≤ length after.storage
    enough_left = rw frame_agrees.long k.enough

    -- whatever the promises allow is that
    hears_is : (t : Held) (o : Out (Told Tells)) → Hears s f o t → (t ≡ heard_by) × (o ≡ told_by)
    hears_is t o c =
        let p = c.hear.state in
        let b = c.hear.storage_bytes in
        let l : room ≤ length t.storage = rw b enough_left in
        let m : c.message ≡ message_in after.storage after.answer =
        c.read.bytes ∙ rw (le-ltb _ _ l) (ap₂ message_in b c.hear.answer) in (
          (λ i. record { receiver = p i; storage = b i }),
          c.told_so ∙ ap₂ tells m c.hear.answer,
        )

    -- it shows what the places of these DGNs do
    shown :
        Shows (fast_packets names) layout f state.places s.storage after.receiver.places after.storage
        told_by
    shown =
        subst
        (λ (l : List ℕ).
        Shows (fast_packets l) layout f state.places s.storage after.receiver.places after.storage told_by)
        k.named frame_agrees.shows

    heard_kept_rules : Keeps names heard_by
    heard_kept_rules =
        let same = frame_agrees.same in
        let o = shows_keeps (fast_packets names) layout f state.places s.storage _ _ _ shown alone in
        record {
          named = ap names_of same ∙ k.named;
          eight = o.1 ∙ k.eight;
          rules =
              ap keeps_rules same ∙ held_rules state after.receiver.places k.rules frame_agrees.rules o.0;
          enough = enough_left;
        }

    hears_some : (o : Out (Told Tells)) × (t : Held) × Hears s f o t
    hears_some =
        let x = frame_agrees.answers in (
          told_by,
          heard_by,
          record {
            answer = x.0;
            message = message_in after.storage after.answer;
            hear = record { state = refl; storage_bytes = refl; answer = x.1 };
            read = record { bytes = rw (le-ltb _ _ enough_left, x.1) };
            told_so = ap (tells (message_in after.storage after.answer)) (sym x.1);
          },
        )

  module _ (ms : ℕ) where
    abbrev rested_by : Held
    rested_by = record { receiver = holding state (map (idled ms) state.places); storage = s.storage }

    pauses_is : (t : Held) (n : Told ℕ) → Pauses s ms n t
        → (t ≡ rested_by) × (n ≡ gives (count (Eight.closes ms) state.places))
    pauses_is t n c =
        let p = c.pause.after ∙ paused_state_lem ms state k.rules in
        let b = c.storage_kept in (
          (λ i. record { receiver = p i; storage = b i }),
          c.told_so ∙ c.pause.answer ∙ paused_count ms state k.rules,
        )

    rested_kept_rules : Keeps names rested_by
    rested_kept_rules =
        record {
          named = k.named;
          eight = length-map state.places (idled ms) ∙ k.eight;
          rules = idled_keeps ms state k.rules;
          enough = k.enough;
        }

    pauses_some : (n : Told ℕ) × (t : Held) × Pauses s ms n t
    pauses_some = (
      gives (count (Eight.closes ms) state.places),
      rested_by,
      record {
        answer = Ok (count (Eight.closes ms) state.places);
        pause = record {
          after = sym (paused_state_lem ms state k.rules);
          answer = sym (paused_count ms state k.rules);
        };
        storage_kept = refl;
        told_so = refl;
      },
    )

-- the start

module _ (names : List ℕ) (s : Held) (h : Starts names s) where
  -- a list that is not well-formed has another answer
  well_formed : is_well_formed names ≡ true
  well_formed =
      by_test (is_well_formed names)
      (λ t. t)
      (λ t. let z : 0 ≡ 16 = rw t at h.start.answer in absurd (omega arith))

  starts_naming : s.receiver ≡ naming names
  starts_naming = rw well_formed at h.start.state

  starts_keep : Keeps names s
  starts_keep =
      record {
        named = ap names_of starts_naming ∙ named_so names;
        eight = rw starts_naming;
        rules = rw starts_naming (naming_keeps_rules names well_formed);
        enough = h.enough;
      }

  starts_free : open_in s ≡ replicate place_count free
  starts_free =
      ap (λ (r : Receiver). view layout r.places s.storage) starts_naming
      ∙ blank_view layout place_count s.storage

pub every_list_starts : EveryListStarts
every_list_starts names storage e h =
    (naming names, record { start = record { answer = rw e; state = rw e }; enough = h })

-- The calls of the receiver keep to the places of fast packets.
pub fast_keeps_places : FastKeepsPlaces
fast_keeps_places names = record {
  eight = λ s k. length_view layout s.receiver.places s.storage ∙ k.eight;
  each = λ s k. (one_each_view layout s.receiver.places s.storage).0 (alone names s k);
  starts_kept = starts_keep names;
  starts_free = starts_free names;
  hears_kept = λ s t f o k c. subst⁻¹ (Keeps names) (hears_is names s k f t o c).0 (heard_kept_rules names s k f);
  hears_seen = λ s t f o k c. ap open_in (hears_is names s k f t o c).0 ∙ (shown names s k f).places;
  hears_told = λ s t f o k c. (hears_is names s k f t o c).1 ∙ (shown names s k f).answer;
  hears_some = λ s f k. hears_some names s k f;
  pauses_kept = λ s t ms n k c.
      subst⁻¹ (Keeps names) (pauses_is names s k ms t n c).0 (rested_kept_rules names s k ms);
  pauses_seen = λ s t ms n k c.
      ap open_in (pauses_is names s k ms t n c).0
      ∙ view_pass (fast_packets names) layout ms (idled ms) (seat_idled names ms) s.receiver.places s.storage;
  pauses_told = λ s t ms n k c.
      (pauses_is names s k ms t n c).1
      ∙ ap gives
      (view_closes (fast_packets names) layout ms (Eight.closes ms) (seat_closes names ms) s.receiver.places
      s.storage);
  pauses_some = λ s ms k. pauses_some names s k ms;
}

-- pauses

abbrev Within : Open → Type 0
Within m = m.idle ≤ idle_limit

never : {B : Type 0} {m : Open} → none ≡ some m → B
never e = let y : ◌≡◌ {A = ℕ} 0 1 = cc in absurd (omega arith)

opens_within : (t : Told Meaning) (bytes : List ℕ) (m : Open) (a : Told Tells) → asks_by t bytes ≡ opens m a → Within m
opens_within (refused n) bytes m a e = let y : ◌≡◌ {A = ℕ} 0 1 = cc in absurd (omega arith)
opens_within (gives other) bytes m a e = let y : ◌≡◌ {A = ℕ} 0 1 = cc in absurd (omega arith)
opens_within (gives (begins n)) bytes m a e =
    by_test (n.size ≤? first_bytes)
    (λ t. let z = rw t at e in let y : ◌≡◌ {A = ℕ} 0 1 = cc in absurd (omega arith))
    (λ t.
    let z = rw t at e in
    let y : begun_by n.sender n.dgn n.sequence n.size (take first_bytes (drop 2 bytes)) ≡ m = cc in
    let x : 0 ≡ m.idle = ap (λ (o : Open). o.idle) y in
    omega arith)
opens_within (gives (continues f)) bytes m a e =
    let y : ◌≡◌ {A = ℕ} 0 1 = cc in absurd (omega arith)

goes_to : {m n : Open} {a b : Told Tells} → goes m a ≡ goes n b → m ≡ n
goes_to e = cc

ends_goes : {B : Type 0} {n : Open} {a b : Told Tells} → ends a ≡ goes n b → B
ends_goes e = let y : ◌≡◌ {A = ℕ} 0 1 = cc in absurd (omega arith)

feed_within : (m n : Open) (part : Part) (a : Told Tells) → fed_by m part ≡ goes n a → Within n
feed_within m n part a e =
    by_test ((part.sequence =? m.sequence) and (part.number =? m.expected))
    (λ t. by_test (m.expected =? last_frame m.size)
    (λ u. ends_goes (rw (t, u) at e))
    (λ u. let z : 0 ≡ n.idle = ap (λ (o : Open). o.idle) (goes_to (rw (t, u) at e)) in omega arith))
    (λ t. ends_goes (rw t at e))

some_is : {m n : Open} → some m ≡ some n → m ≡ n
some_is e = cc

wait_within : (m n : Open) (ms : ℕ) → waits ms m ≡ some n → Within n
wait_within m n ms e =
    by_test (idle_limit <? m.idle + ms)
    (λ t. never (rw t at e))
    (λ t.
    let z : m.idle + ms ≡ n.idle = ap (λ (o : Open). o.idle) (some_is (rw t at e)) in
    omega (arith, ltb-false idle_limit (m.idle + ms) t))

idle_is : (m : Open) (idle : ℕ) → idle ≡ m.idle
    → ◌≡◌ {A = Open}
    (record {
      sender = m.sender;
      dgn = m.dgn;
      sequence = m.sequence;
      size = m.size;
      expected = m.expected;
      idle = idle;
      collected = m.collected;
    })
    m
idle_is m idle e =
    λ i.
    record {
      sender = m.sender;
      dgn = m.dgn;
      sequence = m.sequence;
      size = m.size;
      expected = m.expected;
      idle = e i;
      collected = m.collected;
    }

wait_none : (m : Open) → Within m → waits 0 m ≡ some m
wait_none m h =
    let l : m.idle + 0 ≤ idle_limit = omega arith in
    let z : m.idle + 0 ≡ m.idle = omega arith in
    rw (le-ltb _ _ l) (ap some (idle_is m (m.idle + 0) z))

wait_sum : (names : List ℕ) (m : Open) (a b : ℕ) → pause_alone (fast_packets names) b (waits a m) ≡ waits (a + b) m
wait_sum names m a b =
    by_test (idle_limit <? m.idle + a)
    (λ t.
    let h : idle_limit < m.idle + (a + b) = omega (arith, ltb-true idle_limit (m.idle + a) t) in rw (t, lt-ltb _ _ h))
    (λ t. rw t (let z : m.idle + a + b ≡ m.idle + (a + b) = omega arith in rw z))

-- idle time adds up
pub fast_pauses_add : FastPausesAdd
fast_pauses_add names = record {
  Kept = Within;
  opens_kept = λ f m a e. opens_within (meaning_of names f.id f.bytes) f.bytes m a e;
  feed_kept = λ m n part a h e. feed_within m n part a e;
  wait_kept = λ m n ms h e. wait_within m n ms e;
  wait_zero = wait_none;
  wait_more = λ m a b h. wait_sum names m a b;
}
