-- The calls of the receiver, its places seen with their stretches of the storage, do what the places of long messages do, and a state that keeps its
-- rules leads to one that keeps them.
-- Assumes nothing.
use Rattle.std.specs.Prelude.{Option, Some, None, Ok, Err}
use mathlib.Core.Path.{◌≡◌, refl, sym, ap, ap₂, ◌∙◌, subst⁻¹}
use mathlib.Core.Bool.{true, false, not}
use mathlib.Core.List.{List, map}
use mathlib.Core.Logic.{◌≢◌}
use Prim.Native.Nat.{ℕ, ◌+◌, ◌-◌, ◌*◌, ◌≤◌, ◌<◌}
use native.Mathlib.Omega.{arith}
use borrow.Author.Tests.{eq-eqb, ne_eqb, eqb-true, eqb-false, le-ltb, lt-leb}
use lib.ListN.{length, take, drop, get_or, set, length-take, length-drop, length-map}
use lib.Seq.{length-paste, take-paste, take-take}
use Rattle.words.specs.Words.{◌=?◌, Told, refused, gives}
use Rattle.words.specs.Lists.{every, count, first}
use Rattle.frame.specs.Identifier.{source_of, greatest_dgn}
use Rattle.frame.specs.Frame.{frame_bytes}
use Rattle.frame.specs.Standard.{Frame, greatest_address}
use Rattle.frame.specs.declared.BadFrame.TheVariants.{IdentifierTooLarge, NotEightBytes, ReservedBitSet}
use Rattle.frame.specs.declared.BadFrame.TheVariants.{SourceNotAllowed}
use Rattle.words.proofs.Words.{by_test, both_true}
use Rattle.places.specs.Format.{fixed, opens, feeds, goes, ends}
use Rattle.places.specs.Places.{Out, said, place_count}
use Rattle.places.specs.Layout.{stretch, AgreeBut, open_by, view}
use Rattle.places.specs.Calls.{KeepsPlaces}
use Rattle.words.proofs.Lists.{found_at, every_set}
use Rattle.places.proofs.Stretch.{stretch_same, stretch_other}
use Rattle.places.proofs.View.{one_each_view, length_view, blank_view, view_pass, view_closes}
use Rattle.places.proofs.Receiver.{Shows, shows_fixed, shows_opens_held, shows_opens_free, shows_full}
use Rattle.places.proofs.Receiver.{shows_feeds_nowhere, shows_feeds_goes, shows_feeds_ends, shows_keeps}
use Rattle.places.specs.Telling.{Tells, Outcome, nothing_to_do, opened, stored, finished, tells}
use Rattle.places.specs.Telling.{part_at}
use Rattle.message.specs.LongMessage.{shortest, longest, packet_bytes, packets_of, needed, Meaning, other}
use Rattle.message.specs.LongMessage.{announcement, packet, meaning_of}
use Rattle.message.specs.OneSender.{Part, announced_by, joined, whole_of, expecting_next, fed_by}
use Rattle.message.specs.OneSender.{asks_by, long_messages}
use Rattle.message.specs.Receiver.{room, free_place, is_free, open_message, layout, is_open_by}
use Rattle.message.specs.Receiver.{is_zero, place_keeps_rules, keeps_rules, After, leaves, place_for}
use Rattle.message.specs.Receiver.{hears_announcement, kept_at, expecting, advanced, packet_at, carries, by_meaning, heard}
use Rattle.message.specs.Receiver.{idled}
use Rattle.message.specs.Receiver as Eight
use Rattle.message.specs.Promises.{Answer, told_answer, message_in}
use Rattle.message.specs.Calls.{Held, Starts, Keeps, Hears, Pauses, open_in, receiver_calls}
use Rattle.message.specs.declared.Place.{Place}
use Rattle.message.specs.declared.Event.TheVariants.{NothingToDo, Opened, Stored, Finished}
use Rattle.message.specs.declared.NotHeard.TheVariants.{BadFrame, MalformedAnnouncement, NoPlaceFree, NoOpenMessage}
use Rattle.message.specs.declared.NotHeard.TheVariants.{UnexpectedPacket}
use Rattle.message.proofs.Steps.{found_below, OpenRules, rules_at}
use Rattle.message.proofs.Steps.{advanced_last, advanced_next, packet_expected, packet_other, carries_at}
use Rattle.message.proofs.Steps.{carries_nowhere, heard_kept}
use Rattle.message.proofs.Frames.{Known, meaning_known}
use Rattle.message.proofs.Pauses.{rules_open, free_rules, seat_idled, seat_closes, both_rules, each_alone, paused_places_lem}
use Rattle.message.proofs.Pauses.{paused_count, idled_keeps}

not_free : (p : Place) → shortest ≤ p.length → is_free p ≡ false
not_free p h = ne_eqb p.length 0 (λ e. omega arith)

-- the expected packet, written into its stretch

module _ (s bytes : List ℕ) (j : ℕ) (p : Place) (enough : room ≤ length s) (below : j < 8) (o : OpenRules p) (size : length bytes ≡ frame_bytes) where
  abbrev offset : ℕ
  offset = packet_bytes * (p.expected - 1)

  abbrev keeps : ℕ
  keeps = needed p.length p.expected

  abbrev written : List ℕ
  written = kept_at j p bytes s

  seven : keeps ≤ length (drop 1 bytes)
  seven = rw length-drop (omega arith)

  fits : offset + keeps ≤ longest
  fits = omega (arith, o.within, o.short, o.begun)

  inside : longest * j + offset + keeps ≤ length s
  inside = omega (arith, fits)

  others : AgreeBut longest j s written
  others = stretch_other longest j offset keeps s (drop 1 bytes) fits inside seven

  own_bytes : take (offset + keeps) (stretch longest j written) ≡ joined (open_message p (stretch longest j s)) (drop 1 bytes)
  own_bytes =
      let g : offset ≤ length (stretch longest j s) = rw (length-take, length-drop) (omega (arith, fits)) in
      rw (stretch_same longest j offset keeps s (drop 1 bytes) fits inside seven) (take-paste (stretch longest j s) offset (drop 1 bytes) keeps g seven)

  length_written : length written ≡ length s
  length_written = length-paste s (longest * j + offset) (drop 1 bytes) keeps inside seven

  whole_message : p.expected ≡ packets_of p.length → part_at longest written j p.length ≡ joined (open_message p (stretch longest j s)) (drop 1 bytes)
  whole_message u =
      let e : p.length ≡ offset + keeps = omega (arith, o.long) in
      rw (lt-leb _ _ below, le-ltb _ _ o.short)
      (sym (take-take p.length longest (drop (longest * j) written) o.short) ∙ ap (λ n. take n (stretch longest j written)) e ∙ own_bytes)

  next_message : p.expected ≢ packets_of p.length
      → open_message (expecting (p.expected + 1) p) (stretch longest j written) ≡ expecting_next (open_message p (stretch longest j s)) (joined (open_message p (stretch longest j s)) (drop 1 bytes))
  next_message n =
      let y : packet_bytes * (p.expected + 1 - 1) ≡ offset + keeps = omega (arith, n, o.within, o.begun) in
      rw (y, own_bytes)

  next_rules : p.expected ≢ packets_of p.length → OpenRules (expecting (p.expected + 1) p)
  next_rules n =
      record {
        named = o.named;
        long = o.long;
        short = o.short;
        about = o.about;
        fresh = omega arith;
        begun = omega arith;
        within = omega (arith, n, o.within);
      }

-- an answer that tells this
abbrev pub Answers : Told Outcome → Type 0
Answers t = (x : Answer) × (told_answer x ≡ t)

-- each of the refusals 3 to 7 has an answer
refusal_named : (n : ℕ) → 2 < n → n < 8 → Answers (refused n)
refusal_named n low high =
    by_test (n =? 3) (λ t. (Err (BadFrame IdentifierTooLarge), ap refused (sym (eqb-true n 3 t)))) (λ t₃.
    by_test (n =? 4) (λ t. (Err (BadFrame NotEightBytes), ap refused (sym (eqb-true n 4 t)))) (λ t₄.
    by_test (n =? 5) (λ t. (Err (BadFrame ReservedBitSet), ap refused (sym (eqb-true n 5 t)))) (λ t₅.
    by_test (n =? 6) (λ t. (Err (BadFrame SourceNotAllowed), ap refused (sym (eqb-true n 6 t)))) (λ t₆.
    let e : 7 ≡ n = omega (arith, eqb-false n 3 t₃, eqb-false n 4 t₄, eqb-false n 5 t₅, eqb-false n 6 t₆) in
    (Err MalformedAnnouncement, ap refused e)))))

-- one frame at a state that keeps its rules

module _ (f : Frame) (ps : List Place) (s : List ℕ) (eight : length ps ≡ place_count) (ok : keeps_rules ps ≡ true) (enough : room ≤ length s) where
  -- what a frame leaves is what the places show, each place keeps its rules, the storage its length, and there is an answer that tells it
  pub record Agrees (a : After) : Type 0 where
    pub shows : Shows long_messages layout f ps s a.places a.storage (tells (message_in a.storage a.answer) a.answer)
    pub rules : every place_keeps_rules a.places ≡ true
    pub long : length a.storage ≡ length s
    pub answers : Answers a.answer

  each_rules : every place_keeps_rules ps ≡ true
  unfolding keeps_rules
  each_rules = (both_true (every place_keeps_rules ps) _ ok).0

  -- a fixed answer
  kept : (t : Told Outcome) (a : Told Tells) → long_messages.asks f ≡ fixed a → tells (message_in s t) t ≡ said a → Answers t → Agrees (leaves ps s t)
  kept t a e k x = record { shows = rw k (shows_fixed long_messages layout f ps s a e); rules = each_rules; long = refl; answers = x }

  -- an announcement
  module _ (sender size dgn : ℕ) (by : source_of f.id ≡ sender) (named : sender ≤ greatest_address) (long : shortest ≤ size) (short : size ≤ longest) (about : dgn ≤ greatest_dgn)
      (asks : long_messages.asks f ≡ opens (announced_by sender size dgn) (gives opened)) where
    abbrev new : Place
    new = record { sender = sender; length = size; dgn = dgn; expected = 1; idle = 0 }

    new_rules : place_keeps_rules new ≡ true
    new_rules =
        rules_open new (not_free new long) (record { named = named; long = long; short = short; about = about; fresh = omega arith; begun = omega arith; within = omega arith })

    new_open : open_by layout (source_of f.id) new ≡ true
    new_open = rw (not_free new long, by, eq-eqb sender sender refl)

    found : (g : Option ℕ) → first (is_open_by sender) ps ≡ g → first (open_by layout (source_of f.id)) ps ≡ g
    found g e = ap (λ k. first (open_by layout k) ps) by ∙ e

    new_set : (j : ℕ) → every place_keeps_rules (set ps j new) ≡ true
    new_set j = every_set place_keeps_rules ps j new each_rules new_rules

    announced : Agrees (hears_announcement sender size dgn ps s)
    unfolding hears_announcement place_for
    announced = held (first (is_open_by sender) ps) refl
      where
        free : (g : Option ℕ) → first (is_open_by sender) ps ≡ None → first is_free ps ≡ g
            → Agrees (hears_announcement sender size dgn ps s)
        free (Some j) n e =
            rw (n, e)
            (record {
              shows = shows_opens_free long_messages layout f ps s (announced_by sender size dgn) (gives opened) j new s asks (found None n) e new_open refl (λ i x. refl);
              rules = new_set j;
              long = refl;
              answers = (Ok Opened, refl);
            })
        free None n e =
            rw (n, e) (record { shows = shows_full long_messages layout f ps s (rw asks) (found None n) e; rules = each_rules; long = refl; answers = (Err NoPlaceFree, refl) })

        held : (g : Option ℕ) → first (is_open_by sender) ps ≡ g → Agrees (hears_announcement sender size dgn ps s)
        held (Some j) e =
            rw e
            (record {
              shows = shows_opens_held long_messages layout f ps s (announced_by sender size dgn) (gives opened) j new s asks (found (Some j) e) new_open refl (λ i x. refl);
              rules = new_set j;
              long = refl;
              answers = (Ok Opened, refl);
            })
        held None e = free (first is_free ps) e refl

  -- a data packet
  module _ (sender number : ℕ) (by : source_of f.id ≡ sender) (size : length f.bytes ≡ frame_bytes)
      (asks : long_messages.asks f ≡ feeds (record { number = number; seven = drop 1 f.bytes }) (refused 9)) where
    abbrev part : Part
    part = record { number = number; seven = drop 1 f.bytes }

    sought : (g : Option ℕ) → first (is_open_by sender) ps ≡ g → first (open_by layout (source_of f.id)) ps ≡ g
    sought g e = ap (λ k. first (open_by layout k) ps) by ∙ e

    module _ (j : ℕ) (e : first (is_open_by sender) ps ≡ Some j) where
      abbrev p : Place
      p = get_or ps j free_place

      rules_here : OpenRules p
      rules_here = rules_at sender j ps ok e

      below : j < place_count
      below = found_below (is_open_by sender) ps j eight e

      from_sender : p.sender ≡ sender
      from_sender = let t = both_true (not (is_free p)) _ (found_at j (is_open_by sender) ps free_place e).passes in eqb-true p.sender sender t.1

      freed : every place_keeps_rules (set ps j free_place) ≡ true
      freed = every_set place_keeps_rules ps j free_place each_rules free_rules

      last : number ≡ p.expected → p.expected ≡ packets_of p.length
          → fed_by (open_message p (stretch longest j s)) part
          ≡ ends (gives (finished (whole_of (open_message p (stretch longest j s))
          (joined (open_message p (stretch longest j s)) (drop 1 f.bytes)))))
      last n u = rw (eq-eqb _ _ n, eq-eqb _ _ u)

      next : number ≡ p.expected → p.expected ≢ packets_of p.length
          → fed_by (open_message p (stretch longest j s)) part
          ≡ goes (expecting_next (open_message p (stretch longest j s)) (joined (open_message p (stretch longest j s)) (drop 1 f.bytes))) (gives stored)
      next n u = rw (eq-eqb _ _ n, ne_eqb _ _ u)

      wrong : number ≢ p.expected → fed_by (open_message p (stretch longest j s)) part ≡ ends (refused 10)
      wrong n = rw (ne_eqb _ _ n)

      next_open : open_by layout (source_of f.id) (expecting (p.expected + 1) p) ≡ true
      next_open = rw (not_free p rules_here.long, by, eq-eqb p.sender sender from_sender)

      expected_last : p.expected ≡ packets_of p.length → number ≡ p.expected → Agrees (advanced j p ps (kept_at j p f.bytes s))
      expected_last u n =
          subst⁻¹ Agrees (advanced_last j p ps (kept_at j p f.bytes s) u)
          (record {
            shows =
                subst⁻¹
                (λ (m : List ℕ). Shows long_messages layout f ps s (set ps j free_place) (kept_at j p f.bytes s)
                (said (gives (finished (record { sender = p.sender; dgn = p.dgn; bytes = m })))))
                (whole_message s f.bytes j p enough below rules_here size u)
                (shows_feeds_ends long_messages layout f ps s part (refused 9)
                (gives (finished (whole_of (open_message p (stretch longest j s))
                (joined (open_message p (stretch longest j s)) (drop 1 f.bytes)))))
                j free_place free_place (kept_at j p f.bytes s) asks (sought (Some j) e) (last n u) refl (others s f.bytes j p enough below rules_here size));
            rules = freed;
            long = length_written s f.bytes j p enough below rules_here size;
            answers = (Ok (Finished j p.sender p.dgn p.length), refl);
          })

      expected_next : p.expected ≢ packets_of p.length → number ≡ p.expected → Agrees (advanced j p ps (kept_at j p f.bytes s))
      expected_next u n =
          subst⁻¹ Agrees (advanced_next j p ps (kept_at j p f.bytes s) u)
          (record {
            shows =
                shows_feeds_goes long_messages layout f ps s part (refused 9) (gives stored)
                (expecting_next (open_message p (stretch longest j s)) (joined (open_message p (stretch longest j s)) (drop 1 f.bytes)))
                j free_place (expecting (p.expected + 1) p) (kept_at j p f.bytes s) asks (sought (Some j) e) (next n u) next_open
                (next_message s f.bytes j p enough below rules_here size u) (others s f.bytes j p enough below rules_here size);
            rules =
                every_set place_keeps_rules ps j (expecting (p.expected + 1) p) each_rules
                (rules_open (expecting (p.expected + 1) p) (not_free p rules_here.long) (next_rules s f.bytes j p enough below rules_here size u));
            long = length_written s f.bytes j p enough below rules_here size;
            answers = (Ok Stored, refl);
          })

      at_place : Agrees (packet_at j p number f.bytes ps s)
      at_place =
          by_test (number =? p.expected)
          (λ t.
          let n = eqb-true number p.expected t in
          subst⁻¹ Agrees (packet_expected j p ps s number f.bytes n)
          (by_test (p.expected =? packets_of p.length)
          (λ u. expected_last (eqb-true p.expected (packets_of p.length) u) n)
          (λ u. expected_next (eqb-false p.expected (packets_of p.length) u) n)))
          (λ t.
          let n = eqb-false number p.expected t in
          subst⁻¹ Agrees (packet_other j p ps s number f.bytes n)
          (record {
            shows =
                shows_feeds_ends long_messages layout f ps s part (refused 9) (refused 10) j free_place free_place s asks (sought (Some j) e) (wrong n) refl (λ i x. refl);
            rules = freed;
            long = refl;
            answers = (Err UnexpectedPacket, refl);
          }))

    carried : Agrees (carries sender number f.bytes ps s)
    carried = go (first (is_open_by sender) ps) refl
      where
        go : (g : Option ℕ) → first (is_open_by sender) ps ≡ g → Agrees (carries sender number f.bytes ps s)
        go (Some j) e = subst⁻¹ Agrees (carries_at sender number f.bytes ps s j e) (at_place j e)
        go None e =
            subst⁻¹ Agrees (carries_nowhere sender number f.bytes ps s e)
            (record {
              shows = shows_feeds_nowhere long_messages layout f ps s part (refused 9) asks (sought None e);
              rules = each_rules;
              long = refl;
              answers = (Err NoOpenMessage, refl);
            })

  -- a frame
  pub agrees : Agrees (heard f.id f.bytes ps s)
  agrees =
      subst⁻¹ Agrees (heard_kept f.id f.bytes ps s enough ok) (go (meaning_of f.id f.bytes) refl (meaning_known f.id f.bytes))
    where
      asked : (m : Told Meaning) → meaning_of f.id f.bytes ≡ m → long_messages.asks f ≡ asks_by m f.bytes
      asked m e = ap (λ (x : Told Meaning). asks_by x f.bytes) e

      go : (m : Told Meaning) → meaning_of f.id f.bytes ≡ m → Known f.id f.bytes (meaning_of f.id f.bytes) → Agrees (by_meaning (meaning_of f.id f.bytes) f.bytes ps s)
      go (refused n) e k =
          let h : (2 < n) × (n < 8) = rw e at k in
          rw e (kept (refused n) (refused n) (asked (refused n) e) (rw (ne_eqb n 8 (λ x. omega (arith, h.1)))) (refusal_named n h.0 h.1))
      go (gives other) e k = rw e (kept (gives nothing_to_do) (gives nothing_to_do) (asked (gives other) e) refl (Ok NothingToDo, refl))
      go (gives (announcement m)) e k =
          let h = rw e at k in
          let asks = asked (gives (announcement m)) e in
          rw e (announced m.sender m.size m.dgn (sym h.0) h.1 h.2 h.3 h.4 asks)
      go (gives (packet p)) e k =
          let h = rw e at k in
          rw e (carried p.sender p.number (sym h.0) h.1 (asked (gives (packet p)) e))

-- the calls, from a state that keeps its rules: there is one answer and one state after each

module _ (s : Held) (k : Keeps s) where
  abbrev pub ps : List Place
  ps = s.receiver.places

  module _ (f : Frame) where
    abbrev pub left : After
    left = heard f.id f.bytes ps s.storage

    pub frame_agrees : Agrees f ps s.storage k.eight k.rules k.enough left
    frame_agrees = agrees f ps s.storage k.eight k.rules k.enough

    abbrev pub heard_by : Held
    heard_by = record { receiver = record { places = left.places }; storage = left.storage }

    abbrev pub told_by : Out (Told Tells)
    told_by = tells (message_in left.storage left.answer) left.answer

    enough_left : room ≤ length left.storage
    enough_left = rw frame_agrees.long k.enough

    -- whatever the promises allow is that
    hears_is : (t : Held) (o : Out (Told Tells)) → Hears s f o t → (t ≡ heard_by) × (o ≡ told_by)
    hears_is t o c =
        let p = c.hear.places in
        let b = c.hear.storage_bytes in
        let l : room ≤ length t.storage = rw b enough_left in
        let m : c.message ≡ message_in left.storage left.answer = c.read.bytes ∙ rw (le-ltb _ _ l) (ap₂ message_in b c.hear.answer) in (
          (λ i. record { receiver = record { places = p i }; storage = b i }),
          c.told_so ∙ ap₂ tells m c.hear.answer,
        )

    pub heard_kept_rules : Keeps heard_by
    heard_kept_rules =
        let o = shows_keeps long_messages layout f ps s.storage _ _ _ frame_agrees.shows (each_alone ps k.rules) in
        record { eight = o.1 ∙ k.eight; rules = both_rules left.places frame_agrees.rules o.0; enough = enough_left }

    hears_some : (o : Out (Told Tells)) × (t : Held) × Hears s f o t
    hears_some =
        let x = frame_agrees.answers in (
          told_by,
          heard_by,
          record {
            answer = x.0;
            message = message_in left.storage left.answer;
            hear = record { places = refl; storage_bytes = refl; answer = x.1 };
            read = record { bytes = rw (le-ltb _ _ enough_left, x.1) };
            told_so = ap (tells (message_in left.storage left.answer)) (sym x.1);
          },
        )

  module _ (ms : ℕ) where
    abbrev pub rested_by : Held
    rested_by = record { receiver = record { places = map (idled ms) ps }; storage = s.storage }

    pauses_is : (t : Held) (n : Told ℕ) → Pauses s ms n t → (t ≡ rested_by) × (n ≡ gives (count (Eight.closes ms) ps))
    pauses_is t n c =
        let p = c.pause.places ∙ paused_places_lem ms ps k.rules in
        let b = c.storage_kept in (
          (λ i. record { receiver = record { places = p i }; storage = b i }),
          c.told_so ∙ c.pause.answer ∙ paused_count ms ps k.rules,
        )

    pub rested_kept_rules : Keeps rested_by
    rested_kept_rules =
        record {
          eight = length-map ps (idled ms) ∙ k.eight;
          rules = idled_keeps ms ps k.rules;
          enough = k.enough;
        }

    pauses_some : (n : Told ℕ) × (t : Held) × Pauses s ms n t
    pauses_some = (
      gives (count (Eight.closes ms) ps),
      rested_by,
      record {
        answer = Ok (count (Eight.closes ms) ps);
        pause = record { places = sym (paused_places_lem ms ps k.rules); answer = sym (paused_count ms ps k.rules) };
        storage_kept = refl;
        told_so = refl;
      },
    )

pub starts_keep : (s : Held) → Starts s → Keeps s
unfolding keeps_rules place_keeps_rules is_zero
starts_keep s h = record { eight = rw h.new.places; rules = rw h.new.places; enough = h.enough }

-- The calls of the receiver keep to the places of long messages.
pub receiver_keeps : KeepsPlaces receiver_calls
receiver_keeps = record {
  eight = λ s k. length_view layout s.receiver.places s.storage ∙ k.eight;
  each = λ s k. (one_each_view layout s.receiver.places s.storage).0 (each_alone s.receiver.places k.rules);
  starts_kept = starts_keep;
  starts_free = λ s h. ap (λ (l : List Place). view layout l s.storage) h.new.places ∙ blank_view layout place_count s.storage;
  hears_kept = λ s t f o k c. subst⁻¹ Keeps (hears_is s k f t o c).0 (heard_kept_rules s k f);
  hears_seen = λ s t f o k c. ap open_in (hears_is s k f t o c).0 ∙ (frame_agrees s k f).shows.places;
  hears_told = λ s t f o k c. (hears_is s k f t o c).1 ∙ (frame_agrees s k f).shows.answer;
  hears_some = λ s f k. hears_some s k f;
  pauses_kept = λ s t ms n k c. subst⁻¹ Keeps (pauses_is s k ms t n c).0 (rested_kept_rules s k ms);
  pauses_seen = λ s t ms n k c.
      ap open_in (pauses_is s k ms t n c).0 ∙ view_pass long_messages layout ms (idled ms) (seat_idled ms) s.receiver.places s.storage;
  pauses_told = λ s t ms n k c.
      (pauses_is s k ms t n c).1 ∙ ap gives (view_closes long_messages layout ms (Eight.closes ms) (seat_closes ms) s.receiver.places s.storage);
  pauses_some = λ s ms k. pauses_some s k ms;
}
