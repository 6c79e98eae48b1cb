-- The statements of specs/Laws.antt, proved.
-- Assumes nothing.
use Rattle.std.specs.Prelude.{Option, Some, None, Ok, Err}
use Rattle.std.specs.Prelude.{if◌then◌else◌}
use mathlib.Core.Path.{◌≡◌, refl, sym, ap, ◌∙◌, subst, subst⁻¹}
use mathlib.Core.Bool.{true, false}
use mathlib.Core.List.{List}
use mathlib.Core.Logic.{◌≢◌, ◌⊎◌, inl, inr}
use Prim.Native.Nat.{ℕ, ◌+◌, ◌-◌, ◌*◌, ◌≤◌, ◌<◌}
use native.Mathlib.Omega.{arith}
use borrow.Author.Tests.{eqb-true, eqb-false, ltb-true, ltb-false}
use lib.ListN.{length, drop, get_or, set, length-drop}
use lib.Seq.{get_or-drop}
use Rattle.words.specs.Words.{◌=?◌, ◌<?◌, Told, refused, gives, number_in}
use Rattle.words.specs.Lists.{count, first}
use Rattle.frame.specs.Frame.{frame_bytes}
use Rattle.frame.specs.Promises.{refusal_of}
use Rattle.frame.specs.declared.BadFrame as Frames
use Rattle.frame.specs.declared.BadFrame.TheVariants.{IdentifierTooLarge, NotEightBytes, ReservedBitSet}
use Rattle.frame.specs.declared.BadFrame.TheVariants.{SourceNotAllowed}
use Rattle.words.proofs.Words.{by_test}
use Rattle.words.proofs.Tests.{tests}
use Rattle.frame.proofs.Laws.{bad_back, bad_back_lem}
use Rattle.frame.specs.Standard.{bytes_in}
use Rattle.places.specs.Places.{place_count}
use Rattle.places.proofs.Stretch.{copy_keeps, copy_writes}
use Rattle.places.specs.Telling.{Outcome, nothing_to_do, opened, stored, finished}
use Rattle.message.specs.LongMessage.{longest, packet_bytes, packets_of, needed, Meaning, other}
use Rattle.message.specs.LongMessage.{announcement, PacketFrom, packet, meaning_of}
use Rattle.message.specs.Receiver.{room, free_place, is_open_by, keeps_rules}
use Rattle.message.specs.Receiver.{After, leaves, place_for, opened_at, hears_announcement}
use Rattle.message.specs.Receiver.{kept_at, packet_at, carries, by_meaning, heard, paused_places, paused_answer}
use Rattle.message.specs.Receiver as Receiver
use Rattle.message.specs.Splitter.{numbered}
use Rattle.message.specs.Promises.{Answer, Pausing, Announcing, Splitting, number_of_not_heard, outcome_of, told_answer}
use Rattle.message.specs.Promises.{told_pausing, announcing_number, splitting_number}
use Rattle.message.specs.Laws.{ToldAnswerSame, ToldPausingSame, AnnouncingNumberSame, SplittingNumberSame}
use Rattle.message.specs.Laws.{NewOnly, HearOnly, PauseOnly, MessageOnly, AnnouncementOnly, PacketOnly}
use Rattle.message.specs.Laws.{NotHeardRefusalOnly, BadStateRefusalOnly, NotSplitRefusalOnly}
use Rattle.message.specs.Laws.{AnswerRefusalOnly, PausingRefusalOnly, UnsplittableRefusalOnly}
use Rattle.message.specs.Laws.{AnnouncingRefusalOnly, SplittingRefusalOnly, RefusedKeeps, ClosedAt, TenCloses}
use Rattle.message.specs.Laws.{LowestWins, PauseRefusedKeeps, WritesThePacket, WritesItsOwn, NotBeyond}
use Rattle.message.specs.Laws.{SplitterAnnounces, SplitterSplits}
use Rattle.message.specs.declared.Place.{Place}
use Rattle.message.specs.declared.Event.{Event}
use Rattle.message.specs.declared.Event.TheVariants.{NothingToDo, Opened, Stored, Finished}
use Rattle.message.specs.declared.NotHeard.{NotHeard}
use Rattle.message.specs.declared.NotHeard.TheVariants.{StorageTooShort, BadFrame, MalformedAnnouncement}
use Rattle.message.specs.declared.NotHeard.TheVariants.{NoPlaceFree, NoOpenMessage, UnexpectedPacket}
use Rattle.message.specs.declared.BadState.TheVariants as BadState
use Rattle.message.specs.declared.Unsplittable.{Unsplittable}
use Rattle.message.specs.declared.Unsplittable.TheVariants.{NoCode, LengthNotSplit}
use Rattle.message.specs.declared.NotSplit.TheVariants as NotSplit
use Rattle.message.proofs.Frames.{Known, meaning_known}
use Rattle.message.proofs.Steps.{found_below, OpenRules, rules_at, announcing_at, announcing_nowhere}
use Rattle.message.proofs.Steps.{advanced_last, advanced_next, advanced_storage, packet_expected, packet_other}
use Rattle.message.proofs.Steps.{carries_at, carries_nowhere, heard_short, heard_broken, heard_kept}
use Rattle.message.proofs.Packets.{splits_above, splits_outside, splits_within}
use Rattle.message.proofs.Packets.{announcement_refused, announcement_given, packet_refused, packet_numbered}
use Rattle.message.proofs.Packets.{numbered_zero, numbered_above, numbered_given}
use Rattle.message.specs.Laws.{AnswerRefusalTold, PausingRefusalTold, UnsplittableRefusalTold}
use Rattle.message.specs.Laws.{AnnouncingRefusalTold, SplittingRefusalTold}

-- an answer is read back from what it tells

why_back : ℕ → NotHeard
why_back n =
    if n =? 1 then StorageTooShort else
    if n =? 2 then NotHeard.BrokenState else
    if n =? 7 then MalformedAnnouncement else
    if n =? 8 then NoPlaceFree else
    if n =? 9 then NoOpenMessage else
    if n =? 10 then UnexpectedPacket else
    BadFrame (bad_back n)

event_back : Outcome → Event
event_back nothing_to_do = NothingToDo
event_back opened = Opened
event_back stored = Stored
event_back (finished m) = Finished m.place m.sender m.dgn m.size

answer_back : Told Outcome → Answer
answer_back (refused n) = Err (why_back n)
answer_back (gives o) = Ok (event_back o)

bad_answer : (w : Frames.BadFrame) → why_back (refusal_of w) ≡ BadFrame w
unfolding why_back
bad_answer IdentifierTooLarge = ap BadFrame (bad_back_lem IdentifierTooLarge)
bad_answer NotEightBytes = ap BadFrame (bad_back_lem NotEightBytes)
bad_answer ReservedBitSet = ap BadFrame (bad_back_lem ReservedBitSet)
bad_answer SourceNotAllowed = ap BadFrame (bad_back_lem SourceNotAllowed)

why_back_lem : (why : NotHeard) → why_back (number_of_not_heard why) ≡ why
unfolding why_back
why_back_lem StorageTooShort = refl
why_back_lem NotHeard.BrokenState = refl
why_back_lem (BadFrame w) = bad_answer w
why_back_lem MalformedAnnouncement = refl
why_back_lem NoPlaceFree = refl
why_back_lem NoOpenMessage = refl
why_back_lem UnexpectedPacket = refl

event_back_lem : (event : Event) → event_back (outcome_of event) ≡ event
unfolding event_back
event_back_lem NothingToDo = refl
event_back_lem Opened = refl
event_back_lem Stored = refl
event_back_lem (Finished place sender dgn size) = refl

answer_back_lem : (r : Answer) → answer_back (told_answer r) ≡ r
unfolding answer_back
answer_back_lem (Ok event) = ap Ok (event_back_lem event)
answer_back_lem (Err why) = ap Err (why_back_lem why)

pub told_answer_same : ToldAnswerSame
told_answer_same r s e = sym (answer_back_lem r) ∙ ap answer_back e ∙ answer_back_lem s

pausing_back : Told ℕ → Pausing
pausing_back (gives n) = Ok n
pausing_back (refused n) = Err BadState.BrokenState

pausing_back_lem : (r : Pausing) → pausing_back (told_pausing r) ≡ r
unfolding pausing_back
pausing_back_lem (Ok n) = refl
pausing_back_lem (Err BadState.BrokenState) = refl

pub told_pausing_same : ToldPausingSame
told_pausing_same r s e = sym (pausing_back_lem r) ∙ ap pausing_back e ∙ pausing_back_lem s

unsplittable_back : ℕ → Unsplittable
unsplittable_back n = if n =? 12 then NoCode else LengthNotSplit

announcing_back : ℕ → Announcing
announcing_back n = if n =? 0 then Ok tt else Err (unsplittable_back n)

announcing_back_lem : (r : Announcing) → announcing_back (announcing_number r) ≡ r
unfolding announcing_back unsplittable_back
announcing_back_lem (Ok u) = refl
announcing_back_lem (Err NoCode) = refl
announcing_back_lem (Err LengthNotSplit) = refl

pub announcing_number_same : AnnouncingNumberSame
announcing_number_same r s e = sym (announcing_back_lem r) ∙ ap announcing_back e ∙ announcing_back_lem s

splitting_back : ℕ → Splitting
splitting_back n =
    if n =? 0 then Ok tt else
    if n =? 15 then Err NotSplit.NoSuchPacket else
    Err (NotSplit.Unsplittable (unsplittable_back n))

splitting_back_lem : (r : Splitting) → splitting_back (splitting_number r) ≡ r
unfolding splitting_back unsplittable_back
splitting_back_lem (Ok u) = refl
splitting_back_lem (Err (NotSplit.Unsplittable NoCode)) = refl
splitting_back_lem (Err (NotSplit.Unsplittable LengthNotSplit)) = refl
splitting_back_lem (Err NotSplit.NoSuchPacket) = refl

pub splitting_number_same : SplittingNumberSame
splitting_number_same r s e = sym (splitting_back_lem r) ∙ ap splitting_back e ∙ splitting_back_lem s

-- no second answer

pub new_only : NewOnly
new_only r s p q = λ i. record { places = (p.places ∙ sym q.places) i }

pub hear_only : HearOnly
hear_only id bytes places storage r s exit exit' p q =
    let u = p.places ∙ sym q.places in
    let a = told_answer_same r.answer s.answer (p.answer ∙ sym q.answer) in
    ((λ i. record { receiver = record { places = u i }; answer = a i }), p.storage_bytes ∙ sym q.storage_bytes)

pub pause_only : PauseOnly
pause_only ms places r s p q =
    let u = p.places ∙ sym q.places in
    let a = told_pausing_same r.answer s.answer (p.answer ∙ sym q.answer) in
    λ i. record { receiver = record { places = u i }; answer = a i }

pub message_only : MessageOnly
message_only storage answer r s p q = p.bytes ∙ sym q.bytes

pub announcement_only : AnnouncementOnly
announcement_only message dgn r s p q =
    let a = announcing_number_same r.answer s.answer (p.number ∙ sym q.number) in
    let b = p.bytes ∙ sym q.bytes in
    λ i. record { answer = a i; bytes = b i }

pub packet_only : PacketOnly
packet_only message dgn number r s p q =
    let a = splitting_number_same r.answer s.answer (p.number ∙ sym q.number) in
    let b = p.bytes ∙ sym q.bytes in
    λ i. record { answer = a i; bytes = b i }

pub not_heard_refusal_only : NotHeardRefusalOnly
not_heard_refusal_only why r s p q = p.number ∙ sym q.number

pub bad_state_refusal_only : BadStateRefusalOnly
bad_state_refusal_only why r s p q = p.number ∙ sym q.number

pub not_split_refusal_only : NotSplitRefusalOnly
not_split_refusal_only why r s p q = p.number ∙ sym q.number

pub answer_refusal_only : AnswerRefusalOnly
answer_refusal_only answer r s p q = p.number ∙ sym q.number

pub answer_refusal_told : AnswerRefusalTold
answer_refusal_told (Ok value) = record { number = refl }
answer_refusal_told (Err why) = record { number = refl }

pub pausing_refusal_only : PausingRefusalOnly
pausing_refusal_only answer r s p q = p.number ∙ sym q.number

pub pausing_refusal_told : PausingRefusalTold
pausing_refusal_told (Ok value) = record { number = refl }
pausing_refusal_told (Err why) = record { number = refl }

pub unsplittable_refusal_only : UnsplittableRefusalOnly
unsplittable_refusal_only why r s p q = p.number ∙ sym q.number

pub unsplittable_refusal_told : UnsplittableRefusalTold
unsplittable_refusal_told why = record { number = refl }

pub announcing_refusal_only : AnnouncingRefusalOnly
announcing_refusal_only answer r s p q = p.number ∙ sym q.number

pub announcing_refusal_told : AnnouncingRefusalTold
announcing_refusal_told (Ok value) = record { number = refl }
announcing_refusal_told (Err why) = record { number = refl }

pub splitting_refusal_only : SplittingRefusalOnly
splitting_refusal_only answer r s p q = p.number ∙ sym q.number

pub splitting_refusal_told : SplittingRefusalTold
splitting_refusal_told (Ok value) = record { number = refl }
splitting_refusal_told (Err why) = record { number = refl }

-- A frame, by its outcomes: either a refusal or an announcement that leaves the storage, or a packet at its sender's place.

data Left (id : ℕ) (bytes : List ℕ) (ps : List Place) (s : List ℕ) : After → Type 0 where
  refuses : {n : ℕ} → n ≢ 10 → Left id bytes ps s (leaves ps s (refused n))
  passes : Left id bytes ps s (leaves ps s (gives nothing_to_do))
  opens : (i : ℕ) (p : Place) → Left id bytes ps s (opened_at (Some i) p ps s)
  closes : {p : PacketFrom} {i : ℕ} → meaning_of id bytes ≡ gives (packet p) → first (is_open_by p.sender) ps ≡ Some i
      → p.number ≢ (get_or ps i free_place).expected → Left id bytes ps s (leaves (set ps i free_place) s (refused 10))
  stores : {p : PacketFrom} {i : ℕ} {qs : List Place} {o : Outcome}
      → meaning_of id bytes ≡ gives (packet p) → first (is_open_by p.sender) ps ≡ Some i
      → OpenRules (get_or ps i free_place) → room ≤ length s → length bytes ≡ frame_bytes
      → Left id bytes ps s (leaves qs (kept_at i (get_or ps i free_place) bytes s) (gives o))

module _ (id : ℕ) (bytes : List ℕ) (ps : List Place) (s : List ℕ) where
  announcing_left : (sender size dgn : ℕ) → Left id bytes ps s (hears_announcement sender size dgn ps s)
  announcing_left sender size dgn = go (place_for sender ps) refl
    where
      go : (g : Option ℕ) → place_for sender ps ≡ g → Left id bytes ps s (hears_announcement sender size dgn ps s)
      go (Some i) e = subst⁻¹ (Left id bytes ps s) (announcing_at sender size dgn ps s i e) (opens i _)
      go None e = subst⁻¹ (Left id bytes ps s) (announcing_nowhere sender size dgn ps s e)
          (refuses (λ x. omega arith))

  carries_left : (sender number : ℕ)
      → meaning_of id bytes ≡ gives (packet (record { sender = sender; number = number }))
      → keeps_rules ps ≡ true → room ≤ length s → length bytes ≡ frame_bytes
      → Left id bytes ps s (carries sender number bytes ps s)
  carries_left sender number m v enough l = go (first (is_open_by sender) ps) refl
    where
      at : (i : ℕ) → first (is_open_by sender) ps ≡ Some i → Left id bytes ps s (packet_at i (get_or ps i free_place) number bytes ps s)
      at i e =
          let p = get_or ps i free_place in
          by_test (number =? p.expected)
          (λ t.
          subst⁻¹ (Left id bytes ps s) (packet_expected i p ps s number bytes (eqb-true number p.expected t))
          (by_test (p.expected =? packets_of p.length)
          (λ u. subst⁻¹ (Left id bytes ps s) (advanced_last i p ps (kept_at i p bytes s) (eqb-true p.expected (packets_of p.length) u)) (stores m e (rules_at sender i ps v e) enough l))
          (λ u. subst⁻¹ (Left id bytes ps s) (advanced_next i p ps (kept_at i p bytes s) (eqb-false p.expected (packets_of p.length) u)) (stores m e (rules_at sender i ps v e) enough l))))
          (λ t.
          let o = eqb-false number p.expected t in
          subst⁻¹ (Left id bytes ps s) (packet_other i p ps s number bytes o) (closes m e o))

      go : (g : Option ℕ) → first (is_open_by sender) ps ≡ g → Left id bytes ps s (carries sender number bytes ps s)
      go (Some i) e = subst⁻¹ (Left id bytes ps s) (carries_at sender number bytes ps s i e) (at i e)
      go None e = subst⁻¹ (Left id bytes ps s) (carries_nowhere sender number bytes ps s e) (refuses (λ x. omega arith))

  meaning_left : (m : Told Meaning) → meaning_of id bytes ≡ m → Known id bytes m → keeps_rules ps ≡ true → room ≤ length s → Left id bytes ps s (by_meaning m bytes ps s)
  meaning_left (refused n) e k v enough = let h : n < 8 = k.1 in let x : n ≡ 10 → ⊥ = λ y. omega arith in refuses x
  meaning_left (gives other) e k v enough = passes
  meaning_left (gives (announcement m)) e k v enough = announcing_left m.sender m.size m.dgn
  meaning_left (gives (packet p)) e k v enough = carries_left p.sender p.number e v enough k.1

  heard_left : Left id bytes ps s (heard id bytes ps s)
  heard_left =
      by_test (length s <? room)
      (λ t. subst⁻¹ (Left id bytes ps s) (heard_short id bytes ps s (ltb-true (length s) room t)) (refuses (λ x. omega arith)))
      (λ t. by_test (keeps_rules ps)
      (λ v. subst⁻¹ (Left id bytes ps s) (heard_kept id bytes ps s (ltb-false (length s) room t) v) (meaning_left (meaning_of id bytes) refl (meaning_known id bytes) v (ltb-false (length s) room t)))
      (λ v. subst⁻¹ (Left id bytes ps s) (heard_broken id bytes ps s (ltb-false (length s) room t) v) (refuses (λ x. omega arith))))

given_refused : {B : Type 0} {o : Outcome} {n : ℕ} → gives o ≡ refused n → B
given_refused e = let y : ◌≡◌ {A = ℕ} 0 1 = cc in absurd (omega arith)

refused_is : {m n : ℕ} → ◌≡◌ {A = Told Outcome} (refused m) (refused n) → m ≡ n
refused_is e = cc

pub refused_keeps : RefusedKeeps
refused_keeps id bytes ps s r exit n h e k =
    let u = go (heard id bytes ps s) (heard_left id bytes ps s) (sym h.answer ∙ e) in
    (h.places ∙ u.0, h.storage_bytes ∙ u.1)
  where
    go : (a : After) → Left id bytes ps s a → a.answer ≡ refused n → (a.places ≡ ps) × (a.storage ≡ s)
    go a (refuses x) y = (refl, refl)
    go a passes y = given_refused y
    go a (opens i p) y = given_refused y
    go a (closes m f o) y = absurd (k (sym (refused_is y)))
    go a (stores m f o l b) y = given_refused y

pub ten_closes : TenCloses
ten_closes id bytes ps s r exit h e =
    let ten = sym h.answer ∙ ap told_answer e in
    go (heard id bytes ps s) (heard_left id bytes ps s) ten h.places h.storage_bytes
  where
    go : (a : After) → Left id bytes ps s a → a.answer ≡ refused 10
        → r.receiver.places ≡ a.places → exit ≡ a.storage
        → (p : PacketFrom) × (i : ℕ) × (meaning_of id bytes ≡ gives (packet p))
        × (p.number ≢ (get_or ps i free_place).expected) × ClosedAt ps s r.receiver.places exit p.sender i
    go a (refuses x) y p q = absurd (x (refused_is y))
    go a passes y p q = given_refused y
    go a (opens i q₀) y p q = given_refused y
    go a (closes {p = l} {i = i} m f o) y p q = (l, i, m, o, record { held = f; closed = p; kept = q })
    go a (stores m f o l b) y p q = given_refused y

pub lowest_wins : (id : ℕ) (bytes : List ℕ) (ps : List Place) (s : List ℕ) → LowestWins id bytes ps s
unfolding heard meaning_of
lowest_wins id bytes ps s =
    record {
      storage_first = λ h. let t : length s <? room ≡ true = search tests in rw t;
      state_next = λ h e. let t : length s <? room ≡ false = search tests in rw (t, e);
      frame_next = λ n h e f. let t : length s <? room ≡ false = search tests in rw (t, e, f);
      announcement_next = λ n h e f. let t : length s <? room ≡ false = search tests in rw (t, e, f);
    }

pub pause_refused_keeps : PauseRefusedKeeps
unfolding paused_places paused_answer
pause_refused_keeps ms ps r n h e =
    by_test (keeps_rules ps)
    (λ v.
    let z : gives (count (Receiver.closes ms) ps) ≡ refused n = rw v at (sym h.answer ∙ e) in
    let y : ◌≡◌ {A = ℕ} 0 1 = cc in
    absurd (omega arith))
    (λ v. rw v at h.places)

-- an open place's expected packet lies within the storage, and has as many bytes as are needed of it

stretch_holds : (s : List ℕ) (i : ℕ) (p : Place) → i < place_count → room ≤ length s → OpenRules p
    → longest * i + packet_bytes * (p.expected - 1) + needed p.length p.expected ≤ length s
stretch_holds s i p below enough o = omega (arith, o.within, o.short, o.begun)

packet_holds : (bytes : List ℕ) (p : Place) → length bytes ≡ frame_bytes
    → needed p.length p.expected ≤ length (drop 1 bytes)
packet_holds bytes p b = rw length-drop (omega arith)

-- the expected packet is kept
expected_kept : (id : ℕ) (bytes : List ℕ) (ps : List Place) (s : List ℕ) (sender i : ℕ)
    → room ≤ length s → keeps_rules ps ≡ true
    → meaning_of id bytes ≡ gives (packet (record { sender = sender; number = (get_or ps i free_place).expected }))
    → first (is_open_by sender) ps ≡ Some i
    → (heard id bytes ps s).storage ≡ kept_at i (get_or ps i free_place) bytes s
expected_kept id bytes ps s sender i enough v m f =
    let p = get_or ps i free_place in
    ap (λ (a : After). a.storage)
    (heard_kept id bytes ps s enough v
    ∙ ap (λ (t : Told Meaning). by_meaning t bytes ps s) m
    ∙ carries_at sender p.expected bytes ps s i f
    ∙ packet_expected i p ps s p.expected bytes refl)
    ∙ advanced_storage i p ps (kept_at i p bytes s)

pub writes_the_packet : WritesThePacket
writes_the_packet id bytes ps s r exit sender i k eight enough v h m f own =
    let p = get_or ps i free_place in
    let at = longest * i + packet_bytes * (p.expected - 1) in
    let known = subst (Known id bytes) m (meaning_known id bytes) in
    let o = rules_at sender i ps v f in
    let room_left = stretch_holds s i p (found_below (is_open_by sender) ps i eight f) enough o in
    ap (λ (x : List ℕ). get_or x k 0) (h.storage_bytes ∙ expected_kept id bytes ps s sender i enough v m f)
    ∙ copy_writes s at (drop 1 bytes) (needed p.length p.expected) k
    room_left (packet_holds bytes p known.1) own.from own.below
    ∙ get_or-drop 1 bytes (k - at) 0

pub writes_its_own : WritesItsOwn
writes_its_own id bytes ps s r exit k eight h beside =
    ap (λ (x : List ℕ). get_or x k 0) h.storage_bytes ∙ go (heard id bytes ps s) (heard_left id bytes ps s)
  where
    go : (a : After) → Left id bytes ps s a → get_or a.storage k 0 ≡ get_or s k 0
    go a (refuses x) = refl
    go a passes = refl
    go a (opens i p) = refl
    go a (closes m f o) = refl
    go a (stores {p = l} {i = i} m f o enough b) =
        let p = get_or ps i free_place in
        let below = found_below (is_open_by l.sender) ps i eight f in
        copy_keeps s (longest * i + packet_bytes * (p.expected - 1)) (drop 1 bytes) (needed p.length p.expected) k
        (stretch_holds s i p below enough o) (packet_holds bytes p b)
        (λ x y. beside l i m f (record { from = x; below = y }))

pub not_beyond : NotBeyond
not_beyond p i k one most own = omega (arith, own.below)

-- what the splitter answers

pub splitter_announces : SplitterAnnounces
splitter_announces message dgn r p =
    let size = length message in
    record {
      twelve = λ d. p.number ∙ ap number_in (announcement_refused message dgn (splits_above size dgn d));
      thirteen = λ d h. p.number ∙ ap number_in (announcement_refused message dgn (splits_outside size dgn d h));
      given = λ d l h.
          let e = announcement_given message dgn (splits_within size dgn d l h) in
          (announcing_number_same r.answer (Ok tt) (p.number ∙ ap number_in e), p.bytes ∙ ap bytes_in e);
    }

pub splitter_splits : SplitterSplits
splitter_splits message dgn number r p =
    let size = length message in
    record {
      twelve = λ d. p.number ∙ ap number_in (packet_refused message dgn number (splits_above size dgn d));
      thirteen = λ d h. p.number ∙ ap number_in (packet_refused message dgn number (splits_outside size dgn d h));
      fifteen = λ d l h n.
          let e = packet_numbered message dgn number (splits_within size dgn d l h) in
          p.number ∙ ap number_in (e ∙ numbered_outside n);
      given = λ d l h one most.
          let e = packet_numbered message dgn number (splits_within size dgn d l h) in
          let g = e ∙ numbered_given message number (packets_of size) (λ z. omega arith) most in
          (splitting_number_same r.answer (Ok tt) (p.number ∙ ap number_in g), p.bytes ∙ ap bytes_in g);
    }
  where
    numbered_outside : (number ≡ 0) ⊎ (packets_of (length message) < number)
        → numbered message number (packets_of (length message)) ≡ refused 15
    numbered_outside (inl z) = numbered_zero message number (packets_of (length message)) z
    numbered_outside (inr h) = numbered_above message number (packets_of (length message)) (λ z. omega arith) h
