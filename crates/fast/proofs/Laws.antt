-- The statements of specs/Laws.antt, proved.
-- Assumes nothing.
use Rattle.std.specs.Prelude.{Ok, Err}
use Rattle.std.specs.Prelude.{Option, Some, None}
use Rattle.std.specs.Prelude.{if◌then◌else◌}
use mathlib.Core.Path.{◌≡◌, refl, sym, ap, ◌∙◌, subst, subst⁻¹}
use mathlib.Core.Bool.{Bool, true, false, not}
use mathlib.Core.List.{List, [], ◌∷◌}
use mathlib.Core.Logic.{◌≢◌, ◌⊎◌, inl, inr}
use Prim.Native.Nat.{ℕ, zero, suc, ◌+◌, ◌-◌, ◌*◌, ◌≤◌, ◌<◌}
use native.Mathlib.Nat.{le_of_suc-le-suc, not-suc-le-zero}
use native.Mathlib.Omega.{arith}
use borrow.Author.Tests.{eqb-true, eqb-false, leb-true, leb-false, ltb-true, ltb-false, eq-eqb, ne_eqb}
use borrow.Author.Tests.{le-leb, lt-leb}
use lib.ListN.{length, drop, get_or, length-drop}
use lib.Seq.{get_or-drop, take-append_seam}
use Rattle.words.specs.Words.{◌=?◌, ◌<?◌, ◌≤?◌, ◌and◌, bits, Told, refused, gives, number_in}
use Rattle.words.specs.Lists.{every, count, first, Distinct}
use Rattle.frame.specs.Identifier.{greatest_dgn}
use Rattle.frame.specs.Standard.{announcement_dgn, packet_dgn, bytes_in}
use Rattle.frame.specs.Frame.{frame_bytes}
use Rattle.frame.specs.Promises.{refusal_of}
use Rattle.frame.specs.declared.BadFrame as Frames
use Rattle.frame.specs.declared.BadFrame.TheVariants.{IdentifierTooLarge, NotEightBytes, ReservedBitSet}
use Rattle.frame.specs.declared.BadFrame.TheVariants.{SourceNotAllowed}
use Rattle.words.proofs.Words.{by_test, both_true, true_false}
use Rattle.words.proofs.Tests.{tests}
use Rattle.frame.proofs.Laws.{bad_back, bad_back_lem}
use Rattle.places.specs.Places.{place_count}
use Rattle.places.proofs.Stretch.{copy_keeps, copy_writes}
use Rattle.places.specs.Telling.{Outcome, nothing_to_do, opened, stored, finished}
use Rattle.words.proofs.Lists.{every_at, every_replicate, distinct_cons, distinct_head, distinct_tail}
use Rattle.frame.specs.Bytes.{byte_at}
use Rattle.fast.specs.FastPacket.{greatest_sequence, first_bytes, longest, offset_of, last_frame, needed_first, needed}
use Rattle.fast.specs.FastPacket.{pair_of, frame_number_of, Meaning, other, NewMessage, LaterFrame, begins}
use Rattle.fast.specs.FastPacket.{continues, begun, carried, meaning_of}
use Rattle.fast.specs.Names.{most_named, may_be_named, is_named, is_well_formed}
use Rattle.fast.specs.Receiver.{room, free_place, is_open_by, names_of, is_zero, place_keeps_rules, keeps_rules}
use Rattle.fast.specs.Receiver.{After, leaves, placing, place_for, new_place}
use Rattle.fast.specs.Receiver.{first_kept, kept_at, frame_at, by_meaning, heard, paused_state, paused_answer}
use Rattle.fast.specs.Receiver as Receiver
use Rattle.fast.specs.Splitter.{refusal_in, frame_bytes_of, frame_of}
use Rattle.fast.specs.Promises.{Starting, Answer, Pausing, Splitting, number_of_not_heard, outcome_of}
use Rattle.fast.specs.Promises.{starting_number, told_answer, told_pausing, splitting_number, naming, naming_none}
use Rattle.fast.specs.Laws.{BadListRefusalOnly, NotHeardRefusalOnly, BadStateRefusalOnly, NotSplitRefusalOnly}
use Rattle.fast.specs.Laws.{StartingNumberSame, ToldAnswerSame, ToldPausingSame, SplittingNumberSame, StartOnly}
use Rattle.fast.specs.Laws.{HearOnly, PauseOnly, MessageOnly, FrameOfOnly, StartingRefusalOnly, AnswerRefusalOnly}
use Rattle.fast.specs.Laws.{PausingRefusalOnly, SplittingRefusalOnly, PairSame, FirstByteRead, FramesNeeded}
use Rattle.fast.specs.Laws.{NamedWhen, StartNames, StartRefusedKeeps, RefusedKeeps, OutOfTurn, ClosedAt}
use Rattle.fast.specs.Laws.{TenCloses, PauseRefusedKeeps, LowestWins, ItsOwn, WritesFrameZero, WritesTheFrame}
use Rattle.fast.specs.Laws.{WritesItsOwn, NotBeyond, SplitterSplits}
use Rattle.fast.specs.declared.Place.{Place}
use Rattle.fast.specs.declared.Receiver.{Receiver}
use Rattle.fast.specs.declared.BadList.TheVariants.{ListMalformed}
use Rattle.fast.specs.declared.Event.{Event}
use Rattle.fast.specs.declared.Event.TheVariants.{NothingToDo, Opened, Stored, Finished}
use Rattle.fast.specs.declared.NotHeard.{NotHeard}
use Rattle.fast.specs.declared.NotHeard.TheVariants.{StorageTooShort, BadFrame, MalformedLength, NoPlaceFree}
use Rattle.fast.specs.declared.NotHeard.TheVariants.{NoOpenMessage, UnexpectedFrame}
use Rattle.fast.specs.declared.BadState.TheVariants as BadState
use Rattle.fast.specs.declared.NotSplit.TheVariants.{NoCode, LengthNotSplit, NoSuchFrame}
use Rattle.fast.proofs.Splits.{frame_given}
use Rattle.fast.proofs.Frames.{Known, meaning_known}
use Rattle.fast.proofs.Steps.{found_below, place_for_below, begins_at, begins_nowhere, entered_short}
use Rattle.fast.proofs.Steps.{entered_long, entered_storage, advanced_last, advanced_next, advanced_storage}
use Rattle.fast.proofs.Steps.{frame_expected, frame_other_sequence, frame_other_number, continues_at}
use Rattle.fast.proofs.Steps.{continues_nowhere, rules_of, keeps_rules_lem, all_allowed, OpenRules, rules_at}
use Rattle.fast.proofs.Steps.{heard_short, heard_broken, heard_kept, meaning_refused, meaning_given, meant_other}
use Rattle.fast.proofs.Steps.{meant_carried}
use Rattle.fast.specs.Laws.{StartingRefusalTold, AnswerRefusalTold, PausingRefusalTold, SplittingRefusalTold}

-- an answer is read back from what it tells

starting_back : ℕ → Starting
starting_back n = if n =? 0 then Ok tt else Err ListMalformed

starting_back_lem : (r : Starting) → starting_back (starting_number r) ≡ r
unfolding starting_back
starting_back_lem (Ok u) = refl
starting_back_lem (Err ListMalformed) = refl

pub starting_number_same : StartingNumberSame
starting_number_same r s e = sym (starting_back_lem r) ∙ ap starting_back e ∙ starting_back_lem s

why_back : ℕ → NotHeard
why_back n =
    if n =? 1 then StorageTooShort else
    if n =? 2 then NotHeard.BrokenState else
    if n =? 7 then MalformedLength else
    if n =? 8 then NoPlaceFree else
    if n =? 9 then NoOpenMessage else
    if n =? 10 then UnexpectedFrame else
    BadFrame (bad_back n)

event_back : Outcome → Event
event_back nothing_to_do = NothingToDo
event_back opened = Opened
event_back stored = Stored
event_back (finished m) = Finished m.place m.sender m.dgn m.size

answer_back : Told Outcome → Answer
answer_back (refused n) = Err (why_back n)
answer_back (gives o) = Ok (event_back o)

bad_answer : (w : Frames.BadFrame) → why_back (refusal_of w) ≡ BadFrame w
unfolding why_back
bad_answer IdentifierTooLarge = ap BadFrame (bad_back_lem IdentifierTooLarge)
bad_answer NotEightBytes = ap BadFrame (bad_back_lem NotEightBytes)
bad_answer ReservedBitSet = ap BadFrame (bad_back_lem ReservedBitSet)
bad_answer SourceNotAllowed = ap BadFrame (bad_back_lem SourceNotAllowed)

why_back_lem : (why : NotHeard) → why_back (number_of_not_heard why) ≡ why
unfolding why_back
why_back_lem StorageTooShort = refl
why_back_lem NotHeard.BrokenState = refl
why_back_lem (BadFrame w) = bad_answer w
why_back_lem MalformedLength = refl
why_back_lem NoPlaceFree = refl
why_back_lem NoOpenMessage = refl
why_back_lem UnexpectedFrame = refl

event_back_lem : (event : Event) → event_back (outcome_of event) ≡ event
unfolding event_back
event_back_lem NothingToDo = refl
event_back_lem Opened = refl
event_back_lem Stored = refl
event_back_lem (Finished place sender dgn size) = refl

answer_back_lem : (r : Answer) → answer_back (told_answer r) ≡ r
unfolding answer_back
answer_back_lem (Ok event) = ap Ok (event_back_lem event)
answer_back_lem (Err why) = ap Err (why_back_lem why)

pub told_answer_same : ToldAnswerSame
told_answer_same r s e = sym (answer_back_lem r) ∙ ap answer_back e ∙ answer_back_lem s

pausing_back : Told ℕ → Pausing
pausing_back (gives n) = Ok n
pausing_back (refused n) = Err BadState.BrokenState

pausing_back_lem : (r : Pausing) → pausing_back (told_pausing r) ≡ r
unfolding pausing_back
pausing_back_lem (Ok n) = refl
pausing_back_lem (Err BadState.BrokenState) = refl

pub told_pausing_same : ToldPausingSame
told_pausing_same r s e = sym (pausing_back_lem r) ∙ ap pausing_back e ∙ pausing_back_lem s

splitting_back : ℕ → Splitting
splitting_back n =
    if n =? 0 then Ok tt else
    if n =? 12 then Err NoCode else
    if n =? 13 then Err LengthNotSplit else
    Err NoSuchFrame

splitting_back_lem : (r : Splitting) → splitting_back (splitting_number r) ≡ r
unfolding splitting_back
splitting_back_lem (Ok u) = refl
splitting_back_lem (Err NoCode) = refl
splitting_back_lem (Err LengthNotSplit) = refl
splitting_back_lem (Err NoSuchFrame) = refl

pub splitting_number_same : SplittingNumberSame
splitting_number_same r s e = sym (splitting_back_lem r) ∙ ap splitting_back e ∙ splitting_back_lem s

-- no second answer

pub start_only : StartOnly
start_only names r s p q =
    let u = p.state ∙ sym q.state in
    let a = starting_number_same r.answer s.answer (p.answer ∙ sym q.answer) in
    λ i. record { receiver = u i; answer = a i }

pub hear_only : HearOnly
hear_only id bytes state storage r s exit exit' p q =
    let u = p.state ∙ sym q.state in
    let a = told_answer_same r.answer s.answer (p.answer ∙ sym q.answer) in
    ((λ i. record { receiver = u i; answer = a i }), p.storage_bytes ∙ sym q.storage_bytes)

pub pause_only : PauseOnly
pause_only ms state r s p q =
    let u = p.after ∙ sym q.after in
    let a = told_pausing_same r.answer s.answer (p.answer ∙ sym q.answer) in
    λ i. record { receiver = u i; answer = a i }

pub message_only : MessageOnly
message_only storage answer r s p q = p.bytes ∙ sym q.bytes

pub frame_of_only : FrameOfOnly
frame_of_only message sequence number r s p q =
    let a = splitting_number_same r.answer s.answer (p.number ∙ sym q.number) in
    let b = p.bytes ∙ sym q.bytes in
    λ i. record { answer = a i; bytes = b i }

pub bad_list_refusal_only : BadListRefusalOnly
bad_list_refusal_only why r s p q = p.number ∙ sym q.number

pub not_heard_refusal_only : NotHeardRefusalOnly
not_heard_refusal_only why r s p q = p.number ∙ sym q.number

pub bad_state_refusal_only : BadStateRefusalOnly
bad_state_refusal_only why r s p q = p.number ∙ sym q.number

pub not_split_refusal_only : NotSplitRefusalOnly
not_split_refusal_only why r s p q = p.number ∙ sym q.number

pub starting_refusal_only : StartingRefusalOnly
starting_refusal_only answer r s p q = p.number ∙ sym q.number

pub starting_refusal_told : StartingRefusalTold
starting_refusal_told (Ok value) = record { number = refl }
starting_refusal_told (Err why) = record { number = refl }

pub answer_refusal_only : AnswerRefusalOnly
answer_refusal_only answer r s p q = p.number ∙ sym q.number

pub answer_refusal_told : AnswerRefusalTold
answer_refusal_told (Ok value) = record { number = refl }
answer_refusal_told (Err why) = record { number = refl }

pub pausing_refusal_only : PausingRefusalOnly
pausing_refusal_only answer r s p q = p.number ∙ sym q.number

pub pausing_refusal_told : PausingRefusalTold
pausing_refusal_told (Ok value) = record { number = refl }
pausing_refusal_told (Err why) = record { number = refl }

pub splitting_refusal_only : SplittingRefusalOnly
splitting_refusal_only answer r s p q = p.number ∙ sym q.number

pub splitting_refusal_told : SplittingRefusalTold
splitting_refusal_told (Ok value) = record { number = refl }
splitting_refusal_told (Err why) = record { number = refl }

-- the numbers of a pair, of a first byte, and of the last frame

pub pair_same : PairSame
pair_same sender dgn sender' dgn' h k e = (omega arith, omega arith)

pub first_byte_read : FirstByteRead
first_byte_read sequence number h k = (omega arith, omega arith)

pub frames_needed : FramesNeeded
frames_needed size = (omega arith, λ number h. omega arith)

-- which DGNs may be named

and_false : (a b : Bool) → b ≡ false → a and b ≡ false
and_false true b e = e
and_false false b e = refl

pub named_when : NamedWhen
unfolding may_be_named
named_when dgn =
    let a = dgn ≤? greatest_dgn in
    let b = not (dgn =? announcement_dgn) in
    let c = not (dgn =? packet_dgn) in
    let d = not (bits 16 8 dgn =? 0xEA) in
    record {
      too_large = λ h. rw (lt-leb dgn greatest_dgn h);
      announcement = λ e. rw e;
      packet = λ e. rw e;
      request = λ e. and_false a _ (and_false b _ (and_false c _ (rw (eq-eqb (bits 16 8 dgn) 0xEA e))));
      claim = λ e. and_false a _ (and_false b _ (and_false c _ (and_false d _ (rw (eq-eqb (bits 16 8 dgn) 0xEE e)))));
      else = λ low not_announcement not_packet not_request not_claim.
          rw (
            le-leb dgn greatest_dgn low,
            ne_eqb dgn announcement_dgn not_announcement,
            ne_eqb dgn packet_dgn not_packet,
            ne_eqb (bits 16 8 dgn) 0xEA not_request,
            ne_eqb (bits 16 8 dgn) 0xEE not_claim,
          );
    }

-- a list of DGNs, position by position

every_by : (f : ℕ → Bool) (names : List ℕ) → ((i : ℕ) → i < length names → f (get_or names i 0) ≡ true)
    → every f names ≡ true
every_by f [] k = refl
every_by f (name ∷ names) k =
    rw (k 0 (omega arith), every_by f names (λ i h. k (suc i) (omega arith)))

named_at : (names : List ℕ) (dgn j : ℕ) → j < length names → dgn ≡ get_or names j 0 → is_named dgn names ≡ true
named_at [] dgn j h e = absurd (not-suc-le-zero h)
named_at (name ∷ names) dgn zero h e = rw (eq-eqb dgn name e)
named_at (name ∷ names) dgn (suc j) h e =
    by_test (dgn =? name) (λ t. rw t) (λ t. rw (t, named_at names dgn j (le_of_suc-le-suc h) e))

not_named : (names : List ℕ) (dgn : ℕ) → ((j : ℕ) → j < length names → dgn ≢ get_or names j 0) → is_named dgn names ≡ false
not_named [] dgn k = refl
not_named (name ∷ names) dgn k =
    rw (ne_eqb dgn name (k 0 (omega arith)), not_named names dgn (λ j h. k (suc j) (omega arith)))

none_twice_at : (names : List ℕ) → Distinct names
    → (i j : ℕ) → i < j → j < length names → get_or names i 0 ≢ get_or names j 0
none_twice_at [] t i j l h e = not-suc-le-zero h
none_twice_at (name ∷ names) t i zero l h e = not-suc-le-zero l
none_twice_at (name ∷ names) t zero (suc j) l h e =
    true_false
    (sym (named_at names name j (le_of_suc-le-suc h) e) ∙ distinct_head name names t)
none_twice_at (name ∷ names) t (suc i) (suc j) l h e =
    none_twice_at names (distinct_tail name names t) i j (le_of_suc-le-suc l) (le_of_suc-le-suc h) e

none_twice_by : (names : List ℕ) → ((i j : ℕ) → i < j → j < length names → get_or names i 0 ≢ get_or names j 0)
    → Distinct names
none_twice_by [] k = refl
none_twice_by (name ∷ names) k =
    distinct_cons name names
    (not_named names name (λ j h. k 0 (suc j) (omega arith) (omega arith)))
    (none_twice_by names (λ i j l h. k (suc i) (suc j) (omega arith) (omega arith)))

-- a list that a start takes
record WellFormed (names : List ℕ) : Type 0 where
  few : length names ≤ most_named
  allowed : every may_be_named names ≡ true
  different : Distinct names

well_formed : (names : List ℕ) → is_well_formed names ≡ true → WellFormed names
unfolding is_well_formed
well_formed names e =
    let a = both_true (length names ≤? most_named) _ e in
    let b = both_true (every may_be_named names) _ a.1 in
    record { few = leb-true _ _ a.0; allowed = b.0; different = b.1 }

well_formed_by : (names : List ℕ) → WellFormed names → is_well_formed names ≡ true
unfolding is_well_formed
well_formed_by names w = rw (le-leb _ _ w.few, w.allowed, w.different)

-- a receiver at the start names those DGNs, and keeps its rules

pub named_so : (names : List ℕ) → names_of (naming names) ≡ names
named_so names = take-append_seam names _

pub free_keeps_rules : (names : List ℕ) → place_keeps_rules names free_place ≡ true
unfolding place_keeps_rules is_zero
free_keeps_rules names = refl

pub naming_keeps_rules : (names : List ℕ) → is_well_formed names ≡ true → keeps_rules (naming names) ≡ true
naming_keeps_rules names e =
    let n = names_of (naming names) in
    keeps_rules_lem (naming names)
    (record {
      few = (well_formed names e).few;
      well_formed = ap is_well_formed (named_so names) ∙ e;
      each = every_replicate (place_keeps_rules n) place_count free_place (free_keeps_rules n);
      alone = refl;
    })

pub start_names : StartNames
start_names names r p =
    record {
      too_many = λ h. malformed (λ w. omega (arith, w.few));
      not_allowed = λ i h e. malformed (λ w. true_false (sym (every_at may_be_named names i 0 h w.allowed) ∙ e));
      twice = λ i j l h e. malformed (λ w. none_twice_at names w.different i j l h e);
      named = λ few allowed different.
          let w = well_formed_by names
          (record {
            few = few;
            allowed = every_by may_be_named names allowed;
            different = none_twice_by names different;
          }) in
          let s = p.state ∙ ap (λ (b : Bool). if b then naming names else naming_none) w in (
            starting_number_same r.answer (Ok tt) (p.answer ∙ ap (λ (b : Bool). if b then 0 else 16) w),
            ap names_of s ∙ named_so names,
            ap keeps_rules s ∙ naming_keeps_rules names w,
          );
    }
  where
    malformed : (WellFormed names → ⊥) → starting_number r.answer ≡ 16
    malformed k =
        by_test (is_well_formed names)
        (λ t. absurd (k (well_formed names t)))
        (λ t. p.answer ∙ ap (λ (b : Bool). if b then 0 else 16) t)

pub start_refused_keeps : StartRefusedKeeps
start_refused_keeps names r p k =
    by_test (is_well_formed names)
    (λ t.
    absurd
    (k (starting_number_same r.answer (Ok tt) (p.answer ∙ ap (λ (b : Bool). if b then 0 else 16) t))))
    (λ t. p.state ∙ ap (λ (b : Bool). if b then naming names else naming_none) t)

-- A frame, by its outcomes: a refusal, or nothing to do, that leaves all as it was; frame 0 at the place that its pair
-- takes; or a later frame at its pair's place, which closes it or is stored.

data Left (id : ℕ) (bytes : List ℕ) (r : Receiver) (s : List ℕ) : After → Type 0 where
  refuses : {n : ℕ} → n ≢ 10 → Left id bytes r s (leaves r s (refused n))
  passes : Left id bytes r s (leaves r s (gives nothing_to_do))
  enters : {n : NewMessage} {i : ℕ} {q : Receiver} {o : Outcome}
      → meaning_of (names_of r) id bytes ≡ gives (begins n)
      → place_for (pair_of n.sender n.dgn) r.places ≡ Some i → room ≤ length s → length bytes ≡ frame_bytes
      → Left id bytes r s
      (leaves q (first_kept i (new_place n.sender n.dgn n.sequence n.size) bytes s) (gives o))
  closes : {l : LaterFrame} {i : ℕ}
      → meaning_of (names_of r) id bytes ≡ gives (continues l)
      → first (is_open_by (pair_of l.sender l.dgn)) r.places ≡ Some i → OutOfTurn r i l.sequence l.number
      → Left id bytes r s (leaves (placing r i free_place) s (refused 10))
  stores : {l : LaterFrame} {i : ℕ} {q : Receiver} {o : Outcome}
      → meaning_of (names_of r) id bytes ≡ gives (continues l)
      → first (is_open_by (pair_of l.sender l.dgn)) r.places ≡ Some i
      → l.number ≡ (get_or r.places i free_place).expected
      → OpenRules (names_of r) (get_or r.places i free_place) → room ≤ length s → length bytes ≡ frame_bytes
      → Left id bytes r s (leaves q (kept_at i (get_or r.places i free_place) bytes s) (gives o))

module _ (id : ℕ) (bytes : List ℕ) (r : Receiver) (s : List ℕ) where
  begins_left : (sender dgn sequence size : ℕ)
      → meaning_of (names_of r) id bytes
      ≡ gives (begins (record { sender = sender; dgn = dgn; sequence = sequence; size = size }))
      → room ≤ length s → length bytes ≡ frame_bytes
      → Left id bytes r s (Receiver.hears_first (new_place sender dgn sequence size) bytes r s)
  begins_left sender dgn sequence size m enough l = go (place_for (pair_of sender dgn) r.places) refl
    where
      p : Place
      p = new_place sender dgn sequence size

      go : (g : Option ℕ) → place_for (pair_of sender dgn) r.places ≡ g
          → Left id bytes r s (Receiver.hears_first (new_place sender dgn sequence size) bytes r s)
      go (Some i) e =
          subst⁻¹ (Left id bytes r s) (begins_at p bytes r s i e)
          (by_test (size ≤? first_bytes)
          (λ t. subst⁻¹ (Left id bytes r s) (entered_short i p r (first_kept i p bytes s) (leb-true size first_bytes t))
          (enters m e enough l))
          (λ t. subst⁻¹ (Left id bytes r s) (entered_long i p r (first_kept i p bytes s) (leb-false size first_bytes t))
          (enters m e enough l)))
      go None e = subst⁻¹ (Left id bytes r s) (begins_nowhere p bytes r s e) (refuses (λ x. omega arith))

  continues_left : (sender dgn sequence number : ℕ)
      → meaning_of (names_of r) id bytes
      ≡ gives (continues (record { sender = sender; dgn = dgn; sequence = sequence; number = number }))
      → keeps_rules r ≡ true → room ≤ length s → length bytes ≡ frame_bytes
      → Left id bytes r s (Receiver.hears_later (pair_of sender dgn) sequence number bytes r s)
  continues_left sender dgn sequence number m v enough l = go (first (is_open_by (pair_of sender dgn)) r.places) refl
    where
      at : (i : ℕ) → first (is_open_by (pair_of sender dgn)) r.places ≡ Some i
          → Left id bytes r s (frame_at i (get_or r.places i free_place) sequence number bytes r s)
      at i e =
          let p = get_or r.places i free_place in
          let kept = kept_at i p bytes s in
          let last = last_frame p.length in
          let o = rules_at (pair_of sender dgn) i r v e in
          by_test (sequence =? p.sequence)
          (λ t.
          let d = eqb-true sequence p.sequence t in
          by_test (number =? p.expected)
          (λ u.
          let n = eqb-true number p.expected u in
          subst⁻¹ (Left id bytes r s) (frame_expected i p r s sequence number bytes d n)
          (by_test (p.expected =? last)
          (λ w. subst⁻¹ (Left id bytes r s) (advanced_last i p r kept (eqb-true p.expected last w))
          (stores m e n o enough l))
          (λ w. subst⁻¹ (Left id bytes r s) (advanced_next i p r kept (eqb-false p.expected last w))
          (stores m e n o enough l))))
          (λ u.
          let n = eqb-false number p.expected u in
          subst⁻¹ (Left id bytes r s) (frame_other_number i p r s sequence number bytes d n) (closes m e (inr n))))
          (λ t.
          let d = eqb-false sequence p.sequence t in
          subst⁻¹ (Left id bytes r s) (frame_other_sequence i p r s sequence number bytes d) (closes m e (inl d)))

      go : (g : Option ℕ) → first (is_open_by (pair_of sender dgn)) r.places ≡ g
          → Left id bytes r s (Receiver.hears_later (pair_of sender dgn) sequence number bytes r s)
      go (Some i) e =
          subst⁻¹ (Left id bytes r s) (continues_at (pair_of sender dgn) sequence number bytes r s i e) (at i e)
      go None e =
          subst⁻¹ (Left id bytes r s) (continues_nowhere (pair_of sender dgn) sequence number bytes r s e)
          (refuses (λ x. omega arith))

  meaning_left : (m : Told Meaning) → meaning_of (names_of r) id bytes ≡ m → Known (names_of r) id bytes m
      → keeps_rules r ≡ true → room ≤ length s → Left id bytes r s (by_meaning m bytes r s)
  meaning_left (refused n) e k v enough =
      let h : n < 8 = k.1 in
      let x : n ≡ 10 → ⊥ = λ y. omega arith in
      refuses x
  meaning_left (gives other) e k v enough = passes
  meaning_left (gives (begins m)) e k v enough =
      begins_left m.sender m.dgn m.sequence m.size e enough k.2
  meaning_left (gives (continues f)) e k v enough =
      continues_left f.sender f.dgn f.sequence f.number e v enough k.2

  -- what is known of a frame, in a state that keeps its rules
  known_of : keeps_rules r ≡ true → Known (names_of r) id bytes (meaning_of (names_of r) id bytes)
  known_of v = meaning_known (names_of r) (all_allowed (names_of r) (rules_of r v).well_formed) id bytes

  heard_left : Left id bytes r s (heard id bytes r s)
  heard_left =
      by_test (length s <? room)
      (λ t.
      subst⁻¹ (Left id bytes r s) (heard_short id bytes r s (ltb-true (length s) room t)) (refuses (λ x. omega arith)))
      (λ t.
      let enough = ltb-false (length s) room t in
      by_test (keeps_rules r)
      (λ v.
      subst⁻¹ (Left id bytes r s) (heard_kept id bytes r s enough v)
      (meaning_left (meaning_of (names_of r) id bytes) refl (known_of v) v enough))
      (λ v. subst⁻¹ (Left id bytes r s) (heard_broken id bytes r s enough v) (refuses (λ x. omega arith))))

given_refused : {B : Type 0} {o : Outcome} {n : ℕ} → gives o ≡ refused n → B
given_refused e = let y : ◌≡◌ {A = ℕ} 0 1 = cc in absurd (omega arith)

refused_is : {m n : ℕ} → ◌≡◌ {A = Told Outcome} (refused m) (refused n) → m ≡ n
refused_is e = cc

pub refused_keeps : RefusedKeeps
refused_keeps id bytes state s r exit n h e k =
    let u = go (heard id bytes state s) (heard_left id bytes state s) (sym h.answer ∙ e) in
    (h.state ∙ u.0, h.storage_bytes ∙ u.1)
  where
    go : (a : After) → Left id bytes state s a → a.answer ≡ refused n → (a.receiver ≡ state) × (a.storage ≡ s)
    go a (refuses x) y = (refl, refl)
    go a passes y = given_refused y
    go a (enters m f enough b) y = given_refused y
    go a (closes m f o) y = absurd (k (sym (refused_is y)))
    go a (stores m f d o enough b) y = given_refused y

pub ten_closes : TenCloses
ten_closes id bytes state s r exit h e =
    let ten = sym h.answer ∙ ap told_answer e in
    go (heard id bytes state s) (heard_left id bytes state s) ten h.state h.storage_bytes
  where
    go : (a : After) → Left id bytes state s a → a.answer ≡ refused 10
        → r.receiver ≡ a.receiver → exit ≡ a.storage
        → (l : LaterFrame) × (i : ℕ) × (meaning_of (names_of state) id bytes ≡ gives (continues l))
        × OutOfTurn state i l.sequence l.number
        × ClosedAt state s r.receiver exit (pair_of l.sender l.dgn) i
    go a (refuses x) y p q = absurd (x (refused_is y))
    go a passes y p q = given_refused y
    go a (enters m f enough b) y p q = given_refused y
    go a (closes {l = l} {i = i} m f o) y p q = (l, i, m, o, record { held = f; closed = p; kept = q })
    go a (stores m f d o enough b) y p q = given_refused y

pub pause_refused_keeps : PauseRefusedKeeps
unfolding paused_state paused_answer
pause_refused_keeps ms state r n h e =
    by_test (keeps_rules state)
    (λ v.
    let z : gives (count (Receiver.closes ms) state.places) ≡ refused n = rw v at (sym h.answer ∙ e) in
    let y : ◌≡◌ {A = ℕ} 0 1 = cc in
    absurd (omega arith))
    (λ v. rw v at h.after)

-- the lowest number wins

begun_outside : (sender dgn sequence size : ℕ) → (size ≡ 0) ⊎ (longest < size)
    → begun sender dgn sequence size ≡ refused 7
unfolding begun
begun_outside sender dgn sequence size (inl e) = rw e
begun_outside sender dgn sequence size (inr h) = let l : 1 ≤ size = omega arith in search tests

carried_outside : (sender dgn : ℕ) (bytes : List ℕ) → frame_number_of (byte_at 0 bytes) ≡ 0
    → (byte_at 1 bytes ≡ 0) ⊎ (longest < byte_at 1 bytes) → carried sender dgn bytes ≡ refused 7
unfolding carried
carried_outside sender dgn bytes e h =
    rw (eq-eqb (frame_number_of (byte_at 0 bytes)) 0 e) (begun_outside sender dgn _ (byte_at 1 bytes) h)

pub lowest_wins : LowestWins
lowest_wins id bytes state s r exit h =
    let names = names_of state in
    record {
      storage_first = λ short. h.answer ∙ ap (λ (a : After). a.answer) (heard_short id bytes state s short);
      state_next = λ enough v.
          h.answer ∙ ap (λ (a : After). a.answer) (heard_broken id bytes state s enough v);
      frame_next = λ n enough v e. by_the_frame enough v (meaning_refused names id bytes n e);
      not_named = λ p enough v e n.
          by_the_frame enough v
          (meaning_given names id bytes p e ∙ meant_other names p.source p.dgn bytes n);
      length_next = λ p enough v e n z outside.
          by_the_frame enough v
          (meaning_given names id bytes p e ∙ meant_carried names p.source p.dgn bytes n
          ∙ carried_outside p.source p.dgn bytes z outside);
    }
  where
    by_the_frame : {m : Told Meaning} → room ≤ length s → keeps_rules state ≡ true
        → meaning_of (names_of state) id bytes ≡ m → told_answer r.answer ≡ (by_meaning m bytes state s).answer
    by_the_frame enough v e =
        h.answer
        ∙ ap (λ (a : After). a.answer)
        (heard_kept id bytes state s enough v ∙ ap (λ (t : Told Meaning). by_meaning t bytes state s) e)

-- a frame's own bytes lie within the storage, and it has as many as are needed of it

first_stretch : (s : List ℕ) (i size : ℕ) → i < place_count → room ≤ length s
    → longest * i + 0 + needed_first size ≤ length s
first_stretch s i size below enough = omega arith

first_holds : (bytes : List ℕ) (size : ℕ) → length bytes ≡ frame_bytes → needed_first size ≤ length (drop 2 bytes)
first_holds bytes size b = rw length-drop (omega arith)

stretch_holds : {names : List ℕ} (s : List ℕ) (i : ℕ) (p : Place) → i < place_count → room ≤ length s
    → OpenRules names p → longest * i + offset_of p.expected + needed p.length p.expected ≤ length s
stretch_holds s i p below enough o = omega (arith, o.within, o.short, o.begun)

frame_holds : (bytes : List ℕ) (p : Place) → length bytes ≡ frame_bytes
    → needed p.length p.expected ≤ length (drop 1 bytes)
frame_holds bytes p b = rw length-drop (omega arith)

pub writes_frame_zero : WritesFrameZero
writes_frame_zero id bytes state s r exit n i k eight enough v h m f own =
    let size = n.size in
    let p = new_place n.sender n.dgn n.sequence size in
    let kept = first_kept i p bytes s in
    let known = subst (Known (names_of state) id bytes) m (known_of id bytes state s v) in
    let below = place_for_below (pair_of n.sender n.dgn) state.places i eight f in
    let e = ap (λ (a : After). a.storage)
    (heard_kept id bytes state s enough v
    ∙ ap (λ (t : Told Meaning). by_meaning t bytes state s) m
    ∙ begins_at p bytes state s i f) in
    ap (λ (x : List ℕ). get_or x k 0) (h.storage_bytes ∙ e ∙ entered_storage i p state kept)
    ∙ copy_writes s (longest * i + 0) (drop 2 bytes) (needed_first size) k
    (first_stretch s i size below enough) (first_holds bytes size known.2) own.above own.below
    ∙ get_or-drop 2 bytes (k - (longest * i + 0)) 0

pub writes_the_frame : WritesTheFrame
writes_the_frame id bytes state s r exit sender dgn i k p eight enough v h q m f own =
    let pair = pair_of sender dgn in
    let at = longest * i + offset_of p.expected in
    let kept = kept_at i p bytes s in
    let known = subst (Known (names_of state) id bytes) m (known_of id bytes state s v) in
    let o = subst⁻¹ (OpenRules (names_of state)) q (rules_at pair i state v f) in
    let below = found_below (is_open_by pair) state.places i eight f in
    let e = ap (λ (a : After). a.storage)
    (heard_kept id bytes state s enough v
    ∙ ap (λ (t : Told Meaning). by_meaning t bytes state s) m
    ∙ continues_at pair p.sequence p.expected bytes state s i f
    ∙ ap (λ (x : Place). frame_at i x p.sequence p.expected bytes state s) (sym q)
    ∙ frame_expected i p state s p.sequence p.expected bytes refl refl) in
    ap (λ (x : List ℕ). get_or x k 0) (h.storage_bytes ∙ e ∙ advanced_storage i p state kept)
    ∙ copy_writes s at (drop 1 bytes) (needed p.length p.expected) k
    (stretch_holds s i p below enough o) (frame_holds bytes p known.2) own.above own.below
    ∙ get_or-drop 1 bytes (k - at) 0

pub writes_its_own : WritesItsOwn
writes_its_own id bytes state s r exit k eight h beside_first beside_later =
    ap (λ (x : List ℕ). get_or x k 0) h.storage_bytes ∙ go (heard id bytes state s) (heard_left id bytes state s)
  where
    go : (a : After) → Left id bytes state s a → get_or a.storage k 0 ≡ get_or s k 0
    go a (refuses x) = refl
    go a passes = refl
    go a (enters {n = n} {i = i} m f enough b) =
        let below = place_for_below (pair_of n.sender n.dgn) state.places i eight f in
        copy_keeps s (longest * i + 0) (drop 2 bytes) (needed_first n.size) k
        (first_stretch s i n.size below enough) (first_holds bytes n.size b)
        (λ x y. beside_first n i m f (record { above = x; below = y }))
    go a (closes m f o) = refl
    go a (stores {l = l} {i = i} m f d o enough b) =
        let p = get_or state.places i free_place in
        let below = found_below (is_open_by (pair_of l.sender l.dgn)) state.places i eight f in
        copy_keeps s (longest * i + offset_of p.expected) (drop 1 bytes) (needed p.length p.expected) k
        (stretch_holds s i p below enough o) (frame_holds bytes p b)
        (λ x y. beside_later l i m f
        (subst⁻¹ (λ (n : ℕ). ItsOwn i (offset_of n) (needed p.length n) k) d (record { above = x; below = y })))

pub not_beyond : NotBeyond
not_beyond size number i k one most own = omega (arith, own.below)

-- the splitter

module _ (size sequence number : ℕ) where
  refusal_twelve : greatest_sequence < sequence → refusal_in size sequence number ≡ 12
  unfolding refusal_in
  refusal_twelve q = search tests

  refusal_thirteen : sequence ≤ greatest_sequence → (size < 1) ⊎ (longest < size) → refusal_in size sequence number ≡ 13
  unfolding refusal_in
  refusal_thirteen q (inl h) = search tests
  refusal_thirteen q (inr h) = let l : 1 ≤ size = omega arith in search tests

  refusal_fifteen : sequence ≤ greatest_sequence → 1 ≤ size → size ≤ longest → last_frame size < number
      → refusal_in size sequence number ≡ 15
  unfolding refusal_in
  refusal_fifteen q l h n = search tests

  refusal_none : sequence ≤ greatest_sequence → 1 ≤ size → size ≤ longest → number ≤ last_frame size
      → refusal_in size sequence number ≡ 0
  unfolding refusal_in
  refusal_none q l h n = search tests

module _ (message : List ℕ) (sequence number : ℕ) where
  split_refused : refusal_in (length message) sequence number ≢ 0
      → frame_of message sequence number ≡ refused (refusal_in (length message) sequence number)
  unfolding frame_of
  split_refused n = rw (ne_eqb (refusal_in (length message) sequence number) 0 n)

pub splitter_splits : SplitterSplits
splitter_splits message sequence number r p =
    let size = length message in
    record {
      twelve = λ q. refuses_by (refusal_twelve size sequence number q) (λ z. omega arith);
      thirteen = λ q h. refuses_by (refusal_thirteen size sequence number q h) (λ z. omega arith);
      fifteen = λ q l h n. refuses_by (refusal_fifteen size sequence number q l h n) (λ z. omega arith);
      zeros = λ x.
          let n : refusal_in size sequence number ≢ 0 = λ z. x (answers_bytes (frame_given message sequence number z)) in
          p.bytes ∙ ap bytes_in (split_refused message sequence number n);
      given = λ q l h n.
          let g = frame_given message sequence number (refusal_none size sequence number q l h n) in
          (answers_bytes g, p.bytes ∙ ap bytes_in g);
    }
  where
    refuses_by : {n : ℕ} → refusal_in (length message) sequence number ≡ n → n ≢ 0 → splitting_number r.answer ≡ n
    refuses_by e z = p.number ∙ ap number_in (split_refused message sequence number (λ x. z (sym e ∙ x))) ∙ e

    answers_bytes : frame_of message sequence number ≡ gives (frame_bytes_of message sequence number)
        → r.answer ≡ Ok tt
    answers_bytes g = splitting_number_same r.answer (Ok tt) (p.number ∙ ap number_in g)
