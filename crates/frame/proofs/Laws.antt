-- The statements of specs/Laws.antt, proved.
-- Assumes nothing.
use Rattle.std.specs.Prelude.{if◌then◌else◌}
use mathlib.Core.Path.{◌≡◌, refl, sym, ap, ◌∙◌}
use mathlib.Core.Bool.{Bool, true, false, not}
use Prim.Native.Nat.{ℕ, ◌+◌, ◌*◌, ◌/◌, ◌^◌, ◌≤◌, ◌<◌}
use native.Mathlib.Omega.{arith}
use borrow.Author.Tests.{eq-eqb, ne_eqb, le-ltb, le-leb, lt-leb, ltb-false, leb-false, eqb-false}
use lib.ListN.{length}
use lib.Pow.{shr-shr}
use Rattle.words.specs.Words.{◌≤?◌, ◌<?◌, ◌=?◌, Told, refused, gives}
use Rattle.frame.specs.Identifier.{priority_of, reserved_of, dgn_of, source_of, parts_of, identifier_of, identifiers}
use Rattle.frame.specs.Identifier.{greatest_dgn, lowest_priority}
use Rattle.frame.specs.Frame.{frame_bytes, source_allowed, apart_of, formed_of, checked_of}
use Rattle.frame.specs.Promises.{number_of_bad_identifier, number_of_not_formed, told_verdict}
use Rattle.frame.specs.Promises.{refusal_of, bytes_if}
use Rattle.frame.specs.Laws.{ToldApartSame, ToldFormedSame, ToldVerdictSame, TakeApartOnly, FormOnly, CheckOnly}
use Rattle.frame.specs.Laws.{DestinationOfOnly, CatalogueFormOnly, NumberOfOnly, BytesOfOnly, DgnBytesOnly}
use Rattle.frame.specs.Laws.{DgnOfOnly, ApartRefusalOnly, FormedRefusalOnly, BadFrameRefusalOnly}
use Rattle.frame.specs.Laws.{BadIdentifierRefusalOnly, NotFormedRefusalOnly}
use Rattle.frame.specs.Laws.{VerdictRefusalOnly, DgnBack, NoFrameRefused, RefusedKeeps, PartsBack, IdentifierBack}
use Rattle.frame.specs.Laws.{LowestWins, RefusedForReason, told_but_priority, PriorityIgnored, NumberBack}
use Rattle.frame.specs.Laws.{BytesBack, ExampleOne}
use Rattle.frame.specs.declared.Parts.{Parts}
use Rattle.words.proofs.Words.{told_same}
use Rattle.frame.specs.declared.BadIdentifier.{BadIdentifier}
use Rattle.frame.specs.declared.NotFormed.TheVariants.{NoCode}
use Rattle.frame.specs.declared.BadFrame.{BadFrame}
use Rattle.frame.specs.declared.BadFrame.TheVariants.{IdentifierTooLarge, NotEightBytes, ReservedBitSet}
use Rattle.frame.specs.declared.BadFrame.TheVariants.{SourceNotAllowed}
use Rattle.words.proofs.Words.{by_test, past_refusal, gives_same, refused_same, refused_gives}
use Rattle.frame.proofs.Bytes.{number_of_bytes, bytes_of_number}
use Rattle.frame.specs.Laws.{ApartRefusalTold, FormedRefusalTold, BadFrameRefusalTold, VerdictRefusalTold}
use Rattle.std.specs.Prelude.{Ok, Err}

-- an answer is read back from what it tells

bad_identifier_back : ℕ → BadIdentifier
bad_identifier_back n = if n =? 3 then BadIdentifier.IdentifierTooLarge else BadIdentifier.ReservedBitSet

bad_identifier_back_lem : (w : BadIdentifier) → bad_identifier_back (number_of_bad_identifier w) ≡ w
unfolding bad_identifier_back
bad_identifier_back_lem BadIdentifier.IdentifierTooLarge = refl
bad_identifier_back_lem BadIdentifier.ReservedBitSet = refl

bad_identifier_same : (v w : BadIdentifier) → number_of_bad_identifier v ≡ number_of_bad_identifier w → v ≡ w
bad_identifier_same v w e = sym (bad_identifier_back_lem v) ∙ ap bad_identifier_back e ∙ bad_identifier_back_lem w

pub told_apart_same : ToldApartSame
told_apart_same = told_same number_of_bad_identifier bad_identifier_same

pub told_formed_same : ToldFormedSame
told_formed_same = told_same number_of_not_formed (elim [ NoCode ↦ elim [ NoCode ↦ λ e. refl ] ])

pub bad_back : ℕ → BadFrame
bad_back n = if n =? 3 then IdentifierTooLarge else if n =? 4 then NotEightBytes else if n =? 5 then ReservedBitSet else SourceNotAllowed

-- which of 3 to 6 it is, from the number
pub bad_back_lem : (w : BadFrame) → bad_back (refusal_of w) ≡ w
unfolding bad_back
bad_back_lem IdentifierTooLarge = refl
bad_back_lem NotEightBytes = refl
bad_back_lem ReservedBitSet = refl
bad_back_lem SourceNotAllowed = refl

-- no two of them have one number
pub bad_frame_same : (v w : BadFrame) → refusal_of v ≡ refusal_of w → v ≡ w
bad_frame_same v w e = sym (bad_back_lem v) ∙ ap bad_back e ∙ bad_back_lem w

pub told_verdict_same : ToldVerdictSame
told_verdict_same = told_same refusal_of bad_frame_same

-- no second answer

pub take_apart_only : TakeApartOnly
take_apart_only id r s p q = told_apart_same r s (p.answer ∙ sym q.answer)

pub form_only : FormOnly
form_only priority dgn source r s p q = told_formed_same r s (p.answer ∙ sym q.answer)

pub check_only : CheckOnly
check_only id bytes r s p q =
    let v = told_verdict_same r.verdict s.verdict (p.answer ∙ sym q.answer) in
    let b = p.data_bytes ∙ sym q.data_bytes in
    λ i. record { verdict = v i; bytes = b i }

pub destination_of_only : DestinationOfOnly
destination_of_only dgn r s p q = p.answer ∙ sym q.answer

pub catalogue_form_only : CatalogueFormOnly
catalogue_form_only dgn r s p q = p.answer ∙ sym q.answer

pub number_of_only : NumberOfOnly
number_of_only bytes r s p q = p.answer ∙ sym q.answer

pub bytes_of_only : BytesOfOnly
bytes_of_only number r s p q = p.answer ∙ sym q.answer

pub dgn_bytes_only : DgnBytesOnly
dgn_bytes_only dgn r s p q = p.answer ∙ sym q.answer

pub dgn_of_only : DgnOfOnly
dgn_of_only low middle high r s p q = p.answer ∙ sym q.answer

pub bad_identifier_refusal_only : BadIdentifierRefusalOnly
bad_identifier_refusal_only why r s p q = p.number ∙ sym q.number

pub apart_refusal_only : ApartRefusalOnly
apart_refusal_only answer r s p q = p.number ∙ sym q.number

pub apart_refusal_told : ApartRefusalTold
apart_refusal_told (Ok value) = record { number = refl }
apart_refusal_told (Err why) = record { number = refl }

pub not_formed_refusal_only : NotFormedRefusalOnly
not_formed_refusal_only why r s p q = p.number ∙ sym q.number

pub formed_refusal_only : FormedRefusalOnly
formed_refusal_only answer r s p q = p.number ∙ sym q.number

pub formed_refusal_told : FormedRefusalTold
formed_refusal_told (Ok value) = record { number = refl }
formed_refusal_told (Err why) = record { number = refl }

pub bad_frame_refusal_only : BadFrameRefusalOnly
bad_frame_refusal_only why r s p q = p.number ∙ sym q.number

pub bad_frame_refusal_told : BadFrameRefusalTold
bad_frame_refusal_told why = record { number = refl }

pub verdict_refusal_only : VerdictRefusalOnly
verdict_refusal_only answer r s p q = p.number ∙ sym q.number

pub verdict_refusal_told : VerdictRefusalTold
verdict_refusal_told (Ok value) = record { number = refl }
verdict_refusal_told (Err why) = record { number = refl }

pub refused_keeps : RefusedKeeps
refused_keeps id bytes r why p e =
    let t : checked_of id (length bytes) ≡ refused (refusal_of why) = sym p.answer ∙ ap told_verdict e in
    p.data_bytes ∙ ap (λ (t : Told Parts). bytes_if t bytes) t

-- the parts and the identifier

apart_sound : (id : ℕ) → id < identifiers → reserved_of id ≡ 0 → apart_of id ≡ gives (parts_of id)
unfolding apart_of
apart_sound id h r = rw (lt-leb _ _ h, r)

pub parts_back : PartsBack
unfolding formed_of identifier_of apart_of priority_of reserved_of dgn_of source_of
parts_back priority dgn source id small e =
    let r₁ = past_refusal (lowest_priority <? priority) 12 _ e in
    let r₂ = past_refusal (greatest_dgn <? dgn) 12 _ r₁.1 in
    let p : priority ≤ 7 = ltb-false _ _ r₁.0 in
    let d : dgn ≤ 0x1FFFF = ltb-false _ _ r₂.0 in
    let i : priority * 67108864 + dgn * 256 + source ≡ id = gives_same r₂.1 in
    let h : id < identifiers = omega arith in
    let r : reserved_of id ≡ 0 = omega arith in
    let e₁ : priority_of id ≡ priority = omega arith in
    let e₂ : dgn_of id ≡ dgn = omega arith in
    let e₃ : source_of id ≡ source = omega arith in
    apart_sound id h r ∙ (λ j. gives (record { priority = e₁ j; dgn = e₂ j; source = e₃ j }))

pub identifier_back : IdentifierBack
unfolding formed_of identifier_of apart_of priority_of reserved_of dgn_of source_of
identifier_back id p e =
    let r₃ = past_refusal (identifiers ≤? id) 3 _ e in
    let r₅ = past_refusal (reserved_of id =? 1) 5 _ r₃.1 in
    let h : id < identifiers = leb-false _ _ r₃.0 in
    let n = eqb-false (reserved_of id) 1 r₅.0 in
    let s₁ : id / 2 ^ 8 / 2 ^ 17 ≡ id / 2 ^ 25 = shr-shr id 8 17 in
    let s₂ : id / 2 ^ 25 / 2 ≡ id / 2 ^ 26 = shr-shr id 25 1 in
    let q : id / 2 ^ 26 < 8 = omega arith in
    let z : id / 2 ^ 25 ≡ id / 2 ^ 26 * 2 = omega (arith, n) in
    let i : identifier_of (priority_of id) (dgn_of id) (source_of id) ≡ id = omega arith in
    let h₁ : priority_of id ≤ lowest_priority = omega arith in
    let h₂ : dgn_of id ≤ greatest_dgn = omega arith in
    rw (← gives_same r₅.1) (rw (le-ltb _ _ h₁, le-ltb _ _ h₂, i))

pub lowest_wins : (id size : ℕ) → LowestWins id size
unfolding checked_of
lowest_wins id size =
    record {
      three = λ h. rw (le-leb _ _ h);
      four = λ h n. rw (lt-leb _ _ h, ne_eqb _ _ n);
      five = λ h s r. rw (lt-leb _ _ h, eq-eqb _ _ s, eq-eqb _ _ r);
      six = λ h s r a. rw (lt-leb _ _ h, eq-eqb _ _ s, r, a);
      sound = λ h s r a. rw (lt-leb _ _ h, eq-eqb _ _ s, r, a);
    }

pub refused_for_reason : RefusedForReason
unfolding checked_of
refused_for_reason id size n e =
    by_test (identifiers ≤? id) (λ t. (IdentifierTooLarge, refused_same (rw t at e)))
    (λ t. by_test (not (size =? frame_bytes)) (λ u. (NotEightBytes, refused_same (rw (t, u) at e)))
    (λ u. by_test (reserved_of id =? 1) (λ v. (ReservedBitSet, refused_same (rw (t, u, v) at e)))
    (λ v. by_test (source_allowed (source_of id) (dgn_of id)) (λ w. refused_gives (sym (rw (t, u, v, w) at e)))
    (λ w. (SourceNotAllowed, refused_same (rw (t, u, v, w) at e))))))

checked_below : (id size : ℕ) → id < identifiers
    → told_but_priority (checked_of id size)
    ≡ (if not (size =? frame_bytes) then refused 4 else if reserved_of id =? 1 then refused 5 else
    if source_allowed (source_of id) (dgn_of id) then gives (dgn_of id, source_of id) else refused 6)
unfolding checked_of
checked_below id size h = rw (lt-leb _ _ h) (told_ifs (size =? frame_bytes) (reserved_of id =? 1) (source_allowed (source_of id) (dgn_of id)))
  where
    told_ifs : (a b c : Bool)
        → told_but_priority (if not a then refused 4 else if b then refused 5 else if c then gives (parts_of id) else refused 6)
        ≡ (if not a then refused 4 else if b then refused 5 else if c then gives (dgn_of id, source_of id) else refused 6)
    told_ifs false b c = refl
    told_ifs true true c = refl
    told_ifs true false true = refl
    told_ifs true false false = refl

pub priority_ignored : PriorityIgnored
unfolding priority_of reserved_of dgn_of source_of
priority_ignored id id' size h h' e =
    let e₁ : reserved_of id ≡ reserved_of id' = omega arith in
    let e₂ : dgn_of id ≡ dgn_of id' = omega arith in
    let e₃ : source_of id ≡ source_of id' = omega arith in
    checked_below id size h ∙ rw (e₁, e₂, e₃) (sym (checked_below id' size h'))

pub number_back : NumberBack
number_back = number_of_bytes

pub bytes_back : BytesBack
bytes_back = bytes_of_number

pub dgn_back : DgnBack
dgn_back dgn h = number_of_bytes 3 dgn (omega arith)

pub no_frame_refused : NoFrameRefused
unfolding checked_of
no_frame_refused = refl

pub example_one : ExampleOne
unfolding formed_of identifier_of
example_one = refl
