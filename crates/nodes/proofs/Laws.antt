-- The statements of specs/Laws.antt, proved.
-- Assumes nothing.
use Rattle.std.specs.Prelude.{Option, Some, None, Ok, Err, if◌then◌else◌}
use mathlib.Core.Path.{◌≡◌, refl, sym, ap, ◌∙◌}
use mathlib.Core.Bool.{Bool, true}
use mathlib.Core.List.{List}
use Prim.Native.Nat.{ℕ}
use native.Mathlib.Omega.{arith}
use lib.ListN.{length, take, drop}
use lib.Dec.{ltb}
use borrow.Author.Tests.{lt-ltb, le-ltb, eq-eqb, ne_eqb}
use Rattle.words.specs.Words.{given◌then◌, ◌=?◌, Told, refused, gives}
use Rattle.words.specs.Lists.{first}
use Rattle.frame.specs.Bytes.{number_of}
use Rattle.frame.specs.Frame.{checked_of}
use Rattle.frame.specs.Standard.{greatest_address, claim_dgn}
use Rattle.frame.specs.Laws.{told_but_priority}
use Rattle.frame.specs.declared.Parts.{Parts}
use Rattle.frame.specs.declared.BadFrame.TheVariants as Bad
use Rattle.words.proofs.Words.{refused_gives, gives_same, refused_same, told_same, by_test}
use Rattle.frame.proofs.Laws.{bad_back, bad_back_lem, priority_ignored as frame_priority}
use Rattle.nodes.specs.Table.{addresses, has_name, gives_way, may_challenge, claimed_at, claimed_of, paused_at}
use Rattle.nodes.specs.Table.{paused_of, each_from, keeps_rules, replaced_in}
use Rattle.nodes.specs.Call.{table_or, leaves, claim_in, Outcome, nothing_to_do, taken, challenges, held_by_lower}
use Rattle.nodes.specs.Call.{silent}
use Rattle.nodes.specs.Call.{source_record, claim_outcome, heard_by, left_by, table_after, table_paused}
use Rattle.nodes.specs.Call.{Holder, nobody, holder, holder_at, Rival, no_rival, rival, rival_at}
use Rattle.nodes.specs.Promises.{number_of_bad_table, number_of_not_heard, outcome_in, holder_in, rival_in}
use Rattle.nodes.specs.Laws.{NotHeardRefusalOnly, BadTableRefusalOnly}
use Rattle.nodes.specs.Laws.{HearingRefusalTold, PausingRefusalTold, LookedUpRefusalTold, FoundAddressRefusalTold}
use Rattle.nodes.specs.Laws.{FoundChallengerRefusalTold}
use Rattle.nodes.specs.Laws.{ToldHearingSame, ToldPausingSame, ToldLookedUpSame, ToldFoundAddressSame}
use Rattle.nodes.specs.Laws.{ToldFoundChallengerSame, EmptyOnly, HearOnly, PauseOnly, LookUpOnly, FindAddressOnly}
use Rattle.nodes.specs.Laws.{FindChallengerOnly, HearingRefusalOnly, PausingRefusalOnly, LookedUpRefusalOnly}
use Rattle.nodes.specs.Laws.{FoundAddressRefusalOnly, FoundChallengerRefusalOnly, HearRefusedKeeps}
use Rattle.nodes.specs.Laws.{PauseRefusedKeeps, HearNothingKeeps, LowestWins, PauseLowestWins, PriorityIgnored}
use Rattle.nodes.specs.Laws.{PastUntouched, PausePastUntouched, PastUnread, LengthKept, PauseLengthKept}
use Rattle.nodes.specs.Laws.{RulesRead, RulesKept, PauseRulesKept}
use Rattle.nodes.specs.declared.Node.{Node}
use Rattle.nodes.specs.declared.Claim.{Claim}
use Rattle.nodes.specs.declared.Effect.{Effect}
use Rattle.nodes.specs.declared.Challenger as Declared
use Rattle.nodes.specs.declared.BadTable.{BadTable}
use Rattle.nodes.specs.declared.NotHeard.{NotHeard}
use Rattle.nodes.proofs.Call.{heard_bad, heard_sound, heard_claim, heard_other, left_claim, pause_told_lem}
use Rattle.nodes.proofs.Call.{pause_left}
use Rattle.nodes.proofs.Call.{Went, stopped, ignored, claimed, went, Paused, kept, passed, paused}
use Rattle.nodes.proofs.Sound.{rules_of, of_rules}
use Rattle.nodes.proofs.Kept.{claimed_length, claimed_past, claimed_front, claimed_keeps, paused_length}
use Rattle.nodes.proofs.Kept.{paused_past, paused_front, paused_keeps}
pub use Rattle.nodes.proofs.Kept.{name_once, taken_by_lower}
pub use Rattle.nodes.proofs.Blank.{empty_keeps_rules, empty_has_nobody, empty_has_no_name}
pub use Rattle.nodes.proofs.Blank.{empty_has_no_challenger}
pub use Rattle.nodes.proofs.Find.{found_there, found_nowhere, found_shown}
pub use Rattle.nodes.proofs.Pass.{cleared_then_entered}
pub use Rattle.nodes.proofs.Sentences.{every_sentence, replaced_counts}
pub use Rattle.nodes.proofs.Shown.{taken_shown, challenges_shown, held_shown, taken_found}
pub use Rattle.nodes.proofs.Runs.{run_by_record, every_run_runs}
pub use Rattle.nodes.proofs.Challenge.{challenge_waits, challenge_takes, holder_leaves, takes_only_so}
pub use Rattle.nodes.proofs.Challenge.{challenge_entered, holder_stays}

-- an answer is read back from what it tells

bad_table_back : ℕ → BadTable
bad_table_back n = if n =? 1 then BadTable.TableTooShort else BadTable.BrokenState

bad_table_back_lem : (w : BadTable) → bad_table_back (number_of_bad_table w) ≡ w
unfolding bad_table_back
bad_table_back_lem BadTable.TableTooShort = refl
bad_table_back_lem BadTable.BrokenState = refl

bad_table_same : (v w : BadTable) → number_of_bad_table v ≡ number_of_bad_table w → v ≡ w
bad_table_same v w e = sym (bad_table_back_lem v) ∙ ap bad_table_back e ∙ bad_table_back_lem w

not_heard_back : ℕ → NotHeard
not_heard_back n =
    if n =? 1 then NotHeard.TableTooShort else
    if n =? 2 then NotHeard.BrokenState else
    NotHeard.BadFrame (bad_back n)

not_heard_back_lem : (w : NotHeard) → not_heard_back (number_of_not_heard w) ≡ w
unfolding not_heard_back
not_heard_back_lem NotHeard.TableTooShort = refl
not_heard_back_lem NotHeard.BrokenState = refl
not_heard_back_lem (NotHeard.BadFrame Bad.IdentifierTooLarge) = ap NotHeard.BadFrame (bad_back_lem Bad.IdentifierTooLarge)
not_heard_back_lem (NotHeard.BadFrame Bad.NotEightBytes) = ap NotHeard.BadFrame (bad_back_lem Bad.NotEightBytes)
not_heard_back_lem (NotHeard.BadFrame Bad.ReservedBitSet) = ap NotHeard.BadFrame (bad_back_lem Bad.ReservedBitSet)
not_heard_back_lem (NotHeard.BadFrame Bad.SourceNotAllowed) = ap NotHeard.BadFrame (bad_back_lem Bad.SourceNotAllowed)

effect_back : Outcome → Effect
effect_back nothing_to_do = Effect.NothingToDo
effect_back (taken address) = Effect.Taken address
effect_back (challenges address) = Effect.Challenges address
effect_back (held_by_lower address) = Effect.HeldByLower address
effect_back silent = Effect.Silent

effect_back_lem : (effect : Effect) → effect_back (outcome_in effect) ≡ effect
unfolding effect_back
effect_back_lem (Effect.Taken address) = refl
effect_back_lem (Effect.Challenges address) = refl
effect_back_lem (Effect.HeldByLower address) = refl
effect_back_lem Effect.Silent = refl
effect_back_lem Effect.NothingToDo = refl

holder_back : Holder → Option ℕ
holder_back nobody = None
holder_back (holder name) = Some name

holder_back_lem : (found : Option ℕ) → holder_back (holder_in found) ≡ found
unfolding holder_back
holder_back_lem (Some name) = refl
holder_back_lem None = refl

rival_back : Rival → Option Declared.Challenger
rival_back no_rival = None
rival_back (rival r) = Some (record { name = r.name; wait = r.wait })

rival_back_lem : (found : Option Declared.Challenger) → rival_back (rival_in found) ≡ found
unfolding rival_back
rival_back_lem (Some c) = refl
rival_back_lem None = refl

pub told_hearing_same : ToldHearingSame
told_hearing_same (Ok a) (Ok b) e =
    ap Ok (sym (effect_back_lem a) ∙ ap effect_back (gives_same e) ∙ effect_back_lem b)
told_hearing_same (Ok a) (Err w) e = refused_gives (sym e)
told_hearing_same (Err v) (Ok b) e = refused_gives e
told_hearing_same (Err v) (Err w) e =
    ap Err (sym (not_heard_back_lem v) ∙ ap not_heard_back (refused_same e) ∙ not_heard_back_lem w)

pub told_pausing_same : ToldPausingSame
told_pausing_same = told_same number_of_bad_table bad_table_same

pub told_looked_up_same : ToldLookedUpSame
told_looked_up_same (Ok a) (Ok b) e =
    ap Ok (sym (holder_back_lem a) ∙ ap holder_back (gives_same e) ∙ holder_back_lem b)
told_looked_up_same (Ok a) (Err w) e = refused_gives (sym e)
told_looked_up_same (Err v) (Ok b) e = refused_gives e
told_looked_up_same (Err v) (Err w) e = ap Err (bad_table_same v w (refused_same e))

pub told_found_address_same : ToldFoundAddressSame
told_found_address_same = told_same number_of_bad_table bad_table_same

pub told_found_challenger_same : ToldFoundChallengerSame
told_found_challenger_same (Ok a) (Ok b) e =
    ap Ok (sym (rival_back_lem a) ∙ ap rival_back (gives_same e) ∙ rival_back_lem b)
told_found_challenger_same (Ok a) (Err w) e = refused_gives (sym e)
told_found_challenger_same (Err v) (Ok b) e = refused_gives e
told_found_challenger_same (Err v) (Err w) e = ap Err (bad_table_same v w (refused_same e))

-- the number of a refusal, as an answer gives it, is that of the refusal which is told

pub hearing_refusal_told : HearingRefusalTold
hearing_refusal_told (Ok effect) = record { number = refl }
hearing_refusal_told (Err why) = record { number = refl }

pub pausing_refusal_told : PausingRefusalTold
pausing_refusal_told answer = record { number = refl }

pub looked_up_refusal_told : LookedUpRefusalTold
looked_up_refusal_told (Ok found) = record { number = refl }
looked_up_refusal_told (Err why) = record { number = refl }

pub found_address_refusal_told : FoundAddressRefusalTold
found_address_refusal_told answer = record { number = refl }

pub found_challenger_refusal_told : FoundChallengerRefusalTold
found_challenger_refusal_told (Ok found) = record { number = refl }
found_challenger_refusal_told (Err why) = record { number = refl }

-- no second answer

pub empty_only : EmptyOnly
empty_only r s p q = p.answer ∙ sym q.answer

pub hear_only : HearOnly
hear_only table id bytes r s after after' p q = (
  told_hearing_same r s (p.answer ∙ sym q.answer),
  p.table_after
      ∙ sym q.table_after,
)

pub pause_only : PauseOnly
pause_only table ms r s after after' p q =
    (told_pausing_same r s (p.answer ∙ sym q.answer), p.table_after ∙ sym q.table_after)

pub look_up_only : LookUpOnly
look_up_only table address r s p q = told_looked_up_same r s (p.answer ∙ sym q.answer)

pub find_address_only : FindAddressOnly
find_address_only table name r s p q = told_found_address_same r s (p.answer ∙ sym q.answer)

pub find_challenger_only : FindChallengerOnly
find_challenger_only table address r s p q = told_found_challenger_same r s (p.answer ∙ sym q.answer)

pub not_heard_refusal_only : NotHeardRefusalOnly
not_heard_refusal_only why r s p q = p.number ∙ sym q.number

pub hearing_refusal_only : HearingRefusalOnly
hearing_refusal_only answer r s p q = p.number ∙ sym q.number

pub bad_table_refusal_only : BadTableRefusalOnly
bad_table_refusal_only why r s p q = p.number ∙ sym q.number

pub pausing_refusal_only : PausingRefusalOnly
pausing_refusal_only answer r s p q = p.number ∙ sym q.number

pub looked_up_refusal_only : LookedUpRefusalOnly
looked_up_refusal_only answer r s p q = p.number ∙ sym q.number

pub found_address_refusal_only : FoundAddressRefusalOnly
found_address_refusal_only answer r s p q = p.number ∙ sym q.number

pub found_challenger_refusal_only : FoundChallengerRefusalOnly
found_challenger_refusal_only answer r s p q = p.number ∙ sym q.number

-- a claim comes to something

not_nothing : (records : List Node) (claim : Claim) → claim_outcome records claim ≡ nothing_to_do → ⊥
unfolding claim_outcome
not_nothing records claim e =
    by_test (ltb greatest_address claim.source) (λ t. let z : silent ≡ nothing_to_do = rw t at e in differ_silent z)
    (λ t. by_test (gives_way claim.name (source_record records claim))
    (λ g. let z : taken claim.source ≡ nothing_to_do = rw (t, g) at e in differ_taken z)
    (λ g. by_test (may_challenge claim.name (source_record records claim))
    (λ c. let z : challenges claim.source ≡ nothing_to_do = rw (t, g, c) at e in differ_challenges z)
    (λ c. let z : held_by_lower claim.source ≡ nothing_to_do = rw (t, g, c) at e in differ_held z)))
  where
    differ_silent : silent ≡ nothing_to_do → ⊥
    differ_silent d = let z : ◌≡◌ {A = ℕ} 0 1 = cc in omega arith

    differ_taken : {a : ℕ} → taken a ≡ nothing_to_do → ⊥
    differ_taken d = let z : ◌≡◌ {A = ℕ} 0 1 = cc in omega arith

    differ_challenges : {a : ℕ} → challenges a ≡ nothing_to_do → ⊥
    differ_challenges d = let z : ◌≡◌ {A = ℕ} 0 1 = cc in omega arith

    differ_held : {a : ℕ} → held_by_lower a ≡ nothing_to_do → ⊥
    differ_held d = let z : ◌≡◌ {A = ℕ} 0 1 = cc in omega arith

-- a refusal, and a frame that asks nothing, keep

pub hear_refused_keeps : HearRefusedKeeps
hear_refused_keeps table id bytes r after n p e = p.table_after ∙ by (went table id bytes)
  where
    by : Went table id bytes → table_after table id bytes ≡ table
    by (stopped m h l) = l
    by (ignored h l) = l
    by (claimed c k) = refused_gives (sym e ∙ p.answer ∙ k.answer)

pub hear_nothing_keeps : HearNothingKeeps
hear_nothing_keeps table id bytes after p = p.table_after ∙ by (went table id bytes)
  where
    by : Went table id bytes → table_after table id bytes ≡ table
    by (stopped m h l) = l
    by (ignored h l) = l
    by (claimed c k) = absurd (not_nothing (take addresses table) c (gives_same (sym k.answer ∙ sym p.answer)))

pub pause_refused_keeps : PauseRefusedKeeps
pause_refused_keeps table ms r after n p e = p.table_after ∙ by (paused table ms)
  where
    by : Paused table ms → table_paused table ms ≡ table
    by (kept m h l) = l
    by (passed h l) = refused_gives (sym e ∙ p.answer ∙ h)

-- the lowest number wins

pub lowest_wins : (table : List Node) (id : ℕ) (bytes : List ℕ) → LowestWins table id bytes
lowest_wins table id bytes =
    record {
      one = λ h. rw (lt-ltb _ _ h);
      two = λ h k. rw (le-ltb _ _ h, k);
      three_to_six = λ h k n e. (heard_bad table id bytes h k n e).0;
      nothing = λ h k p e d.
          (heard_sound table id bytes h k p e).0 ∙ ap gives (heard_other p bytes (take addresses table) (ne_eqb _ _ d));
      claim = λ h k p e d.
          let s = heard_sound table id bytes h k p e in (
            s.0 ∙ ap gives (heard_claim p bytes (take addresses table) (eq-eqb _ _ d)),
            s.1 ∙ left_claim p bytes table (eq-eqb _ _ d),
          );
    }

pub pause_lowest_wins : (table : List Node) (ms : ℕ) → PauseLowestWins table ms
pause_lowest_wins table ms =
    record {
      one = λ h. rw (lt-ltb _ _ h);
      two = λ h k. rw (le-ltb _ _ h, k);
      passes = λ h k. (pause_told_lem table ms h k, pause_left table ms h k);
    }

-- priority is ignored: what is told goes by the DGN and the source alone

same_told : {X : Type 0} (g : ℕ → ℕ → X) (t u : Told Parts) → told_but_priority t ≡ told_but_priority u
    → (given t then λ p. gives (g p.dgn p.source)) ≡ (given u then λ p. gives (g p.dgn p.source))
same_told g (refused m) (refused n) e = cc
same_told g (refused m) (gives p) e = refused_gives e
same_told g (gives p) (refused n) e = refused_gives (sym e)
same_told g (gives p) (gives p') e =
    let d : p.dgn ≡ p'.dgn = ap (λ (x : ℕ × ℕ). x.0) (gives_same e) in
    let s : p.source ≡ p'.source = ap (λ (x : ℕ × ℕ). x.1) (gives_same e) in
    rw (d, s)

pub priority_ignored : PriorityIgnored
unfolding heard_by left_by
priority_ignored table id id' bytes h h' e =
    let q = frame_priority id id' (length bytes) h h' e in
    let t = checked_of id (length bytes) in
    let u = checked_of id' (length bytes) in (
      ap (table_or table) (same_told (λ dgn source. if dgn =? claim_dgn then claim_outcome (take addresses table)
          (record { source = source; name = number_of bytes }) else nothing_to_do) t u q),
      ap (λ (x : Told (List Node)). leaves table (table_or table x)) (same_told (λ dgn source. if dgn =? claim_dgn then
          claimed_of (record { source = source; name = number_of bytes }) table else table) t u q),
    )

-- past record 253

pub past_untouched : PastUntouched
past_untouched table id bytes = by (went table id bytes)
  where
    by : Went table id bytes → drop addresses (table_after table id bytes) ≡ drop addresses table
    by (stopped n h l) = ap (drop addresses) l
    by (ignored h l) = ap (drop addresses) l
    by (claimed c k) = ap (drop addresses) k.after ∙ claimed_past c table

pub pause_past_untouched : PausePastUntouched
pause_past_untouched table ms = by (paused table ms)
  where
    by : Paused table ms → drop addresses (table_paused table ms) ≡ drop addresses table
    by (kept n h l) = ap (drop addresses) l
    by (passed h l) = ap (drop addresses) l ∙ paused_past ms table

-- what is left of tables that have the same records of the addresses

abbrev Front : List Node → List Node → Type 0
Front table other = take addresses table ≡ take addresses other

claimed_alike : (c : Claim) (table other : List Node) → Front table other
    → Front (claimed_of c table) (claimed_of c other)
claimed_alike c table other e =
    claimed_front c table ∙ ap (each_from (claimed_at c) addresses 0) e ∙ sym (claimed_front c other)

paused_alike : (ms : ℕ) (table other : List Node) → Front table other → Front (paused_of ms table) (paused_of ms other)
paused_alike ms table other e =
    paused_front ms table ∙ ap (each_from (λ a. paused_at ms) addresses 0) e ∙ sym (paused_front ms other)

frame_alike : (bytes : List ℕ) (table other : List Node) → Front table other → (t : Told Parts)
    → Front (leaves table (given t then λ p. gives (left_by p bytes table)))
    (leaves other (given t then λ p. gives (left_by p bytes other)))
unfolding left_by
frame_alike bytes table other e (refused n) = e
frame_alike bytes table other e (gives p) =
    by_test (p.dgn =? claim_dgn)
    (λ d. rw d (claimed_alike (claim_in p bytes) table other e))
    (λ d. rw d e)

table_alike : (table other : List Node) → length table ≡ length other → Front table other
    → (t u : Told (List Node)) → Front (leaves table t) (leaves other u)
    → Front (leaves table (table_or table t)) (leaves other (table_or other u))
table_alike table other l e t u f =
    rw (l, e)
    (by_test (ltb (length other) addresses)
    (λ s. rw s e)
    (λ s. by_test (keeps_rules (take addresses other))
    (λ k. rw (s, k) f)
    (λ k. rw (s, k) e)))

-- and what is told of them
told_alike : {A : Type 0} (table other : List Node) → length table ≡ length other → Front table other
    → (told : List Node → Told A)
    → table_or table (told (take addresses table)) ≡ table_or other (told (take addresses other))
told_alike table other l e told = rw (l, e)

pub past_unread : PastUnread
past_unread table other id bytes l e =
    record {
      heard = told_alike table other l e
          (λ records. given checked_of id (length bytes) then λ p. gives (heard_by p bytes records));
      left = table_alike table other l e _ _ (frame_alike bytes table other e (checked_of id (length bytes)));
      looked_up = λ address r p.
          record { answer = p.answer ∙ told_alike table other l e (λ records. gives (holder_at address records)) };
      found = λ name r p.
          record { answer = p.answer ∙ told_alike table other l e (λ records. gives (first (has_name name) records)) };
      challenger = λ address r p.
          record { answer = p.answer ∙ told_alike table other l e (λ records. gives (rival_at address records)) };
      paused = λ ms. told_alike table other l e (λ records. gives (replaced_in ms records));
      left_paused = λ ms.
          table_alike table other l e (gives (paused_of ms table)) (gives (paused_of ms other))
          (paused_alike ms table other e);
    }

pub length_kept : LengthKept
length_kept table id bytes = by (went table id bytes)
  where
    by : Went table id bytes → length (table_after table id bytes) ≡ length table
    by (stopped n h l) = ap length l
    by (ignored h l) = ap length l
    by (claimed c k) = ap length k.after ∙ claimed_length c table

pub pause_length_kept : PauseLengthKept
pause_length_kept table ms = by (paused table ms)
  where
    by : Paused table ms → length (table_paused table ms) ≡ length table
    by (kept n h l) = ap length l
    by (passed h l) = ap length l ∙ paused_length ms table

-- the rules

pub rules_read : RulesRead
rules_read records = (rules_of records, of_rules records)

abbrev keeps_front : List Node → Bool
keeps_front table = keeps_rules (take addresses table)

pub rules_kept : RulesKept
rules_kept table id bytes e = by (went table id bytes)
  where
    by : Went table id bytes → keeps_front (table_after table id bytes) ≡ true
    by (stopped n h l) = ap keeps_front l ∙ e
    by (ignored h l) = ap keeps_front l ∙ e
    by (claimed c k) = ap keeps_front k.after ∙ claimed_keeps c table e

pub pause_rules_kept : PauseRulesKept
pause_rules_kept table ms e = by (paused table ms)
  where
    by : Paused table ms → keeps_front (table_paused table ms) ≡ true
    by (kept n h l) = ap keeps_front l ∙ e
    by (passed h l) = ap keeps_front l ∙ paused_keeps ms table e
