-- `nodes::hear` meets its contract. Assumes nothing.
use mathlib.Core.Path.{sym, ap, ◌∙◌}
use Prim.Native.Nat.{ℕ}
use native.Mathlib.Omega.{arith}
use borrow.Author.Rules.{rules}
use borrow.Author.Tests.{ne_eqb, eq-eqb}
use mathlib.Core.List.{List, ◌++◌}
use lib.ListN.{take, drop}
use lib.Seq.{length-take-le}
use Rattle.words.specs.Words.{Told, gives}
use Rattle.frame.specs.Bytes.{number_of}
use Rattle.frame.specs.Promises.{told_verdict, bytes_if}
use Rattle.frame.specs.declared.Parts.{Parts}
use Rattle.nodes.specs.Table.{addresses, claimed_of}
use Rattle.nodes.specs.Call.{claim_outcome}
use Rattle.nodes.specs.declared.Node.{Node}
use Rattle.nodes.specs.declared.Claim.{Claim}
use Rattle.nodes.proofs.Call.{judged_sound, heard_claim, heard_other, left_claim, left_other, heard_sound}
use Rattle.nodes.proofs.Kept.{claimed_whole}
use Rattle.nodes.proofs.hear.Goals as goal

abbrev claim_of : ℕ → ℕ → Claim
claim_of source name = record { source = source; name = name }

pub returns-then-parts-ne-CLAIM : goal.returns-then-parts-ne-CLAIM
returns-then-parts-ne-CLAIM c =
    let a = c.args in
    let s = judged_sound a.table.now c.in_ok-judge.ensures in
    let v = sym c.check-checked.ensures.answer ∙ ap told_verdict c.in_ok-parts.was in
    let h = heard_sound a.table.now a.id a.bytes.now s.0 s.1 c.in_ok-parts.parts v in
    let d = ne_eqb _ _ c.if-parts-ne-CLAIM.true in
    record {
      answer = sym (h.0 ∙ ap gives (heard_other _ _ _ d));
      table_after = sym (h.1 ∙ left_other _ _ _ d);
    }

pub slice_bounds-effect-end-2 : goal.slice_bounds-effect-end-2
slice_bounds-effect-end-2 c = omega (arith, length-take-le addresses c.args.table.now (judged_sound _ c.in_ok-judge.ensures).0)

pub effect-effect-requires : goal.effect-effect-requires
effect-effect-requires c = length-take-le addresses c.args.table.now (judged_sound _ c.in_ok-judge.ensures).0

pub slice_bounds-claim_all-end-2 : goal.slice_bounds-claim_all-end-2
slice_bounds-claim_all-end-2 c = omega (arith, length-take-le addresses c.args.table.now (judged_sound _ c.in_ok-judge.ensures).0)

pub claim_all-requires : goal.claim_all-requires
claim_all-requires c = length-take-le addresses c.args.table.now (judged_sound _ c.in_ok-judge.ensures).0

pub returns : goal.returns
returns c =
    let a = c.args in
    let p = c.in_ok-parts.parts in
    let s = judged_sound a.table.now c.in_ok-judge.ensures in
    let v = sym c.check-checked.ensures.answer ∙ ap told_verdict c.in_ok-parts.was in
    let b = c.check-checked.ensures.data_bytes ∙ ap (λ (t : Told Parts). bytes_if t a.bytes.now) v in
    let n = c.number_of.ensures.answer ∙ ap number_of b in
    let h = heard_sound a.table.now a.id a.bytes.now s.0 s.1 p v in
    let d = eq-eqb _ _ c.if-parts-ne-CLAIM.false in
    let o = c.effect-effect.ensures
    ∙ ap (λ (m : ℕ). claim_outcome (take addresses a.table.now) (claim_of p.source m)) n in
    let w = ap (λ (ns : List Node). ns ++ drop addresses a.table.now) c.claim_all.ensures
    ∙ claimed_whole (claim_of p.source c.number_of.result) a.table.now in
    record {
      answer = (search rules) ∙ (ap gives o ∙ sym (h.0 ∙ ap gives (heard_claim _ _ _ d)));
      table_after = w ∙ ap (λ (m : ℕ). claimed_of (claim_of p.source m) a.table.now) n ∙ sym (h.1 ∙ left_claim _ _ _ d);
    }
