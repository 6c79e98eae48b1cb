-- Runs of calls: what each call makes of each record, from one call to every run.
-- Assumes nothing.
use Rattle.std.specs.Prelude.{Ok, Err}
use mathlib.Core.Path.{◌≡◌, refl, sym, ap, ◌∙◌, subst}
use mathlib.Core.Bool.{not}
use mathlib.Core.List.{List, [], ◌∷◌, map}
use Prim.Native.Nat.{ℕ, ◌<◌, ◌≤◌}
use native.Mathlib.Omega.{arith}
use lib.ListN.{length, get_or, take, drop}
use lib.Dec.{leb, eqb}
use Rattle.words.specs.Words.{◌=?◌, Told, refused, gives}
use Rattle.frame.specs.Identifier.{reserved_of, source_of, dgn_of, identifiers}
use Rattle.frame.specs.Frame.{frame_bytes, source_allowed, checked_of}
use Rattle.frame.specs.Standard.{claim_dgn}
use Rattle.frame.specs.Promises.{refusal_of}
use Rattle.frame.specs.declared.Parts.{Parts}
use Rattle.frame.specs.declared.BadFrame.{BadFrame}
use Rattle.frame.specs.declared.BadFrame.TheVariants as Bad
use Rattle.words.proofs.Words.{refused_gives, refused_same, by_test}
use Rattle.nodes.specs.Table.{addresses, absent, claimed_of, paused_of, replaced_in}
use Rattle.nodes.specs.Call.{claim_in, claim_outcome, heard_by, left_by, heard_of, table_after, table_paused}
use Rattle.nodes.specs.Promises.{Hearing}
use Rattle.nodes.specs.Promises.{told_hearing}
use Rattle.nodes.specs.Runs.{Call, hearing, pausing, Leads, no_call, a_call, Said, nothing, claims, pauses}
use Rattle.nodes.specs.Runs.{said_of}
use Rattle.nodes.specs.Runs.{said_in, said_by, record_after, record_after_all, Sound, RunByRecord, EveryRunRuns}
use Rattle.nodes.specs.declared.Effect.{Effect}
use Rattle.nodes.specs.declared.NotHeard.{NotHeard}
use Rattle.nodes.specs.declared.Node.{Node}
use Rattle.nodes.specs.declared.Claim.{Claim}
use Rattle.nodes.proofs.Call.{heard_bad, heard_sound, heard_claim, heard_other, pause_told_lem, pause_left}
use Rattle.nodes.proofs.Kept.{claimed_length, claimed_past, claimed_keeps, claimed_at_lem, paused_length}
use Rattle.nodes.proofs.Kept.{paused_past, paused_keeps, paused_at_lem}
use Rattle.nodes.proofs.Shown.{Came, was_silent, was_taken, was_challenge, was_held, came}

-- ---- one call

-- what one saying leaves of a table that is not refused
pub record Left (table : List Node) (s : Said) (after : List Node) : Type 0 where
  pub kept : Sound after
  pub records : (a : ℕ) → a < addresses → get_or after a absent ≡ record_after s a (get_or table a absent)
  pub past : drop addresses after ≡ drop addresses table

abbrev table_by : Said → List Node → List Node
table_by nothing table = table
table_by (claims c) table = claimed_of c table
table_by (pauses ms) table = paused_of ms table

-- what a frame leaves is what it says
frame_said : (p : Parts) (bytes : List ℕ) (table : List Node) → left_by p bytes table ≡ table_by (said_of p bytes) table
unfolding left_by said_of
frame_said p bytes table =
    by_test (p.dgn =? claim_dgn)
    (λ d. rw d)
    (λ d. rw d)

module _ (table : List Node) (sound : Sound table) where
  said_left : (s : Said) → Left table s (table_by s table)
  said_left nothing = record { kept = sound; records = λ a l. refl; past = refl }
  said_left (claims c) =
      let l : addresses ≤ length (claimed_of c table) = omega (arith, claimed_length c table, sound.enough) in
      record {
        kept = record { enough = l; rules = claimed_keeps c table sound.rules };
        records = λ a h. claimed_at_lem c table sound.enough a h;
        past = claimed_past c table;
      }
  said_left (pauses ms) =
      let l : addresses ≤ length (paused_of ms table) = omega (arith, paused_length ms table, sound.enough) in
      record {
        kept = record { enough = l; rules = paused_keeps ms table sound.rules };
        records = λ a h. paused_at_lem ms table sound.enough a h;
        past = paused_past ms table;
      }

  -- a frame that is refused leaves what nothing leaves
  module _ (id : ℕ) (bytes : List ℕ) where
    heard_left : (t : Told Parts) → checked_of id (length bytes) ≡ t
        → Left table (said_in t bytes) (table_after table id bytes)
    heard_left (refused n) e =
        let k = (heard_bad table id bytes sound.enough sound.rules n e).1 in
        subst (Left table nothing) (sym k) (said_left nothing)
    heard_left (gives p) e =
        let k = (heard_sound table id bytes sound.enough sound.rules p e).1 ∙ frame_said p bytes table in
        subst (Left table (said_of p bytes)) (sym k) (said_left (said_of p bytes))

  paused_left : (ms : ℕ) → Left table (pauses ms) (table_paused table ms)
  paused_left ms =
      let k = pause_left table ms sound.enough sound.rules in
      subst (Left table (pauses ms)) (sym k) (said_left (pauses ms))

  pub leads_left : (call : Call) (after : List Node) → Leads table call after → Left table (said_by call) after
  leads_left (hearing id bytes) after h =
      subst (Left table (said_by (hearing id bytes))) (sym h.1.table_after)
      (heard_left id bytes (checked_of id (length bytes)) refl)
  leads_left (pausing ms) after h = subst (Left table (pauses ms)) (sym h.1.table_after) (paused_left ms)

-- ---- every run

pub run_by_record : RunByRecord
run_by_record table end [] s (no_call t) = record { sound = s; records = λ a l. refl; past = refl }
run_by_record table end (c ∷ cs) s (a_call t u e call calls h r) =
    let k = leads_left table s c u h in
    let o = run_by_record u end cs k.kept r in
    record {
      sound = o.sound;
      records = λ a l. o.records a l ∙ ap (record_after_all (map said_by cs) a) (k.records a l);
      past = o.past ∙ k.past;
    }

-- ---- each call has an answer

bad_of : (id size n : ℕ) → checked_of id size ≡ refused n → (w : BadFrame) × (refusal_of w ≡ n)
unfolding checked_of
bad_of id size n e =
    by_test (leb identifiers id) (λ t. (Bad.IdentifierTooLarge, refused_same (rw t at e)))
    (λ t. by_test (not (eqb size frame_bytes)) (λ u. (Bad.NotEightBytes, refused_same (rw (t, u) at e)))
    (λ u. by_test (eqb (reserved_of id) 1) (λ v. (Bad.ReservedBitSet, refused_same (rw (t, u, v) at e)))
    (λ v. by_test (source_allowed (source_of id) (dgn_of id)) (λ w. refused_gives (sym (rw (t, u, v, w) at e)))
    (λ w. (Bad.SourceNotAllowed, refused_same (rw (t, u, v, w) at e))))))

outcome_told : (records : List Node) (c : Claim) → Came records c
    → (r : Hearing) × (told_hearing r ≡ gives (claim_outcome records c))
outcome_told records c (was_silent h o) = (Ok Effect.Silent, ap gives (sym o))
outcome_told records c (was_taken h g o) = (Ok (Effect.Taken c.source), ap gives (sym o))
outcome_told records c (was_challenge h g m o) = (Ok (Effect.Challenges c.source), ap gives (sym o))
outcome_told records c (was_held h g m o) = (Ok (Effect.HeldByLower c.source), ap gives (sym o))

module _ (table : List Node) (s : Sound table) where
  abbrev records : List Node
  records = take addresses table

  claim_or_not : (p : Parts) (bytes : List ℕ) → (r : Hearing) × (told_hearing r ≡ gives (heard_by p bytes records))
  claim_or_not p bytes =
      by_test (p.dgn =? claim_dgn)
      (λ d. let o = outcome_told records (claim_in p bytes) (came records (claim_in p bytes)) in
      (o.0, o.1 ∙ sym (ap gives (heard_claim p bytes records d))))
      (λ d. (Ok Effect.NothingToDo, sym (ap gives (heard_other p bytes records d))))

  heard_some : (id : ℕ) (bytes : List ℕ) (t : Told Parts) → checked_of id (length bytes) ≡ t
      → (r : Hearing) × (told_hearing r ≡ heard_of table id bytes)
  heard_some id bytes (refused n) e =
      let b = bad_of id (length bytes) n e in (
        Err (NotHeard.BadFrame b.0),
        ap refused b.1
            ∙ sym (heard_bad table id bytes s.enough s.rules n e).0,
      )
  heard_some id bytes (gives p) e =
      let o = claim_or_not p bytes in
      (o.0, o.1 ∙ sym (heard_sound table id bytes s.enough s.rules p e).0)

  leads_some : (call : Call) → (after : List Node) × Leads table call after
  leads_some (hearing id bytes) =
      let o = heard_some id bytes (checked_of id (length bytes)) refl in
      (table_after table id bytes, (o.0, record { answer = o.1; table_after = refl }))
  leads_some (pausing ms) =
      let k = pause_told_lem table ms s.enough s.rules in
      (table_paused table ms, (Ok (replaced_in ms records), record { answer = sym k; table_after = refl }))

pub every_run_runs : EveryRunRuns
every_run_runs table [] s = (table, no_call table)
every_run_runs table (c ∷ cs) s =
    let o = leads_some table s c in
    let k = leads_left table s c o.0 o.1 in
    let r = every_run_runs o.0 cs k.kept in
    (r.0, a_call table o.0 r.0 c cs o.1 r.1)
