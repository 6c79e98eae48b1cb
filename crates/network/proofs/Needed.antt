-- What the laws need, each shown by a network of two nodes in which it is missing.
-- Assumes nothing.
use mathlib.Core.Path.{◌≡◌, refl, sym, ap, ◌∙◌}
use mathlib.Core.List.{List, [], ◌∷◌, ◌++◌, map}
use mathlib.Core.Logic.{◌⊎◌, inl, inr}
use Prim.Native.Nat.{ℕ, zero, suc, ◌<◌, ◌^◌}
use native.Mathlib.Omega.{arith}
use lib.ListN.{get_or, take, drop}
use Rattle.words.specs.Words.{gives}
use Rattle.words.proofs.Words.{gives_same}
use Rattle.frame.specs.Bytes.{number_of, bytes_of}
use Rattle.frame.specs.Frame.{frame_bytes, checked_of, source_allowed}
use Rattle.frame.specs.Identifier.{identifier_of, priority_of, reserved_of, dgn_of, source_of}
use Rattle.claim.specs.Candidates.{is_well_formed, padded}
use Rattle.claim.specs.Claim.{keeps_rules, holds_list, claim_source, claim_id, claim_bytes, stand_of, begun, at_next, lost_by}
use Rattle.claim.specs.Claim.{outcome_of, after, is_sent}
use Rattle.claim.specs.Promises.{started_of, meets_frame, heard_of, sound_of}
use Rattle.nodes.specs.Table as Table
use Rattle.nodes.specs.Table.{addresses, absent, empty_table}
use Rattle.nodes.specs.Call.{nobody, holder, holder_of, looked_up_of}
use Rattle.nodes.specs.Promises.{LookUp}
use Rattle.nodes.specs.Runs.{Call, hearing, pausing, said_of, said_by, record_after_all, Sound, RunLeft}
use Rattle.nodes.specs.declared.Node as Record
use Rattle.std.specs.Prelude.{Some, None, Ok}
use Rattle.nodes.proofs.Blank.{empty_keeps_rules, absent_at}
use Rattle.nodes.proofs.Find.{get_d_front}
use Rattle.nodes.proofs.Shown.{looked_here}
use Rattle.nodes.proofs.Runs.{run_by_record, every_run_runs}
use Rattle.network.specs.Network.{on, Network, name_of, Differ, Fit, fresh, Act, starts, comes}
use Rattle.network.specs.Network.{reads, becomes}
use Rattle.network.specs.Laws.{At}
use Rattle.network.specs.Listener.{claims_in, Listened, Shows}
use Rattle.network.specs.Needed.{NamesDiffer, Runs, stops, goes, Losing, NoneLost, Listening, StartFirst}
use Rattle.network.specs.Needed.{OneOrder, OwnOrder}
use Rattle.network.specs.Needed as The
use Rattle.network.proofs.Play.{start_of, start_is, next, plays, step_so, run_of, is_at_rest}
use Rattle.network.proofs.Play.{turn_run}

-- ---- two NAMEs

abbrev two : ℕ → ℕ → List ℕ
two m n = m ∷ n ∷ []

fit_two : (m n : ℕ) → m < 256 ^ frame_bytes → n < 256 ^ frame_bytes → Fit (two m n)
fit_two m n a b zero h = a
fit_two m n a b (suc zero) h = b
fit_two m n a b (suc (suc i)) h = absurd (omega arith)

differ_two : (m n : ℕ) → (m ≡ n → ⊥) → Differ (two m n)
differ_two m n d zero zero h k e = refl
differ_two m n d zero (suc zero) h k e = absurd (d e)
differ_two m n d (suc zero) zero h k e = absurd (d (sym e))
differ_two m n d (suc zero) (suc zero) h k e = refl
differ_two m n d zero (suc (suc j)) h k e = absurd (omega arith)
differ_two m n d (suc zero) (suc (suc j)) h k e = absurd (omega arith)
differ_two m n d (suc (suc i)) j h k e = absurd (omega arith)

-- ---- two equal NAMEs

abbrev twins : List ℕ
twins = two 7 7

abbrev twin_acts : List Act
twin_acts =
    starts 0 (128 ∷ []) 0 ∷ comes 0 ∷ starts 1 (128 ∷ []) 0 ∷ comes 0 ∷ reads 0 ∷ reads 0 ∷ []

abbrev twinned : Network
twinned = plays twins (fresh twins) twin_acts

pub names_differ : NamesDiffer
unfolding is_well_formed padded keeps_rules holds_list claim_source claim_id claim_bytes stand_of outcome_of after is_sent started_of meets_frame
    heard_of sound_of checked_of source_allowed identifier_of reserved_of dgn_of source_of number_of bytes_of
names_differ f =
    let e : ◌≡◌ {A = ℕ} 0 1 =
    f twins twin_acts twinned (fit_two 7 7 (omega arith) (omega arith)) (run_of twins (fresh twins) twin_acts refl)
    (is_at_rest twinned refl) 0 1 128
    (record { claim = begun 7 (128 ∷ []); read = 2; started = refl; stands = inr (record { answer = refl }) })
    (record { claim = begun 7 (128 ∷ []); read = 1; started = refl; stands = inr (record { answer = refl }) }) in
    omega arith

-- ---- a claim that is lost

abbrev pair : List ℕ
pair = two 7 9

abbrev lost : Network → Network
lost w = record { nodes = w.nodes; waiting = take 0 w.waiting ++ drop 1 w.waiting; bus = w.bus }

abbrev first : Act
first = starts 0 (128 ∷ []) 0

abbrev second : Act
second = starts 1 (128 ∷ []) 0

abbrev unheard : Network
unheard = lost (next pair (lost (next pair (fresh pair) first)) second)

lost_runs : Runs (Losing pair) (fresh pair) unheard
unfolding is_well_formed padded claim_source claim_id claim_bytes started_of identifier_of bytes_of
lost_runs =
    let a = next pair (fresh pair) first in
    let b = next pair (lost a) second in
    goes (fresh pair) a unheard (The.Losing.steps (fresh pair) a first (step_so pair (fresh pair) first refl))
    (goes a (lost a) unheard (The.Losing.loses a 0)
    (goes (lost a) b unheard (The.Losing.steps (lost a) b second (step_so pair (lost a) second refl))
    (goes b unheard unheard (The.Losing.loses b 0) (stops unheard))))

pub none_lost : NoneLost
unfolding is_well_formed padded keeps_rules holds_list stand_of sound_of started_of
none_lost f =
    let e : ◌≡◌ {A = ℕ} 0 1 =
    f pair unheard (differ_two 7 9 (λ e. omega arith)) (fit_two 7 9 (omega arith) (omega arith)) lost_runs
    (is_at_rest unheard refl) 0 1 128
    (record { claim = begun 7 (128 ∷ []); read = 0; started = refl; stands = inr (record { answer = refl }) })
    (record { claim = begun 9 (128 ∷ []); read = 0; started = refl; stands = inr (record { answer = refl }) }) in
    omega arith

-- ---- a node that listens before it starts

abbrev early : Network
early = next pair (next pair (fresh pair) first) (comes 0)

abbrev unstarted : Network
unstarted = becomes 1 (on (start_of 9 (128 ∷ [])).claim 1) [] early

early_runs : Runs (Listening pair) (fresh pair) unstarted
unfolding is_well_formed padded claim_source claim_id claim_bytes started_of identifier_of bytes_of
early_runs =
    let a = next pair (fresh pair) first in
    goes (fresh pair) a unstarted (The.Listening.steps (fresh pair) a first (step_so pair (fresh pair) first refl))
    (goes a early unstarted (The.Listening.steps a early (comes 0) (step_so pair a (comes 0) refl))
    (goes early unstarted unstarted
    (The.Listening.listens early 1 (128 ∷ []) (start_of 9 (128 ∷ [])) (omega arith) refl (start_is 9 (128 ∷ [])))
    (stops unstarted)))

pub start_first : StartFirst
unfolding is_well_formed padded keeps_rules holds_list stand_of sound_of started_of
start_first f =
    let e : ◌≡◌ {A = ℕ} 0 1 =
    f pair unstarted (differ_two 7 9 (λ e. omega arith)) (fit_two 7 9 (omega arith) (omega arith)) early_runs
    (is_at_rest unstarted refl) 0 1 128
    (record { claim = begun 7 (128 ∷ []); read = 0; started = refl; stands = inr (record { answer = refl }) })
    (record { claim = begun 9 (128 ∷ []); read = 1; started = refl; stands = inr (record { answer = refl }) }) in
    omega arith

-- ---- a listener in another order

-- from an empty table on, a run of calls that leaves a record absent
module _ (calls : List Call) where
  pub begin : Sound (empty_table ++ [])
  begin = let k = empty_keeps_rules empty_table [] (record { answer = refl }) in record { enough = k.0; rules = k.1 }

  abbrev end : List Record.Node
  end = (every_run_runs (empty_table ++ []) calls begin).0

  pub hearing_all : Listened (claims_in (map said_by calls)) end
  hearing_all =
      record {
        empty = empty_table;
        behind = [];
        calls = calls;
        is_empty = record { answer = refl };
        ran = (every_run_runs (empty_table ++ []) calls begin).1;
        in_order = refl;
      }

  left : RunLeft (empty_table ++ []) calls end
  left = run_by_record (empty_table ++ []) end calls begin (every_run_runs (empty_table ++ []) calls begin).1

  nobody_there : holder_of absent ≡ nobody
  unfolding holder_of
  nobody_there = refl

  -- it does not show a node that is at its address
  pub not_shown : (names : List ℕ) (w : Network) (i a : ℕ) → a < addresses → record_after_all (map said_by calls) a absent ≡ absent
      → At w i a → Shows names w end a → ⊥
  not_shown names w i a h e p s = go s.shown
    where
      is : get_or end a absent ≡ absent
      is =
          left.records a h
          ∙ ap (record_after_all (map said_by calls) a)
          (sym (get_d_front addresses a (empty_table ++ []) h) ∙ absent_at empty_table [] (record { answer = refl }) a)
          ∙ e

      looked : looked_up_of end a ≡ gives nobody
      looked =
          looked_here end left.sound.enough left.sound.rules a h ∙ ap (λ (n : Record.Node). gives (holder_of n)) is
          ∙ ap gives nobody_there

      differs : (n : ℕ) → holder n ≡ nobody → ⊥
      differs n z = let y : ◌≡◌ {A = ℕ} 0 1 = cc in omega arith

      go : ((j : ℕ) × At w j a × LookUp end a (Ok (Some (name_of names j)))) ⊎ (((j : ℕ) → At w j a → ⊥) × LookUp end a (Ok None)) → ⊥
      go (inl q) = differs (name_of names q.0) (gives_same (q.2.answer ∙ looked))
      go (inr q) = q.0 i p

-- a claim as a table hears it, from an address and with a NAME of one byte
abbrev claim_from : ℕ → ℕ → Call
claim_from a n = hearing (identifier_of 6 0xEEFF a) (bytes_of 8 n)

abbrev rivals : List ℕ
rivals = two 9 7

-- NAME 9 claims 128, NAME 7 takes it, and 9 goes on to 129
abbrev order_acts : List Act
order_acts =
    starts 0 (128 ∷ 129 ∷ []) 0 ∷ comes 0 ∷ starts 1 (128 ∷ []) 0 ∷ comes 0 ∷ reads 0 ∷ reads 0 ∷ comes 0 ∷ reads 1
    ∷ reads 1 ∷ []

abbrev ordered : Network
ordered = plays rivals (fresh rivals) order_acts

-- a listener that hears 7 first takes 9 for a challenger, who has the record when 7 has not claimed again for 250 ms
abbrev other_calls : List Call
other_calls = claim_from 128 7 ∷ claim_from 128 9 ∷ pausing 250 ∷ claim_from 129 9 ∷ []

order_left : record_after_all (map said_by other_calls) 128 absent ≡ absent
unfolding checked_of source_allowed identifier_of priority_of reserved_of dgn_of source_of number_of bytes_of said_of Table.has_name Table.is_challenged
    Table.has_challenger Table.vacated_of Table.cleared_of Table.gives_way Table.may_challenge Table.entered_of Table.claimed_here
    Table.claimed_at Table.paused_at Table.unchallenged_of
order_left = refl

pub one_order : OneOrder
unfolding is_well_formed padded keeps_rules holds_list claim_source claim_id claim_bytes stand_of lost_by outcome_of after is_sent started_of
    meets_frame heard_of sound_of checked_of source_allowed identifier_of priority_of reserved_of dgn_of source_of number_of bytes_of said_of
one_order f =
    let r = turn_run rivals (fresh rivals) order_acts refl refl in
    let p : At ordered 1 128 =
    record { claim = begun 7 (128 ∷ []); read = 3; started = refl; stands = inr (record { answer = refl }) } in
    let s =
    f rivals order_acts ordered (differ_two 9 7 (λ e. omega arith)) (fit_two 9 7 (omega arith) (omega arith)) r.0 r.1
    (is_at_rest ordered refl) refl (claims_in (map said_by other_calls))
    (record {
      before = [];
      one = said_by (claim_from 128 9);
      two = said_by (claim_from 128 7);
      after = said_by (claim_from 129 9) ∷ [];
      so = refl;
      otherwise = refl;
    })
    (end other_calls) (hearing_all other_calls) 128 in
    not_shown other_calls rivals ordered 1 128 (omega arith) order_left p s

-- ---- a node whose own claims come in another order

abbrev mixed_acts : List Act
mixed_acts =
    starts 0 (128 ∷ 129 ∷ []) 0 ∷ starts 1 (128 ∷ []) 0 ∷ comes 1 ∷ reads 0 ∷ comes 1 ∷ comes 0 ∷ reads 1 ∷ reads 1 ∷ reads 1
    ∷ comes 0 ∷ reads 0 ∷ reads 0 ∷ reads 0 ∷ []

abbrev mixed : Network
mixed = plays rivals (fresh rivals) mixed_acts

abbrev mixed_calls : List Call
mixed_calls = claim_from 128 7 ∷ claim_from 129 9 ∷ claim_from 128 9 ∷ claim_from 128 7 ∷ []

mixed_left : record_after_all (map said_by mixed_calls) 129 absent ≡ absent
unfolding checked_of source_allowed identifier_of priority_of reserved_of dgn_of source_of number_of bytes_of said_of Table.has_name Table.is_challenged
    Table.has_challenger Table.vacated_of Table.cleared_of Table.gives_way Table.may_challenge Table.entered_of Table.claimed_here
    Table.claimed_at Table.paused_at Table.unchallenged_of
mixed_left = refl

pub own_order : OwnOrder
unfolding is_well_formed padded keeps_rules holds_list claim_source claim_id claim_bytes stand_of lost_by outcome_of after is_sent started_of
    meets_frame heard_of sound_of checked_of source_allowed identifier_of priority_of reserved_of dgn_of source_of number_of bytes_of said_of
own_order f =
    let p : At mixed 0 129 =
    record { claim = at_next (begun 9 (128 ∷ 129 ∷ [])); read = 4; started = refl; stands = inr (record { answer = refl }) } in
    let s =
    f rivals mixed_acts mixed (differ_two 9 7 (λ e. omega arith)) (fit_two 9 7 (omega arith) (omega arith))
    (run_of rivals (fresh rivals) mixed_acts refl) (is_at_rest mixed refl) refl (end mixed_calls) (hearing_all mixed_calls) 129 in
    not_shown mixed_calls rivals mixed 0 129 (omega arith) mixed_left p s
