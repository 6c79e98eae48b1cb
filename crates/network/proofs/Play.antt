-- A run that is worked out: where acts can be done one after another, there is a run of them, and this is its end.
-- Assumes nothing.
use Rattle.std.specs.Prelude.{if◌then◌else◌}
use mathlib.Core.Path.{◌≡◌, refl, sym}
use mathlib.Core.Bool.{Bool, true, false}
use mathlib.Core.List.{List, [], ◌∷◌, ◌++◌}
use Prim.Native.Nat.{ℕ, zero, suc, ◌+◌}
use native.Mathlib.Omega.{arith}
use borrow.Author.Tests.{eqb-true, eqb-false, ltb-true}
use lib.ListN.{length, get_or, take, drop}
use Rattle.words.specs.Words.{◌and◌, ◌=?◌, ◌<?◌, Told, refused, gives}
use Rattle.words.proofs.Words.{by_test, both_true, true_false}
use Rattle.claim.specs.Candidates.{is_well_formed}
use Rattle.claim.specs.Claim.{begun, Outcome, nothing_to_do, own_name, repeated, moved, fell_silent}
use Rattle.claim.specs.Promises.{Start, Hear, started_of, heard_of, after_told, is_sent_told, frame_sent, frame_if, blank}
use Rattle.claim.specs.Promises.{told_hearing, told_starting}
use Rattle.claim.specs.declared.Claim.{Claim}
use Rattle.claim.specs.declared.Started.{Started}
use Rattle.std.specs.Prelude.{Ok, Err}
use Rattle.claim.specs.declared.NotStarted.TheVariants.{ListMalformed}
use Rattle.claim.specs.declared.Heard.{Heard}
use Rattle.claim.specs.Promises.{Hearing}
use Rattle.claim.specs.declared.NotHeard.{NotHeard}
use Rattle.claim.specs.declared.Reaction.{Reaction}
use Rattle.network.specs.Network.{Sent, Node, off, on, Network, node_at, name_of, Act, starts, comes, reads, pauses}
use Rattle.network.specs.Network.{asked, becomes, sent_if, started_by, Step, Ran, no_act, an_act}
use Rattle.network.specs.Network as The
use Rattle.network.specs.Laws.{Own, AtRest}
use Rattle.network.specs.Listener.{FirstOfIts, InTurn}

-- ---- the calls of a node

abbrev pub start_of : ℕ → List ℕ → Started
start_of name list =
    record {
      claim = if is_well_formed list then begun name list else blank;
      answer = if is_well_formed list then Ok tt else Err ListMalformed;
      id = (frame_if (is_well_formed list) (begun name list)).id;
      bytes = (frame_if (is_well_formed list) (begun name list)).bytes;
    }

pub start_is : (name : ℕ) (list : List ℕ) → Start name list (start_of name list)
unfolding started_of
start_is name list =
    record {
      answer = by_test (is_well_formed list) (λ t. rw t refl) (λ t. rw t refl);
      state = refl;
      sent_id = refl;
      sent_bytes = refl;
    }

abbrev pub answer_of : Told Outcome → Hearing
answer_of (gives nothing_to_do) = Ok Reaction.NothingToDo
answer_of (gives own_name) = Ok Reaction.OwnName
answer_of (gives repeated) = Ok Reaction.SendClaimAgain
answer_of (gives moved) = Ok Reaction.SendNextClaim
answer_of (gives fell_silent) = Ok Reaction.SendCannotClaim
answer_of (refused n) = Err NotHeard.BrokenState

abbrev pub is_given : Told Outcome → Bool
is_given (gives o) = true
is_given (refused n) = false

answer_told : (t : Told Outcome) → is_given t ≡ true → told_hearing (answer_of t) ≡ t
answer_told (gives nothing_to_do) e = refl
answer_told (gives own_name) e = refl
answer_told (gives repeated) e = refl
answer_told (gives moved) e = refl
answer_told (gives fell_silent) e = refl
answer_told (refused n) e = true_false (sym e)

abbrev pub heard_by : Sent → Claim → Heard
heard_by x c =
    record {
      claim = after_told (heard_of x.id x.bytes c) c;
      answer = answer_of (heard_of x.id x.bytes c);
      id = (frame_sent (heard_of x.id x.bytes c) c).id;
      bytes = (frame_sent (heard_of x.id x.bytes c) c).bytes;
    }

pub heard_is : (x : Sent) (c : Claim) → is_given (heard_of x.id x.bytes c) ≡ true → Hear x.id x.bytes c (heard_by x c)
heard_is x c e =
    record { answer = answer_told (heard_of x.id x.bytes c) e; state = refl; sent_id = refl; sent_bytes = refl }

-- ---- an act

abbrev read_by : ℕ → Claim → ℕ → List Sent → Network → Network
read_by i c k [] w = w
read_by i c k (x ∷ rest) w =
    if x.by =? i then becomes i (on c (suc k)) [] w else
    becomes i (on (heard_by x c).claim (suc k))
    (sent_if (is_sent_told (told_hearing (heard_by x c).answer)) i (heard_by x c).id (heard_by x c).bytes) w

abbrev read_node : ℕ → Node → Network → Network
read_node i off w = w
read_node i (on c k) w = read_by i c k (drop k w.bus) w

abbrev pub next : List ℕ → Network → Act → Network
next names w (starts i list older) =
    started_by (told_starting (start_of (name_of names i) list).answer) i older (start_of (name_of names i) list) w
next names w (comes n) =
    record { nodes = w.nodes; waiting = take n w.waiting ++ drop (suc n) w.waiting; bus = w.bus ++ take 1 (drop n w.waiting) }
next names w (reads i) = read_node i (node_at w i) w
next names w (pauses i ms) = w
next names w (asked i) = w

-- and whether it can be done: acts of these three kinds

abbrev is_off : Node → Bool
is_off off = true
is_off (on c k) = false

abbrev can_read : ℕ → Claim → List Sent → Bool
can_read i c [] = false
can_read i c (x ∷ rest) = if x.by =? i then true else is_given (heard_of x.id x.bytes c)

abbrev can_read_node : ℕ → Node → Network → Bool
can_read_node i off w = false
can_read_node i (on c k) w = can_read i c (drop k w.bus)

abbrev is_more : List Sent → Bool
is_more [] = false
is_more (x ∷ l) = true

abbrev pub can : List ℕ → Network → Act → Bool
can names w (starts i list older) = (i <? length w.nodes) and is_off (node_at w i)
can names w (comes n) = is_more (drop n w.waiting)
can names w (reads i) = can_read_node i (node_at w i) w
can names w (pauses i ms) = false
can names w (asked i) = false

is_off_lem : (s : Node) → is_off s ≡ true → s ≡ off
is_off_lem off e = refl
is_off_lem (on c k) e = true_false (sym e)

drop_tail : (n : ℕ) (l : List Sent) (x : Sent) (rest : List Sent) → drop n l ≡ x ∷ rest → drop (suc n) l ≡ rest
drop_tail zero [] x rest d = let z : ◌≡◌ {A = ℕ} 0 1 = cc in absurd (omega arith)
drop_tail (suc n) [] x rest d = let z : ◌≡◌ {A = ℕ} 0 1 = cc in absurd (omega arith)
drop_tail zero (y ∷ l) x rest d = cc
drop_tail (suc n) (y ∷ l) x rest d = drop_tail n l x rest d

module _ (names : List ℕ) (w : Network) where
  comes_so : (n : ℕ) (l : List Sent) → drop n w.waiting ≡ l → is_more l ≡ true → Step names w (comes n) (next names w (comes n))
  comes_so n [] d e = true_false (sym e)
  comes_so n (x ∷ rest) d e =
      rw (drop_tail n w.waiting x rest d, d) (The.come w n x rest d)

  reads_so : (i : ℕ) (c : Claim) (k : ℕ) → node_at w i ≡ on c k → (l : List Sent) → drop k w.bus ≡ l → can_read i c l ≡ true
      → Step names w (reads i) (read_by i c k l w)
  reads_so i c k f [] d e = true_false (sym e)
  reads_so i c k f (x ∷ rest) d e =
      by_test (x.by =? i)
      (λ t. rw t (The.pass w i c k x rest f d (eqb-true x.by i t)))
      (λ t. rw t (The.hear w i c k x rest (heard_by x c) f d (eqb-false x.by i t) (heard_is x c (rw t at e))))

  node_so : (i : ℕ) (s : Node) → node_at w i ≡ s → can_read_node i s w ≡ true → Step names w (reads i) (read_node i s w)
  node_so i off f e = true_false (sym e)
  node_so i (on c k) f e = reads_so i c k f (drop k w.bus) refl e

  pub step_so : (act : Act) → can names w act ≡ true → Step names w act (next names w act)
  step_so (starts i list older) e =
      let b = both_true (i <? length w.nodes) (is_off (node_at w i)) e in
      The.start w i list older (start_of (name_of names i) list) (ltb-true i (length w.nodes) b.0) (is_off_lem (node_at w i) b.1)
      (start_is (name_of names i) list)
  step_so (comes n) e = comes_so n (drop n w.waiting) refl e
  step_so (reads i) e = node_so i (node_at w i) refl e
  step_so (pauses i ms) e = true_false (sym e)
  step_so (asked i) e = true_false (sym e)

abbrev pub plays : List ℕ → Network → List Act → Network
plays names w [] = w
plays names w (act ∷ acts) = plays names (next names w act) acts

abbrev pub can_all : List ℕ → Network → List Act → Bool
can_all names w [] = true
can_all names w (act ∷ acts) = can names w act and can_all names (next names w act) acts

pub run_of : (names : List ℕ) (w : Network) (acts : List Act) → can_all names w acts ≡ true → Ran names w acts (plays names w acts)
run_of names w [] e = no_act w
run_of names w (act ∷ acts) e =
    let b = both_true (can names w act) (can_all names (next names w act) acts) e in
    an_act w (next names w act) (plays names w (act ∷ acts)) act acts (step_so names w act b.0)
    (run_of names (next names w act) acts b.1)

-- ---- whether it is at rest

abbrev all_own : ℕ → List Sent → Bool
all_own i [] = true
all_own i (x ∷ l) = (x.by =? i) and all_own i l

abbrev rests_from : ℕ → List Sent → List Sent → List Node → Bool
rests_from i waiting bus [] = true
rests_from i waiting bus (off ∷ ss) = rests_from (suc i) waiting bus ss
rests_from i waiting bus (on c k ∷ ss) = (all_own i waiting and all_own i (drop k bus)) and rests_from (suc i) waiting bus ss

abbrev pub rests : Network → Bool
rests w = rests_from 0 w.waiting w.bus w.nodes

own_all : (i : ℕ) (l : List Sent) → all_own i l ≡ true → Own i l
own_all i [] e = tt
own_all i (x ∷ l) e = let h = both_true (x.by =? i) (all_own i l) e in (eqb-true x.by i h.0, own_all i l h.1)

own_both : (i : ℕ) (l r : List Sent) → (all_own i l and all_own i r) ≡ true → Own i l × Own i r
own_both i l r e = let h = both_true (all_own i l) (all_own i r) e in (own_all i l h.0, own_all i r h.1)

rests_at : (n : ℕ) (waiting bus : List Sent) (ss : List Node) → rests_from n waiting bus ss ≡ true
    → (i : ℕ) (c : Claim) (k : ℕ) → get_or ss i off ≡ on c k → Own (n + i) waiting × Own (n + i) (drop k bus)
rests_at n waiting bus [] e i c k h = let z : ◌≡◌ {A = ℕ} 0 1 = cc in absurd (omega arith)
rests_at n waiting bus (off ∷ ss) e zero c k h = let z : ◌≡◌ {A = ℕ} 0 1 = cc in absurd (omega arith)
rests_at n waiting bus (on d m ∷ ss) e zero c k h =
    let x : m ≡ k = cc in
    let a : n + 0 ≡ n = omega arith in
    rw (a, ← x) (own_both n waiting (drop m bus) (both_true (all_own n waiting and all_own n (drop m bus)) (rests_from (suc n) waiting bus ss) e).0)
rests_at n waiting bus (off ∷ ss) e (suc i) c k h =
    let a : n + suc i ≡ suc n + i = omega arith in
    rw a (rests_at (suc n) waiting bus ss e i c k h)
rests_at n waiting bus (on d m ∷ ss) e (suc i) c k h =
    let a : n + suc i ≡ suc n + i = omega arith in
    rw a (rests_at (suc n) waiting bus ss (both_true (all_own n waiting and all_own n (drop m bus)) (rests_from (suc n) waiting bus ss) e).1 i c k h)

pub is_at_rest : (w : Network) → rests w ≡ true → AtRest w
is_at_rest w e i c k h =
    let a : 0 + i ≡ i = omega arith in
    rw a at (rests_at 0 w.waiting w.bus w.nodes e i c k h)

-- ---- where of the claims that wait always the first comes, each node's come in turn

abbrev in_turn : Act → Bool
in_turn (starts i list older) = true
in_turn (comes n) = n =? 0
in_turn (reads i) = true
in_turn (pauses i ms) = true
in_turn (asked i) = true

abbrev pub in_turn_all : List Act → Bool
in_turn_all [] = true
in_turn_all (act ∷ acts) = in_turn act and in_turn_all acts

first_so : (w : Network) (act : Act) → in_turn act ≡ true → FirstOfIts w act
first_so w (starts i list older) e = tt
first_so w (comes zero) e = λ x rest d. tt
first_so w (comes (suc n)) e = let z : suc n ≡ 0 = eqb-true (suc n) 0 e in absurd (omega arith)
first_so w (reads i) e = tt
first_so w (pauses i ms) e = tt
first_so w (asked i) e = tt

pub turn_run : (names : List ℕ) (w : Network) (acts : List Act) → can_all names w acts ≡ true → in_turn_all acts ≡ true
    → (ran : Ran names w acts (plays names w acts)) × InTurn ran
turn_run names w [] e f = (no_act w, tt)
turn_run names w (act ∷ acts) e f =
    let b = both_true (can names w act) (can_all names (next names w act) acts) e in
    let c = both_true (in_turn act) (in_turn_all acts) f in
    let r = turn_run names (next names w act) acts b.1 c.1 in (
      an_act w (next names w act) (plays names w (act ∷ acts)) act acts (step_so names w act b.0) r.0,
      (first_so w act c.0, r.1),
    )
