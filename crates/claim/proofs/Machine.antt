-- The laws of the machine (specs/Laws.antt), proved.
-- Assumes nothing.
use mathlib.Core.Path.{◌≡◌, refl, sym, ap, ◌∙◌}
use mathlib.Core.Bool.{true, false}
use mathlib.Core.List.{List, [], ◌∷◌}
use mathlib.Core.Logic.{◌↔◌}
use Prim.Native.Nat.{ℕ, ◌≤◌, min}
use native.Mathlib.Omega.{arith}
use borrow.Author.Tests.{eq-eqb, ne_eqb, eqb-true, eqb-false}
use Rattle.words.specs.Words.{◌=?◌}
use Rattle.frame.specs.Standard.{greatest_address}
use Rattle.words.proofs.Words.{true_false, by_test, both_true}
use Rattle.claim.specs.Claim.{held_after, keeps_rules, holds_list, address, held, claiming, silent, stand_of, begun}
use Rattle.claim.specs.Claim.{Outcome, nothing_to_do, own_name, repeated, moved, fell_silent, outcome_of, after, pause}
use Rattle.claim.specs.History.{Event, heard, paused, step, run, met, mark_of, history, waited_after, waited_since}
use Rattle.claim.specs.Promises.{is_sound}
use Rattle.claim.specs.Laws.{NobodysClaim, RunSound, SameNode, NodeStays, PositionRises, SilentIgnores}
use Rattle.claim.specs.Laws.{SilentForGood, OnlyLowerMoves, HeldExactly}
use Rattle.claim.specs.declared.Claim.{Claim}
use Rattle.claim.proofs.Sound.{Rules, rules_of, of_rules, holds_of, address_low, pause_silent, pause_awake}
use Rattle.claim.proofs.Outcomes.{Went, deaf, apart, same, wins, goes, ends, went, when_silent, rules_heard}
use Rattle.claim.proofs.Outcomes.{rules_paused}

-- the NAME and the list stay

pub same_self : (c : Claim) → SameNode c c
same_self c = record { name = refl; list = refl; candidates = refl }

pub node_after : (o : Outcome) (c : Claim) → SameNode (after o c) c
unfolding after
node_after nothing_to_do c = same_self c
node_after own_name c = same_self c
node_after repeated c = same_self c
node_after moved c = record { name = refl; list = refl; candidates = refl }
node_after fell_silent c = record { name = refl; list = refl; candidates = refl }

pub node_paused : (ms : ℕ) (c : Claim) → SameNode (pause ms c) c
node_paused ms c =
    by_test c.silent
    (λ s. rw (pause_silent ms c s) (same_self c))
    (λ s. rw (pause_awake ms c s) (record { name = refl; list = refl; candidates = refl }))

node_step : (c : Claim) (e : Event) → SameNode (step c e) c
unfolding step
node_step c (heard source name) = node_after (outcome_of source name c) c
node_step c (paused ms) = node_paused ms c

pub node_stays : NodeStays
node_stays c [] = same_self c
node_stays c (e ∷ es) =
    let a = node_step c e in
    let b = node_stays (step c e) es in
    record { name = b.name ∙ a.name; list = b.list ∙ a.list; candidates = b.candidates ∙ a.candidates }

-- sound states lead to sound states

pub holds_same : (c d : Claim) → SameNode d c → holds_list d ≡ holds_list c
unfolding holds_list
holds_same c d n = rw (n.candidates, n.list)

pub sound_same : (c d : Claim) → is_sound c ≡ true → Rules d → SameNode d c → is_sound d ≡ true
sound_same c d s k n =
    let h = (both_true (keeps_rules c) (holds_list c) s).1 in
    rw (of_rules d k) (holds_same c d n ∙ h)

rules_step : (c : Claim) (e : Event) → Rules c → Rules (step c e)
unfolding step
rules_step c (heard source name) k = rules_heard source name c k
rules_step c (paused ms) k = rules_paused ms c k

pub rules_run : (c : Claim) (es : List Event) → Rules c → Rules (run c es)
rules_run c [] k = k
rules_run c (e ∷ es) k = rules_run (step c e) es (rules_step c e k)

pub run_sound : RunSound
run_sound c es s = sound_same c (run c es) s (rules_run c es (rules_of c (both_true (keeps_rules c) (holds_list c) s).0)) (node_stays c es)

-- silent is for good

pub silent_ignores : SilentIgnores
silent_ignores = when_silent

silent_step : (c : Claim) (e : Event) → c.silent ≡ true → step c e ≡ c
unfolding step after
silent_step c (heard source name) s = rw (when_silent source name c s)
silent_step c (paused ms) s = pause_silent ms c s

pub silent_for_good : SilentForGood
silent_for_good c [] s = refl
silent_for_good c (e ∷ es) s = rw (silent_step c e s) (silent_for_good c es s)

-- a state that ends up not silent was not silent before
still_awake : {P : Type 0} (c : Claim) (es : List Event) → (run c es).silent ≡ false → (c.silent ≡ false → P) → P
still_awake c es s k =
    by_test c.silent
    (λ z. true_false (sym z ∙ ap (λ (d : Claim). d.silent) (sym (silent_for_good c es z)) ∙ s))
    k

-- the position rises

rises_went : (source name : ℕ) (c : Claim) (o : Outcome) → Went source name c o → (after o c).silent ≡ false → c.position ≤ (after o c).position
unfolding after
rises_went source name c o (deaf s) z = omega arith
rises_went source name c o (apart s a) z = omega arith
rises_went source name c o (same s a e) z = omega arith
rises_went source name c o (wins s a e) z = omega arith
rises_went source name c o (goes s a e m) z = omega arith
rises_went source name c o (ends s a e m) z = true_false z

stays_paused : (ms : ℕ) (c : Claim) → ((pause ms c).position ≡ c.position) × ((pause ms c).silent ≡ c.silent)
stays_paused ms c =
    by_test c.silent
    (λ s. rw (pause_silent ms c s) (refl, refl))
    (λ s. rw (pause_awake ms c s) (refl, refl))

rises_step : (c : Claim) (e : Event) → (step c e).silent ≡ false → c.position ≤ (step c e).position
unfolding step
rises_step c (heard source name) z = rises_went source name c (outcome_of source name c) (went source name c) z
rises_step c (paused ms) z = let p = (stays_paused ms c).0 in omega arith

pub position_rises : PositionRises
position_rises c [] s = omega arith
position_rises c (e ∷ es) s =
    still_awake (step c e) es s
    (λ z.
    let a = rises_step c e z in
    let b = position_rises (step c e) es s in
    omega arith)

-- only a lower NAME changes the state

lower_went : (source name : ℕ) (c : Claim) (o : Outcome) → Went source name c o → c.name ≤ name → after o c ≡ c
unfolding after
lower_went source name c o (deaf s) h = refl
lower_went source name c o (apart s a) h = refl
lower_went source name c o (same s a e) h = refl
lower_went source name c o (wins s a e) h = refl
lower_went source name c o (goes s a e m) h = absurd (omega arith)
lower_went source name c o (ends s a e m) h = absurd (omega arith)

pub only_lower_moves : OnlyLowerMoves
only_lower_moves source name c h = lower_went source name c (outcome_of source name c) (went source name c) h

-- 254 is at no address of ours

pub nobodys_claim : NobodysClaim
nobodys_claim source name c s h =
    let b = both_true (keeps_rules c) (holds_list c) s in
    let l = address_low c (rules_of c b.0) (holds_of c b.1) in
    go (outcome_of source name c) (went source name c) l
  where
    go : (o : Outcome) → Went source name c o → address c ≤ greatest_address → o ≡ nothing_to_do
    go o (deaf s) l = refl
    go o (apart s a) l = refl
    go o (same s a e) l = absurd (omega arith)
    go o (wins s a e) l = absurd (omega arith)
    go o (goes s a e m) l = absurd (omega arith)
    go o (ends s a e m) l = absurd (omega arith)

-- held exactly after 250 ms at the present address: the wait is what has passed since, up to 250

wait_went : (ms source name : ℕ) (c : Claim) (o : Outcome) → Went source name c o → c.wait ≡ min held_after ms
    → (after o c).silent ≡ false → (after o c).wait ≡ min held_after (waited_after ms (met o))
unfolding after waited_after
wait_went ms source name c o (deaf s) w z = true_false (sym s ∙ z)
wait_went ms source name c o (apart s a) w z = w
wait_went ms source name c o (same s a e) w z = w
wait_went ms source name c o (wins s a e) w z = w
wait_went ms source name c o (goes s a e h) w z = omega arith
wait_went ms source name c o (ends s a e h) w z = true_false z

wait_step : (ms : ℕ) (c : Claim) (e : Event) → c.wait ≡ min held_after ms → (step c e).silent ≡ false
    → (step c e).wait ≡ min held_after (waited_after ms (mark_of c e))
unfolding step mark_of waited_after
wait_step ms c (heard source name) w z = wait_went ms source name c (outcome_of source name c) (went source name c) w z
wait_step ms c (paused more) w z =
    let s : c.silent ≡ false = sym (stays_paused more c).1 ∙ z in
    rw (pause_awake more c s) (omega arith)

wait_run : (ms : ℕ) (c : Claim) (es : List Event) → c.wait ≡ min held_after ms → (run c es).silent ≡ false
    → (run c es).wait ≡ min held_after (waited_since ms (history c es))
wait_run ms c [] w s = w
wait_run ms c (e ∷ es) w s =
    still_awake (step c e) es s
    (λ z. wait_run (waited_after ms (mark_of c e)) (step c e) es (wait_step ms c e w z) s)

-- where a state stands, in its three cases

pub stand_silent : (c : Claim) → c.silent ≡ true → stand_of c ≡ silent
unfolding stand_of
stand_silent c s = rw s

pub stand_held : (c : Claim) → c.silent ≡ false → c.wait ≡ held_after → stand_of c ≡ held (address c)
unfolding stand_of
stand_held c s w = rw (s, eq-eqb c.wait held_after w)

pub stand_claiming : (c : Claim) → c.silent ≡ false → (c.wait ≡ held_after → ⊥) → stand_of c ≡ claiming (address c)
unfolding stand_of
stand_claiming c s w = rw (s, ne_eqb c.wait held_after w)

held_at : (c : Claim) (ms : ℕ) → (c.silent ≡ false → c.wait ≡ min held_after ms)
    → (stand_of c ≡ held (address c)) ↔ ((c.silent ≡ false) × (held_after ≤ ms))
held_at c ms w =
    by_test c.silent
    (λ s. ((λ h. absurd (not_held (address c) (sym (stand_silent c s) ∙ h))), (λ h. true_false (sym s ∙ h.0))))
    (λ s.
    let x = w s in (
      (λ h. by_test (c.wait =? held_after)
          (λ e. let y = eqb-true c.wait held_after e in (s, omega arith))
          (λ e. absurd (not_claiming (address c) (sym (stand_claiming c s (eqb-false c.wait held_after e)) ∙ h)))),
      (λ h. let y = h.1 in stand_held c s (omega arith)),
    ))
  where
    not_held : (a : ℕ) → silent ≡ held a → ⊥
    not_held a e = let z : ◌≡◌ {A = ℕ} 0 1 = cc in omega arith

    not_claiming : (a : ℕ) → claiming a ≡ held a → ⊥
    not_claiming a e = let z : ◌≡◌ {A = ℕ} 0 1 = cc in omega arith

pub held_exactly : HeldExactly
held_exactly name list es = held_at (run (begun name list) es) (waited_since 0 (history (begun name list) es)) (wait_run 0 (begun name list) es refl)
