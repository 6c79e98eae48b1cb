-- The made-up format: the law of its pauses, and the statements at it.
-- Assumes nothing.
use mathlib.Core.Path.{◌≡◌, sym}
use mathlib.Core.List.{[], ◌∷◌, ◌++◌}
use mathlib.Core.Option.{some}
use Prim.Native.Nat.{ℕ, ◌+◌, ◌-◌, ◌≤◌, ◌<◌}
use native.Mathlib.Nat.{add-zero, add_assoc}
use native.Mathlib.Omega.{arith}
use borrow.Author.Tests.{lt-ltb, le-ltb, ltb-true, ltb-false}
use Rattle.words.specs.Words.{◌<?◌, ◌≤?◌, ◌=?◌}
use Rattle.words.proofs.Words.{by_test}
use Rattle.places.specs.Format.{opens, goes}
use Rattle.places.specs.OneKey.{pause_alone}
use Rattle.places.specs.Tiny.{Pile, Word, new_pile, most_packets, tiny_idle_limit, tiny_asks, tiny_feed, tiny_wait, tiny}
use Rattle.places.specs.Tiny.{TinyBusyAsQuiet, TinyOpenAsRules, TinyToldAsRules, TinyFullExactlyWhen}
use Rattle.places.specs.Tiny.{TinyClosesAsRules, TinyPausing, TinySumsOfPauses}
use Rattle.places.proofs.Places.{some_none}
use Rattle.places.proofs.Statements.{busy_as_quiet, open_as_rules, told_as_rules, full_exactly_when}
use Rattle.places.proofs.Statements.{closes_as_rules, sums_of_pauses}

abbrev Fresh : Pile → Type 0
Fresh p = p.idle ≤ tiny_idle_limit

opens_fresh : (n byte : ℕ) (p : Pile) (w : Word) → tiny_asks n byte ≡ opens p w → Fresh p
unfolding tiny_asks
opens_fresh n byte p w e =
    by_test (n =? 0)
    (λ f. let e' = rw f at e in let z : ◌≡◌ {A = ℕ} 0 1 = cc in absurd (omega arith))
    (λ f. by_test (n ≤? most_packets)
    (λ g. let e' = rw (f, g) at e in let z : new_pile n ≡ p = cc in rw (← z) (omega arith))
    (λ g. let e' = rw (f, g) at e in let z : ◌≡◌ {A = ℕ} 0 1 = cc in absurd (omega arith)))

feed_fresh : (p q : Pile) (byte : ℕ) (w : Word) → tiny_feed p byte ≡ goes q w → Fresh q
unfolding tiny_feed
feed_fresh p q byte w e =
    by_test (p.missing ≤? 1)
    (λ f. let e' = rw f at e in let z : ◌≡◌ {A = ℕ} 0 1 = cc in absurd (omega arith))
    (λ f.
    let e' = rw f at e in
    let z : record { size = p.size; missing = p.missing - 1; idle = 0; bytes = p.bytes ++ (byte ∷ []) } ≡ q = cc in
    rw (← z) (omega arith))

wait_fresh : (p q : Pile) (ms : ℕ) → tiny_wait ms p ≡ some q → Fresh q
unfolding tiny_wait
wait_fresh p q ms e =
    by_test (tiny_idle_limit <? p.idle + ms)
    (λ f. some_none (sym (rw f at e)))
    (λ f.
    let e' = rw f at e in
    let z : record { size = p.size; missing = p.missing; idle = p.idle + ms; bytes = p.bytes } ≡ q = cc in
    rw (← z) (ltb-false _ _ f))

wait_zero : (p : Pile) → Fresh p → tiny_wait 0 p ≡ some p
unfolding tiny_wait
wait_zero p h = rw (add-zero, le-ltb _ _ h)

wait_more : (p : Pile) (a b : ℕ) → pause_alone tiny b (tiny_wait a p) ≡ tiny_wait (a + b) p
unfolding tiny_wait
wait_more p a b =
    by_test (tiny_idle_limit <? p.idle + a)
    (λ f. let g : tiny_idle_limit < p.idle + (a + b) = omega (arith, ltb-true tiny_idle_limit (p.idle + a) f) in rw (f, lt-ltb _ _ g))
    (λ f. rw f (rw (← add_assoc p.idle a b)))

pub tiny_pausing : TinyPausing
tiny_pausing = record {
  Kept = Fresh;
  opens_kept = λ c p w e. opens_fresh c.number c.byte p w e;
  feed_kept = λ p q byte w h e. feed_fresh p q byte w e;
  wait_kept = λ p q ms h e. wait_fresh p q ms e;
  wait_zero = wait_zero;
  wait_more = λ p a b h. wait_more p a b;
}

pub tiny_busy_as_quiet : TinyBusyAsQuiet
tiny_busy_as_quiet = busy_as_quiet tiny

pub tiny_open_as_rules : TinyOpenAsRules
tiny_open_as_rules = open_as_rules tiny

pub tiny_told_as_rules : TinyToldAsRules
tiny_told_as_rules = told_as_rules tiny

pub tiny_full_exactly_when : TinyFullExactlyWhen
tiny_full_exactly_when = full_exactly_when tiny

pub tiny_closes_as_rules : TinyClosesAsRules
tiny_closes_as_rules = closes_as_rules tiny

pub tiny_sums_of_pauses : TinySumsOfPauses
tiny_sums_of_pauses = sums_of_pauses tiny
