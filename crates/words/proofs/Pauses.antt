-- Pauses that are computed add up, where what they compute does: the laws of specs/Pauses.antt for every call `pause`
-- that refuses a state by what it is, and otherwise hands back what it computes of it and of the milliseconds.
-- Assumes nothing.
use Rattle.std.specs.Prelude.{if◌then◌else◌}
use mathlib.Core.Path.{◌≡◌, refl, sym, ap, ◌∙◌, subst, subst⁻¹}
use mathlib.Core.List.{List, [], ◌∷◌, map}
use mathlib.Core.Bool.{Bool, true, false}
use Prim.Native.Nat.{ℕ, ◌+◌}
use native.Mathlib.Omega.{arith}
use Rattle.words.specs.Words.{given◌then◌, Told, refused, gives, Done, done}
use Rattle.words.specs.Lists.{every, count}
use Rattle.words.specs.Pauses.{PauseCall, Adds, AddsNothing, total, Paused, no_pause, a_pause, AddUp}
use Rattle.words.specs.Pauses.{TwoAsOne, ZeroKeeps, RefusedStays, RulesLast, OthersRefused, ShopsAgree}
use Rattle.words.specs.Pauses.{EveryShopEnds}
use Rattle.words.proofs.Words.{refused_gives, gives_same, both_true}

-- the state that stands where a refusal may: as it was, or the other
abbrev pub standing : {S : Type 0} → Told Done → S → S → S
standing (refused r) s t = s
standing (gives d) s t = t

-- A pause as it is computed: whether the state is refused, the state after it and the number that it answers; and what
-- these are to obey for a state that keeps its rules.
pub record Computed (𝓟 : PauseCall) : Type 0 where
  pub verdict : 𝓟.State → Told Done
  pub next : ℕ → 𝓟.State → 𝓟.State
  pub number : ℕ → 𝓟.State → ℕ
  pub told_so : (ms : ℕ) (s t : 𝓟.State) (told : Told ℕ) → 𝓟.Pauses s ms told t
      → told ≡ (given verdict s then λ _. gives (number ms s))
  pub left_so : (ms : ℕ) (s t : 𝓟.State) (told : Told ℕ) → 𝓟.Pauses s ms told t
      → t ≡ standing (verdict s) s (next ms s)
  pub some : (ms : ℕ) (s : 𝓟.State) → (told : Told ℕ) × (t : 𝓟.State) × 𝓟.Pauses s ms told t
  pub sound : (s : 𝓟.State) → 𝓟.Keeps s → verdict s ≡ gives done
  pub unsound : (s : 𝓟.State) → verdict s ≡ gives done → 𝓟.Keeps s
  pub next_keeps : (ms : ℕ) (s : 𝓟.State) → 𝓟.Keeps s → 𝓟.Keeps (next ms s)
  pub next_none : (s : 𝓟.State) → 𝓟.Keeps s → next 0 s ≡ s
  pub number_none : (s : 𝓟.State) → 𝓟.Keeps s → number 0 s ≡ 0
  pub next_sum : (a b : ℕ) (s : 𝓟.State) → 𝓟.Keeps s → next b (next a s) ≡ next (a + b) s
  pub number_sum : (a b : ℕ) (s : 𝓟.State) → 𝓟.Keeps s → number a s + number b (next a s) ≡ number (a + b) s

module _ (𝓟 : PauseCall) (c : Computed 𝓟) where
  -- a pause of a state that is refused
  module _ (s : 𝓟.State) (r : ℕ) (e : c.verdict s ≡ refused r) where
    refused_told : (ms : ℕ) (t : 𝓟.State) (told : Told ℕ) → 𝓟.Pauses s ms told t → told ≡ refused r
    refused_told ms t told p = c.told_so ms s t told p ∙ rw e

    refused_left : (ms : ℕ) (t : 𝓟.State) (told : Told ℕ) → 𝓟.Pauses s ms told t → t ≡ s
    refused_left ms t told p = c.left_so ms s t told p ∙ rw e

  -- and of one that is not
  module _ (s : 𝓟.State) (k : 𝓟.Keeps s) where
    passed_told : (ms : ℕ) (t : 𝓟.State) (told : Told ℕ) → 𝓟.Pauses s ms told t → told ≡ gives (c.number ms s)
    passed_told ms t told p = c.told_so ms s t told p ∙ rw (c.sound s k)

    passed_left : (ms : ℕ) (t : 𝓟.State) (told : Told ℕ) → 𝓟.Pauses s ms told t → t ≡ c.next ms s
    passed_left ms t told p = c.left_so ms s t told p ∙ rw (c.sound s k)

  -- which of the two it is
  by_verdict : {P : Type 0} (s : 𝓟.State) → ((r : ℕ) → c.verdict s ≡ refused r → P) → (𝓟.Keeps s → P) → P
  by_verdict {P} s f g = go (c.verdict s) refl
    where
      go : (v : Told Done) → c.verdict s ≡ v → P
      go (refused r) e = f r e
      go (gives done) e = g (c.unsound s e)

  two_as_one : TwoAsOne 𝓟
  two_as_one a b s t u v first second one p q o = by_verdict s broken kept
    where
      broken : (r : ℕ) → c.verdict s ≡ refused r → (u ≡ v) × Adds first second one
      broken r e =
          let same = refused_left s r e a t first p in
          let e' = ap c.verdict same ∙ e in
          let x = refused_told s r e a t first p in
          let y = refused_told t r e' b u second q in
          let z = refused_told s r e (a + b) v one o in (
            refused_left t r e' b u second q ∙ same ∙ sym (refused_left s r e (a + b) v one o),
            subst⁻¹ (λ (f : Told ℕ). Adds f second one) x (y, z),
          )

      kept : 𝓟.Keeps s → (u ≡ v) × Adds first second one
      kept k =
          let same = passed_left s k a t first p in
          let k' = subst⁻¹ 𝓟.Keeps same (c.next_keeps a s k) in
          let x = passed_told s k a t first p in
          let y = passed_told t k' b u second q in
          let z = passed_told s k (a + b) v one o in
          let left = passed_left t k' b u second q ∙ ap (c.next b) same ∙ c.next_sum a b s k in
          let sum = ap (λ (w : 𝓟.State). c.number a s + c.number b w) same ∙ c.number_sum a b s k in (
            left ∙ sym (passed_left s k (a + b) v one o),
            subst⁻¹ (λ (f : Told ℕ). Adds f second one) x (c.number b t, y, z ∙ ap gives (sym sum)),
          )

  zero_keeps : ZeroKeeps 𝓟
  zero_keeps s t told p = by_verdict s
      (λ r e. (refused_left s r e 0 t told p, subst⁻¹ AddsNothing (refused_told s r e 0 t told p) tt))
      (λ k. (
        passed_left s k 0 t told p ∙ c.next_none s k,
        subst⁻¹ AddsNothing (passed_told s k 0 t told p) (c.number_none s k),
      ))

  refused_stays : RefusedStays 𝓟
  refused_stays a b r s t u told p q = by_verdict s
      (λ n e.
      let x : refused r ≡ refused n = refused_told s n e a t (refused r) p in
      (refused_left s n e a t (refused r) p, refused_left s n e b u told q, refused_told s n e b u told q ∙ sym x))
      (λ k. refused_gives (passed_told s k a t (refused r) p))

  rules_last : RulesLast 𝓟
  rules_last ms s t told k p = (
    subst⁻¹ 𝓟.Keeps (passed_left s k ms t told p) (c.next_keeps ms s k),
    (c.number ms s, passed_told s k ms t told p),
  )

  others_refused : OthersRefused 𝓟
  others_refused ms n s t p = by_verdict s (λ r e. refused_gives (sym (refused_told s r e ms t (gives n) p))) (λ k. k)

  -- a shop's pauses, as one
  one_of : (s t : 𝓟.State) (pauses : List ℕ) (n : ℕ) → 𝓟.Keeps s → Paused 𝓟 s pauses n t
      → (t ≡ c.next (total pauses) s) × (n ≡ c.number (total pauses) s)
  one_of s t pauses n k (no_pause s') = (sym (c.next_none s k), sym (c.number_none s k))
  one_of s t pauses n k (a_pause s' between t' ms first sum more p q) =
      let left = passed_left s k ms between (gives first) p in
      let k' = subst⁻¹ 𝓟.Keeps left (c.next_keeps ms s k) in
      let rest = one_of between t more sum k' q in
      let told : first ≡ c.number ms s = gives_same (passed_told s k ms between (gives first) p) in (
        rest.0 ∙ ap (c.next (total more)) left ∙ c.next_sum ms (total more) s k,
        ap (λ (m : ℕ). m + sum) told ∙ ap (λ (m : ℕ). c.number ms s + m) (rest.1 ∙ ap (c.number (total more)) left)
            ∙ c.number_sum ms (total more) s k,
      )

  shops_agree : ShopsAgree 𝓟
  shops_agree s t u ones others m n k p q e =
      let x = one_of s t ones m k p in
      let y = one_of s u others n k q in
      (x.0 ∙ ap (λ (ms : ℕ). c.next ms s) e ∙ sym y.0, x.1 ∙ ap (λ (ms : ℕ). c.number ms s) e ∙ sym y.1)

  every_shop_ends : EveryShopEnds 𝓟
  every_shop_ends s [] k = (0, s, no_pause s)
  every_shop_ends s (ms ∷ more) k =
      let x = c.some ms s in
      let y = rules_last ms s x.1 x.0 k x.2 in
      let p = subst (λ (told : Told ℕ). 𝓟.Pauses s ms told x.1) y.1.1 x.2 in
      let rest = every_shop_ends x.1 more y.0 in
      (y.1.0 + rest.0, rest.1, a_pause s x.1 rest.1 ms y.1.0 rest.0 more p rest.2)

  pub computed_add_up : AddUp 𝓟
  computed_add_up = record {
    two_as_one = two_as_one;
    zero_keeps = zero_keeps;
    refused_stays = refused_stays;
    rules_last = rules_last;
    others_refused = others_refused;
    shops_agree = shops_agree;
    every_pause_answers = c.some;
    every_shop_ends = every_shop_ends;
  }

-- Lists of what waits: each element becomes what a pause makes of it, and those that pass a test are counted.

module _ {P : Type 0} where
  pub map_sum : (f g h : P → P) → ((p : P) → g (f p) ≡ h p) → (ps : List P) → map g (map f ps) ≡ map h ps
  map_sum f g h k [] = refl
  map_sum f g h k (p ∷ ps) = let x = k p in let y = map_sum f g h k ps in λ i. x i ∷ y i

  pub map_none : (good : P → Bool) (f : P → P) → ((p : P) → good p ≡ true → f p ≡ p)
      → (ps : List P) → every good ps ≡ true → map f ps ≡ ps
  map_none good f k [] e = refl
  map_none good f k (p ∷ ps) e =
      let t = both_true (good p) _ e in
      let x = k p t.0 in let y = map_none good f k ps t.1 in λ i. x i ∷ y i

  pub count_sum : (f : P → P) (first second one : P → Bool)
      → ((p : P) → (if first p then 1 else 0) + (if second (f p) then 1 else 0) ≡ (if one p then 1 else 0))
      → (ps : List P) → count first ps + count second (map f ps) ≡ count one ps
  count_sum f first second one k [] = refl
  count_sum f first second one k (p ∷ ps) = omega (arith, k p, count_sum f first second one k ps)

  pub count_none : (good test : P → Bool) → ((p : P) → good p ≡ true → test p ≡ false)
      → (ps : List P) → every good ps ≡ true → count test ps ≡ 0
  count_none good test k [] e = refl
  count_none good test k (p ∷ ps) e =
      let t = both_true (good p) _ e in rw (k p t.0, count_none good test k ps t.1)
