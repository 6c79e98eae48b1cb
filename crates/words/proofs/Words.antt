-- Laws of the words: what an `if` shows that gives, or refuses.
-- Assumes nothing.
use Rattle.std.specs.Prelude.{if◌then◌else◌}
use mathlib.Core.Path.{◌≡◌, refl, sym, ap}
use mathlib.Core.Bool.{Bool, true, false, not}
use Prim.Native.Nat.{ℕ}
use native.Mathlib.Omega.{arith}
use Rattle.std.specs.Prelude.{Result, Ok, Err}
use Rattle.words.specs.Words.{Told, refused, gives, told, ◌and◌}

module _ {A : Type 0} where
  -- a refusal gives nothing
  pub refused_gives : {B : Type 0} {n : ℕ} {a : A} → refused n ≡ gives a → B
  refused_gives p = let z : ◌≡◌ {A = ℕ} 0 1 = cc in absurd (omega arith)

  pub gives_same : {a b : A} → gives a ≡ gives b → a ≡ b
  gives_same p = cc

  pub refused_same : {m n : ℕ} → ◌≡◌ {A = Told A} (refused m) (refused n) → m ≡ n
  refused_same p = cc

  -- what is given after a test that refuses had the test false
  pub past_refusal : (b : Bool) (n : ℕ) (t : Told A) {a : A} → (if b then refused n else t) ≡ gives a → (b ≡ false) × (t ≡ gives a)
  past_refusal true n t e = refused_gives e
  past_refusal false n t e = (refl, e)

  -- what is given before a last refusal had the test true
  pub before_refusal : (b : Bool) (n : ℕ) (t : Told A) {a : A} → (if b then t else refused n) ≡ gives a → (b ≡ true) × (t ≡ gives a)
  before_refusal true n t e = (refl, e)
  before_refusal false n t e = refused_gives e

-- an answer read as number and value loses nothing, where no two of its refusals have one number
pub told_same : {A E : Type 0} (number : E → ℕ) → ((a b : E) → number a ≡ number b → a ≡ b)
    → (r s : Result A E) → told number r ≡ told number s → r ≡ s
told_same number same (Ok a) (Ok b) e = ap Ok (gives_same e)
told_same number same (Ok a) (Err w) e = refused_gives (sym e)
told_same number same (Err v) (Ok b) e = refused_gives e
told_same number same (Err v) (Err w) e = ap Err (same v w (refused_same e))

pub not_flips : (b : Bool) → not b ≡ false → b ≡ true
not_flips true e = refl
not_flips false e = sym e

pub both_true : (a b : Bool) → a and b ≡ true → (a ≡ true) × (b ≡ true)
both_true true b e = (refl, e)
both_true false b e = let z : ◌≡◌ {A = ℕ} 0 1 = cc in absurd (omega arith)

pub true_false : {B : Type 0} → true ≡ false → B
true_false p = let z : ◌≡◌ {A = ℕ} 0 1 = cc in absurd (omega arith)

-- the two cases of a test
pub by_test : {P : Type 0} (b : Bool) → (b ≡ true → P) → (b ≡ false → P) → P
by_test true f g = f refl
by_test false f g = g refl

pub by_if : {A : Type 0} (P : A → Type 0) (b : Bool) (x y : A) → (b ≡ true → P x) → (b ≡ false → P y)
    → P (if b then x else y)
by_if P true x y f g = f refl
by_if P false x y f g = g refl
