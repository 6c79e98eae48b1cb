-- The words that every definition of this library is written in: tests on numbers that read as they stand, and an
-- answer as RULES 2 has it.
use Rattle.std.specs.Prelude.{Bool, ℕ, ◌+◌, ◌-◌, ◌/◌, ◌%◌, ◌^◌, ◌&&◌, ◌||◌, ltb, leb, eqb, Result, Ok, Err}

infixr 5 given◌then◌
infixr 20 ◌or◌
infixr 30 ◌and◌
infix 50 ◌<?◌
infix 50 ◌≤?◌
infix 50 ◌=?◌
abbrev pub ◌<?◌ : ℕ → ℕ → Bool
a <? b = ltb a b

abbrev pub ◌≤?◌ : ℕ → ℕ → Bool
a ≤? b = leb a b

abbrev pub ◌=?◌ : ℕ → ℕ → Bool
a =? b = eqb a b

abbrev pub ◌and◌ : Bool → Bool → Bool
a and b = a && b

abbrev pub ◌or◌ : Bool → Bool → Bool
a or b = a || b

-- bits `high` down to `low` of a number
abbrev pub bits : ℕ → ℕ → ℕ → ℕ
bits high low n = n / 2 ^ low % 2 ^ (high + 1 - low)

-- What a call answers: the number of its refusal, or what it gives.
pub data Told (A : Type 0) : Type 0 where
  refused : ℕ → Told A
  gives : A → Told A

-- the number of a refusal, and 0 where there is none
abbrev pub number_in : {A : Type 0} → Told A → ℕ
number_in (refused n) = n
number_in (gives a) = 0

-- a refusal is passed on; what was given goes on
abbrev pub given◌then◌ : {A B : Type 0} → Told A → (A → Told B) → Told B
given refused n then f = refused n
given gives a then f = f a

-- what a call gives that only does its work
pub data Done : Type 0 where
  done : Done

-- What a call answers, read as the number of its refusal or what it gives, by the numbers of its refusals.
abbrev pub told : {A E : Type 0} → (E → ℕ) → Result A E → Told A
told number (Ok a) = gives a
told number (Err why) = refused (number why)

-- the number of a refusal in what a call answers, and 0 where there is none
abbrev pub number_of_answer : {A E : Type 0} → (E → ℕ) → Result A E → ℕ
number_of_answer number r = number_in (told number r)
