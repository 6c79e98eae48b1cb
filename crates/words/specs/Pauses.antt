-- What it means that pauses add up (RULES 13.15), for whatever a caller keeps and hands to a call `pause`. However
-- often the timer of a shop ticks, what it keeps is the same, and so is what it is told in all. The long messages, the
-- fast packets, the claim and the node table have such a call; each says in its specs/Pauses.antt which.
use Rattle.std.specs.Prelude.{◌≡◌, List, [], ◌∷◌, ℕ, ◌+◌}
use Rattle.words.specs.Words.{Told, refused, gives}

-- A call `pause`, told by nothing but its promise: the states that it is handed and hands back, those that keep their
-- rules, and which answer and which state after it the promise allows, for a state and so many milliseconds. The answer
-- is a refusal or a number, of what the pause closed or replaced; a pause that counts nothing answers 0.
pub record PauseCall : Type 1 where
  pub State : Type 0
  pub Keeps : State → Type 0
  pub Pauses : State → ℕ → Told ℕ → State → Type 0

-- What two pauses answer, and what one does in their place: the numbers add, and a refusal is one and the same.
abbrev pub Adds : Told ℕ → Told ℕ → Told ℕ → Type 0
Adds (gives m) second one = (n : ℕ) × (second ≡ gives n) × (one ≡ gives (m + n))
Adds (refused r) second one = (second ≡ refused r) × (one ≡ refused r)

-- what a pause of 0 answers: no number but 0
abbrev pub AddsNothing : Told ℕ → Type 0
AddsNothing (gives n) = n ≡ 0
AddsNothing (refused r) = Unit

-- the sum of some numbers
abbrev pub total : List ℕ → ℕ
total [] = 0
total (n ∷ ns) = n + total ns

module _ (𝓟 : PauseCall) where
  -- Pauses one after the other, none of them refused, each handed the state that the one before it handed back; and the
  -- sum of the numbers that they answer.
  pub data Paused : 𝓟.State → List ℕ → ℕ → 𝓟.State → Type 0 where
    no_pause : (s : 𝓟.State) → Paused s [] 0 s
    a_pause : (s t u : 𝓟.State) (ms n sum : ℕ) (more : List ℕ)
        → 𝓟.Pauses s ms (gives n) t → Paused t more sum u → Paused s (ms ∷ more) (n + sum) u

  -- A pause of a and then a pause of b, against one pause of a + b: the same state, and the numbers add. The longest
  -- pause that can be called is 65,535 ms; the law needs no such limit on the sum.
  abbrev pub TwoAsOne : Type 0
  TwoAsOne =
      (a b : ℕ) (s t u v : 𝓟.State) (first second one : Told ℕ)
      → 𝓟.Pauses s a first t → 𝓟.Pauses t b second u → 𝓟.Pauses s (a + b) one v
      → (u ≡ v) × Adds first second one

  -- A pause of 0 keeps everything as it is, and answers 0 where it is not refused.
  abbrev pub ZeroKeeps : Type 0
  ZeroKeeps = (s t : 𝓟.State) (told : Told ℕ) → 𝓟.Pauses s 0 told t → (t ≡ s) × AddsNothing told

  -- A state that a pause refuses stays as it is, and every other pause refuses it too, with the same number.
  abbrev pub RefusedStays : Type 0
  RefusedStays =
      (a b r : ℕ) (s t u : 𝓟.State) (told : Told ℕ) → 𝓟.Pauses s a (refused r) t → 𝓟.Pauses s b told u
      → (t ≡ s) × (u ≡ s) × (told ≡ refused r)

  -- A pause leads from a state that keeps its rules to one that keeps them, and is not refused. Any other state is.
  abbrev pub RulesLast : Type 0
  RulesLast =
      (ms : ℕ) (s t : 𝓟.State) (told : Told ℕ) → 𝓟.Keeps s → 𝓟.Pauses s ms told t
      → 𝓟.Keeps t × ((n : ℕ) × (told ≡ gives n))

  abbrev pub OthersRefused : Type 0
  OthersRefused = (ms n : ℕ) (s t : 𝓟.State) → 𝓟.Pauses s ms (gives n) t → 𝓟.Keeps s

  -- Two shops that begin with the same state, and whose pauses come to the same time: they end with the same state, and
  -- the sums of the numbers that they are told are the same, however often each of them called.
  abbrev pub ShopsAgree : Type 0
  ShopsAgree =
      (s t u : 𝓟.State) (ones others : List ℕ) (m n : ℕ)
      → 𝓟.Keeps s → Paused s ones m t → Paused s others n u → total ones ≡ total others
      → (t ≡ u) × (m ≡ n)

  -- Every pause has an answer, and every shop ends: what is said here is not said of nothing.

  abbrev pub EveryPauseAnswers : Type 0
  EveryPauseAnswers = (ms : ℕ) (s : 𝓟.State) → (told : Told ℕ) × (t : 𝓟.State) × 𝓟.Pauses s ms told t

  abbrev pub EveryShopEnds : Type 0
  EveryShopEnds = (s : 𝓟.State) (pauses : List ℕ) → 𝓟.Keeps s → (n : ℕ) × (t : 𝓟.State) × Paused s pauses n t

  -- Pauses add up.
  pub record AddUp : Type 0 where
    pub two_as_one : TwoAsOne
    pub zero_keeps : ZeroKeeps
    pub refused_stays : RefusedStays
    pub rules_last : RulesLast
    pub others_refused : OthersRefused
    pub shops_agree : ShopsAgree
    pub every_pause_answers : EveryPauseAnswers
    pub every_shop_ends : EveryShopEnds
