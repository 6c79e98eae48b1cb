-- Places as code keeps them, of any type P, by what is asked of one place: whether it is free, whose message it has, and
-- how long that has paused (RULES 5.2 to 5.8 and 12.9 to 12.15).
use Rattle.std.specs.Prelude.{Bool, not, List, ℕ, Option, if◌then◌else◌}
use Rattle.words.specs.Words.{◌<?◌, ◌=?◌, ◌and◌}
use Rattle.words.specs.Lists.{first, or_else, no_two}

module _ {P : Type 0} (is_free : P → Bool) (key_of : P → ℕ) where
  abbrev pub held_by : ℕ → P → Bool
  held_by key p = not (is_free p) and (key_of p =? key)

  -- two places that the same key holds
  abbrev pub same_holder : P → P → Bool
  same_holder p q = not (is_free p) and held_by (key_of p) q

  -- no key is open in two places
  abbrev pub one_each : List P → Bool
  one_each ps = no_two same_holder ps

  -- a key that has a message open stays in its place, any other takes the lowest-numbered free one
  abbrev pub place_for : ℕ → List P → Option ℕ
  place_for key ps = or_else (first (held_by key) ps) (first is_free ps)

module _ {P : Type 0} (is_free : P → Bool) (idle_after : ℕ → P → ℕ) where
  -- a pause closes a message whose frames have paused for longer than the limit by then
  abbrev pub closes : ℕ → ℕ → P → Bool
  closes limit ms p = not (is_free p) and (limit <? idle_after ms p)

  -- the place after it
  abbrev pub idled : P → (ℕ → P → P) → ℕ → ℕ → P → P
  idled blank waited limit ms p =
      if is_free p then p else
      if limit <? idle_after ms p then blank else
      waited (idle_after ms p) p
