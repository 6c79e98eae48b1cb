-- Places as code keeps them: an array of place structs of any type P, and a storage of which each place owns a stretch
-- (RULES 5.2; RULES 12.14 has another stride). A layout says how to read them as places.
use Rattle.std.specs.Prelude.{◌≡◌, Bool, true, not, List, [], ◌∷◌, ◌≢◌, ℕ, suc, ◌*◌, take, drop, if◌then◌else◌}
use Rattle.words.specs.Words.{◌=?◌, ◌and◌}
use Rattle.words.specs.Lists.{no_two}
use Rattle.places.specs.Places.{Place, free, held}

-- the bytes of the storage that place j owns
abbrev pub stretch : ℕ → ℕ → List ℕ → List ℕ
stretch stride j storage = take stride (drop (stride * j) storage)

-- two storages agree in every stretch but place j's
abbrev pub AgreeBut : ℕ → ℕ → List ℕ → List ℕ → Type 0
AgreeBut stride j s t = (i : ℕ) → i ≢ j → stretch stride i t ≡ stretch stride i s

pub record Layout (P S : Type 0) : Type 0 where
  pub is_free : P → Bool
  pub key_of : P → ℕ
  pub stride : ℕ
  pub session : P → List ℕ → S  -- a place and its stretch of the storage give its session
  pub blank : P
  pub blank_free : is_free blank ≡ true

module _ {P S : Type 0} (L : Layout P S) where
  abbrev pub open_by : ℕ → P → Bool
  open_by k p = not (L.is_free p) and (L.key_of p =? k)

  -- a place and its stretch
  abbrev pub seat : P → List ℕ → Place S
  seat p bytes = if L.is_free p then free else held (L.key_of p) (L.session p bytes)

  -- places and storage seen as places, from number i on
  abbrev pub view_from : ℕ → List P → List ℕ → List (Place S)
  view_from i [] storage = []
  view_from i (p ∷ ps) storage = seat p (stretch L.stride i storage) ∷ view_from (suc i) ps storage

  abbrev pub view : List P → List ℕ → List (Place S)
  view ps storage = view_from 0 ps storage

  -- two places that the same key holds
  abbrev pub same_holder : P → P → Bool
  same_holder p q = not (L.is_free p) and open_by (L.key_of p) q

  -- no key is open in two places
  abbrev pub one_each : List P → Bool
  one_each ps = no_two same_holder ps
