-- A frame, case by case: what each definition leaves where its tests are known.
-- Assumes nothing.
use Rattle.std.specs.Prelude.{Option, Some, None}
use mathlib.Core.Path.{◌≡◌, refl, ap, ◌∙◌, subst⁻¹}
use mathlib.Core.Bool.{Bool, true, false, not}
use mathlib.Core.List.{List}
use Prim.Native.Nat.{ℕ, ◌+◌, ◌<◌, ◌≤◌}
use native.Mathlib.Omega.{arith}
use borrow.Author.Tests.{leb-true, ltb-true, eqb-true, eqb-false, not-true, eq-eqb, ne_eqb, lt-ltb, le-ltb, le-leb}
use borrow.Author.Tests.{lt-leb, leb-false}
use lib.ListN.{length, get_or}
use Rattle.words.specs.Words.{◌≤?◌, ◌=?◌, ◌<?◌, ◌and◌, refused, gives}
use Rattle.words.specs.Lists.{every, first}
use Rattle.frame.specs.Frame.{checked_of}
use Rattle.frame.specs.Standard.{greatest_address}
use Rattle.frame.specs.declared.Parts.{Parts}
use Rattle.words.proofs.Words.{both_true, by_test}
use Rattle.places.specs.Layout.{one_each}
use Rattle.places.specs.Telling.{opened, stored, finished}
use Rattle.words.proofs.Lists.{found_at, every_at}
use Rattle.fast.specs.FastPacket.{greatest_sequence, first_bytes, longest, last_frame, idle_limit, pair_of, other}
use Rattle.fast.specs.FastPacket.{carried, meant, meaning_of}
use Rattle.fast.specs.Names.{most_named, may_be_named, is_named, is_well_formed}
use Rattle.fast.specs.Receiver.{room, free_place, is_free, is_open_by, layout, names_of, holds_names, keeps_limits}
use Rattle.fast.specs.Receiver.{place_keeps_rules, keeps_rules, whole_at, After}
use Rattle.fast.specs.Receiver.{leaves, placing, place_for, entered, enters_at, hears_first, kept_at, expecting}
use Rattle.fast.specs.Receiver.{advanced, frame_at, hears_later, by_meaning, heard}
use Rattle.fast.specs.Promises.{LeftBy}
use Rattle.fast.specs.Private.{Live}
use Rattle.fast.specs.declared.Place.{Place}
use Rattle.fast.specs.declared.Receiver.{Receiver}
use Rattle.fast.specs.declared.Heard.{Heard}

-- what one definition leaves, another that is equal leaves too
pub left_as : {a b : After} {h : Heard} {s : List ℕ} → a ≡ b → LeftBy b h s → LeftBy a h s
left_as {h = h} {s = s} e k = subst⁻¹ (λ (x : After). LeftBy x h s) e k

-- a frame 0

pub found_below : (f : Place → Bool) (ps : List Place) (j : ℕ) → length ps ≡ 8 → first f ps ≡ Some j → j < 8
found_below f ps j h e = omega (arith, (found_at j f ps free_place e).below)

-- its place is its pair's, or there is none and it is the lowest free one
pub data Takes (pair : ℕ) (ps : List Place) (j : ℕ) : Type 0 where
  its_own : first (is_open_by pair) ps ≡ Some j → Takes pair ps j
  a_free_one : first (is_open_by pair) ps ≡ None → first is_free ps ≡ Some j → Takes pair ps j

pub place_for_at : (pair : ℕ) (ps : List Place) (j : ℕ) → place_for pair ps ≡ Some j → Takes pair ps j
unfolding place_for
place_for_at pair ps j e = go (first (is_open_by pair) ps) refl
  where
    go : (f : Option ℕ) → first (is_open_by pair) ps ≡ f → Takes pair ps j
    go (Some i) k = let z : Some i ≡ Some j = rw k at e in its_own (k ∙ z)
    go None k = a_free_one k (rw k at e)

pub place_for_nowhere : (pair : ℕ) (ps : List Place) → place_for pair ps ≡ None
    → (first (is_open_by pair) ps ≡ None) × (first is_free ps ≡ None)
unfolding place_for
place_for_nowhere pair ps e = go (first (is_open_by pair) ps) refl
  where
    go : (f : Option ℕ) → first (is_open_by pair) ps ≡ f → (first (is_open_by pair) ps ≡ None) × (first is_free ps ≡ None)
    go (Some i) k =
        let z : Some i ≡ None = rw k at e in
        let y : ◌≡◌ {A = ℕ} 0 1 = cc in
        absurd (omega arith)
    go None k = (k, rw k at e)

pub place_for_below : (pair : ℕ) (ps : List Place) (j : ℕ) → length ps ≡ 8 → place_for pair ps ≡ Some j → j < 8
place_for_below pair ps j h e = go (place_for_at pair ps j e)
  where
    go : Takes pair ps j → j < 8
    go (its_own k) = found_below (is_open_by pair) ps j h k
    go (a_free_one n k) = found_below is_free ps j h k

module _ (p : Place) (bytes : List ℕ) (r : Receiver) (s : List ℕ) where
  pub begins_at : (i : ℕ) → place_for (pair_of p.sender p.dgn) r.places ≡ Some i
      → hears_first p bytes r s ≡ enters_at i p bytes r s
  unfolding hears_first
  begins_at i e = rw e

  pub begins_nowhere : place_for (pair_of p.sender p.dgn) r.places ≡ None
      → hears_first p bytes r s ≡ leaves r s (refused 8)
  unfolding hears_first
  begins_nowhere e = rw e

module _ (i : ℕ) (p : Place) (r : Receiver) (s : List ℕ) where
  pub entered_short : p.length ≤ first_bytes
      → entered i p r s ≡ leaves (placing r i free_place) s (gives (finished (whole_at i p)))
  unfolding entered
  entered_short h = rw (le-leb _ _ h)

  pub entered_long : first_bytes < p.length → entered i p r s ≡ leaves (placing r i p) s (gives opened)
  unfolding entered
  entered_long h = rw (lt-leb _ _ h)

  -- finished or open, the storage stays as it was handed on
  pub entered_storage : (entered i p r s).storage ≡ s
  entered_storage =
      by_test (p.length ≤? first_bytes)
      (λ t. ap (λ (a : After). a.storage) (entered_short (leb-true p.length first_bytes t)))
      (λ t. ap (λ (a : After). a.storage) (entered_long (leb-false p.length first_bytes t)))

-- a later frame

module _ (i : ℕ) (p : Place) (r : Receiver) (s : List ℕ) where
  pub advanced_last : p.expected ≡ last_frame p.length
      → advanced i p r s ≡ leaves (placing r i free_place) s (gives (finished (whole_at i p)))
  unfolding advanced
  advanced_last e = rw (eq-eqb _ _ e)

  pub advanced_next : (p.expected ≡ last_frame p.length → ⊥)
      → advanced i p r s ≡ leaves (placing r i (expecting (p.expected + 1) p)) s (gives stored)
  unfolding advanced
  advanced_next n = rw (ne_eqb _ _ n)

  pub advanced_storage : (advanced i p r s).storage ≡ s
  advanced_storage =
      by_test (p.expected =? last_frame p.length)
      (λ t. ap (λ (a : After). a.storage) (advanced_last (eqb-true p.expected (last_frame p.length) t)))
      (λ t. ap (λ (a : After). a.storage) (advanced_next (eqb-false p.expected (last_frame p.length) t)))

  module _ (q n : ℕ) (bytes : List ℕ) where
    pub frame_expected : q ≡ p.sequence → n ≡ p.expected
        → frame_at i p q n bytes r s ≡ advanced i p r (kept_at i p bytes s)
    unfolding frame_at
    frame_expected d e = rw (eq-eqb _ _ d, eq-eqb _ _ e)

    pub frame_other_sequence : (q ≡ p.sequence → ⊥)
        → frame_at i p q n bytes r s ≡ leaves (placing r i free_place) s (refused 10)
    unfolding frame_at
    frame_other_sequence d = rw (ne_eqb _ _ d)

    pub frame_other_number : q ≡ p.sequence → (n ≡ p.expected → ⊥)
        → frame_at i p q n bytes r s ≡ leaves (placing r i free_place) s (refused 10)
    unfolding frame_at
    frame_other_number d e = rw (eq-eqb _ _ d, ne_eqb _ _ e)

module _ (pair sequence number : ℕ) (bytes : List ℕ) (r : Receiver) (s : List ℕ) where
  pub continues_at : (i : ℕ) → first (is_open_by pair) r.places ≡ Some i
      → hears_later pair sequence number bytes r s ≡ frame_at i (get_or r.places i free_place) sequence number bytes r s
  unfolding hears_later
  continues_at i e = rw e

  pub continues_nowhere : first (is_open_by pair) r.places ≡ None
      → hears_later pair sequence number bytes r s ≡ leaves r s (refused 9)
  unfolding hears_later
  continues_nowhere e = rw e

-- the rules of a state, one by one

pub record Rules (r : Receiver) : Type 0 where
  pub few : r.named ≤ most_named
  pub well_formed : is_well_formed (names_of r) ≡ true
  pub each : every (place_keeps_rules (names_of r)) r.places ≡ true
  pub alone : one_each layout r.places ≡ true

pub rules_of : (r : Receiver) → keeps_rules r ≡ true → Rules r
unfolding keeps_rules holds_names
rules_of r e =
    let a = both_true ((r.named ≤? most_named) and is_well_formed (names_of r)) _ e in
    let b = both_true (r.named ≤? most_named) _ a.0 in
    let c = both_true (every (place_keeps_rules (names_of r)) r.places) _ a.1 in
    record { few = leb-true _ _ b.0; well_formed = b.1; each = c.0; alone = c.1 }

pub keeps_rules_lem : (r : Receiver) → Rules r → keeps_rules r ≡ true
unfolding keeps_rules holds_names
keeps_rules_lem r k = rw (le-leb _ _ k.few, k.well_formed, k.each, k.alone)

-- a well-formed list's DGNs may be named
pub all_allowed : (names : List ℕ) → is_well_formed names ≡ true → every may_be_named names ≡ true
unfolding is_well_formed
all_allowed names e = (both_true (every may_be_named names) _ (both_true (length names ≤? most_named) _ e).1).0

-- the rules of an open place, one by one
pub record OpenRules (names : List ℕ) (p : Place) : Type 0 where
  pub about : is_named p.dgn names ≡ true
  pub from : p.sender ≤ greatest_address
  pub numbered : p.sequence ≤ greatest_sequence
  pub long : first_bytes < p.length
  pub short : p.length ≤ longest
  pub begun : 1 ≤ p.expected
  pub within : p.expected ≤ last_frame p.length
  pub fresh : p.idle ≤ idle_limit

pub open_rules : (names : List ℕ) (p : Place) → is_free p ≡ false → place_keeps_rules names p ≡ true → OpenRules names p
unfolding place_keeps_rules keeps_limits
open_rules names p f e =
    let r₀ = both_true (is_named p.dgn names) _ (rw f at e) in
    let r₁ = both_true (p.sender ≤? greatest_address) _ r₀.1 in
    let r₂ = both_true (p.sequence ≤? greatest_sequence) _ r₁.1 in
    let r₃ = both_true (first_bytes <? p.length) _ r₂.1 in
    let r₄ = both_true (p.length ≤? longest) _ r₃.1 in
    let r₅ = both_true (1 ≤? p.expected) _ r₄.1 in
    let r₆ = both_true (p.expected ≤? last_frame p.length) _ r₅.1 in
    record {
      about = r₀.0;
      from = leb-true _ _ r₁.0;
      numbered = leb-true _ _ r₂.0;
      long = ltb-true _ _ r₃.0;
      short = leb-true _ _ r₄.0;
      begun = leb-true _ _ r₅.0;
      within = leb-true _ _ r₆.0;
      fresh = leb-true _ _ r₆.1;
    }

pub rules_open : (names : List ℕ) (p : Place) → is_free p ≡ false → OpenRules names p → place_keeps_rules names p ≡ true
unfolding place_keeps_rules keeps_limits
rules_open names p f o =
    rw (
      f,
      o.about,
      le-leb _ _ o.from,
      le-leb _ _ o.numbered,
      lt-ltb _ _ o.long,
      le-leb _ _ o.short,
      le-leb _ _ o.begun,
      le-leb _ _ o.within,
      le-leb _ _ o.fresh,
    )

-- the open place of a pair, in a state that keeps its rules
pub rules_at : (pair j : ℕ) (r : Receiver) → keeps_rules r ≡ true → first (is_open_by pair) r.places ≡ Some j
    → OpenRules (names_of r) (get_or r.places j free_place)
rules_at pair j r v e =
    let t = found_at j (is_open_by pair) r.places free_place e in
    let p = get_or r.places j free_place in
    let o = both_true (not (is_free p)) _ t.passes in
    open_rules (names_of r) p (not-true (is_free p) o.0)
    (every_at (place_keeps_rules (names_of r)) r.places j free_place t.below (rules_of r v).each)

pub live_at : (pair j : ℕ) (r : Receiver) → keeps_rules r ≡ true → first (is_open_by pair) r.places ≡ Some j
    → Live (get_or r.places j free_place)
live_at pair j r v e =
    let o = rules_at pair j r v e in
    record { long = o.long; short = o.short; begun = o.begun; within = o.within }

-- a frame

module _ (id : ℕ) (bytes : List ℕ) (r : Receiver) (s : List ℕ) where
  pub heard_short : length s < room → heard id bytes r s ≡ leaves r s (refused 1)
  unfolding heard
  heard_short h = rw (lt-ltb _ _ h)

  pub heard_broken : room ≤ length s → keeps_rules r ≡ false → heard id bytes r s ≡ leaves r s (refused 2)
  unfolding heard
  heard_broken h v = rw (le-ltb _ _ h, v)

  pub heard_kept : room ≤ length s → keeps_rules r ≡ true
      → heard id bytes r s ≡ by_meaning (meaning_of (names_of r) id bytes) bytes r s
  unfolding heard
  heard_kept h v = rw (le-ltb _ _ h, v)

-- by what the frame means

module _ (names : List ℕ) (id : ℕ) (bytes : List ℕ) where
  pub meaning_refused : (n : ℕ) → checked_of id (length bytes) ≡ refused n → meaning_of names id bytes ≡ refused n
  unfolding meaning_of
  meaning_refused n e = rw e

  pub meaning_given : (p : Parts) → checked_of id (length bytes) ≡ gives p
      → meaning_of names id bytes ≡ meant names p.source p.dgn bytes
  unfolding meaning_of
  meaning_given p e = rw e

module _ (names : List ℕ) (sender dgn : ℕ) (bytes : List ℕ) where
  pub meant_other : is_named dgn names ≡ false → meant names sender dgn bytes ≡ gives other
  unfolding meant
  meant_other e = rw e

  pub meant_carried : is_named dgn names ≡ true → meant names sender dgn bytes ≡ carried sender dgn bytes
  unfolding meant
  meant_carried e = rw e
