-- The statement of specs/FastSplitAndJoin.antt: by the single-pair rules the message is joined, whatever was open, and
-- on the bus a pair is told what those rules say.
-- Assumes nothing.
use mathlib.Core.Path.{◌≡◌, refl, sym, ap, ◌∙◌}
use mathlib.Core.Bool.{true}
use mathlib.Core.List.{List, [], ◌∷◌, ◌++◌, append_assoc}
use mathlib.Core.Option.{Option, none}
use Prim.Native.Nat.{ℕ}
use native.Mathlib.Omega.{arith}
use Rattle.words.specs.Words.{Told, gives}
use Rattle.frame.specs.Standard.{Frame}
use Rattle.words.proofs.Words.{by_test}
use Rattle.places.specs.Format.{Event, frame, pause}
use Rattle.places.specs.OneKey.{solo, hear_alone, pause_alone, open_after}
use Rattle.places.specs.Telling.{Tells, finished}
use Rattle.fast.specs.FastPacket.{pair_of}
use Rattle.fast.specs.Names.{is_well_formed}
use Rattle.fast.specs.OnePair.{Open, fast_packets}
use Rattle.fast.specs.Calls.{Held, Starts}
use Rattle.fast.proofs.Joined.{joined_by_rules}
use Rattle.demands.specs.FastSplitAndJoin.{SplitAndJoin}
use Rattle.demands.proofs.FastBus.{told_on_bus}

-- a list that was named at the start is well formed: any other start is refused with 16
named_well : (names : List ℕ) (s : Held) → Starts names s → is_well_formed names ≡ true
named_well names s k =
    by_test (is_well_formed names)
    (λ t. t)
    (λ t. let e : 0 ≡ 16 = rw t at k.start.answer in absurd (omega arith))

-- the events before the message only lead to some state

module _ (names : List ℕ) where
  solo_append : (m : Option Open) (earlier own : List (Event Frame))
      → solo (fast_packets names) m (earlier ++ own)
      ≡ solo (fast_packets names) m earlier ++ solo (fast_packets names) (open_after (fast_packets names) m earlier) own
  solo_append m [] own = refl
  solo_append m (frame f ∷ es) own =
      ap (λ (l : List (Told Tells)). (hear_alone (fast_packets names) f m).answer ∷ l)
      (solo_append (hear_alone (fast_packets names) f m).next es own)
  solo_append m (pause ms ∷ es) own = solo_append (pause_alone (fast_packets names) ms m) es own

pub split_and_join : SplitAndJoin
split_and_join names message dgn sender sequence h s earlier own w b e o =
    let well = named_well names b.first b.starts in
    let before = open_after (fast_packets names) none earlier in
    let r = joined_by_rules names message dgn sender sequence own well w o before in
    let first = solo (fast_packets names) none earlier in
    let last : List (Told Tells) = gives (finished (record { sender = sender; dgn = dgn; bytes = message })) ∷ [] in (
      first ++ r.0,
      told_on_bus names h s b (pair_of sender dgn)
          ∙ ap (λ (x : List (Event Frame)). solo (fast_packets names) none x) e
          ∙ solo_append names none earlier own
          ∙ ap (λ (x : List (Told Tells)). first ++ x) r.1
          ∙ sym (append_assoc first r.0 last),
    )
