-- Positions in the hosted list: which entries pass a test, in rising order (RULES 10.6 and 10.18). Commands and
-- requests both give them, each by a test of its own.
use Rattle.std.specs.Prelude.{Bool, List, [], ◌∷◌, ℕ, suc, length, take, if◌then◌else◌}
use Rattle.words.specs.Lists.{filled_to}
use Rattle.command.specs.Hosted.{most_entries}
use Rattle.command.specs.declared.Entry.{Entry}
use Rattle.command.specs.declared.Positions.{Positions}

-- the positions, counted from i, of the entries that pass
abbrev pub positions_from : ℕ → (Entry → Bool) → List Entry → List ℕ
positions_from i passes [] = []
positions_from i passes (e ∷ es) =
    if passes e then i ∷ positions_from (suc i) passes es else
    positions_from (suc i) passes es

unfoldable pub positions_where : (Entry → Bool) → List Entry → List ℕ
positions_where passes es = positions_from 0 passes es

-- positions as they are handed out: filled up with zeros
unfoldable pub filled : List ℕ → Positions
filled ps = record { at = filled_to most_entries 0 ps; count = length ps }

-- and read again
abbrev pub listed : Positions → List ℕ
listed p = take p.count p.at
