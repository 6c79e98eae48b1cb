-- The cutter, which cuts a stream into lines block by block (RULES 11.7): what it keeps of a line whose end has not
-- come, and what it answers.
use Rattle.std.specs.Prelude.{Bool, List, ℕ, ◌+◌, ◌-◌, length, replicate, if◌then◌else◌}
use Rattle.words.specs.Words.{◌<?◌, ◌≤?◌, ◌=?◌}
use Rattle.text.specs.Pieces.{placed}
use Rattle.capture.specs.Stream.{longest_line, most_lines, line_in}
use Rattle.capture.specs.declared.Cutter.{Cutter}
use Rattle.capture.specs.declared.Cutting.{Cutting}
use Rattle.capture.specs.declared.Ending.{Ending}

-- at the start of a stream
abbrev pub fresh : Cutter
fresh = record { carry = replicate longest_line 0; length = 0; lines = 0 }

-- whether a line of which `size` bytes came before grows too long by so many more
unfoldable pub is_too_long : ℕ → ℕ → Bool
is_too_long size more = longest_line <? size + more

-- the cutter after a part of a line whose end has not come: the part stands behind what was kept of the line; of a line
-- too long nothing more is kept
unfoldable pub carried_on : Cutter → List ℕ → Cutter
carried_on c part =
    if is_too_long c.length (length part)
    then record { carry = c.carry; length = longest_line + 1; lines = c.lines } else
    record { carry = placed c.carry c.length part; length = c.length + length part; lines = c.lines }

-- the cutter after the last part of a line; a line that lies in one block is not kept
unfoldable pub closed : Cutter → List ℕ → Cutter
closed c part =
    record { carry = if c.length =? 0 then c.carry else (carried_on c part).carry; length = 0; lines = c.lines + 1 }

-- where a line lies whose last part is in the block from `from` to before `to`
unfoldable pub line_at : ℕ → ℕ → ℕ → Cutting
line_at size from to =
    if is_too_long size (to - from) then Cutting.TooLong else
    if size =? 0 then Cutting.Within from to else
    Cutting.Carried (size + (to - from))

-- whether a newline is left
abbrev pub has_newline : List ℕ → Bool
has_newline rest = length (line_in rest) <? length rest

-- What `next` answers of the rest of a block that begins at position `at`, how it leaves the cutter, and where it goes
-- on.

unfoldable pub cutting_of : Cutter → ℕ → List ℕ → Cutting
cutting_of c at rest =
    if most_lines ≤? c.lines then Cutting.AllRead else
    if has_newline rest then line_at c.length at (at + length (line_in rest)) else
    Cutting.BlockUsed

unfoldable pub cutter_after : Cutter → List ℕ → Cutter
cutter_after c rest =
    if most_lines ≤? c.lines then c else
    if has_newline rest then closed c (line_in rest) else
    if length rest =? 0 then c else
    carried_on c rest

unfoldable pub read_to : Cutter → ℕ → List ℕ → ℕ
read_to c at rest =
    if most_lines ≤? c.lines then at else
    if has_newline rest then at + length (line_in rest) + 1 else
    at + length rest

-- what the end of the stream ends
unfoldable pub ending_of : Cutter → Ending
ending_of c =
    if most_lines ≤? c.lines then Ending.Nothing else
    if c.length =? 0 then Ending.Nothing else
    if longest_line <? c.length then Ending.TooLong else
    Ending.Carried c.length
