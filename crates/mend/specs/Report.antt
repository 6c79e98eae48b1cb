-- What the program writes of a capture (RULES 17.1, 17.2, 17.9 and 17.11 to 17.13): the mended lines, and behind them
-- a line for each that was changed or dropped. Everything is text, as the list of its bytes.
use Rattle.std.specs.Prelude.{Bool, false, List, [], ◌∷◌, ◌++◌, ℕ, ◌+◌, if◌then◌else◌}
use Prim.Native.String.{String}
use Rattle.words.specs.Words.{◌or◌, Told, refused, gives}
use Rattle.text.specs.Text.{text, decimal}
use Rattle.capture.specs.Stream.{Piece, whole, too_long, lines_of}
use Rattle.mend.specs.Mending.{Mended, mended}
use Rattle.mend.specs.declared.line.Actions.{Actions}

abbrev pub end_of_line : List ℕ
end_of_line = text "\n"

-- a line as it is read; one of more than 80 bytes is dropped, whatever it says
unfoldable pub piece_mended : Piece → Told Mended
piece_mended (whole line) = mended line
piece_mended too_long = refused 19

-- what a line is in the capture that is written; a dropped one is left out
abbrev pub written_of : Told Mended → List ℕ
written_of (gives m) = m.text ++ end_of_line
written_of (refused n) = []

unfoldable pub capture_text : List Piece → List ℕ
capture_text [] = []
capture_text (piece ∷ pieces) = written_of (piece_mended piece) ++ capture_text pieces

-- one action, with a comma before it where another was named
unfoldable pub action_text : Bool → Bool → String → List ℕ
action_text some due word = if due then (if some then text "," else []) ++ text word else []

-- the actions, in this order
unfoldable pub actions_text : Actions → List ℕ
actions_text a =
    action_text false a.cr "cr"
    ++ action_text a.cr a.case "case"
    ++ action_text (a.cr or a.case) a.gap "gap"
    ++ action_text ((a.cr or a.case) or a.gap) a.id "id"

abbrev pub any_action : Actions → Bool
any_action a = (a.cr or a.case) or (a.gap or a.id)

-- the line of the report that says what was done with a line, by the line's number
unfoldable pub action_line : ℕ → List ℕ → List ℕ
action_line n actions = text "line=" ++ decimal n ++ text " action=" ++ actions ++ end_of_line

-- a line that was not changed has none
abbrev pub report_of : ℕ → Told Mended → List ℕ
report_of n (gives m) = if any_action m.actions then action_line n (actions_text m.actions) else []
report_of n (refused r) = action_line n (text "dropped")

-- those of some lines, which are counted from n
unfoldable pub report_text : ℕ → List Piece → List ℕ
report_text n [] = []
report_text n (piece ∷ pieces) = report_of n (piece_mended piece) ++ report_text (n + 1) pieces

-- what a capture becomes, and what is said of it

unfoldable pub capture_of : List ℕ → List ℕ
capture_of stream = capture_text (lines_of stream)

unfoldable pub report_in : List ℕ → List ℕ
report_in stream = report_text 1 (lines_of stream)
