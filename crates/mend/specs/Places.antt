-- What the private functions promise of a line, by places in it and in the lent bytes (for RULES 17.3 to 17.12).
use Rattle.std.specs.Prelude.{Option, Some, None}
use Rattle.std.specs.Prelude.{◌≡◌, Bool, List, [], ◌++◌, ℕ, ◌+◌, ◌-◌, ◌≤◌, length, take, drop, if◌then◌else◌}
use Rattle.words.specs.Words.{Told, refused, gives}
use Rattle.text.specs.Text.{text}
use Rattle.text.specs.Pieces.{Wrote}
use Rattle.mend.specs.Mending.{Parts, Field, field_of, parts_in, mended}
use Rattle.mend.specs.Report.{actions_text, any_action, action_line}
use Rattle.mend.specs.declared.fields.Places.{Places}
use Rattle.mend.specs.declared.line.Actions.{Actions}
use Rattle.mend.specs.declared.line.Outcome.{Outcome}
use Rattle.mend.specs.declared.line.Outcome.TheVariants.{Kept, Dropped}

-- a part of a line, from a place to before another
abbrev pub part : ℕ → ℕ → List ℕ → List ℕ
part from to line = take (to - from) (drop from line)

-- a field whose digits begin at `from`
abbrev pub field_at : List ℕ → ℕ → Option ℕ → Told Field
field_at line from (Some to) = gives (record { digits = part from to line; rest = drop to line })
field_at line from None = refused 19

pub record FieldFound (line : List ℕ) (at : ℕ) (key : List ℕ) (base : ℕ) (r : Option ℕ) : Type 0 where
  pub told : field_at line (at + length key) r ≡ field_of key base (drop at line)
  pub fits : (to : ℕ) → r ≡ Some to → (at + length key ≤ to) × (to ≤ length line)

-- what stands behind the last field: nothing, a carriage return, or anything else
abbrev pub told_return : Option Bool → Told Bool
told_return (Some returns) = gives returns
told_return None = refused 19

-- the fields of a line

unfoldable pub parts_at : List ℕ → Places → Parts
parts_at line p =
    record {
      gap = part 4 p.gap_to line;
      id = part (p.gap_to + 4) p.id_to line;
      bytes = part (p.id_to + 6) p.data_to line;
      returns = p.returns;
    }

abbrev pub told_fields : List ℕ → Option Places → Told Parts
told_fields line (Some p) = gives (parts_at line p)
told_fields line None = refused 19

pub record PlacesFit (line : List ℕ) (p : Places) : Type 0 where
  pub gap : 4 ≤ p.gap_to
  pub id : p.gap_to + 4 ≤ p.id_to
  pub bytes : p.id_to + 6 ≤ p.data_to
  pub within : p.data_to ≤ length line

pub record FieldsFound (line : List ℕ) (r : Option Places) : Type 0 where
  pub told : told_fields line r ≡ parts_in line
  pub fits : (p : Places) → r ≡ Some p → PlacesFit line p

-- a line that is kept: its text stands in the lent bytes, from `at` to before `to`
pub record KeptText (line out : List ℕ) (at : ℕ) (out' : List ℕ) (to : ℕ) (actions : Actions) : Type 0 where
  pub text : List ℕ
  pub told : mended line ≡ gives (record { text = text; actions = actions })
  pub wrote : Wrote out at text out' to
  pub short : to ≤ at + 96

pub record Became (line out : List ℕ) (at : ℕ) (out' : List ℕ) (r : Outcome) : Type 0 where
  pub kept : (to : ℕ) (actions : Actions) → r ≡ Kept to actions → KeptText line out at out' to actions
  pub dropped : r ≡ Dropped → mended line ≡ refused 19
  pub before : take at out' ≡ take at out
  pub room : length out' ≡ length out

-- an action whose word is a list of bytes
unfoldable pub action_word : Bool → Bool → List ℕ → List ℕ
action_word some due word = if due then (if some then text "," else []) ++ word else []

-- what the report says of a line that was kept
unfoldable pub mended_line : ℕ → Actions → List ℕ
mended_line n actions = if any_action actions then action_line n (actions_text actions) else []
