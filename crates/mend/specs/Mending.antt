-- A line mended (RULES 17.3 to 17.8 and 17.10; 17.15 and 17.16 for the second half): its fields as they stand, the four
-- mendings, and what becomes of the line.
use Rattle.std.specs.Prelude.{◌≡◌, Bool, true, false, List, [], ◌∷◌, ◌++◌, map, ℕ, ◌-◌, ◌≤◌, length, drop, replicate, if◌then◌else◌}
use Rattle.words.specs.Words.{given◌then◌, ◌<?◌, ◌≤?◌, ◌=?◌, ◌and◌, ◌or◌, Told, refused, gives}
use Rattle.words.specs.Lists.{any}
use Rattle.text.specs.Text.{digit0}
use Rattle.capture.specs.Digits.{value_of, number_read}
use Rattle.capture.specs.Line.{Frame, gap_key, id_key, data_key, id_digits, greatest_gap, begins_with, bytes_read, line_read}
use Rattle.capture.specs.Line.{IsLineOf}
use Rattle.frame.specs.Frame.{frame_bytes}
use Rattle.mend.specs.declared.line.Actions.{Actions}

-- Letters: `a` to `f` are small letters of hexadecimal digits, and lie 32 above their capitals.

abbrev pub small_a : ℕ
small_a = 97

abbrev pub small_f : ℕ
small_f = 102

unfoldable pub is_small : ℕ → Bool
is_small code = (small_a ≤? code) and (code ≤? small_f)

unfoldable pub capital : ℕ → ℕ
capital code = if is_small code then code - 32 else code

abbrev pub capitals : List ℕ → List ℕ
capitals codes = map capital codes

-- The fields of a line, read from left to right: a key, the digits behind it, in letters of either case, and so on; at
-- the end at most one carriage return.

pub record Parts : Type 0 where
  pub gap : List ℕ
  pub id : List ℕ
  pub bytes : List ℕ
  pub returns : Bool

-- the digits that a text begins with
unfoldable pub ahead : ℕ → List ℕ → List ℕ
ahead base [] = []
ahead base (code ∷ codes) = if value_of (capital code) <? base then code ∷ ahead base codes else []

-- a key's digits, and what stands behind them
pub record Field : Type 0 where
  pub digits : List ℕ
  pub rest : List ℕ

abbrev pub cut_behind : ℕ → List ℕ → Field
cut_behind base codes = record { digits = ahead base codes; rest = drop (length (ahead base codes)) codes }

unfoldable pub field_of : List ℕ → ℕ → List ℕ → Told Field
field_of key base line =
    if begins_with key line then gives (cut_behind base (drop (length key) line)) else refused 19

abbrev pub carriage_return : ℕ
carriage_return = 13

unfoldable pub return_in : List ℕ → Told Bool
return_in [] = gives false
return_in (code ∷ []) = if code =? carriage_return then gives true else refused 19
return_in (code ∷ next ∷ rest) = refused 19

unfoldable pub parts_in : List ℕ → Told Parts
parts_in line =
    given field_of gap_key 10 line then λ gap.
    given field_of id_key 16 gap.rest then λ id.
    given field_of data_key 16 id.rest then λ bytes.
    given return_in bytes.rest then λ returns.
    gives (record { gap = gap.digits; id = id.digits; bytes = bytes.digits; returns = returns })

-- The mendings of a field: leading zeros go, but for the last digit; zeros come before an identifier's digits until
-- there are eight.

unfoldable pub without_zeros : List ℕ → List ℕ
without_zeros [] = []
without_zeros (code ∷ []) = code ∷ []
without_zeros (code ∷ next ∷ codes) =
    if code =? digit0 then without_zeros (next ∷ codes) else code ∷ next ∷ codes

abbrev pub zeros : ℕ → List ℕ
zeros count = replicate count digit0

unfoldable pub eight_digits : List ℕ → List ℕ
eight_digits id = zeros (id_digits - length id) ++ id

-- the line with all four
unfoldable pub tidied : Parts → List ℕ
tidied p =
    gap_key ++ without_zeros p.gap ++ id_key ++ eight_digits (capitals p.id) ++ data_key ++ capitals p.bytes

-- and which of them changed something
unfoldable pub actions_of : Parts → Actions
actions_of p =
    record {
      cr = p.returns;
      case = any is_small p.id or any is_small p.bytes;
      gap = length (without_zeros p.gap) <? length p.gap;
      id = length p.id <? id_digits;
    }

-- What becomes of a line: its text after the mendings, and which they were, where that text is sound; else it is
-- dropped, with 19. An identifier without a digit is none.

pub record Mended : Type 0 where
  pub text : List ℕ
  pub actions : Actions

unfoldable pub mended : List ℕ → Told Mended
mended line =
    given parts_in line then λ p.
    if length p.id =? 0 then refused 19 else
    given line_read (tidied p) then λ frame.
    gives (record { text = tidied p; actions = actions_of p })

-- The same without a reader: which lines name a frame, and which line is another one mended. A line in its fields,
-- which may hold anything.

abbrev pub return_text : Bool → List ℕ
return_text true = carriage_return ∷ []
return_text false = []

unfoldable pub spelled : Parts → List ℕ
spelled p = gap_key ++ p.gap ++ id_key ++ p.id ++ data_key ++ p.bytes ++ return_text p.returns

-- a line names a frame when its digits spell the frame's numbers
pub record Names (f : Frame) (line : List ℕ) : Type 0 where
  pub parts : Parts
  pub spelling : line ≡ spelled parts
  pub some_gap : 1 ≤ length parts.gap
  pub gap : number_read 10 parts.gap ≡ gives f.gap
  pub gap_fits : f.gap ≤ greatest_gap
  pub some_id : 1 ≤ length parts.id
  pub few_id : length parts.id ≤ id_digits
  pub id : number_read 16 (capitals parts.id) ≡ gives f.id
  pub all_bytes : length parts.bytes ≡ 16
  pub bytes : bytes_read frame_bytes (capitals parts.bytes) ≡ gives f.bytes

-- A line and another that it becomes by mendings of the four kinds, with those that changed it: a carriage return at
-- its end goes, small letters of its identifier and data become capitals, zeros that lead its gap go, and up to seven
-- zeros come before its identifier's digits.
pub record Mends (line line' : List ℕ) (actions : Actions) : Type 0 where
  pub gap : List ℕ
  pub id : List ℕ
  pub bytes : List ℕ
  pub zeros_gone : ℕ
  pub zeros_come : ℕ
  pub few : zeros_come ≤ 7
  pub before : line
      ≡ spelled (record { gap = zeros zeros_gone ++ gap; id = id; bytes = bytes; returns = actions.cr })
  pub after : line'
      ≡ spelled (record { gap = gap; id = zeros zeros_come ++ capitals id; bytes = capitals bytes; returns = false })
  pub letters : actions.case ≡ (any is_small id or any is_small bytes)
  pub fewer : actions.gap ≡ (0 <? zeros_gone)
  pub more : actions.id ≡ (0 <? zeros_come)

-- a sound line is the line of a frame
abbrev pub Sound : List ℕ → Type 0
Sound line = (f : Frame) × IsLineOf f line
