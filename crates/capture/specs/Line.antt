-- A line of a capture (RULES 11.1 to 11.5): `gap=50 id=1CEBFF54 data=0141434D452A5831`, the keys in this order, the gap
-- decimal without leading zeros and at most 65,535, the identifier 8 hex digits and the data 16, in capitals. How a
-- frame is written is the definition; every other line is malformed (19). An identifier of 2^29 or more is well
-- spelled: it meets refusal 3, not 19.
use Rattle.std.specs.Prelude.{◌≡◌, Bool, true, false, not, List, [], ◌∷◌, ◌++◌, ℕ, zero, suc, ◌+◌, ◌-◌, ◌^◌, ◌≤◌, ◌<◌, length, take, drop, if◌then◌else◌}
use Rattle.words.specs.Words.{given◌then◌, ◌<?◌, ◌≤?◌, ◌=?◌, ◌and◌, Told, refused, gives}
use Rattle.text.specs.Text.{text, digits, decimal_width, decimal, byte_digits, byte_pairs}
use Rattle.frame.specs.Bytes.{AreBytes}
use Rattle.frame.specs.Frame.{frame_bytes}
use Rattle.capture.specs.Digits.{number_read}

-- what a line says: the pause before the frame, in milliseconds, and the frame
pub record Frame : Type 0 where
  pub gap : ℕ
  pub id : ℕ
  pub bytes : List ℕ

-- the keys

abbrev pub gap_key : List ℕ
gap_key = text "gap="

abbrev pub id_key : List ℕ
id_key = text " id="

abbrev pub data_key : List ℕ
data_key = text " data="

-- pauses go up to 65,535 ms
abbrev pub greatest_gap : ℕ
greatest_gap = 65535

-- the digits of an identifier
abbrev pub id_digits : ℕ
id_digits = 8

-- the line of a frame, without its newline
unfoldable pub line_of : Frame → List ℕ
line_of f =
    gap_key ++ decimal f.gap ++ id_key ++ digits 16 id_digits f.id ++ data_key ++ byte_pairs f.bytes

-- the frames that a line can say
pub record IsFrame (f : Frame) : Type 0 where
  pub gap_fits : f.gap ≤ greatest_gap
  pub id_fits : f.id < 2 ^ 32
  pub eight : length f.bytes ≡ frame_bytes
  pub are_bytes : AreBytes f.bytes

-- a line is sound when it is the line of a frame
pub record IsLineOf (f : Frame) (line : List ℕ) : Type 0 where
  pub frame : IsFrame f
  pub spelling : line ≡ line_of f

-- A line read. The keys, identifier and data have 38 bytes, so the rest of its length is the gap's; a line has 39 to 43
-- bytes.

abbrev pub around_gap : ℕ
around_gap = 38

abbrev pub width_in : List ℕ → ℕ
width_in line = length line - around_gap

abbrev pub shortest_line : ℕ
shortest_line = 39

abbrev pub longest_sound : ℕ
longest_sound = 43

unfoldable pub begins_with : List ℕ → List ℕ → Bool
begins_with [] line = true
begins_with (k ∷ key) [] = false
begins_with (k ∷ key) (c ∷ line) = (c =? k) and begins_with key line

-- the length, and the three keys where they must stand
unfoldable pub has_shape : List ℕ → Bool
has_shape line =
    (shortest_line ≤? length line) and (length line ≤? longest_sound) and begins_with gap_key line
    and begins_with id_key (drop (width_in line + 4) line) and begins_with data_key (drop (width_in line + 16) line)

-- a gap has the digits that it needs, and no more
unfoldable pub gap_read : List ℕ → Told ℕ
gap_read part =
    given number_read 10 part then λ gap.
    if greatest_gap <? gap then refused 19 else
    if not (decimal_width gap =? length part) then refused 19 else
    gives gap

-- so many bytes, from two digits each
unfoldable pub bytes_read : ℕ → List ℕ → Told (List ℕ)
bytes_read zero part = gives []
bytes_read (suc count) part =
    given number_read 16 (take byte_digits part) then λ b.
    given bytes_read count (drop byte_digits part) then λ bs.
    gives (b ∷ bs)

abbrev pub gap_in : List ℕ → List ℕ
gap_in line = take (width_in line) (drop 4 line)

abbrev pub id_in : List ℕ → List ℕ
id_in line = take id_digits (drop (width_in line + 8) line)

abbrev pub data_in : List ℕ → List ℕ
data_in line = drop (width_in line + 22) line

unfoldable pub line_read : List ℕ → Told Frame
line_read line =
    if not (has_shape line) then refused 19 else
    given gap_read (gap_in line) then λ gap.
    given number_read 16 (id_in line) then λ id.
    given bytes_read frame_bytes (data_in line) then λ bytes.
    gives (record { gap = gap; id = id; bytes = bytes })
