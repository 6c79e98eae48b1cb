-- The report that busread prints of a capture (RULES 11.8 to 11.18): a first line, what each line of the capture
-- prints, and a closing line. Everything is text, as the list of its bytes.
use Rattle.std.specs.Prelude.{List, [], ◌∷◌, ◌++◌, ℕ, ◌+◌, take, drop, length, replicate}
use Prim.Native.String.{String}
use Rattle.words.specs.Words.{Told, refused, gives}
use Rattle.text.specs.Text.{text, digits, decimal, byte_pairs}
use Rattle.frame.specs.Bytes.{number_of}
use Rattle.frame.specs.Identifier.{source_of, dgn_of, catalogue_form}
use Rattle.places.specs.Places.{place_count}
use Rattle.places.specs.Telling.{Outcome, nothing_to_do, opened, stored, finished}
use Rattle.message.specs.Receiver.{room, free_place, After, heard}
use Rattle.message.specs.Receiver.{paused_places}
use Rattle.message.specs.Promises.{message_in}
use Rattle.message.specs.declared.Place.{Place}
use Rattle.catalogue.specs.Rows.{rows}
use Rattle.catalogue.specs.Table.{span_of}
use Rattle.catalogue.specs.Catalogue.{field_in}
use Rattle.catalogue.specs.declared.Row.{Row}
use Rattle.catalogue.specs.declared.Field.{Field}
use Rattle.catalogue.specs.declared.Class.{Class}
use Rattle.catalogue.specs.declared.Class.TheVariants.{Number, NoData, OutOfRange, Reserved}
use Rattle.capture.specs.Line.{Frame}
use Rattle.capture.specs.Stream.{Piece, lines_of, piece_read}
use Rattle.busread.specs.declared.report.Counts.{Counts}
use Rattle.busread.specs.declared.step.Print.{Print}
use Rattle.busread.specs.declared.step.Print.TheVariants.{Refused, Message, Fields, Nothing}

-- The words of a line.

abbrev pub newline : List ℕ
newline = text "\n"

-- a source has two digits, a DGN five
abbrev pub source_digits : ℕ
source_digits = 2

abbrev pub dgn_digits : ℕ
dgn_digits = 5

-- a key and its value
abbrev pub keyed : String → List ℕ → List ℕ
keyed key value = text key ++ value

unfoldable pub head_text : ℕ → ℕ → ℕ → List ℕ
head_text n source dgn =
    keyed "frame=" (decimal n) ++ keyed " sa=" (digits 16 source_digits source)
    ++ keyed " dgn=" (digits 16 dgn_digits dgn)

unfoldable pub refusal_text : ℕ → ℕ → List ℕ
refusal_text n refusal = keyed "frame=" (decimal n) ++ keyed " refusal=" (decimal refusal) ++ newline

unfoldable pub message_text : ℕ → ℕ → ℕ → List ℕ → List ℕ
message_text n source dgn bytes =
    head_text n source dgn ++ keyed " length=" (decimal (length bytes)) ++ keyed " bytes=" (byte_pairs bytes) ++ newline

unfoldable pub class_name : Class → List ℕ
class_name Number = text "number"
class_name NoData = text "no-data"
class_name OutOfRange = text "out-of-range"
class_name Reserved = text "reserved"

unfoldable pub place_text : Row → List ℕ
place_text row = keyed " bit=" (decimal row.first) ++ keyed " width=" (decimal row.width)

unfoldable pub value_text : Class → ℕ → List ℕ
value_text class code = keyed " class=" (class_name class) ++ keyed " raw=" (decimal code)

-- a field's line, behind the head of its frame
unfoldable pub field_text : List ℕ → Row → Field → List ℕ
field_text head row field = head ++ place_text row ++ value_text field.class field.code ++ newline

-- a line for each of some rows, of a frame whose eight bytes are this number
unfoldable pub fields_text : List ℕ → ℕ → List Row → List ℕ
fields_text head number [] = []
fields_text head number (row ∷ rest) = field_text head row (field_in row number) ++ fields_text head number rest

unfoldable pub closing_text : Counts → List ℕ
closing_text counts =
    keyed "frames=" (decimal counts.frames) ++ keyed " refused=" (decimal counts.refused) ++
    keyed " messages=" (decimal counts.messages) ++ newline

-- What an answer of the receiver prints: the number of a refusal, the message that was finished, the fields of a frame
-- that is none of a long message, or nothing.
abbrev pub print_of : Told Outcome → Print
print_of (refused n) = Refused n
print_of (gives nothing_to_do) = Fields
print_of (gives opened) = Nothing
print_of (gives stored) = Nothing
print_of (gives (finished m)) = Message m.sender m.dgn

-- the rows of a frame's DGN, rising
abbrev pub rows_of : ℕ → List Row
rows_of dgn = take (span_of (catalogue_form dgn)).count (drop (span_of (catalogue_form dgn)).start rows)

abbrev pub printed : ℕ → Frame → List ℕ → Print → List ℕ
printed n f message (Refused refusal) = refusal_text n refusal
printed n f message (Message sender dgn) = message_text n sender dgn message
printed n f message Fields =
    fields_text (head_text n (source_of f.id) (dgn_of f.id)) (number_of f.bytes) (rows_of (dgn_of f.id))
printed n f message Nothing = []

-- a finished message is that part of the storage
unfoldable pub answer_text : ℕ → Frame → List ℕ → Told Outcome → List ℕ
answer_text n f storage answer = printed n f (message_in storage answer) (print_of answer)

-- The counts: all lines, those refused, and the messages finished.
abbrev pub counted : Counts → Print → Counts
counted c (Refused n) = record { frames = c.frames + 1; refused = c.refused + 1; messages = c.messages }
counted c (Message sender dgn) = record { frames = c.frames + 1; refused = c.refused; messages = c.messages + 1 }
counted c Fields = record { frames = c.frames + 1; refused = c.refused; messages = c.messages }
counted c Nothing = record { frames = c.frames + 1; refused = c.refused; messages = c.messages }

-- What is kept from line to line: the receiver's places and storage, and the counts.
pub record Kept : Type 0 where
  pub places : List Place
  pub storage : List ℕ
  pub counts : Counts

-- the pause comes before its frame
unfoldable pub heard_in : Kept → Frame → After
heard_in k f = heard f.id f.bytes (paused_places f.gap k.places) k.storage

-- what a line prints, and what it leaves: a malformed one passes no time
unfoldable pub line_text : Kept → Told Frame → List ℕ
line_text k (refused n) = refusal_text (k.counts.frames + 1) n
line_text k (gives f) = answer_text (k.counts.frames + 1) f (heard_in k f).storage (heard_in k f).answer

unfoldable pub kept_after : Kept → Told Frame → Kept
kept_after k (refused n) = record { places = k.places; storage = k.storage; counts = counted k.counts (Refused n) }
kept_after k (gives f) =
    record {
      places = (heard_in k f).places;
      storage = (heard_in k f).storage;
      counts = counted k.counts (print_of (heard_in k f).answer);
    }

-- the lines of a capture, and the closing line
unfoldable pub lines_text : Kept → List Piece → List ℕ
lines_text k [] = closing_text k.counts
lines_text k (piece ∷ pieces) = line_text k (piece_read piece) ++ lines_text (kept_after k (piece_read piece)) pieces

abbrev pub at_start : Kept
at_start =
    record {
      places = replicate place_count free_place;
      storage = replicate room 0;
      counts = record { frames = 0; refused = 0; messages = 0 };
    }

-- the report of a capture
unfoldable pub report : List ℕ → List ℕ
report stream = text "format=1\n" ++ lines_text at_start (lines_of stream)
