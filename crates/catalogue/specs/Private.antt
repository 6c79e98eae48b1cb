-- What the private functions of this crate promise, where it is no definition of the others (for RULES 7.9 and 7.10).
use Rattle.std.specs.Prelude.{Bool, ℕ, Option, Some, None}
use Rattle.words.specs.Words.{◌=?◌, ◌and◌, Told, refused, gives}
use Rattle.frame.specs.Identifier.{catalogue_form}
use Rattle.catalogue.specs.Table.{lies_in_frame}
use Rattle.catalogue.specs.declared.Row.{Row}
use Rattle.catalogue.specs.declared.NotRead.{NotRead}
use Rattle.catalogue.specs.declared.NotWritten.{NotWritten}

abbrev pub told_coded : Option ℕ → Told ℕ
told_coded (Some code) = gives code
told_coded None = refused 12

-- whether a row has a DGN and a first bit
abbrev pub begins : ℕ → ℕ → Row → Bool
begins dgn first r = (r.dgn =? dgn) and (r.first =? first)

-- whether a row lies in a frame, and its DGN is this one (an addressed DGN with 00h for its destination)
abbrev pub is_of : Row → ℕ → Bool
is_of row dgn = lies_in_frame row and (row.dgn =? catalogue_form dgn)

-- what is not read is not written, for the same reason
abbrev pub not_written : NotRead → NotWritten
not_written (NotRead.BadFrame why) = NotWritten.BadFrame why
not_written NotRead.NoSuchRow = NotWritten.NoSuchRow
