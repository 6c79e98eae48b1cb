-- What the private functions of this crate promise, where it is no definition of the others (for RULES 11.7).
use Rattle.std.specs.Prelude.{Option, Some, None}
use Rattle.words.specs.Words.{Told, refused, gives}
use Rattle.capture.specs.Line.{Frame}
use Rattle.capture.specs.Promises.{frame_in}
use Rattle.capture.specs.declared.Line.{Line}

-- what digits spell; 19 where one is none
abbrev pub told_spelled : {A : Type 0} → Option A → Told A
told_spelled (Some a) = gives a
told_spelled None = refused 19

-- the frame of a line that is one
abbrev pub told_line : Option Line → Told Frame
told_line (Some line) = gives (frame_in line)
told_line None = refused 19
