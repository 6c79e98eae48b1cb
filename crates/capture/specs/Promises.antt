-- What each public call of this crate promises (RULES 11.7 and 13.7): one proposition over all that it answers. The
-- answers are read as numbers and values (RULES 2.10).
use Rattle.std.specs.Prelude.{◌≡◌, List, ℕ, length, drop, replicate, Result, Ok, Err}
use Rattle.words.specs.Words.{Told, refused, gives, number_in}
use Rattle.words.specs.Lists.{filled_to}
use Rattle.frame.specs.Frame.{frame_bytes}
use Rattle.capture.specs.Line.{Frame, line_of, line_read, longest_sound}
use Rattle.capture.specs.Cutter.{fresh, cutting_of, cutter_after, read_to, ending_of}
use Rattle.capture.specs.declared.NotRead.{NotRead}
use Rattle.capture.specs.declared.NotRead.TheVariants.{Malformed}
use Rattle.capture.specs.declared.Line.{Line}
use Rattle.capture.specs.declared.Text.{Text}
use Rattle.capture.specs.declared.Cutter.{Cutter}
use Rattle.capture.specs.declared.Cut.{Cut}
use Rattle.capture.specs.declared.Ending.{Ending}

-- take_apart: the answer as number and values, and what stands beside it

abbrev pub frame_in : Line → Frame
frame_in r = record { gap = r.gap; id = r.id; bytes = r.bytes }

abbrev pub Reading : Type 0
Reading = Result (Unit {0}) NotRead

abbrev pub number_of_not_read : NotRead → ℕ
number_of_not_read Malformed = 19

abbrev pub told_reading : Reading → Frame → Told Frame
told_reading (Ok done) f = gives f
told_reading (Err why) f = refused (number_of_not_read why)

-- a frame that is given, and zeros beside a refusal
abbrev pub no_frame : Frame
no_frame = record { gap = 0; id = 0; bytes = replicate frame_bytes 0 }

abbrev pub frame_if : Told Frame → Frame
frame_if (gives f) = f
frame_if (refused n) = no_frame

pub record TakeApart (line : List ℕ) (r : Line) : Type 0 where
  pub answer : told_reading r.answer (frame_in r) ≡ line_read line
  pub frame : frame_in r ≡ frame_if (line_read line)

pub record NotReadRefusal (why : NotRead) (r : ℕ) : Type 0 where
  pub number : r ≡ number_of_not_read why

-- the number of the refusal is told whatever stands beside it
pub record ReadingRefusal (answer : Reading) (r : ℕ) : Type 0 where
  pub number : r ≡ number_in (told_reading answer no_frame)

-- write: the line, and zeros behind it

abbrev pub padded : List ℕ → List ℕ
padded line = filled_to longest_sound 0 line

pub record Write (gap id : ℕ) (bytes : List ℕ) (r : Text) : Type 0 where
  pub text : r.bytes ≡ padded (line_of (record { gap = gap; id = id; bytes = bytes }))
  pub count : r.count ≡ length (line_of (record { gap = gap; id = id; bytes = bytes }))

-- Cutter::new

pub record New (r : Cutter) : Type 0 where
  pub cutter : r ≡ fresh

-- Cutter::next

pub record Next (block : List ℕ) (at : ℕ) (c : Cutter) (r : Cut) : Type 0 where
  pub answer : r.answer ≡ cutting_of c at (drop at block)
  pub cutter : r.cutter ≡ cutter_after c (drop at block)
  pub read_to : r.read_to ≡ read_to c at (drop at block)

-- Cutter::last

pub record Last (c : Cutter) (r : Ending) : Type 0 where
  pub answer : r ≡ ending_of c
