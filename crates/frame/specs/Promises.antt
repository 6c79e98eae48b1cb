-- What each public call of this crate promises (RULES 3.9 to 3.12 and 13.7): one proposition over all that it answers.
-- The answers are read as numbers and values (RULES 2.10).
use Rattle.std.specs.Prelude.{◌≡◌, List, [], ◌∷◌, ℕ, length, replicate, Result, if◌then◌else◌}
use Rattle.words.specs.Words.{◌=?◌, Told, refused, gives, number_in, told}
use Rattle.frame.specs.Bytes.{number_of, bytes_of}
use Rattle.frame.specs.Identifier.{is_addressed, destination_of, catalogue_form}
use Rattle.frame.specs.Frame.{apart_of, formed_of, checked_of, frame_bytes}
use Rattle.frame.specs.Standard.{everyone, dgn_bytes}
use Rattle.frame.specs.declared.Parts.{Parts}
use Rattle.frame.specs.declared.BadIdentifier.{BadIdentifier}
use Rattle.frame.specs.declared.NotFormed.{NotFormed}
use Rattle.frame.specs.declared.NotFormed.TheVariants.{NoCode}
use Rattle.frame.specs.declared.BadFrame.{BadFrame}
use Rattle.frame.specs.declared.BadFrame.TheVariants.{IdentifierTooLarge, NotEightBytes, ReservedBitSet}
use Rattle.frame.specs.declared.BadFrame.TheVariants.{SourceNotAllowed}
use Rattle.frame.specs.declared.Checked.{Checked}
use Rattle.frame.specs.declared.Destination.{Destination}
use Rattle.frame.specs.declared.Destination.TheVariants.{NotAddressed, All, One}

-- take_apart

abbrev pub Apart : Type 0
Apart = Result Parts BadIdentifier

abbrev pub number_of_bad_identifier : BadIdentifier → ℕ
number_of_bad_identifier BadIdentifier.IdentifierTooLarge = 3
number_of_bad_identifier BadIdentifier.ReservedBitSet = 5

abbrev pub told_apart : Apart → Told Parts
told_apart r = told number_of_bad_identifier r

pub record TakeApart (id : ℕ) (r : Apart) : Type 0 where
  pub answer : told_apart r ≡ apart_of id

pub record BadIdentifierRefusal (why : BadIdentifier) (r : ℕ) : Type 0 where
  pub number : r ≡ number_of_bad_identifier why

pub record ApartRefusal (answer : Apart) (r : ℕ) : Type 0 where
  pub number : r ≡ number_in (told_apart answer)

-- form

abbrev pub Formed : Type 0
Formed = Result ℕ NotFormed

abbrev pub number_of_not_formed : NotFormed → ℕ
number_of_not_formed NoCode = 12

abbrev pub told_formed : Formed → Told ℕ
told_formed r = told number_of_not_formed r

pub record Form (priority dgn source : ℕ) (r : Formed) : Type 0 where
  pub answer : told_formed r ≡ formed_of priority dgn source

pub record NotFormedRefusal (why : NotFormed) (r : ℕ) : Type 0 where
  pub number : r ≡ number_of_not_formed why

pub record FormedRefusal (answer : Formed) (r : ℕ) : Type 0 where
  pub number : r ≡ number_in (told_formed answer)

-- check: the verdict, and the frame's bytes beside it

abbrev pub refusal_of : BadFrame → ℕ
refusal_of IdentifierTooLarge = 3
refusal_of NotEightBytes = 4
refusal_of ReservedBitSet = 5
refusal_of SourceNotAllowed = 6

abbrev pub Verdict : Type 0
Verdict = Result Parts BadFrame

abbrev pub told_verdict : Verdict → Told Parts
told_verdict r = told refusal_of r

pub record BadFrameRefusal (why : BadFrame) (r : ℕ) : Type 0 where
  pub number : r ≡ refusal_of why

pub record VerdictRefusal (answer : Verdict) (r : ℕ) : Type 0 where
  pub number : r ≡ number_in (told_verdict answer)

-- the bytes of a frame that is given, and zeros beside a refusal
abbrev pub bytes_if : Told Parts → List ℕ → List ℕ
bytes_if (gives parts) bytes = bytes
bytes_if (refused n) bytes = replicate frame_bytes 0

pub record Check (id : ℕ) (bytes : List ℕ) (r : Checked) : Type 0 where
  pub answer : told_verdict r.verdict ≡ checked_of id (length bytes)
  pub data_bytes : r.bytes ≡ bytes_if (checked_of id (length bytes)) bytes

-- destination_of

abbrev pub destined : ℕ → Destination
destined dgn =
    if is_addressed dgn then
    if destination_of dgn =? everyone then All else
    One (destination_of dgn)
    else NotAddressed

pub record DestinationOf (dgn : ℕ) (r : Destination) : Type 0 where
  pub answer : r ≡ destined dgn

-- catalogue_form

pub record CatalogueForm (dgn r : ℕ) : Type 0 where
  pub answer : r ≡ catalogue_form dgn

-- number_of

pub record NumberOf (bytes : List ℕ) (r : ℕ) : Type 0 where
  pub answer : r ≡ number_of bytes

-- bytes_of

pub record BytesOf (number : ℕ) (r : List ℕ) : Type 0 where
  pub answer : r ≡ bytes_of frame_bytes number

-- dgn_bytes

pub record DgnBytes (dgn : ℕ) (r : List ℕ) : Type 0 where
  pub answer : r ≡ dgn_bytes dgn

-- dgn_of

pub record DgnOf (low middle high r : ℕ) : Type 0 where
  pub answer : r ≡ number_of (low ∷ middle ∷ high ∷ [])
