-- The laws of this crate (RULES 3), each a named statement. proofs/Laws.antt has a proof of each, under the same name
-- written small.
use Rattle.std.specs.Prelude.{◌≡◌, true, false, List, ℕ, ◌≤◌, ◌<◌, ◌%◌, ◌^◌, length, replicate, Err}
use Rattle.words.specs.Words.{Told, refused, gives}
use Rattle.frame.specs.Bytes.{number_of, bytes_of, AreBytes}
use Rattle.frame.specs.Identifier.{reserved_of, dgn_of, source_of, parts_of, identifiers, greatest_dgn}
use Rattle.frame.specs.Frame.{frame_bytes, source_allowed, apart_of, formed_of, checked_of}
use Rattle.frame.specs.Standard.{no_frame, dgn_bytes}
use Rattle.frame.specs.Promises.{Apart, Formed, Verdict, refusal_of, told_apart, told_formed, told_verdict}
use Rattle.frame.specs.Promises.{TakeApart, Form, Check}
use Rattle.frame.specs.Promises.{DestinationOf}
use Rattle.frame.specs.Promises.{CatalogueForm, NumberOf, BytesOf, DgnBytes, DgnOf, ApartRefusal, FormedRefusal}
use Rattle.frame.specs.Promises.{BadIdentifierRefusal, NotFormedRefusal, BadFrameRefusal, VerdictRefusal}
use Rattle.frame.specs.declared.Parts.{Parts}
use Rattle.frame.specs.declared.BadIdentifier.{BadIdentifier}
use Rattle.frame.specs.declared.NotFormed.{NotFormed}
use Rattle.frame.specs.declared.BadFrame.{BadFrame}
use Rattle.frame.specs.declared.Checked.{Checked}
use Rattle.frame.specs.declared.Destination.{Destination}
use Rattle.frame.specs.Promises.{number_of_bad_identifier}
use Rattle.words.specs.Words.{number_of_answer}
use Rattle.frame.specs.Promises.{number_of_not_formed}

-- An answer read as number and values loses nothing (RULES 2.10).

abbrev pub ToldApartSame : Type 0
ToldApartSame = (r s : Apart) → told_apart r ≡ told_apart s → r ≡ s

abbrev pub ToldFormedSame : Type 0
ToldFormedSame = (r s : Formed) → told_formed r ≡ told_formed s → r ≡ s

abbrev pub ToldVerdictSame : Type 0
ToldVerdictSame = (r s : Verdict) → told_verdict r ≡ told_verdict s → r ≡ s

-- No second answer keeps a promise.

abbrev pub TakeApartOnly : Type 0
TakeApartOnly = (id : ℕ) (r s : Apart) → TakeApart id r → TakeApart id s → r ≡ s

abbrev pub FormOnly : Type 0
FormOnly = (priority dgn source : ℕ) (r s : Formed) → Form priority dgn source r → Form priority dgn source s → r ≡ s

abbrev pub CheckOnly : Type 0
CheckOnly = (id : ℕ) (bytes : List ℕ) (r s : Checked) → Check id bytes r → Check id bytes s → r ≡ s

abbrev pub DestinationOfOnly : Type 0
DestinationOfOnly = (dgn : ℕ) (r s : Destination) → DestinationOf dgn r → DestinationOf dgn s → r ≡ s

abbrev pub CatalogueFormOnly : Type 0
CatalogueFormOnly = (dgn r s : ℕ) → CatalogueForm dgn r → CatalogueForm dgn s → r ≡ s

abbrev pub NumberOfOnly : Type 0
NumberOfOnly = (bytes : List ℕ) (r s : ℕ) → NumberOf bytes r → NumberOf bytes s → r ≡ s

abbrev pub BytesOfOnly : Type 0
BytesOfOnly = (number : ℕ) (r s : List ℕ) → BytesOf number r → BytesOf number s → r ≡ s

abbrev pub DgnBytesOnly : Type 0
DgnBytesOnly = (dgn : ℕ) (r s : List ℕ) → DgnBytes dgn r → DgnBytes dgn s → r ≡ s

abbrev pub DgnOfOnly : Type 0
DgnOfOnly = (low middle high r s : ℕ) → DgnOf low middle high r → DgnOf low middle high s → r ≡ s

abbrev pub BadIdentifierRefusalOnly : Type 0
BadIdentifierRefusalOnly =
    (why : BadIdentifier) (r s : ℕ) → BadIdentifierRefusal why r → BadIdentifierRefusal why s → r ≡ s

abbrev pub ApartRefusalOnly : Type 0
ApartRefusalOnly = (answer : Apart) (r s : ℕ) → ApartRefusal answer r → ApartRefusal answer s → r ≡ s

abbrev pub ApartRefusalTold : Type 0
ApartRefusalTold = (answer : Apart) → ApartRefusal answer (number_of_answer number_of_bad_identifier answer)

abbrev pub NotFormedRefusalOnly : Type 0
NotFormedRefusalOnly = (why : NotFormed) (r s : ℕ) → NotFormedRefusal why r → NotFormedRefusal why s → r ≡ s

abbrev pub FormedRefusalOnly : Type 0
FormedRefusalOnly = (answer : Formed) (r s : ℕ) → FormedRefusal answer r → FormedRefusal answer s → r ≡ s

abbrev pub FormedRefusalTold : Type 0
FormedRefusalTold = (answer : Formed) → FormedRefusal answer (number_of_answer number_of_not_formed answer)

abbrev pub BadFrameRefusalOnly : Type 0
BadFrameRefusalOnly = (why : BadFrame) (r s : ℕ) → BadFrameRefusal why r → BadFrameRefusal why s → r ≡ s

abbrev pub BadFrameRefusalTold : Type 0
BadFrameRefusalTold = (why : BadFrame) → BadFrameRefusal why (refusal_of why)

abbrev pub VerdictRefusalOnly : Type 0
VerdictRefusalOnly = (answer : Verdict) (r s : ℕ) → VerdictRefusal answer r → VerdictRefusal answer s → r ≡ s

abbrev pub VerdictRefusalTold : Type 0
VerdictRefusalTold = (answer : Verdict) → VerdictRefusal answer (number_of_answer refusal_of answer)

-- A refusal gives nothing (RULES 2.4 and 2.6): the bytes beside it are zeros.
abbrev pub RefusedKeeps : Type 0
RefusedKeeps =
    (id : ℕ) (bytes : List ℕ) (r : Checked) (why : BadFrame) → Check id bytes r → r.verdict ≡ Err why
    → r.bytes ≡ replicate frame_bytes 0

-- Taking apart what was formed gives the parts back.
abbrev pub PartsBack : Type 0
PartsBack =
    (priority dgn source id : ℕ) → source < 256 → formed_of priority dgn source ≡ gives id
    → apart_of id ≡ gives (record { priority = priority; dgn = dgn; source = source })

-- Forming what was taken apart gives the identifier back.
abbrev pub IdentifierBack : Type 0
IdentifierBack = (id : ℕ) (p : Parts) → apart_of id ≡ gives p → formed_of p.priority p.dgn p.source ≡ gives id

-- The lowest number wins: each refusal is given where it applies and no lower one does, and a frame to which none
-- applies is given.
pub record LowestWins (id size : ℕ) : Type 0 where
  pub three : identifiers ≤ id → checked_of id size ≡ refused 3
  pub four : id < identifiers → (size ≡ frame_bytes → ⊥) → checked_of id size ≡ refused 4
  pub five : id < identifiers → size ≡ frame_bytes → reserved_of id ≡ 1 → checked_of id size ≡ refused 5
  pub six :
      id < identifiers → size ≡ frame_bytes → reserved_of id ≡ 0 → source_allowed (source_of id) (dgn_of id) ≡ false
      → checked_of id size ≡ refused 6
  pub sound :
      id < identifiers → size ≡ frame_bytes → reserved_of id ≡ 0 → source_allowed (source_of id) (dgn_of id) ≡ true
      → checked_of id size ≡ gives (parts_of id)

-- A frame that is refused is so for one of the four reasons.
abbrev pub RefusedForReason : Type 0
RefusedForReason = (id size n : ℕ) → checked_of id size ≡ refused n → (why : BadFrame) × (refusal_of why ≡ n)

-- The priority makes no difference (RULES 3.3): identifiers that differ only above bit 25 meet the same refusal, or
-- have the same DGN and source.
abbrev pub told_but_priority : Told Parts → Told (ℕ × ℕ)
told_but_priority (refused n) = refused n
told_but_priority (gives p) = gives (p.dgn, p.source)

abbrev pub PriorityIgnored : Type 0
PriorityIgnored =
    (id id' size : ℕ) → id < identifiers → id' < identifiers → id % 2 ^ 26 ≡ id' % 2 ^ 26
    → told_but_priority (checked_of id size) ≡ told_but_priority (checked_of id' size)

-- Bytes and the number that they spell give each other back.

abbrev pub NumberBack : Type 0
NumberBack = (count n : ℕ) → n < 256 ^ count → number_of (bytes_of count n) ≡ n

abbrev pub BytesBack : Type 0
BytesBack = (bytes : List ℕ) → AreBytes bytes → bytes_of (length bytes) (number_of bytes) ≡ bytes

-- A DGN of 17 bits is read back from its three bytes.
abbrev pub DgnBack : Type 0
DgnBack = (dgn : ℕ) → dgn ≤ greatest_dgn → number_of (dgn_bytes dgn) ≡ dgn

-- What stands where nothing is to be sent is no frame: its identifier is refused.
abbrev pub NoFrameRefused : Type 0
NoFrameRefused = checked_of no_frame.id (length no_frame.bytes) ≡ refused 3

-- Example 1 of RULES 13.11: DM_RV, priority 6, source 54h.
abbrev pub ExampleOne : Type 0
ExampleOne = formed_of 6 0x1FECA 0x54 ≡ gives 0x19FECA54
