-- What the private functions of this crate promise, where it is no definition of the others (for RULES 8).
use Rattle.std.specs.Prelude.{not, List, ℕ, if◌then◌else◌}
use Rattle.words.specs.Words.{Told, refused, gives}
use Rattle.frame.specs.declared.Parts.{Parts}
use Rattle.claim.specs.Claim.{holds_list, Outcome}
use Rattle.claim.specs.Promises.{meets_frame}
use Rattle.claim.specs.declared.Claim.{Claim}

-- what is told of a sound frame, heard by a state that keeps its rules
unfoldable pub met_of : Parts → List ℕ → Claim → Told Outcome
met_of parts bytes c = if not (holds_list c) then refused 16 else gives (meets_frame parts bytes c)
