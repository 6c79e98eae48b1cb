-- The numbers of refusals (RULES 2.1), and that no answer of the library has another. 14 is retired (RULES 2.11,
-- request #110): no call gives it any more, and one that did so again would be refused here.
use Rattle.std.specs.Prelude.{◌≡◌, Bool, true, false, ℕ}
use Rattle.words.specs.Words.{◌≤?◌, ◌and◌, ◌or◌}
use Rattle.frame.specs.Promises as Frame
use Rattle.message.specs.Promises as Message
use Rattle.fast.specs.Promises as Fast
use Rattle.catalogue.specs.Promises as Catalogue
use Rattle.claim.specs.Promises as Claim
use Rattle.nodes.specs.Promises as Nodes
use Rattle.command.specs.Promises as Command
use Rattle.faults.specs.Promises as Faults
use Rattle.capture.specs.Promises as Capture
use Rattle.tiles.specs.Promises as Tiles

-- the numbers of that table, and 0, which is no refusal
abbrev pub in_table : ℕ → Bool
in_table n = (n ≤? 13) or ((15 ≤? n) and (n ≤? 24))

-- whatever the answer is, its method `refusal` gives one of these
abbrev pub Numbered : {A : Type 0} → (A → ℕ → Type 0) → Type 0
Numbered {A} Refusal = (answer : A) (r : ℕ) → Refusal answer r → in_table r ≡ true

-- every call `refusal` of the library, part by part, by its promise
pub record EveryNumber : Type 0 where
  pub retired : in_table 14 ≡ false
  pub frame_not_formed : Numbered Frame.NotFormedRefusal
  pub frame_bad_identifier : Numbered Frame.BadIdentifierRefusal
  pub frame_apart : Numbered Frame.ApartRefusal
  pub frame_formed : Numbered Frame.FormedRefusal
  pub frame_verdict : Numbered Frame.VerdictRefusal
  pub frame_bad_frame : Numbered Frame.BadFrameRefusal
  pub message_not_split : Numbered Message.NotSplitRefusal
  pub message_bad_state : Numbered Message.BadStateRefusal
  pub message_not_heard : Numbered Message.NotHeardRefusal
  pub message_answer : Numbered Message.AnswerRefusal
  pub message_pausing : Numbered Message.PausingRefusal
  pub message_announcing : Numbered Message.AnnouncingRefusal
  pub message_splitting : Numbered Message.SplittingRefusal
  pub message_unsplittable : Numbered Message.UnsplittableRefusal
  pub fast_not_split : Numbered Fast.NotSplitRefusal
  pub fast_bad_state : Numbered Fast.BadStateRefusal
  pub fast_not_heard : Numbered Fast.NotHeardRefusal
  pub fast_bad_list : Numbered Fast.BadListRefusal
  pub fast_starting : Numbered Fast.StartingRefusal
  pub fast_answer : Numbered Fast.AnswerRefusal
  pub fast_pausing : Numbered Fast.PausingRefusal
  pub fast_splitting : Numbered Fast.SplittingRefusal
  pub catalogue_not_written : Numbered Catalogue.NotWrittenRefusal
  pub catalogue_not_read : Numbered Catalogue.NotReadRefusal
  pub catalogue_not_found : Numbered Catalogue.NotFoundRefusal
  pub catalogue_looked : Numbered Catalogue.LookedRefusal
  pub catalogue_reading : Numbered Catalogue.ReadingRefusal
  pub catalogue_scaled_reading : Numbered Catalogue.ScaledReadingRefusal
  pub catalogue_writing : Numbered Catalogue.WritingRefusal
  pub claim_bad_state : Numbered Claim.BadStateRefusal
  pub claim_not_heard : Numbered Claim.NotHeardRefusal
  pub claim_not_started : Numbered Claim.NotStartedRefusal
  pub claim_starting : Numbered Claim.StartingRefusal
  pub claim_hearing : Numbered Claim.HearingRefusal
  pub claim_pausing : Numbered Claim.PausingRefusal
  pub claim_standing : Numbered Claim.StandingRefusal
  pub claim_sending : Numbered Claim.SendingRefusal
  pub nodes_not_heard : Numbered Nodes.NotHeardRefusal
  pub nodes_bad_table : Numbered Nodes.BadTableRefusal
  pub nodes_hearing : Numbered Nodes.HearingRefusal
  pub nodes_pausing : Numbered Nodes.PausingRefusal
  pub nodes_looked_up : Numbered Nodes.LookedUpRefusal
  pub nodes_found_address : Numbered Nodes.FoundAddressRefusal
  pub nodes_found_challenger : Numbered Nodes.FoundChallengerRefusal
  pub command_not_acknowledged : Numbered Command.NotAcknowledgedRefusal
  pub command_not_answered : Numbered Command.NotAnsweredRefusal
  pub command_not_routed : Numbered Command.NotRoutedRefusal
  pub command_not_started : Numbered Command.NotStartedRefusal
  pub command_starting : Numbered Command.StartingRefusal
  pub command_routing : Numbered Command.RoutingRefusal
  pub command_requesting : Numbered Command.RequestingRefusal
  pub command_acknowledging : Numbered Command.AcknowledgingRefusal
  pub faults_not_heard : Numbered Faults.NotHeardRefusal
  pub faults_not_stepped : Numbered Faults.NotSteppedRefusal
  pub faults_not_cleared : Numbered Faults.NotClearedRefusal
  pub faults_not_added : Numbered Faults.NotAddedRefusal
  pub faults_service_point : Numbered Faults.ServicePointRefusal
  pub faults_adding : Numbered Faults.AddingRefusal
  pub faults_clearing : Numbered Faults.ClearingRefusal
  pub faults_stepping : Numbered Faults.SteppingRefusal
  pub faults_requesting : Numbered Faults.RequestingRefusal
  pub capture_not_read : Numbered Capture.NotReadRefusal
  pub capture_reading : Numbered Capture.ReadingRefusal
  pub tiles_not_shown : Numbered Tiles.NotShownRefusal
  pub tiles_not_heard : Numbered Tiles.NotHeardRefusal
  pub tiles_not_named : Numbered Tiles.NotNamedRefusal
  pub tiles_naming : Numbered Tiles.NamingRefusal
  pub tiles_hearing : Numbered Tiles.HearingRefusal
  pub tiles_asking : Numbered Tiles.AskingRefusal
