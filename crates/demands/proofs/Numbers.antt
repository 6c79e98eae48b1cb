-- The statement of specs/Numbers.antt, proved: every answer by its cases.
-- Assumes nothing.
use Rattle.frame.specs.declared.BadIdentifier as FrameBadIdentifierType
use Rattle.frame.specs.declared.BadIdentifier.TheVariants as FrameBadIdentifier
use Rattle.frame.specs.declared.NotFormed as FrameNotFormedType
use Rattle.frame.specs.declared.NotFormed.TheVariants as FrameNotFormed
use Rattle.message.specs.declared.NotHeard as MessageNotHeardType
use Rattle.message.specs.declared.NotHeard.TheVariants as MessageNotHeard
use Rattle.message.specs.declared.BadState as MessageBadStateType
use Rattle.message.specs.declared.BadState.TheVariants as MessageBadState
use Rattle.message.specs.declared.Unsplittable as MessageUnsplittableType
use Rattle.message.specs.declared.NotSplit as MessageNotSplitType
use Rattle.message.specs.declared.NotSplit.TheVariants as MessageNotSplit
use Rattle.fast.specs.declared.BadList as FastBadListType
use Rattle.fast.specs.declared.BadList.TheVariants as FastBadList
use Rattle.fast.specs.declared.NotHeard as FastNotHeardType
use Rattle.fast.specs.declared.NotHeard.TheVariants as FastNotHeard
use Rattle.fast.specs.declared.BadState as FastBadStateType
use Rattle.fast.specs.declared.BadState.TheVariants as FastBadState
use Rattle.fast.specs.declared.NotSplit as FastNotSplitType
use Rattle.fast.specs.declared.NotSplit.TheVariants as FastNotSplit
use Rattle.catalogue.specs.declared.NotFound as CatalogueNotFoundType
use Rattle.catalogue.specs.declared.NotFound.TheVariants as CatalogueNotFound
use Rattle.catalogue.specs.declared.NotRead as CatalogueNotReadType
use Rattle.catalogue.specs.declared.NotRead.TheVariants as CatalogueNotRead
use Rattle.catalogue.specs.declared.NotWritten as CatalogueNotWrittenType
use Rattle.catalogue.specs.declared.NotWritten.TheVariants as CatalogueNotWritten
use Rattle.claim.specs.declared.NotStarted as ClaimNotStartedType
use Rattle.claim.specs.declared.NotStarted.TheVariants as ClaimNotStarted
use Rattle.claim.specs.declared.NotHeard as ClaimNotHeardType
use Rattle.claim.specs.declared.NotHeard.TheVariants as ClaimNotHeard
use Rattle.claim.specs.declared.BadState as ClaimBadStateType
use Rattle.claim.specs.declared.BadState.TheVariants as ClaimBadState
use Rattle.nodes.specs.declared.BadTable as NodesBadTableType
use Rattle.nodes.specs.declared.BadTable.TheVariants as NodesBadTable
use Rattle.nodes.specs.declared.NotHeard as NodesNotHeardType
use Rattle.nodes.specs.declared.NotHeard.TheVariants as NodesNotHeard
use Rattle.command.specs.declared.NotStarted as CommandNotStartedType
use Rattle.command.specs.declared.NotStarted.TheVariants as CommandNotStarted
use Rattle.command.specs.declared.NotRouted as CommandNotRoutedType
use Rattle.command.specs.declared.NotRouted.TheVariants as CommandNotRouted
use Rattle.command.specs.declared.NotAnswered as CommandNotAnsweredType
use Rattle.command.specs.declared.NotAnswered.TheVariants as CommandNotAnswered
use Rattle.command.specs.declared.NotAcknowledged as CommandNotAcknowledgedType
use Rattle.command.specs.declared.NotAcknowledged.TheVariants as CommandNotAcknowledged
use Rattle.faults.specs.declared.NotAdded as FaultsNotAddedType
use Rattle.faults.specs.declared.NotAdded.TheVariants as FaultsNotAdded
use Rattle.faults.specs.declared.NotCleared as FaultsNotClearedType
use Rattle.faults.specs.declared.NotCleared.TheVariants as FaultsNotCleared
use Rattle.faults.specs.declared.NotStepped as FaultsNotSteppedType
use Rattle.faults.specs.declared.NotStepped.TheVariants as FaultsNotStepped
use Rattle.faults.specs.declared.NotHeard as FaultsNotHeardType
use Rattle.faults.specs.declared.NotHeard.TheVariants as FaultsNotHeard
use Rattle.capture.specs.declared.NotRead as CaptureNotReadType
use Rattle.capture.specs.declared.NotRead.TheVariants as CaptureNotRead
use Rattle.tiles.specs.declared.NotNamed as TilesNotNamedType
use Rattle.tiles.specs.declared.NotNamed.TheVariants as TilesNotNamed
use Rattle.tiles.specs.declared.NotHeard as TilesNotHeardType
use Rattle.tiles.specs.declared.NotHeard.TheVariants as TilesNotHeard
use Rattle.tiles.specs.declared.NotShown as TilesNotShownType
use Rattle.tiles.specs.declared.NotShown.TheVariants as TilesNotShown
use Rattle.std.specs.Prelude.{Result, Ok, Err}
use mathlib.Core.Path.{◌≡◌, refl, sym, ◌∙◌}
use mathlib.Core.Bool.{true}
use Prim.Native.Nat.{ℕ}
use Rattle.words.specs.Words.{number_in, told}
use Rattle.capture.specs.Promises as CapturePromises
use Rattle.catalogue.specs.Promises as CataloguePromises
use Rattle.claim.specs.Promises as ClaimPromises
use Rattle.command.specs.Promises as CommandPromises
use Rattle.fast.specs.Promises as FastPromises
use Rattle.faults.specs.Promises as FaultsPromises
use Rattle.frame.specs.Promises as FramePromises
use Rattle.message.specs.Promises as MessagePromises
use Rattle.nodes.specs.Promises as NodesPromises
use Rattle.tiles.specs.Promises as TilesPromises
use Rattle.catalogue.proofs.Laws as CatalogueLaws
use Rattle.claim.proofs.Laws as ClaimLaws
use Rattle.command.proofs.Laws as CommandLaws
use Rattle.fast.proofs.Laws as FastLaws
use Rattle.faults.proofs.Laws as FaultsLaws
use Rattle.message.proofs.Laws as MessageLaws
use Rattle.nodes.proofs.Laws as NodesLaws
use Rattle.tiles.proofs.Laws as TilesLaws
use Rattle.frame.specs.Promises.{refusal_of}
use Rattle.frame.specs.declared.BadFrame.{BadFrame}
use Rattle.message.specs.Promises.{refusal_why}
use Rattle.message.specs.declared.Unsplittable.{Unsplittable}
use Rattle.frame.specs.declared.BadFrame.TheVariants as FrameBadFrame
use Rattle.message.specs.declared.Unsplittable.TheVariants as MessageUnsplittable
use Rattle.demands.specs.Numbers.{in_table, EveryNumber}

listed : {n r : ℕ} → r ≡ n → in_table n ≡ true → in_table r ≡ true
listed e t = rw e t

-- a number that an answer's law says to be another one, which is listed
by_law : {n r m : ℕ} → r ≡ n → m ≡ n → in_table m ≡ true → in_table r ≡ true
by_law e k t = listed (e ∙ sym k) t

bad : (why : BadFrame) → in_table (refusal_of why) ≡ true
bad = elim [
  | FrameBadFrame.IdentifierTooLarge ↦ refl
  | FrameBadFrame.NotEightBytes ↦ refl
  | FrameBadFrame.ReservedBitSet ↦ refl
  | FrameBadFrame.SourceNotAllowed ↦ refl
]

unsplittable : (why : Unsplittable) → in_table (refusal_why why) ≡ true
unsplittable = elim [ MessageUnsplittable.NoCode ↦ refl | MessageUnsplittable.LengthNotSplit ↦ refl ]

answered : {A E : Type 0} (number : E → ℕ) → ((why : E) → in_table (number why) ≡ true)
    → (r : Result A E) → in_table (number_in (told number r)) ≡ true
answered number each (Ok a) = refl
answered number each (Err why) = each why

frame_bad_identifier_listed : (why : FrameBadIdentifierType.BadIdentifier) → in_table (FramePromises.number_of_bad_identifier why) ≡ true
frame_bad_identifier_listed = elim [
  | FrameBadIdentifier.IdentifierTooLarge ↦ refl
  | FrameBadIdentifier.ReservedBitSet ↦ refl
]

frame_not_formed_listed : (why : FrameNotFormedType.NotFormed) → in_table (FramePromises.number_of_not_formed why) ≡ true
frame_not_formed_listed = elim [
  | FrameNotFormed.NoCode ↦ refl
]

message_not_heard_listed : (why : MessageNotHeardType.NotHeard) → in_table (MessagePromises.number_of_not_heard why) ≡ true
message_not_heard_listed = elim [
  | MessageNotHeard.StorageTooShort ↦ refl
  | MessageNotHeard.BrokenState ↦ refl
  | MessageNotHeard.BadFrame why ↦ bad why
  | MessageNotHeard.MalformedAnnouncement ↦ refl
  | MessageNotHeard.NoPlaceFree ↦ refl
  | MessageNotHeard.NoOpenMessage ↦ refl
  | MessageNotHeard.UnexpectedPacket ↦ refl
]

message_bad_state_listed : (why : MessageBadStateType.BadState) → in_table (MessagePromises.number_of_bad_state why) ≡ true
message_bad_state_listed = elim [
  | MessageBadState.BrokenState ↦ refl
]

message_unsplittable_listed : (why : MessageUnsplittableType.Unsplittable) → in_table (MessagePromises.refusal_why why) ≡ true
message_unsplittable_listed = elim [
  | MessageUnsplittable.NoCode ↦ refl
  | MessageUnsplittable.LengthNotSplit ↦ refl
]

message_not_split_listed : (why : MessageNotSplitType.NotSplit) → in_table (MessagePromises.number_of_not_split why) ≡ true
message_not_split_listed = elim [
  | MessageNotSplit.Unsplittable why ↦ message_unsplittable_listed why
  | MessageNotSplit.NoSuchPacket ↦ refl
]

fast_bad_list_listed : (why : FastBadListType.BadList) → in_table (FastPromises.number_of_bad_list why) ≡ true
fast_bad_list_listed = elim [
  | FastBadList.ListMalformed ↦ refl
]

fast_not_heard_listed : (why : FastNotHeardType.NotHeard) → in_table (FastPromises.number_of_not_heard why) ≡ true
fast_not_heard_listed = elim [
  | FastNotHeard.StorageTooShort ↦ refl
  | FastNotHeard.BrokenState ↦ refl
  | FastNotHeard.BadFrame why ↦ bad why
  | FastNotHeard.MalformedLength ↦ refl
  | FastNotHeard.NoPlaceFree ↦ refl
  | FastNotHeard.NoOpenMessage ↦ refl
  | FastNotHeard.UnexpectedFrame ↦ refl
]

fast_bad_state_listed : (why : FastBadStateType.BadState) → in_table (FastPromises.number_of_bad_state why) ≡ true
fast_bad_state_listed = elim [
  | FastBadState.BrokenState ↦ refl
]

fast_not_split_listed : (why : FastNotSplitType.NotSplit) → in_table (FastPromises.number_of_not_split why) ≡ true
fast_not_split_listed = elim [
  | FastNotSplit.NoCode ↦ refl
  | FastNotSplit.LengthNotSplit ↦ refl
  | FastNotSplit.NoSuchFrame ↦ refl
]

catalogue_not_found_listed : (why : CatalogueNotFoundType.NotFound) → in_table (CataloguePromises.number_of_not_found why) ≡ true
catalogue_not_found_listed = elim [
  | CatalogueNotFound.NoSuchRow ↦ refl
]

catalogue_not_read_listed : (why : CatalogueNotReadType.NotRead) → in_table (CataloguePromises.number_of_not_read why) ≡ true
catalogue_not_read_listed = elim [
  | CatalogueNotRead.BadFrame why ↦ bad why
  | CatalogueNotRead.NoSuchRow ↦ refl
]

catalogue_not_written_listed : (why : CatalogueNotWrittenType.NotWritten) → in_table (CataloguePromises.number_of_not_written why) ≡ true
catalogue_not_written_listed = elim [
  | CatalogueNotWritten.BadFrame why ↦ bad why
  | CatalogueNotWritten.NoSuchRow ↦ refl
  | CatalogueNotWritten.NoCode ↦ refl
]

claim_not_started_listed : (why : ClaimNotStartedType.NotStarted) → in_table (ClaimPromises.number_of_not_started why) ≡ true
claim_not_started_listed = elim [
  | ClaimNotStarted.ListMalformed ↦ refl
]

claim_not_heard_listed : (why : ClaimNotHeardType.NotHeard) → in_table (ClaimPromises.number_of_not_heard why) ≡ true
claim_not_heard_listed = elim [
  | ClaimNotHeard.BrokenState ↦ refl
  | ClaimNotHeard.BadFrame why ↦ bad why
  | ClaimNotHeard.ListMalformed ↦ refl
]

claim_bad_state_listed : (why : ClaimBadStateType.BadState) → in_table (ClaimPromises.number_of_bad_state why) ≡ true
claim_bad_state_listed = elim [
  | ClaimBadState.BrokenState ↦ refl
  | ClaimBadState.ListMalformed ↦ refl
]

nodes_bad_table_listed : (why : NodesBadTableType.BadTable) → in_table (NodesPromises.number_of_bad_table why) ≡ true
nodes_bad_table_listed = elim [
  | NodesBadTable.TableTooShort ↦ refl
  | NodesBadTable.BrokenState ↦ refl
]

nodes_not_heard_listed : (why : NodesNotHeardType.NotHeard) → in_table (NodesPromises.number_of_not_heard why) ≡ true
nodes_not_heard_listed = elim [
  | NodesNotHeard.TableTooShort ↦ refl
  | NodesNotHeard.BrokenState ↦ refl
  | NodesNotHeard.BadFrame why ↦ bad why
]

command_not_started_listed : (why : CommandNotStartedType.NotStarted) → in_table (CommandPromises.number_of_not_started why) ≡ true
command_not_started_listed = elim [
  | CommandNotStarted.ListMalformed ↦ refl
]

command_not_routed_listed : (why : CommandNotRoutedType.NotRouted) → in_table (CommandPromises.number_of_not_routed why) ≡ true
command_not_routed_listed = elim [
  | CommandNotRouted.BrokenState ↦ refl
  | CommandNotRouted.BadFrame why ↦ bad why
  | CommandNotRouted.ListMalformed ↦ refl
  | CommandNotRouted.NoAddressHeld ↦ refl
]

command_not_answered_listed : (why : CommandNotAnsweredType.NotAnswered) → in_table (CommandPromises.number_of_not_answered why) ≡ true
command_not_answered_listed = elim [
  | CommandNotAnswered.BrokenState ↦ refl
  | CommandNotAnswered.BadFrame why ↦ bad why
  | CommandNotAnswered.ListMalformed ↦ refl
  | CommandNotAnswered.DgnTooLarge ↦ refl
  | CommandNotAnswered.NoAddressHeld ↦ refl
]

command_not_acknowledged_listed : (why : CommandNotAcknowledgedType.NotAcknowledged) → in_table (CommandPromises.number_of_not_acknowledged why) ≡ true
command_not_acknowledged_listed = elim [
  | CommandNotAcknowledged.BrokenState ↦ refl
  | CommandNotAcknowledged.RequesterNotAllowed ↦ refl
  | CommandNotAcknowledged.ListMalformed ↦ refl
  | CommandNotAcknowledged.DgnTooLarge ↦ refl
  | CommandNotAcknowledged.NoAddressHeld ↦ refl
]

faults_not_added_listed : (why : FaultsNotAddedType.NotAdded) → in_table (FaultsPromises.number_of_not_added why) ≡ true
faults_not_added_listed = elim [
  | FaultsNotAdded.BrokenState ↦ refl
  | FaultsNotAdded.NoPlace ↦ refl
  | FaultsNotAdded.PeriodNotAllowed ↦ refl
]

faults_not_cleared_listed : (why : FaultsNotClearedType.NotCleared) → in_table (FaultsPromises.number_of_not_cleared why) ≡ true
faults_not_cleared_listed = elim [
  | FaultsNotCleared.BrokenState ↦ refl
  | FaultsNotCleared.NoSuchFault ↦ refl
]

faults_not_stepped_listed : (why : FaultsNotSteppedType.NotStepped) → in_table (FaultsPromises.number_of_not_stepped why) ≡ true
faults_not_stepped_listed = elim [
  | FaultsNotStepped.BrokenState ↦ refl
  | FaultsNotStepped.ListMalformed ↦ refl
  | FaultsNotStepped.NoAddressHeld ↦ refl
]

faults_not_heard_listed : (why : FaultsNotHeardType.NotHeard) → in_table (FaultsPromises.number_of_not_heard why) ≡ true
faults_not_heard_listed = elim [
  | FaultsNotHeard.BrokenState ↦ refl
  | FaultsNotHeard.BadFrame why ↦ bad why
  | FaultsNotHeard.ListMalformed ↦ refl
  | FaultsNotHeard.DgnTooLarge ↦ refl
  | FaultsNotHeard.NoAddressHeld ↦ refl
]

capture_not_read_listed : (why : CaptureNotReadType.NotRead) → in_table (CapturePromises.number_of_not_read why) ≡ true
capture_not_read_listed = elim [
  | CaptureNotRead.Malformed ↦ refl
]

tiles_not_named_listed : (why : TilesNotNamedType.NotNamed) → in_table (TilesPromises.number_of_not_named why) ≡ true
tiles_not_named_listed = elim [
  | TilesNotNamed.BrokenState ↦ refl
  | TilesNotNamed.NoSuchRow ↦ refl
  | TilesNotNamed.NoSuchTile ↦ refl
  | TilesNotNamed.RowNotAccepted ↦ refl
]

tiles_not_heard_listed : (why : TilesNotHeardType.NotHeard) → in_table (TilesPromises.number_of_not_heard why) ≡ true
tiles_not_heard_listed = elim [
  | TilesNotHeard.BrokenState ↦ refl
  | TilesNotHeard.BadFrame why ↦ bad why
]

tiles_not_shown_listed : (why : TilesNotShownType.NotShown) → in_table (TilesPromises.number_of_not_shown why) ≡ true
tiles_not_shown_listed = elim [
  | TilesNotShown.BrokenState ↦ refl
  | TilesNotShown.NoSuchTile ↦ refl
]

pub every_number : EveryNumber
every_number =
    record {
      retired = refl;
      frame_not_formed = λ why r p. listed p.number (frame_not_formed_listed why);
      frame_bad_identifier = λ why r p. listed p.number (frame_bad_identifier_listed why);
      frame_apart = λ answer r p. listed p.number (answered FramePromises.number_of_bad_identifier frame_bad_identifier_listed answer);
      frame_formed = λ answer r p. listed p.number (answered FramePromises.number_of_not_formed frame_not_formed_listed answer);
      frame_verdict = λ answer r p. listed p.number (answered FramePromises.refusal_of bad answer);
      frame_bad_frame = λ why r p. listed p.number (bad why);
      message_not_split = λ why r p. listed p.number (message_not_split_listed why);
      message_bad_state = λ why r p. listed p.number (message_bad_state_listed why);
      message_not_heard = λ why r p. listed p.number (message_not_heard_listed why);
      message_answer = λ answer r p. by_law p.number (MessageLaws.answer_refusal_told answer).number (answered MessagePromises.number_of_not_heard message_not_heard_listed answer);
      message_pausing = λ answer r p. listed p.number (answered MessagePromises.number_of_bad_state message_bad_state_listed answer);
      message_announcing = λ answer r p. listed p.number (answered MessagePromises.refusal_why message_unsplittable_listed answer);
      message_splitting = λ answer r p. listed p.number (answered MessagePromises.number_of_not_split message_not_split_listed answer);
      message_unsplittable = λ why r p. listed p.number (message_unsplittable_listed why);
      fast_not_split = λ why r p. listed p.number (fast_not_split_listed why);
      fast_bad_state = λ why r p. listed p.number (fast_bad_state_listed why);
      fast_not_heard = λ why r p. listed p.number (fast_not_heard_listed why);
      fast_bad_list = λ why r p. listed p.number (fast_bad_list_listed why);
      fast_starting = λ answer r p. listed p.number (answered FastPromises.number_of_bad_list fast_bad_list_listed answer);
      fast_answer = λ answer r p. by_law p.number (FastLaws.answer_refusal_told answer).number (answered FastPromises.number_of_not_heard fast_not_heard_listed answer);
      fast_pausing = λ answer r p. listed p.number (answered FastPromises.number_of_bad_state fast_bad_state_listed answer);
      fast_splitting = λ answer r p. listed p.number (answered FastPromises.number_of_not_split fast_not_split_listed answer);
      catalogue_not_written = λ why r p. listed p.number (catalogue_not_written_listed why);
      catalogue_not_read = λ why r p. listed p.number (catalogue_not_read_listed why);
      catalogue_not_found = λ why r p. listed p.number (catalogue_not_found_listed why);
      catalogue_looked = λ answer r p. listed p.number (answered CataloguePromises.number_of_not_found catalogue_not_found_listed answer);
      catalogue_reading = λ answer r p. listed p.number (answered CataloguePromises.number_of_not_read catalogue_not_read_listed answer);
      catalogue_scaled_reading = λ answer r p. listed p.number (answered CataloguePromises.number_of_not_read catalogue_not_read_listed answer);
      catalogue_writing = λ answer r p. by_law p.number (CatalogueLaws.writing_refusal_told answer).number (answered CataloguePromises.number_of_not_written catalogue_not_written_listed answer);
      claim_bad_state = λ why r p. listed p.number (claim_bad_state_listed why);
      claim_not_heard = λ why r p. listed p.number (claim_not_heard_listed why);
      claim_not_started = λ why r p. listed p.number (claim_not_started_listed why);
      claim_starting = λ answer r p. by_law p.number (ClaimLaws.starting_refusal_told answer).number (answered ClaimPromises.number_of_not_started claim_not_started_listed answer);
      claim_hearing = λ answer r p. by_law p.number (ClaimLaws.hearing_refusal_told answer).number (answered ClaimPromises.number_of_not_heard claim_not_heard_listed answer);
      claim_pausing = λ answer r p. by_law p.number (ClaimLaws.pausing_refusal_told answer).number (answered ClaimPromises.number_of_bad_state claim_bad_state_listed answer);
      claim_standing = λ answer r p. by_law p.number (ClaimLaws.standing_refusal_told answer).number (answered ClaimPromises.number_of_bad_state claim_bad_state_listed answer);
      claim_sending = λ answer r p. by_law p.number (ClaimLaws.sending_refusal_told answer).number (answered ClaimPromises.number_of_bad_state claim_bad_state_listed answer);
      nodes_not_heard = λ why r p. listed p.number (nodes_not_heard_listed why);
      nodes_bad_table = λ why r p. listed p.number (nodes_bad_table_listed why);
      nodes_hearing = λ answer r p. by_law p.number (NodesLaws.hearing_refusal_told answer).number (answered NodesPromises.number_of_not_heard nodes_not_heard_listed answer);
      nodes_pausing = λ answer r p. listed p.number (answered NodesPromises.number_of_bad_table nodes_bad_table_listed answer);
      nodes_looked_up = λ answer r p. by_law p.number (NodesLaws.looked_up_refusal_told answer).number (answered NodesPromises.number_of_bad_table nodes_bad_table_listed answer);
      nodes_found_address = λ answer r p. listed p.number (answered NodesPromises.number_of_bad_table nodes_bad_table_listed answer);
      nodes_found_challenger = λ answer r p. by_law p.number (NodesLaws.found_challenger_refusal_told answer).number (answered NodesPromises.number_of_bad_table nodes_bad_table_listed answer);
      command_not_acknowledged = λ why r p. listed p.number (command_not_acknowledged_listed why);
      command_not_answered = λ why r p. listed p.number (command_not_answered_listed why);
      command_not_routed = λ why r p. listed p.number (command_not_routed_listed why);
      command_not_started = λ why r p. listed p.number (command_not_started_listed why);
      command_starting = λ answer r p. by_law p.number (CommandLaws.starting_refusal_told answer).number (answered CommandPromises.number_of_not_started command_not_started_listed answer);
      command_routing = λ answer r p. by_law p.number (CommandLaws.routing_refusal_told answer).number (answered CommandPromises.number_of_not_routed command_not_routed_listed answer);
      command_requesting = λ answer r p. by_law p.number (CommandLaws.requesting_refusal_told answer).number (answered CommandPromises.number_of_not_answered command_not_answered_listed answer);
      command_acknowledging = λ answer r p. by_law p.number (CommandLaws.acknowledging_refusal_told answer).number (answered CommandPromises.number_of_not_acknowledged command_not_acknowledged_listed answer);
      faults_not_heard = λ why r p. listed p.number (faults_not_heard_listed why);
      faults_not_stepped = λ why r p. listed p.number (faults_not_stepped_listed why);
      faults_not_cleared = λ why r p. listed p.number (faults_not_cleared_listed why);
      faults_not_added = λ why r p. listed p.number (faults_not_added_listed why);
      faults_service_point = λ answer r p. listed p.number (answered CataloguePromises.number_of_not_read catalogue_not_read_listed answer);
      faults_adding = λ answer r p. listed p.number (answered FaultsPromises.number_of_not_added faults_not_added_listed answer);
      faults_clearing = λ answer r p. by_law p.number (FaultsLaws.clearing_refusal_told answer).number (answered FaultsPromises.number_of_not_cleared faults_not_cleared_listed answer);
      faults_stepping = λ answer r p. by_law p.number (FaultsLaws.stepping_refusal_told answer).number (answered FaultsPromises.number_of_not_stepped faults_not_stepped_listed answer);
      faults_requesting = λ answer r p. by_law p.number (FaultsLaws.requesting_refusal_told answer).number (answered FaultsPromises.number_of_not_heard faults_not_heard_listed answer);
      capture_not_read = λ why r p. listed p.number (capture_not_read_listed why);
      capture_reading = λ answer r p. listed p.number
          (elim answer as (λ k. in_table (number_in (CapturePromises.told_reading k CapturePromises.no_frame)) ≡ true) [ Ok done ↦ refl | Err why ↦ capture_not_read_listed why ]);
      tiles_not_shown = λ why r p. listed p.number (tiles_not_shown_listed why);
      tiles_not_heard = λ why r p. listed p.number (tiles_not_heard_listed why);
      tiles_not_named = λ why r p. listed p.number (tiles_not_named_listed why);
      tiles_naming = λ answer r p. by_law p.number (TilesLaws.naming_refusal_told answer).number (answered TilesPromises.number_of_not_named tiles_not_named_listed answer);
      tiles_hearing = λ answer r p. listed p.number (answered TilesPromises.number_of_not_heard tiles_not_heard_listed answer);
      tiles_asking = λ answer r p. listed p.number (answered TilesPromises.number_of_not_shown tiles_not_shown_listed answer);
    }
