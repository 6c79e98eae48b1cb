-- Every law of the parts (RULES 3 to 12), by its name, a record for each crate: one that is lost is missed here.
use Rattle.std.specs.Prelude.{List, ℕ}
use Rattle.words.specs.WrongPauses as WrongPauses
use Rattle.frame.specs.Laws as Frame
use Rattle.places.specs.Format.{Format}
use Rattle.places.specs.Statements.{Pausing}
use Rattle.places.specs.Calls.{Calls, KeepsPlaces}
use Rattle.places.specs.Statements as PlacesStatements
use Rattle.places.specs.Calls as PlacesCalls
use Rattle.places.specs.Tiny as PlacesTiny
use Rattle.places.specs.TinyReceiver as PlacesTinyReceiver
use Rattle.message.specs.Laws as Message
use Rattle.message.specs.PacketCount as MessagePacketCount
use Rattle.message.specs.Pauses as MessagePauses
use Rattle.fast.specs.Laws as Fast
use Rattle.fast.specs.Example as FastExample
use Rattle.fast.specs.Calls as FastCalls
use Rattle.fast.specs.Sending as FastSending
use Rattle.fast.specs.Pauses as FastPauses
use Rattle.catalogue.specs.Laws as Catalogue
use Rattle.claim.specs.Laws as Claims
use Rattle.claim.specs.Pauses as ClaimPauses
use Rattle.claim.specs.Moves as ClaimMoves
use Rattle.nodes.specs.Laws as Nodes
use Rattle.nodes.specs.Runs as NodesRuns
use Rattle.nodes.specs.Pauses as NodesPauses
use Rattle.command.specs.Laws as Command
use Rattle.command.specs.Editions as CommandEditions
use Rattle.faults.specs.FieldLaws as FaultsFields
use Rattle.faults.specs.Laws as Faults
use Rattle.faults.specs.Runs as FaultsRuns
use Rattle.capture.specs.Laws as Capture
use Rattle.capture.specs.Runs as CaptureRuns
use Rattle.text.specs.Laws as Text
use Rattle.tiles.specs.Laws as Tiles
use Rattle.tiles.specs.Runs as TilesRuns
use Rattle.network.specs.Laws as Network
use Rattle.network.specs.AnyOrder as NetworkAnyOrder
use Rattle.network.specs.Listener as NetworkListener
use Rattle.network.specs.Needed as NetworkNeeded
use Rattle.message.specs.declared.Place.{Place}
use Rattle.catalogue.specs.declared.Row.{Row}
use Rattle.catalogue.specs.declared.Value.{Value}
use Rattle.claim.specs.declared.Claim.{Claim}
use Rattle.nodes.specs.declared.Node.{Node}
use Rattle.command.specs.declared.Host.{Host}
use Rattle.command.specs.declared.Acknowledgment.{Acknowledgment}

pub record WordsLaws : Type 0 where
  pub idle_adds_up : WrongPauses.IdleAddsUp
  pub restarts_do_not : WrongPauses.RestartsDoNot
  pub capped_do_not : WrongPauses.CappedDoNot
  pub wraps_do_not : WrongPauses.WrapsDoNot
  pub places_do_not : WrongPauses.PlacesDoNot

pub record FrameLaws : Type 0 where
  pub told_apart_same : Frame.ToldApartSame
  pub told_formed_same : Frame.ToldFormedSame
  pub told_verdict_same : Frame.ToldVerdictSame
  pub take_apart_only : Frame.TakeApartOnly
  pub form_only : Frame.FormOnly
  pub check_only : Frame.CheckOnly
  pub destination_of_only : Frame.DestinationOfOnly
  pub catalogue_form_only : Frame.CatalogueFormOnly
  pub number_of_only : Frame.NumberOfOnly
  pub bytes_of_only : Frame.BytesOfOnly
  pub dgn_bytes_only : Frame.DgnBytesOnly
  pub dgn_of_only : Frame.DgnOfOnly
  pub apart_refusal_only : Frame.ApartRefusalOnly
  pub formed_refusal_only : Frame.FormedRefusalOnly
  pub bad_frame_refusal_only : Frame.BadFrameRefusalOnly
  pub verdict_refusal_only : Frame.VerdictRefusalOnly
  pub bad_identifier_refusal_only : Frame.BadIdentifierRefusalOnly
  pub apart_refusal_told : Frame.ApartRefusalTold
  pub not_formed_refusal_only : Frame.NotFormedRefusalOnly
  pub formed_refusal_told : Frame.FormedRefusalTold
  pub verdict_refusal_told : Frame.VerdictRefusalTold
  pub bad_frame_refusal_told : Frame.BadFrameRefusalTold
  pub refused_keeps : Frame.RefusedKeeps
  pub parts_back : Frame.PartsBack
  pub identifier_back : Frame.IdentifierBack
  pub priority_ignored : Frame.PriorityIgnored
  pub number_back : Frame.NumberBack
  pub bytes_back : Frame.BytesBack
  pub dgn_back : Frame.DgnBack
  pub no_frame_refused : Frame.NoFrameRefused
  pub example_one : Frame.ExampleOne
  pub lowest_wins : (id size : ℕ) → Frame.LowestWins id size
  pub refused_for_reason : Frame.RefusedForReason

-- Of `places`: over any format,
pub record FormatLaws (𝓕 : Format) : Type 1 where
  pub one_step : PlacesStatements.OneStep 𝓕
  pub pause_closes : PlacesStatements.PauseCloses 𝓕
  pub run_keeps : PlacesStatements.RunKeeps 𝓕
  pub as_rules_from_any : PlacesStatements.AsRulesFromAny 𝓕
  pub open_as_rules : PlacesStatements.OpenAsRules 𝓕
  pub told_as_rules : PlacesStatements.ToldAsRules 𝓕
  pub busy_as_quiet : PlacesStatements.BusyAsQuiet 𝓕
  pub full_exactly_when : PlacesStatements.FullExactlyWhen 𝓕
  pub closes_as_rules : PlacesStatements.ClosesAsRules 𝓕
  pub full_exactly_when_at : PlacesStatements.FullExactlyWhenAt 𝓕
  pub sums_of_pauses : PlacesStatements.SumsOfPauses 𝓕
  pub pauses_add : (𝓟 : Pausing 𝓕) → PlacesStatements.PausesAdd 𝓕 𝓟

-- and any calls that keep to their places.
pub record CallLaws (𝓕 : Format) (𝓒 : Calls 𝓕) : Type 1 where
  pub busy_bus : PlacesCalls.BusyBus 𝓒
  pub open_on_bus : PlacesCalls.OpenOnBus 𝓒
  pub told_on_bus : PlacesCalls.ToldOnBus 𝓒
  pub no_place_free : PlacesCalls.NoPlaceFree 𝓒
  pub pause_count : PlacesCalls.PauseCount 𝓒
  pub sums_on_bus : PlacesCalls.SumsOnBus 𝓒
  pub start_kept : PlacesCalls.StartKept 𝓒
  pub rules_kept : PlacesCalls.RulesKept 𝓒
  pub every_run_runs : PlacesCalls.EveryRunRuns 𝓒
  pub full_at_any_state : PlacesCalls.FullAtAnyState 𝓒
  pub pause_at_any_state : PlacesCalls.PauseAtAnyState 𝓒

pub record PlacesLaws : Type 1 where
  pub formats : (𝓕 : Format) → FormatLaws 𝓕
  pub calls : (𝓕 : Format) (𝓒 : Calls 𝓕) → KeepsPlaces 𝓒 → CallLaws 𝓕 𝓒
  pub nine_keys_told : PlacesTiny.NineKeysTold
  pub nine_keys_after : PlacesTiny.NineKeysAfter
  pub nine_keys_paused : PlacesTiny.NineKeysPaused
  pub tiny_busy_as_quiet : PlacesTiny.TinyBusyAsQuiet
  pub tiny_open_as_rules : PlacesTiny.TinyOpenAsRules
  pub tiny_told_as_rules : PlacesTiny.TinyToldAsRules
  pub tiny_full_exactly_when : PlacesTiny.TinyFullExactlyWhen
  pub tiny_closes_as_rules : PlacesTiny.TinyClosesAsRules
  pub tiny_pausing : PlacesTiny.TinyPausing
  pub tiny_sums_of_pauses : PlacesTiny.TinySumsOfPauses
  pub tiny_keeps_places : PlacesTinyReceiver.TinyKeepsPlaces

pub record MessageLaws : Type 0 where
  pub told_answer_same : Message.ToldAnswerSame
  pub told_pausing_same : Message.ToldPausingSame
  pub announcing_number_same : Message.AnnouncingNumberSame
  pub splitting_number_same : Message.SplittingNumberSame
  pub new_only : Message.NewOnly
  pub hear_only : Message.HearOnly
  pub pause_only : Message.PauseOnly
  pub message_only : Message.MessageOnly
  pub announcement_only : Message.AnnouncementOnly
  pub packet_only : Message.PacketOnly
  pub answer_refusal_only : Message.AnswerRefusalOnly
  pub pausing_refusal_only : Message.PausingRefusalOnly
  pub announcing_refusal_only : Message.AnnouncingRefusalOnly
  pub splitting_refusal_only : Message.SplittingRefusalOnly
  pub unsplittable_refusal_only : Message.UnsplittableRefusalOnly
  pub not_heard_refusal_only : Message.NotHeardRefusalOnly
  pub answer_refusal_told : Message.AnswerRefusalTold
  pub bad_state_refusal_only : Message.BadStateRefusalOnly
  pub pausing_refusal_told : Message.PausingRefusalTold
  pub announcing_refusal_told : Message.AnnouncingRefusalTold
  pub unsplittable_refusal_told : Message.UnsplittableRefusalTold
  pub not_split_refusal_only : Message.NotSplitRefusalOnly
  pub splitting_refusal_told : Message.SplittingRefusalTold
  pub refused_keeps : Message.RefusedKeeps
  pub ten_closes : Message.TenCloses
  pub pause_refused_keeps : Message.PauseRefusedKeeps
  pub writes_the_packet : Message.WritesThePacket
  pub writes_its_own : Message.WritesItsOwn
  pub not_beyond : Message.NotBeyond
  pub splitter_announces : Message.SplitterAnnounces
  pub splitter_splits : Message.SplitterSplits
  pub lowest_wins :
      (id : ℕ) (bytes : List ℕ) (places : List Place) (storage : List ℕ) → Message.LowestWins id bytes places storage
  pub fits_exactly : MessagePacketCount.FitsExactly
  pub announcement_fits : MessagePacketCount.AnnouncementFits
  pub packet_fits : MessagePacketCount.PacketFits
  pub too_many_to_announce : MessagePacketCount.TooManyToAnnounce
  pub too_many_to_split : MessagePacketCount.TooManyToSplit
  pub never_fourteen : MessagePacketCount.NeverFourteen
  pub announcement_as_before : MessagePacketCount.AnnouncementAsBefore
  pub packet_as_before : MessagePacketCount.PacketAsBefore
  pub pauses_add_up : MessagePauses.PausesAddUp

pub record FastLaws : Type 1 where
  pub starting_number_same : Fast.StartingNumberSame
  pub told_answer_same : Fast.ToldAnswerSame
  pub told_pausing_same : Fast.ToldPausingSame
  pub splitting_number_same : Fast.SplittingNumberSame
  pub start_only : Fast.StartOnly
  pub hear_only : Fast.HearOnly
  pub pause_only : Fast.PauseOnly
  pub message_only : Fast.MessageOnly
  pub frame_of_only : Fast.FrameOfOnly
  pub starting_refusal_only : Fast.StartingRefusalOnly
  pub answer_refusal_only : Fast.AnswerRefusalOnly
  pub pausing_refusal_only : Fast.PausingRefusalOnly
  pub splitting_refusal_only : Fast.SplittingRefusalOnly
  pub bad_list_refusal_only : Fast.BadListRefusalOnly
  pub starting_refusal_told : Fast.StartingRefusalTold
  pub not_heard_refusal_only : Fast.NotHeardRefusalOnly
  pub answer_refusal_told : Fast.AnswerRefusalTold
  pub bad_state_refusal_only : Fast.BadStateRefusalOnly
  pub pausing_refusal_told : Fast.PausingRefusalTold
  pub not_split_refusal_only : Fast.NotSplitRefusalOnly
  pub splitting_refusal_told : Fast.SplittingRefusalTold
  pub pair_same : Fast.PairSame
  pub first_byte_read : Fast.FirstByteRead
  pub frames_needed : Fast.FramesNeeded
  pub named_when : Fast.NamedWhen
  pub start_names : Fast.StartNames
  pub start_refused_keeps : Fast.StartRefusedKeeps
  pub refused_keeps : Fast.RefusedKeeps
  pub ten_closes : Fast.TenCloses
  pub pause_refused_keeps : Fast.PauseRefusedKeeps
  pub lowest_wins : Fast.LowestWins
  pub writes_frame_zero : Fast.WritesFrameZero
  pub writes_the_frame : Fast.WritesTheFrame
  pub writes_its_own : Fast.WritesItsOwn
  pub not_beyond : Fast.NotBeyond
  pub splitter_splits : Fast.SplitterSplits
  pub statistics_joined : FastExample.StatisticsJoined
  pub statistics_split : FastExample.StatisticsSplit
  pub every_list_starts : FastCalls.EveryListStarts
  pub fast_keeps_places : FastCalls.FastKeepsPlaces
  pub fast_pauses_add : FastCalls.FastPausesAdd
  pub pauses_add_up : FastPauses.PausesAddUp
  pub joined_by_rules : FastSending.JoinedByRules

pub record CatalogueLaws : Type 0 where
  pub told_looked_same : Catalogue.ToldLookedSame
  pub told_reading_same : Catalogue.ToldReadingSame
  pub told_scaled_same : Catalogue.ToldScaledSame
  pub told_writing_same : Catalogue.ToldWritingSame
  pub rows_only : Catalogue.RowsOnly
  pub row_at_only : Catalogue.RowAtOnly
  pub rows_of_only : Catalogue.RowsOfOnly
  pub row_of_only : Catalogue.RowOfOnly
  pub packed_rows_only : Catalogue.PackedRowsOnly
  pub row_in_only : Catalogue.RowInOnly
  pub rows_in_only : Catalogue.RowsInOnly
  pub row_of_in_only : Catalogue.RowOfInOnly
  pub has_instance_only : Catalogue.HasInstanceOnly
  pub steps_in_one_only : Catalogue.StepsInOneOnly
  pub classify_only : Catalogue.ClassifyOnly
  pub read_only : Catalogue.ReadOnly
  pub read_scaled_only : Catalogue.ReadScaledOnly
  pub write_only : Catalogue.WriteOnly
  pub read_row_only : Catalogue.ReadRowOnly
  pub read_row_scaled_only : Catalogue.ReadRowScaledOnly
  pub write_row_only : Catalogue.WriteRowOnly
  pub looked_refusal_only : Catalogue.LookedRefusalOnly
  pub reading_refusal_only : Catalogue.ReadingRefusalOnly
  pub scaled_reading_refusal_only : Catalogue.ScaledReadingRefusalOnly
  pub writing_refusal_only : Catalogue.WritingRefusalOnly
  pub not_found_refusal_only : Catalogue.NotFoundRefusalOnly
  pub not_read_refusal_only : Catalogue.NotReadRefusalOnly
  pub not_written_refusal_only : Catalogue.NotWrittenRefusalOnly
  pub looked_refusal_told : Catalogue.LookedRefusalTold
  pub reading_refusal_told : Catalogue.ReadingRefusalTold
  pub scaled_reading_refusal_told : Catalogue.ScaledReadingRefusalTold
  pub writing_refusal_told : Catalogue.WritingRefusalTold
  pub refused_keeps : Catalogue.RefusedKeeps
  pub row_refused_keeps : Catalogue.RowRefusedKeeps
  pub lies_in_frame : Catalogue.LiesInFrame
  pub outside_refused : Catalogue.OutsideRefused
  pub rule_holds : Catalogue.RuleHolds
  pub catalogue_rule : Catalogue.CatalogueRule
  pub row_found : Catalogue.RowFound
  pub span_within : Catalogue.SpanWithin
  pub row_in_ruled : Catalogue.RowInRuled
  pub rows_in_ruled : Catalogue.RowsInRuled
  pub row_of_in_ruled : Catalogue.RowOfInRuled
  pub rows_in_within : Catalogue.RowsInWithin
  pub row_in_packed : Catalogue.RowInPacked
  pub rows_in_packed : Catalogue.RowsInPacked
  pub row_of_in_packed : Catalogue.RowOfInPacked
  pub read_at : Catalogue.ReadAt
  pub scaled_at : Catalogue.ScaledAt
  pub written_at : Catalogue.WrittenAt
  pub row_count : Catalogue.RowCount
  pub rising : Catalogue.Rising
  pub ends : Catalogue.Ends
  pub apart : Catalogue.Apart
  pub exactly : Catalogue.Exactly
  pub within : Catalogue.Within
  pub three_rows : Catalogue.ThreeRows
  pub three_classes : Catalogue.ThreeClasses
  pub one_class : Catalogue.OneClass
  pub always_numbers : Catalogue.AlwaysNumbers
  pub class_by_width : Catalogue.ClassByWidth
  pub two_states : Catalogue.TwoStates
  pub two_states_answered : Catalogue.TwoStatesAnswered
  pub unmarked_as_before : Catalogue.UnmarkedAsBefore
  pub mark_reads : Catalogue.MarkReads
  pub mark_writes : Catalogue.MarkWrites
  pub two_state_rows : Catalogue.TwoStateRows
  pub two_state_count : Catalogue.TwoStateCount
  pub no_third_state : Catalogue.NoThirdState
  pub bit_of_byte : Catalogue.BitOfByte
  pub code_back : Catalogue.CodeBack
  pub value_back : Catalogue.ValueBack
  pub row_reads_back : Catalogue.RowReadsBack
  pub row_reads_code : Catalogue.RowReadsCode
  pub row_reads_others : Catalogue.RowReadsOthers
  pub row_bits_kept : Catalogue.RowBitsKept
  pub row_eight_bytes : Catalogue.RowEightBytes
  pub reads_back : Catalogue.ReadsBack
  pub reads_code : Catalogue.ReadsCode
  pub reads_others : Catalogue.ReadsOthers
  pub bits_kept : Catalogue.BitsKept
  pub eight_bytes : Catalogue.EightBytes
  pub example_eight : Catalogue.ExampleEight
  pub example_nine : Catalogue.ExampleNine
  pub example_ten : Catalogue.ExampleTen
  pub row_lowest_wins :
      (row : Row) (id : ℕ) (bytes : List ℕ) (value : Value) → Catalogue.RowLowestWins row id bytes value
  pub lowest_wins : (n id : ℕ) (bytes : List ℕ) (value : Value) → Catalogue.LowestWins n id bytes value
  pub instance_row : Catalogue.InstanceRow
  pub instance_count : Catalogue.InstanceCount
  pub scaled_with_instance : Catalogue.ScaledWithInstance
  pub scaled_by_unit : Catalogue.ScaledByUnit
  pub steps_by_unit : Catalogue.StepsByUnit
  pub scaled_small : Catalogue.ScaledSmall
  pub value_small : Catalogue.ValueSmall
  pub code_below : Catalogue.CodeBelow
  pub value_by_class : Catalogue.ValueByClass
  pub row_given : Catalogue.RowGiven
  pub row_refused : Catalogue.RowRefused
  pub scaled_in_frame : Catalogue.ScaledInFrame

pub record ClaimLaws : Type 0 where
  pub told_starting_same : Claims.ToldStartingSame
  pub told_hearing_same : Claims.ToldHearingSame
  pub told_pausing_same : Claims.ToldPausingSame
  pub told_standing_same : Claims.ToldStandingSame
  pub told_sending_same : Claims.ToldSendingSame
  pub start_only : Claims.StartOnly
  pub hear_only : Claims.HearOnly
  pub pause_only : Claims.PauseOnly
  pub stands_only : Claims.StandsOnly
  pub our_claim_only : Claims.OurClaimOnly
  pub keeps_rules_only : Claims.KeepsRulesOnly
  pub holds_list_only : Claims.HoldsListOnly
  pub starting_refusal_only : Claims.StartingRefusalOnly
  pub hearing_refusal_only : Claims.HearingRefusalOnly
  pub pausing_refusal_only : Claims.PausingRefusalOnly
  pub standing_refusal_only : Claims.StandingRefusalOnly
  pub sending_refusal_only : Claims.SendingRefusalOnly
  pub not_started_refusal_only : Claims.NotStartedRefusalOnly
  pub not_heard_refusal_only : Claims.NotHeardRefusalOnly
  pub bad_state_refusal_only : Claims.BadStateRefusalOnly
  pub starting_refusal_told : Claims.StartingRefusalTold
  pub hearing_refusal_told : Claims.HearingRefusalTold
  pub pausing_refusal_told : Claims.PausingRefusalTold
  pub standing_refusal_told : Claims.StandingRefusalTold
  pub sending_refusal_told : Claims.SendingRefusalTold
  pub start_refused_keeps : Claims.StartRefusedKeeps
  pub hear_refused_keeps : Claims.HearRefusedKeeps
  pub pause_refused_keeps : Claims.PauseRefusedKeeps
  pub our_claim_refused_keeps : Claims.OurClaimRefusedKeeps
  pub priority_ignored : Claims.PriorityIgnored
  pub other_dgn : Claims.OtherDgn
  pub nobodys_claim : Claims.NobodysClaim
  pub start_sound : Claims.StartSound
  pub hear_sound : Claims.HearSound
  pub pause_sound : Claims.PauseSound
  pub run_sound : Claims.RunSound
  pub node_stays : Claims.NodeStays
  pub position_rises : Claims.PositionRises
  pub silent_ignores : Claims.SilentIgnores
  pub silent_for_good : Claims.SilentForGood
  pub only_lower_moves : Claims.OnlyLowerMoves
  pub held_exactly : Claims.HeldExactly
  pub claim_is_ours : Claims.ClaimIsOurs
  pub start_sends_ours : Claims.StartSendsOurs
  pub hear_sends_ours : Claims.HearSendsOurs
  pub hear_sends_nothing : Claims.HearSendsNothing
  pub frame_is_heard : Claims.FrameIsHeard
  pub calls_are_events : Claims.CallsAreEvents
  pub lowest_wins : (id : ℕ) (bytes : List ℕ) (c : Claim) → Claims.LowestWins id bytes c
  pub pauses_add_up : ClaimPauses.PausesAddUp
  pub every_run_runs : ClaimMoves.EveryRunRuns
  pub losses_exactly : ClaimMoves.LossesExactly
  pub losses_as_told : ClaimMoves.LossesAsTold
  pub wrong_count_refused : ClaimMoves.WrongCountRefused
  pub repeats_unlimited : ClaimMoves.RepeatsUnlimited
  pub every_count_reached : ClaimMoves.EveryCountReached
  pub sent_for_each : ClaimMoves.SentForEach

pub record NodesLaws : Type 0 where
  pub told_hearing_same : Nodes.ToldHearingSame
  pub told_pausing_same : Nodes.ToldPausingSame
  pub told_looked_up_same : Nodes.ToldLookedUpSame
  pub told_found_address_same : Nodes.ToldFoundAddressSame
  pub told_found_challenger_same : Nodes.ToldFoundChallengerSame
  pub empty_only : Nodes.EmptyOnly
  pub hear_only : Nodes.HearOnly
  pub pause_only : Nodes.PauseOnly
  pub look_up_only : Nodes.LookUpOnly
  pub find_address_only : Nodes.FindAddressOnly
  pub find_challenger_only : Nodes.FindChallengerOnly
  pub hearing_refusal_only : Nodes.HearingRefusalOnly
  pub pausing_refusal_only : Nodes.PausingRefusalOnly
  pub looked_up_refusal_only : Nodes.LookedUpRefusalOnly
  pub found_address_refusal_only : Nodes.FoundAddressRefusalOnly
  pub found_challenger_refusal_only : Nodes.FoundChallengerRefusalOnly
  pub not_heard_refusal_only : Nodes.NotHeardRefusalOnly
  pub bad_table_refusal_only : Nodes.BadTableRefusalOnly
  pub hearing_refusal_told : Nodes.HearingRefusalTold
  pub pausing_refusal_told : Nodes.PausingRefusalTold
  pub looked_up_refusal_told : Nodes.LookedUpRefusalTold
  pub found_address_refusal_told : Nodes.FoundAddressRefusalTold
  pub found_challenger_refusal_told : Nodes.FoundChallengerRefusalTold
  pub hear_refused_keeps : Nodes.HearRefusedKeeps
  pub pause_refused_keeps : Nodes.PauseRefusedKeeps
  pub hear_nothing_keeps : Nodes.HearNothingKeeps
  pub priority_ignored : Nodes.PriorityIgnored
  pub past_untouched : Nodes.PastUntouched
  pub pause_past_untouched : Nodes.PausePastUntouched
  pub past_unread : Nodes.PastUnread
  pub length_kept : Nodes.LengthKept
  pub pause_length_kept : Nodes.PauseLengthKept
  pub rules_read : Nodes.RulesRead
  pub empty_keeps_rules : Nodes.EmptyKeepsRules
  pub empty_has_nobody : Nodes.EmptyHasNobody
  pub empty_has_no_name : Nodes.EmptyHasNoName
  pub empty_has_no_challenger : Nodes.EmptyHasNoChallenger
  pub rules_kept : Nodes.RulesKept
  pub pause_rules_kept : Nodes.PauseRulesKept
  pub name_once : Nodes.NameOnce
  pub cleared_then_entered : Nodes.ClearedThenEntered
  pub taken_by_lower : Nodes.TakenByLower
  pub every_sentence : Nodes.EverySentence
  pub replaced_counts : Nodes.ReplacedCounts
  pub taken_shown : Nodes.TakenShown
  pub challenges_shown : Nodes.ChallengesShown
  pub held_shown : Nodes.HeldShown
  pub found_there : Nodes.FoundThere
  pub found_nowhere : Nodes.FoundNowhere
  pub found_shown : Nodes.FoundShown
  pub taken_found : Nodes.TakenFound
  pub lowest_wins : (table : List Node) (id : ℕ) (bytes : List ℕ) → Nodes.LowestWins table id bytes
  pub pause_lowest_wins : (table : List Node) (ms : ℕ) → Nodes.PauseLowestWins table ms
  pub run_by_record : NodesRuns.RunByRecord
  pub every_run_runs : NodesRuns.EveryRunRuns
  pub challenge_waits : NodesRuns.ChallengeWaits
  pub challenge_takes : NodesRuns.ChallengeTakes
  pub holder_leaves : NodesRuns.HolderLeaves
  pub takes_only_so : NodesRuns.TakesOnlySo
  pub challenge_entered : NodesRuns.ChallengeEntered
  pub holder_stays : NodesRuns.HolderStays
  pub pauses_add_up : NodesPauses.PausesAddUp

pub record CommandLaws : Type 0 where
  pub told_starting_same : Command.ToldStartingSame
  pub told_routing_same : Command.ToldRoutingSame
  pub told_requesting_same : Command.ToldRequestingSame
  pub told_acknowledging_same : Command.ToldAcknowledgingSame
  pub start_only : Command.StartOnly
  pub route_only : Command.RouteOnly
  pub request_only : Command.RequestOnly
  pub acknowledge_only : Command.AcknowledgeOnly
  pub starting_refusal_only : Command.StartingRefusalOnly
  pub routing_refusal_only : Command.RoutingRefusalOnly
  pub requesting_refusal_only : Command.RequestingRefusalOnly
  pub acknowledging_refusal_only : Command.AcknowledgingRefusalOnly
  pub routing_refusal_any : Command.RoutingRefusalAny
  pub requesting_refusal_any : Command.RequestingRefusalAny
  pub acknowledging_refusal_any : Command.AcknowledgingRefusalAny
  pub not_started_refusal_only : Command.NotStartedRefusalOnly
  pub not_routed_refusal_only : Command.NotRoutedRefusalOnly
  pub not_answered_refusal_only : Command.NotAnsweredRefusalOnly
  pub not_acknowledged_refusal_only : Command.NotAcknowledgedRefusalOnly
  pub starting_refusal_told : Command.StartingRefusalTold
  pub routing_refusal_told : Command.RoutingRefusalTold
  pub requesting_refusal_told : Command.RequestingRefusalTold
  pub acknowledging_refusal_told : Command.AcknowledgingRefusalTold
  pub start_refused_keeps : Command.StartRefusedKeeps
  pub route_refused_keeps : Command.RouteRefusedKeeps
  pub request_refused_keeps : Command.RequestRefusedKeeps
  pub acknowledge_refused_keeps : Command.AcknowledgeRefusedKeeps
  pub priority_ignored : Command.PriorityIgnored
  pub start_hosts : Command.StartHosts
  pub past_count_ignored : Command.PastCountIgnored
  pub hosted_dgn_low : Command.HostedDgnLow
  pub positions_exact : Command.PositionsExact
  pub positions_rise : Command.PositionsRise
  pub listed_filled : Command.ListedFilled
  pub instance_picks : Command.InstancePicks
  pub instance_picks_one : Command.InstancePicksOne
  pub zero_picks_marked : Command.ZeroPicksMarked
  pub slide_ignores_zero : Command.SlideIgnoresZero
  pub not_hosted : Command.NotHosted
  pub unheld_command : Command.UnheldCommand
  pub command_elsewhere : Command.CommandElsewhere
  pub other_dgn : Command.OtherDgn
  pub request_too_large : Command.RequestTooLarge
  pub later_bytes_ignored : Command.LaterBytesIgnored
  pub claiming_for_claim_only : Command.ClaimingForClaimOnly
  pub silent_only_global : Command.SilentOnlyGlobal
  pub claim_exactly : Command.ClaimExactly
  pub claim_given : Command.ClaimGiven
  pub unheld_exactly : Command.UnheldExactly
  pub picked_held : Command.PickedHeld
  pub supported_held : Command.SupportedHeld
  pub nak_is_sound : Command.NakIsSound
  pub request_sends_ours : Command.RequestSendsOurs
  pub acknowledge_sends_ours : Command.AcknowledgeSendsOurs
  pub example_eleven : Command.ExampleEleven
  pub reports_exactly : CommandEditions.ReportsExactly
  pub positions_exactly : CommandEditions.PositionsExactly
  pub nak_exactly : CommandEditions.NakExactly
  pub nak_names : CommandEditions.NakNames
  pub quiet_exactly : CommandEditions.QuietExactly
  pub global_no_nak : CommandEditions.GlobalNoNak
  pub nobody_no_nak : CommandEditions.NobodyNoNak
  pub all_report : CommandEditions.AllReport
  pub all_nak : CommandEditions.AllNak
  pub all_nak_only : CommandEditions.AllNakOnly
  pub one_reports : CommandEditions.OneReports
  pub one_nak : CommandEditions.OneNak
  pub one_nak_only : CommandEditions.OneNakOnly
  pub nobodys_instance : CommandEditions.NobodysInstance
  pub editions_agree : CommandEditions.EditionsAgree
  pub claim_for_any_instance : CommandEditions.ClaimForAnyInstance
  pub commands_have_no_edition : CommandEditions.CommandsHaveNoEdition
  pub one_ignores_byte_three : CommandEditions.OneIgnoresByteThree
  pub one_as_before : CommandEditions.OneAsBefore
  pub heat_pump_example : CommandEditions.HeatPumpExample
  pub lowest_wins : (id : ℕ) (bytes : List ℕ) (h : Host) (c : Claim) → Command.LowestWins id bytes h c
  pub acknowledge_lowest_wins : (c : Claim) (a : Acknowledgment) → Command.AcknowledgeLowestWins c a

pub record FaultsLaws : Type 0 where
  pub told_service_point_same : Faults.ToldServicePointSame
  pub packed_rows_only : Faults.PackedRowsOnly
  pub row_at_only : Faults.RowAtOnly
  pub read_only : Faults.ReadOnly
  pub write_only : Faults.WriteOnly
  pub read_service_point_only : Faults.ReadServicePointOnly
  pub write_service_point_only : Faults.WriteServicePointOnly
  pub service_point_refusal_only : Faults.ServicePointRefusalOnly
  pub rows_keep_rule : FaultsFields.RowsKeepRule
  pub rows_ruled : FaultsFields.RowsRuled
  pub table_is_rows : FaultsFields.TableIsRows
  pub rows_apart : FaultsFields.RowsApart
  pub plain_parts : FaultsFields.PlainParts
  pub field_refused_keeps : FaultsFields.FieldRefusedKeeps
  pub service_point_refused_keeps : FaultsFields.ServicePointRefusedKeeps
  pub field_lowest_wins :
      (n id : ℕ) (bytes : List ℕ) (value : Value) → FaultsFields.FieldLowestWins n id bytes value
  pub service_point_lowest_wins :
      (id : ℕ) (bytes : List ℕ) (number : ℕ) → FaultsFields.ServicePointLowestWins id bytes number
  pub service_point_fits : FaultsFields.ServicePointFits
  pub service_point_bytes : FaultsFields.ServicePointBytes
  pub service_point_reads_back : FaultsFields.ServicePointReadsBack
  pub service_point_alone : FaultsFields.ServicePointAlone
  pub service_point_example : FaultsFields.ServicePointExample
  pub told_adding_same : Faults.ToldAddingSame
  pub told_clearing_same : Faults.ToldClearingSame
  pub told_stepping_same : Faults.ToldSteppingSame
  pub told_requesting_same : Faults.ToldRequestingSame
  pub start_only : Faults.StartOnly
  pub add_only : Faults.AddOnly
  pub clear_only : Faults.ClearOnly
  pub step_only : Faults.StepOnly
  pub request_only : Faults.RequestOnly
  pub reply_only : Faults.ReplyOnly
  pub adding_refusal_only : Faults.AddingRefusalOnly
  pub clearing_refusal_only : Faults.ClearingRefusalOnly
  pub stepping_refusal_only : Faults.SteppingRefusalOnly
  pub requesting_refusal_only : Faults.RequestingRefusalOnly
  pub service_point_refusal_told : Faults.ServicePointRefusalTold
  pub not_added_refusal_only : Faults.NotAddedRefusalOnly
  pub not_cleared_refusal_only : Faults.NotClearedRefusalOnly
  pub not_stepped_refusal_only : Faults.NotSteppedRefusalOnly
  pub not_heard_refusal_only : Faults.NotHeardRefusalOnly
  pub adding_refusal_told : Faults.AddingRefusalTold
  pub clearing_refusal_told : Faults.ClearingRefusalTold
  pub stepping_refusal_told : Faults.SteppingRefusalTold
  pub requesting_refusal_told : Faults.RequestingRefusalTold
  pub add_refused_keeps : Faults.AddRefusedKeeps
  pub clear_refused_keeps : Faults.ClearRefusedKeeps
  pub step_refused_keeps : Faults.StepRefusedKeeps
  pub request_refused_keeps : Faults.RequestRefusedKeeps
  pub request_keeps : Faults.RequestKeeps
  pub reply_keeps : Faults.ReplyKeeps
  pub add_lowest : Faults.AddLowest
  pub clear_lowest : Faults.ClearLowest
  pub step_lowest : Faults.StepLowest
  pub request_lowest : Faults.RequestLowest
  pub run_sound : Faults.RunSound
  pub start_sound : Faults.StartSound
  pub added_lowest : Faults.AddedLowest
  pub one_a_step : Faults.OneAStep
  pub lowest_answers : Faults.LowestAnswers
  pub priority_ignored : Faults.PriorityIgnored
  pub only_dgn_read : Faults.OnlyDgnRead
  pub dm_rv_is_sound : Faults.DmRvIsSound
  pub dm_rv_example : Faults.DmRvExample
  pub step_example : Faults.StepExample
  pub reply_no_nak : Faults.ReplyNoNak
  pub reply_else_host : Faults.ReplyElseHost
  pub host_alone : Faults.HostAlone
  pub every_run_runs : FaultsRuns.EveryRunRuns
  pub fair : FaultsRuns.Fair
  pub sent_within : FaultsRuns.SentWithin
  pub fair_added : FaultsRuns.FairAdded
  pub fair_again : FaultsRuns.FairAgain
  pub sent_is_own : FaultsRuns.SentIsOwn
  pub never_early : FaultsRuns.NeverEarly
  pub never_cleared : FaultsRuns.NeverCleared
  pub longest_due : FaultsRuns.LongestDue
  pub sharp : FaultsRuns.Sharp

pub record CaptureLaws : Type 0 where
  pub told_reading_same : Capture.ToldReadingSame
  pub take_apart_only : Capture.TakeApartOnly
  pub write_only : Capture.WriteOnly
  pub new_only : Capture.NewOnly
  pub next_only : Capture.NextOnly
  pub last_only : Capture.LastOnly
  pub reading_refusal_only : Capture.ReadingRefusalOnly
  pub not_read_refusal_only : Capture.NotReadRefusalOnly
  pub reading_refusal_told : Capture.ReadingRefusalTold
  pub malformed_keeps : Capture.MalformedKeeps
  pub number_back : Capture.NumberBack
  pub digits_back : Capture.DigitsBack
  pub sound_exactly : Capture.SoundExactly
  pub malformed_exactly : Capture.MalformedExactly
  pub only_nineteen : Capture.OnlyNineteen
  pub one_line : Capture.OneLine
  pub one_frame : Capture.OneFrame
  pub sound_length : Capture.SoundLength
  pub written_length : Capture.WrittenLength
  pub written_taken_apart : Capture.WrittenTakenApart
  pub taken_apart_written : Capture.TakenApartWritten
  pub no_bytes_no_lines : Capture.NoBytesNoLines
  pub final_newline : Capture.FinalNewline
  pub no_more_lines : Capture.NoMoreLines
  pub piece_says : Capture.PieceSays
  pub blocks_do_not_matter : Capture.BlocksDoNotMatter
  pub next_advances : Capture.NextAdvances
  pub within_block : Capture.WithinBlock
  pub carried_fits : Capture.CarriedFits
  pub last_fits : Capture.LastFits
  pub every_stream_is_fed : Capture.EveryStreamIsFed
  pub runs_do_not_matter : CaptureRuns.RunsDoNotMatter

pub record TextLaws : Type 0 where
  pub put_only : Text.PutOnly
  pub put_decimal_only : Text.PutDecimalOnly
  pub put_hex_only : Text.PutHexOnly
  pub put_bytes_only : Text.PutBytesOnly
  pub decimal_width_only : Text.DecimalWidthOnly
  pub fits_wrote : Text.FitsWrote
  pub no_room_keeps : Text.NoRoomKeeps
  pub no_leading_zeros : Text.NoLeadingZeros
  pub width_at_most : Text.WidthAtMost

pub record NetworkLaws : Type 0 where
  pub no_two : Network.NoTwo
  pub last_word : Network.LastWord
  pub few_claims : Network.FewClaims
  pub few_deliveries : Network.FewDeliveries
  pub delivers_on : Network.DeliversOn
  pub comes_to_rest : Network.ComesToRest
  pub every_act_can : Network.EveryActCan
  pub none_refuses : Network.NoneRefuses
  pub held_at_last : Network.HeldAtLast
  pub no_two_in_any_order : NetworkAnyOrder.NoTwoInAnyOrder
  pub table_agrees : NetworkListener.TableAgrees
  pub late_table_agrees : NetworkListener.LateTableAgrees
  pub names_differ : NetworkNeeded.NamesDiffer
  pub none_lost : NetworkNeeded.NoneLost
  pub start_first : NetworkNeeded.StartFirst
  pub one_order : NetworkNeeded.OneOrder
  pub own_order : NetworkNeeded.OwnOrder

pub record TilesLaws : Type 0 where
  pub told_naming_same : Tiles.ToldNamingSame
  pub told_hearing_same : Tiles.ToldHearingSame
  pub told_asking_same : Tiles.ToldAskingSame
  pub new_only : Tiles.NewOnly
  pub name_only : Tiles.NameOnly
  pub hear_only : Tiles.HearOnly
  pub read_tile_only : Tiles.ReadTileOnly
  pub naming_refusal_only : Tiles.NamingRefusalOnly
  pub hearing_refusal_only : Tiles.HearingRefusalOnly
  pub asking_refusal_only : Tiles.AskingRefusalOnly
  pub not_named_refusal_only : Tiles.NotNamedRefusalOnly
  pub not_heard_refusal_only : Tiles.NotHeardRefusalOnly
  pub not_shown_refusal_only : Tiles.NotShownRefusalOnly
  pub naming_refusal_told : Tiles.NamingRefusalTold
  pub hearing_refusal_told : Tiles.HearingRefusalTold
  pub asking_refusal_told : Tiles.AskingRefusalTold
  pub name_refused_keeps : Tiles.NameRefusedKeeps
  pub hear_refused_keeps : Tiles.HearRefusedKeeps
  pub name_lowest : Tiles.NameLowest
  pub hear_lowest : Tiles.HearLowest
  pub reading_lowest : Tiles.ReadingLowest
  pub accepted_rows : Tiles.AcceptedRows
  pub matches_exactly : Tiles.MatchesExactly
  pub zero_is_not_all : Tiles.ZeroIsNotAll
  pub heard_exactly : Tiles.HeardExactly
  pub named_exactly : Tiles.NamedExactly
  pub priority_ignored : Tiles.PriorityIgnored
  pub exact_for_every_code : Tiles.ExactForEveryCode
  pub reading_exact : Tiles.ReadingExact
  pub run_sound : Tiles.RunSound
  pub latest_shown : Tiles.LatestShown
  pub shows_one : Tiles.ShowsOne
  pub every_run_runs : TilesRuns.EveryRunRuns

pub record EveryLaw : Type 1 where
  pub words : WordsLaws
  pub frame : FrameLaws
  pub places : PlacesLaws
  pub message : MessageLaws
  pub fast : FastLaws
  pub catalogue : CatalogueLaws
  pub claim : ClaimLaws
  pub nodes : NodesLaws
  pub command : CommandLaws
  pub faults : FaultsLaws
  pub capture : CaptureLaws
  pub text : TextLaws
  pub network : NetworkLaws
  pub tiles : TilesLaws
