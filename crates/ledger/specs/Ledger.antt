-- The ledger: every field of the three demands (RULES 13.1 to 13.5) and every line of the table of examples (RULES
-- 13.11), each named once more from outside the crates that state and prove them. A demand that loses a field, or a
-- table that loses a line, no longer fits it.
use Rattle.std.specs.Prelude.{◌≡◌, false, [], ◌∷◌}
use Rattle.words.specs.Pauses.{PauseCall}
use Rattle.words.specs.Pauses as Pauses
use Rattle.frame.specs.Laws as Frame
use Rattle.message.specs.Laws as Message
use Rattle.message.specs.PacketCount as MessagePacketCount
use Rattle.fast.specs.Laws as Fast
use Rattle.fast.specs.Calls as FastCalls
use Rattle.fast.specs.Sending as FastSending
use Rattle.message.specs.Pauses as MessagePauses
use Rattle.fast.specs.Pauses as FastPauses
use Rattle.claim.specs.Pauses as ClaimPauses
use Rattle.nodes.specs.Pauses as NodesPauses
use Rattle.catalogue.specs.Laws as Catalogue
use Rattle.claim.specs.Laws as Claim
use Rattle.claim.specs.Moves as ClaimMoves
use Rattle.nodes.specs.Laws as Nodes
use Rattle.nodes.specs.Runs as NodesRuns
use Rattle.command.specs.Laws as Command
use Rattle.command.specs.Editions as CommandEditions
use Rattle.faults.specs.FieldLaws as FaultsFields
use Rattle.faults.specs.Laws as Faults
use Rattle.faults.specs.Runs as FaultsRuns
use Rattle.capture.specs.Laws as Capture
use Rattle.tiles.specs.Laws as Tiles
use Rattle.tiles.specs.Runs as TilesRuns
use Rattle.network.specs.Laws as Network
use Rattle.network.specs.Listener as NetworkListener
use Rattle.demands.specs.EveryCall.{EveryCall}
use Rattle.demands.specs.Numbers.{in_table, EveryNumber}
use Rattle.demands.specs.EveryLaw.{EveryLaw}
use Rattle.demands.specs.BusyBus.{BusyBus, OpenOnBus, ToldOnBus, NoPlaceFree, PauseCount, SumsOfPauses, StartKept}
use Rattle.demands.specs.BusyBus.{RulesKept, EveryRunRuns, NoPlaceFreeAt, PauseCountAt}
use Rattle.demands.specs.SplitAndJoin.{SplitAndJoin, JoinedByRules}
use Rattle.demands.specs.FastBus as FastBus
use Rattle.demands.specs.FastSplitAndJoin as FastSplitAndJoin
use Rattle.demands.specs.ClaimsHeard.{ClaimIsHeard}
use Rattle.demands.specs.Pauses.{PausesAddUp}
use Rattle.examples.specs.Examples.{dm_rv, eight_announced, nine_announced, eight_split, nine_split, longest_announced}
use Rattle.examples.specs.Examples.{longer_announced, longest_split, longer_split, wrong_count, idle_kept, idle_closed}
use Rattle.examples.specs.Examples.{ninth_sender, long_message, last_number, first_reserved, zero_amperes, lowest_celsius}
use Rattle.examples.specs.Examples.{slide_acknowledged, table, AllAsPrinted}

pub record FieldsOfOne : Type 2 where
  pub calls : EveryCall
  pub numbers : EveryNumber
  pub frame : Frame.RefusedKeeps
  pub hear : Message.RefusedKeeps
  pub ten_closes : Message.TenCloses
  pub pause : Message.PauseRefusedKeeps
  pub fast_start : Fast.StartRefusedKeeps
  pub fast_hear : Fast.RefusedKeeps
  pub fast_ten_closes : Fast.TenCloses
  pub fast_pause : Fast.PauseRefusedKeeps
  pub write : Catalogue.RefusedKeeps
  pub claim_start : Claim.StartRefusedKeeps
  pub claim_hear : Claim.HearRefusedKeeps
  pub claim_pause : Claim.PauseRefusedKeeps
  pub our_claim : Claim.OurClaimRefusedKeeps
  pub nodes : Nodes.HearRefusedKeeps
  pub nodes_pause : Nodes.PauseRefusedKeeps
  pub host_start : Command.StartRefusedKeeps
  pub route : Command.RouteRefusedKeeps
  pub request : Command.RequestRefusedKeeps
  pub acknowledge : Command.AcknowledgeRefusedKeeps
  pub dm_rv_write : FaultsFields.FieldRefusedKeeps
  pub service_point_write : FaultsFields.ServicePointRefusedKeeps
  pub fault_add : Faults.AddRefusedKeeps
  pub fault_clear : Faults.ClearRefusedKeeps
  pub fault_step : Faults.StepRefusedKeeps
  pub fault_request : Faults.RequestRefusedKeeps
  pub line : Capture.MalformedKeeps
  pub tile_name : Tiles.NameRefusedKeeps
  pub tile_hear : Tiles.HearRefusedKeeps

pub record FieldsOfTwo : Type 0 where
  pub parts_back : Frame.PartsBack
  pub identifier_back : Frame.IdentifierBack
  pub number_back : Frame.NumberBack
  pub bytes_back : Frame.BytesBack
  pub rising : Catalogue.Rising
  pub ends : Catalogue.Ends
  pub apart : Catalogue.Apart
  pub bit_of_byte : Catalogue.BitOfByte
  pub code_back : Catalogue.CodeBack
  pub value_back : Catalogue.ValueBack
  pub reads_back : Catalogue.ReadsBack
  pub reads_others : Catalogue.ReadsOthers
  pub bits_kept : Catalogue.BitsKept
  pub two_states_answered : Catalogue.TwoStatesAnswered
  pub mark_reads : Catalogue.MarkReads
  pub mark_writes : Catalogue.MarkWrites
  pub no_third_state : Catalogue.NoThirdState
  pub splitter_announces : Message.SplitterAnnounces
  pub splitter_splits : Message.SplitterSplits
  pub fits_exactly : MessagePacketCount.FitsExactly
  pub announcement_fits : MessagePacketCount.AnnouncementFits
  pub packet_fits : MessagePacketCount.PacketFits
  pub never_fourteen : MessagePacketCount.NeverFourteen
  pub announcement_as_before : MessagePacketCount.AnnouncementAsBefore
  pub packet_as_before : MessagePacketCount.PacketAsBefore
  pub split_and_join : SplitAndJoin
  pub joined_by_rules : JoinedByRules
  pub fast_splitter_splits : Fast.SplitterSplits
  pub fast_split_and_join : FastSplitAndJoin.SplitAndJoin
  pub fast_joined_by_rules : FastSending.JoinedByRules
  pub claim_is_heard : ClaimIsHeard
  pub claim_every_run_runs : ClaimMoves.EveryRunRuns
  pub losses_exactly : ClaimMoves.LossesExactly
  pub losses_as_told : ClaimMoves.LossesAsTold
  pub every_count_reached : ClaimMoves.EveryCountReached
  pub repeats_unlimited : ClaimMoves.RepeatsUnlimited
  pub sent_for_each : ClaimMoves.SentForEach
  pub no_two : Network.NoTwo
  pub last_word : Network.LastWord
  pub few_claims : Network.FewClaims
  pub few_deliveries : Network.FewDeliveries
  pub delivers_on : Network.DeliversOn
  pub comes_to_rest : Network.ComesToRest
  pub held_at_last : Network.HeldAtLast
  pub table_agrees : NetworkListener.TableAgrees
  pub late_table_agrees : NetworkListener.LateTableAgrees
  pub nodes_run : NodesRuns.RunByRecord
  pub nodes_every_run_runs : NodesRuns.EveryRunRuns
  pub challenge_waits : NodesRuns.ChallengeWaits
  pub challenge_takes : NodesRuns.ChallengeTakes
  pub holder_leaves : NodesRuns.HolderLeaves
  pub takes_only_so : NodesRuns.TakesOnlySo
  pub challenge_entered : NodesRuns.ChallengeEntered
  pub holder_stays : NodesRuns.HolderStays
  pub other_dgn : Command.OtherDgn
  pub request_too_large : Command.RequestTooLarge
  pub later_bytes_ignored : Command.LaterBytesIgnored
  pub reports_exactly : CommandEditions.ReportsExactly
  pub positions_exactly : CommandEditions.PositionsExactly
  pub nak_exactly : CommandEditions.NakExactly
  pub nak_names : CommandEditions.NakNames
  pub quiet_exactly : CommandEditions.QuietExactly
  pub global_no_nak : CommandEditions.GlobalNoNak
  pub nobody_no_nak : CommandEditions.NobodyNoNak
  pub all_report : CommandEditions.AllReport
  pub all_nak : CommandEditions.AllNak
  pub all_nak_only : CommandEditions.AllNakOnly
  pub one_reports : CommandEditions.OneReports
  pub one_nak : CommandEditions.OneNak
  pub one_nak_only : CommandEditions.OneNakOnly
  pub nobodys_instance : CommandEditions.NobodysInstance
  pub editions_agree : CommandEditions.EditionsAgree
  pub claim_for_any_instance : CommandEditions.ClaimForAnyInstance
  pub one_ignores_byte_three : CommandEditions.OneIgnoresByteThree
  pub one_as_before : CommandEditions.OneAsBefore
  pub dm_rv_rows : FaultsFields.RowsRuled
  pub dm_rv_table : FaultsFields.TableIsRows
  pub service_point_reads_back : FaultsFields.ServicePointReadsBack
  pub service_point_alone : FaultsFields.ServicePointAlone
  pub longest_due : FaultsRuns.LongestDue
  pub fair : FaultsRuns.Fair
  pub sent_within : FaultsRuns.SentWithin
  pub fair_added : FaultsRuns.FairAdded
  pub fair_again : FaultsRuns.FairAgain
  pub sharp : FaultsRuns.Sharp
  pub sent_is_own : FaultsRuns.SentIsOwn
  pub never_early : FaultsRuns.NeverEarly
  pub never_cleared : FaultsRuns.NeverCleared
  pub faults_every_run_runs : FaultsRuns.EveryRunRuns
  pub faults_run_sound : Faults.RunSound
  pub tiles_heard_exactly : Tiles.HeardExactly
  pub tiles_named_exactly : Tiles.NamedExactly
  pub tiles_exact_for_every_code : Tiles.ExactForEveryCode
  pub tiles_reading_exact : Tiles.ReadingExact
  pub tiles_latest_shown : Tiles.LatestShown
  pub tiles_shows_one : Tiles.ShowsOne
  pub tiles_every_run_runs : TilesRuns.EveryRunRuns
  pub tiles_run_sound : Tiles.RunSound
  pub one_a_step : Faults.OneAStep
  pub fault_request_keeps : Faults.RequestKeeps
  pub lowest_answers : Faults.LowestAnswers
  pub dm_rv_is_sound : Faults.DmRvIsSound
  pub reply_no_nak : Faults.ReplyNoNak
  pub reply_else_host : Faults.ReplyElseHost
  pub written_taken_apart : Capture.WrittenTakenApart
  pub taken_apart_written : Capture.TakenApartWritten
  pub blocks_do_not_matter : Capture.BlocksDoNotMatter

pub record FieldsOfThree : Type 0 where
  pub busy_bus : BusyBus
  pub open_on_bus : OpenOnBus
  pub told_on_bus : ToldOnBus
  pub no_place_free : NoPlaceFree
  pub pause_count : PauseCount
  pub sums_of_pauses : SumsOfPauses
  pub start_kept : StartKept
  pub rules_kept : RulesKept
  pub every_run_runs : EveryRunRuns
  pub no_place_free_at : NoPlaceFreeAt
  pub pause_count_at : PauseCountAt
  pub fast_busy_bus : FastBus.BusyBus
  pub fast_open_on_bus : FastBus.OpenOnBus
  pub fast_told_on_bus : FastBus.ToldOnBus
  pub fast_no_place_free : FastBus.NoPlaceFree
  pub fast_pause_count : FastBus.PauseCount
  pub fast_sums_of_pauses : FastBus.SumsOfPauses
  pub fast_every_list_starts : FastCalls.EveryListStarts
  pub fast_start_kept : FastBus.StartKept
  pub fast_rules_kept : FastBus.RulesKept
  pub fast_every_run_runs : FastBus.EveryRunRuns
  pub fast_no_place_free_at : FastBus.NoPlaceFreeAt
  pub fast_pause_count_at : FastBus.PauseCountAt
  pub pauses_add_up : PausesAddUp

-- Of the pauses of one part, and of the parts that have them.

pub record FieldsOfAddUp (𝓟 : PauseCall) : Type 0 where
  pub two_as_one : Pauses.TwoAsOne 𝓟
  pub zero_keeps : Pauses.ZeroKeeps 𝓟
  pub refused_stays : Pauses.RefusedStays 𝓟
  pub rules_last : Pauses.RulesLast 𝓟
  pub others_refused : Pauses.OthersRefused 𝓟
  pub shops_agree : Pauses.ShopsAgree 𝓟
  pub every_pause_answers : Pauses.EveryPauseAnswers 𝓟
  pub every_shop_ends : Pauses.EveryShopEnds 𝓟

pub record FieldsOfPauses : Type 0 where
  pub long_messages : FieldsOfAddUp MessagePauses.pause_call
  pub fast_packets : FieldsOfAddUp FastPauses.pause_call
  pub claim : FieldsOfAddUp ClaimPauses.pause_call
  pub node_table : FieldsOfAddUp NodesPauses.pause_call

abbrev pub LinesOfTable : Type 0
LinesOfTable =
    table
    ≡ dm_rv ∷ eight_announced ∷ nine_announced ∷ eight_split ∷ nine_split ∷ longest_announced ∷ longer_announced
    ∷ longest_split ∷ longer_split ∷ wrong_count ∷ idle_kept ∷ idle_closed ∷ ninth_sender ∷ long_message ∷ last_number
    ∷ first_reserved ∷ zero_amperes ∷ lowest_celsius ∷ slide_acknowledged ∷ []

pub record Ledger : Type 2 where
  pub one : FieldsOfOne
  pub two : FieldsOfTwo
  pub three : FieldsOfThree
  pub pauses : FieldsOfPauses
  pub retired : in_table 14 ≡ false
  pub every_law : EveryLaw
  pub lines : LinesOfTable
  pub as_printed : AllAsPrinted
