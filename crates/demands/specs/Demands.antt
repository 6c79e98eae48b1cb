-- The three demands on the library (RULES 13.1 to 13.5), each a statement over the definitions of its parts.
use Rattle.frame.specs.Laws as Frame
use Rattle.message.specs.Laws as Message
use Rattle.message.specs.PacketCount as MessagePacketCount
use Rattle.fast.specs.Laws as Fast
use Rattle.fast.specs.Calls as FastCalls
use Rattle.fast.specs.Sending as FastSending
use Rattle.catalogue.specs.Laws as Catalogue
use Rattle.claim.specs.Laws as Claim
use Rattle.claim.specs.Moves as ClaimMoves
use Rattle.nodes.specs.Laws as Nodes
use Rattle.nodes.specs.Runs as NodesRuns
use Rattle.command.specs.Laws as Command
use Rattle.command.specs.Editions as CommandEditions
use Rattle.faults.specs.FieldLaws as FaultsFields
use Rattle.faults.specs.Laws as Faults
use Rattle.faults.specs.Runs as FaultsRuns
use Rattle.capture.specs.Laws as Capture
use Rattle.tiles.specs.Laws as Tiles
use Rattle.tiles.specs.Runs as TilesRuns
use Rattle.network.specs.Laws as Network
use Rattle.network.specs.Listener as NetworkListener
use Rattle.demands.specs.EveryCall.{EveryCall}
use Rattle.demands.specs.Numbers.{EveryNumber}
use Rattle.demands.specs.BusyBus.{BusyBus, OpenOnBus, ToldOnBus, NoPlaceFree, PauseCount, SumsOfPauses, StartKept}
use Rattle.demands.specs.BusyBus.{RulesKept, EveryRunRuns, NoPlaceFreeAt, PauseCountAt}
use Rattle.demands.specs.SplitAndJoin.{SplitAndJoin, JoinedByRules}
use Rattle.demands.specs.FastBus as FastBus
use Rattle.demands.specs.FastSplitAndJoin as FastSplitAndJoin
use Rattle.demands.specs.ClaimsHeard.{ClaimIsHeard}
use Rattle.demands.specs.Pauses.{PausesAddUp}

-- 1. Every public call ends with an answer for every input. No call relies on an earlier check. Each refusal carries
-- its number (RULES 2.1) and changes nothing lent or held, but 10 closes that sender's message.
pub record DemandOne : Type 2 where
  pub calls : EveryCall
  -- the numbers are those of that table, in which 14 is retired
  pub numbers : EveryNumber
  -- zeros, the state that was handed in, and the lent bytes stand beside a refusal
  pub frame : Frame.RefusedKeeps
  pub hear : Message.RefusedKeeps
  pub ten_closes : Message.TenCloses
  pub pause : Message.PauseRefusedKeeps
  pub fast_start : Fast.StartRefusedKeeps
  pub fast_hear : Fast.RefusedKeeps
  pub fast_ten_closes : Fast.TenCloses
  pub fast_pause : Fast.PauseRefusedKeeps
  pub write : Catalogue.RefusedKeeps
  pub claim_start : Claim.StartRefusedKeeps
  pub claim_hear : Claim.HearRefusedKeeps
  pub claim_pause : Claim.PauseRefusedKeeps
  pub our_claim : Claim.OurClaimRefusedKeeps
  pub nodes : Nodes.HearRefusedKeeps
  pub nodes_pause : Nodes.PauseRefusedKeeps
  pub host_start : Command.StartRefusedKeeps
  pub route : Command.RouteRefusedKeeps
  pub request : Command.RequestRefusedKeeps
  pub acknowledge : Command.AcknowledgeRefusedKeeps
  pub dm_rv_write : FaultsFields.FieldRefusedKeeps
  pub service_point_write : FaultsFields.ServicePointRefusedKeeps
  pub fault_add : Faults.AddRefusedKeeps
  pub fault_clear : Faults.ClearRefusedKeeps
  pub fault_step : Faults.StepRefusedKeeps
  pub fault_request : Faults.RequestRefusedKeeps
  pub line : Capture.MalformedKeeps
  pub tile_name : Tiles.NameRefusedKeeps
  pub tile_hear : Tiles.HearRefusedKeeps

-- 2. Frames, fields and long messages are read and written as RV-C and J1939 define them; what the splitter splits, the
-- receiver joins to the same bytes. The promises of demand 1 say that the calls read and write what the definitions
-- say; these laws say that reading and writing undo each other.
pub record DemandTwo : Type 0 where
  -- identifiers, and bytes as one number
  pub parts_back : Frame.PartsBack
  pub identifier_back : Frame.IdentifierBack
  pub number_back : Frame.NumberBack
  pub bytes_back : Frame.BytesBack
  -- fields: every row lies in the frame and shares no bit, bits are counted over the bytes, and what is written is read
  -- back and alters nothing else
  pub rising : Catalogue.Rising
  pub ends : Catalogue.Ends
  pub apart : Catalogue.Apart
  pub bit_of_byte : Catalogue.BitOfByte
  pub code_back : Catalogue.CodeBack
  pub value_back : Catalogue.ValueBack
  pub reads_back : Catalogue.ReadsBack
  pub reads_others : Catalogue.ReadsOthers
  pub bits_kept : Catalogue.BitsKept
  -- fields of two states: what is read and written in them, 10b being an error; but for 10b the mark changes no answer;
  -- and a number read from two bits is 0 or 1
  pub two_states_answered : Catalogue.TwoStatesAnswered
  pub mark_reads : Catalogue.MarkReads
  pub mark_writes : Catalogue.MarkWrites
  pub no_third_state : Catalogue.NoThirdState
  -- long messages: every message and DGN within the limits of RULES 5.15 is split
  pub splitter_announces : Message.SplitterAnnounces
  pub splitter_splits : Message.SplitterSplits
  -- none of them has more packets than a byte can number, and the splitter answers as it did when it still asked that
  pub fits_exactly : MessagePacketCount.FitsExactly
  pub announcement_fits : MessagePacketCount.AnnouncementFits
  pub packet_fits : MessagePacketCount.PacketFits
  pub never_fourteen : MessagePacketCount.NeverFourteen
  pub announcement_as_before : MessagePacketCount.AnnouncementAsBefore
  pub packet_as_before : MessagePacketCount.PacketAsBefore
  -- what is split is joined again in any run of calls
  pub split_and_join : SplitAndJoin
  pub joined_by_rules : JoinedByRules
  -- fast packets: every message of 1 to 223 bytes, in every sequence, is split, and is joined again in any run of calls
  pub fast_splitter_splits : Fast.SplitterSplits
  pub fast_split_and_join : FastSplitAndJoin.SplitAndJoin
  pub fast_joined_by_rules : FastSending.JoinedByRules
  -- claims: what one node sends, another's table takes for that claim
  pub claim_is_heard : ClaimIsHeard
  -- a node gives up an address with each contest that it loses and with nothing else, in every run of calls: all that
  -- its list has exactly when it is silent, and never more; repeats have no limit; each of the two sends one frame
  pub claim_every_run_runs : ClaimMoves.EveryRunRuns
  pub losses_exactly : ClaimMoves.LossesExactly
  pub losses_as_told : ClaimMoves.LossesAsTold
  pub every_count_reached : ClaimMoves.EveryCountReached
  pub repeats_unlimited : ClaimMoves.RepeatsUnlimited
  pub sent_for_each : ClaimMoves.SentForEach
  -- a network of nodes on one bus: at rest no two have one address, whoever has one having the last word on it; it
  -- comes to rest, and each node then holds an address or is silent; and a listener's table shows just those that have
  -- one
  pub no_two : Network.NoTwo
  pub last_word : Network.LastWord
  pub few_claims : Network.FewClaims
  pub few_deliveries : Network.FewDeliveries
  pub delivers_on : Network.DeliversOn
  pub comes_to_rest : Network.ComesToRest
  pub held_at_last : Network.HeldAtLast
  pub table_agrees : NetworkListener.TableAgrees
  pub late_table_agrees : NetworkListener.LateTableAgrees
  -- the node table: a run of calls makes of each record what the claims and pauses make of it, and a challenger takes
  -- its record just when the rules say so
  pub nodes_run : NodesRuns.RunByRecord
  pub nodes_every_run_runs : NodesRuns.EveryRunRuns
  pub challenge_waits : NodesRuns.ChallengeWaits
  pub challenge_takes : NodesRuns.ChallengeTakes
  pub holder_leaves : NodesRuns.HolderLeaves
  pub takes_only_so : NodesRuns.TakesOnlySo
  pub challenge_entered : NodesRuns.ChallengeEntered
  pub holder_stays : NodesRuns.HolderStays
  -- requests, in either edition: EAxxh alone is one, for a DGN of 17 bits in bytes 0 to 2; positions, NAKs and answers
  -- with nothing to send, each exactly when, and what they hold; no NAK to everyone's request, nor to one from 254
  pub other_dgn : Command.OtherDgn
  pub request_too_large : Command.RequestTooLarge
  pub later_bytes_ignored : Command.LaterBytesIgnored
  pub reports_exactly : CommandEditions.ReportsExactly
  pub positions_exactly : CommandEditions.PositionsExactly
  pub nak_exactly : CommandEditions.NakExactly
  pub nak_names : CommandEditions.NakNames
  pub quiet_exactly : CommandEditions.QuietExactly
  pub global_no_nak : CommandEditions.GlobalNoNak
  pub nobody_no_nak : CommandEditions.NobodyNoNak
  -- edition two, as 001 proposes it: for all instances, and for one
  pub all_report : CommandEditions.AllReport
  pub all_nak : CommandEditions.AllNak
  pub all_nak_only : CommandEditions.AllNakOnly
  pub one_reports : CommandEditions.OneReports
  pub one_nak : CommandEditions.OneNak
  pub one_nak_only : CommandEditions.OneNakOnly
  pub nobodys_instance : CommandEditions.NobodysInstance
  -- the editions agree on all instances and on EE00h, and edition one keeps the promise that was before it
  pub editions_agree : CommandEditions.EditionsAgree
  pub claim_for_any_instance : CommandEditions.ClaimForAnyInstance
  pub one_ignores_byte_three : CommandEditions.OneIgnoresByteThree
  pub one_as_before : CommandEditions.OneAsBefore
  -- DM_RV: its rows by the rule of the catalogue, found by the catalogue's calls; its service point number, read back
  -- as it was written, with no other bit altered
  pub dm_rv_rows : FaultsFields.RowsRuled
  pub dm_rv_table : FaultsFields.TableIsRows
  pub service_point_reads_back : FaultsFields.ServicePointReadsBack
  pub service_point_alone : FaultsFields.ServicePointAlone
  -- the sender of faults, in every run of calls: each step sends the fault that has been due longest; a due fault waits
  -- for at most 31 others, and 31 is reached; what is sent is what was added, never before it is due, never when
  -- cleared
  pub longest_due : FaultsRuns.LongestDue
  pub fair : FaultsRuns.Fair
  pub sent_within : FaultsRuns.SentWithin
  pub fair_added : FaultsRuns.FairAdded
  pub fair_again : FaultsRuns.FairAgain
  pub sharp : FaultsRuns.Sharp
  pub sent_is_own : FaultsRuns.SentIsOwn
  pub never_early : FaultsRuns.NeverEarly
  pub never_cleared : FaultsRuns.NeverCleared
  pub faults_every_run_runs : FaultsRuns.EveryRunRuns
  pub faults_run_sound : Faults.RunSound
  -- the wall panel above the library: a frame alters just the tiles that it is for, all of 32; in every run of calls a
  -- tile shows what the latest frame for it said since it was named; and what it shows is the scaled value, exactly
  pub tiles_heard_exactly : Tiles.HeardExactly
  pub tiles_named_exactly : Tiles.NamedExactly
  pub tiles_exact_for_every_code : Tiles.ExactForEveryCode
  pub tiles_reading_exact : Tiles.ReadingExact
  pub tiles_latest_shown : Tiles.LatestShown
  pub tiles_shows_one : Tiles.ShowsOne
  pub tiles_every_run_runs : TilesRuns.EveryRunRuns
  pub tiles_run_sound : Tiles.RunSound
  pub one_a_step : Faults.OneAStep
  -- a request for DM_RV gets the lowest active place, changes nothing, and is never refused on the bus by the host
  pub fault_request_keeps : Faults.RequestKeeps
  pub lowest_answers : Faults.LowestAnswers
  pub dm_rv_is_sound : Faults.DmRvIsSound
  pub reply_no_nak : Faults.ReplyNoNak
  pub reply_else_host : Faults.ReplyElseHost
  -- captures
  pub written_taken_apart : Capture.WrittenTakenApart
  pub taken_apart_written : Capture.TakenApartWritten
  pub blocks_do_not_matter : Capture.BlocksDoNotMatter

-- 3. A busy bus reads like a quiet one: for a sender that never met "no place free", every answer, bytes included, is
-- the one that the single-sender rules give. In every run of calls.
pub record DemandThree : Type 0 where
  pub busy_bus : BusyBus
  -- more: whoever met it, what is open, what is told, who meets "no place free" and what a pause closes is what those
  -- rules say of the bus
  pub open_on_bus : OpenOnBus
  pub told_on_bus : ToldOnBus
  pub no_place_free : NoPlaceFree
  pub pause_count : PauseCount
  pub sums_of_pauses : SumsOfPauses
  -- runs begin with a new receiver, keep the rules of its state, and there is one for any frames and pauses
  pub start_kept : StartKept
  pub rules_kept : RulesKept
  pub every_run_runs : EveryRunRuns
  -- at any state that keeps its rules, wherever it comes from
  pub no_place_free_at : NoPlaceFreeAt
  pub pause_count_at : PauseCountAt
  -- all of this of fast packets too, with "pair" for "sender", for whatever DGNs are named at the start
  pub fast_busy_bus : FastBus.BusyBus
  pub fast_open_on_bus : FastBus.OpenOnBus
  pub fast_told_on_bus : FastBus.ToldOnBus
  pub fast_no_place_free : FastBus.NoPlaceFree
  pub fast_pause_count : FastBus.PauseCount
  pub fast_sums_of_pauses : FastBus.SumsOfPauses
  pub fast_every_list_starts : FastCalls.EveryListStarts
  pub fast_start_kept : FastBus.StartKept
  pub fast_rules_kept : FastBus.RulesKept
  pub fast_every_run_runs : FastBus.EveryRunRuns
  pub fast_no_place_free_at : FastBus.NoPlaceFreeAt
  pub fast_pause_count_at : FastBus.PauseCountAt
  -- time: however a caller cuts it into pauses, both receivers, the claim and the node table end the same, and the
  -- numbers that the pauses answer come to the same
  pub pauses_add_up : PausesAddUp
