-- The three demands, each field by the theorem of its part.
-- Assumes nothing.
use Rattle.frame.proofs.Laws as Frame
use Rattle.message.proofs.Laws as Message
use Rattle.message.proofs.PacketCount as MessagePacketCount
use Rattle.fast.proofs.Laws as Fast
use Rattle.fast.proofs.KeepsPlaces as FastKeepsPlaces
use Rattle.fast.proofs.Joined as FastJoined
use Rattle.message.proofs.Pauses as MessagePauses
use Rattle.fast.proofs.Pauses as FastPauses
use Rattle.claim.proofs.Pauses as ClaimPauses
use Rattle.claim.proofs.Moves as ClaimMoves
use Rattle.nodes.proofs.Pauses as NodesPauses
use Rattle.catalogue.proofs.Laws as Catalogue
use Rattle.claim.proofs.Laws as Claim
use Rattle.nodes.proofs.Challenge as NodesChallenge
use Rattle.nodes.proofs.Laws as Nodes
use Rattle.nodes.proofs.Runs as NodesRuns
use Rattle.command.proofs.Laws as Command
use Rattle.command.proofs.Editions as CommandEditions
use Rattle.faults.proofs.FieldLaws as FaultsFields
use Rattle.faults.proofs.Laws as Faults
use Rattle.faults.proofs.RequestLaws as FaultsRequests
use Rattle.faults.proofs.Fair as FaultsFair
use Rattle.faults.proofs.Waiting as FaultsWaiting
use Rattle.faults.proofs.Longest as FaultsLongest
use Rattle.faults.proofs.Played as FaultsPlayed
use Rattle.capture.proofs.Laws as Capture
use Rattle.tiles.proofs.Laws as Tiles
use Rattle.network.proofs.Laws as Network
use Rattle.capture.proofs.Feeding as Feeding
use Rattle.demands.specs.Demands.{DemandOne, DemandTwo, DemandThree}
use Rattle.demands.proofs.EveryCall.{every_call}
use Rattle.demands.proofs.Numbers.{every_number}
use Rattle.demands.proofs.BusyBus as BusyBus
use Rattle.demands.proofs.SplitAndJoin as SplitAndJoin
use Rattle.demands.proofs.FastBus as FastBus
use Rattle.demands.proofs.FastSplitAndJoin as FastSplitAndJoin
use Rattle.demands.proofs.ClaimsHeard as ClaimsHeard

pub demand_one : DemandOne
demand_one =
    record {
      calls = every_call;
      numbers = every_number;
      frame = Frame.refused_keeps;
      hear = Message.refused_keeps;
      ten_closes = Message.ten_closes;
      pause = Message.pause_refused_keeps;
      fast_start = Fast.start_refused_keeps;
      fast_hear = Fast.refused_keeps;
      fast_ten_closes = Fast.ten_closes;
      fast_pause = Fast.pause_refused_keeps;
      write = Catalogue.refused_keeps;
      claim_start = Claim.start_refused_keeps;
      claim_hear = Claim.hear_refused_keeps;
      claim_pause = Claim.pause_refused_keeps;
      our_claim = Claim.our_claim_refused_keeps;
      nodes = Nodes.hear_refused_keeps;
      nodes_pause = Nodes.pause_refused_keeps;
      host_start = Command.start_refused_keeps;
      route = Command.route_refused_keeps;
      request = Command.request_refused_keeps;
      acknowledge = Command.acknowledge_refused_keeps;
      dm_rv_write = FaultsFields.field_refused_keeps;
      service_point_write = FaultsFields.service_point_refused_keeps;
      fault_add = Faults.add_refused_keeps;
      fault_clear = Faults.clear_refused_keeps;
      fault_step = Faults.step_refused_keeps;
      fault_request = Faults.request_refused_keeps;
      line = Capture.malformed_keeps;
      tile_name = Tiles.name_refused_keeps;
      tile_hear = Tiles.hear_refused_keeps;
    }

pub demand_two : DemandTwo
demand_two =
    record {
      parts_back = Frame.parts_back;
      identifier_back = Frame.identifier_back;
      number_back = Frame.number_back;
      bytes_back = Frame.bytes_back;
      rising = Catalogue.rising;
      ends = Catalogue.ends;
      apart = Catalogue.apart;
      bit_of_byte = Catalogue.bit_of_byte;
      code_back = Catalogue.code_back;
      value_back = Catalogue.value_back;
      reads_back = Catalogue.reads_back;
      reads_others = Catalogue.reads_others;
      bits_kept = Catalogue.bits_kept;
      two_states_answered = Catalogue.two_states_answered;
      mark_reads = Catalogue.mark_reads;
      mark_writes = Catalogue.mark_writes;
      no_third_state = Catalogue.no_third_state;
      splitter_announces = Message.splitter_announces;
      splitter_splits = Message.splitter_splits;
      fits_exactly = MessagePacketCount.fits_exactly;
      announcement_fits = MessagePacketCount.announcement_fits;
      packet_fits = MessagePacketCount.packet_fits;
      never_fourteen = MessagePacketCount.never_fourteen;
      announcement_as_before = MessagePacketCount.announcement_as_before;
      packet_as_before = MessagePacketCount.packet_as_before;
      split_and_join = SplitAndJoin.split_and_join;
      joined_by_rules = SplitAndJoin.joined_by_rules;
      fast_splitter_splits = Fast.splitter_splits;
      fast_split_and_join = FastSplitAndJoin.split_and_join;
      fast_joined_by_rules = FastJoined.joined_by_rules;
      claim_is_heard = ClaimsHeard.claim_is_heard;
      claim_every_run_runs = ClaimMoves.every_run_runs;
      losses_exactly = ClaimMoves.losses_exactly;
      losses_as_told = ClaimMoves.losses_as_told;
      every_count_reached = ClaimMoves.every_count_reached;
      repeats_unlimited = ClaimMoves.repeats_unlimited;
      sent_for_each = ClaimMoves.sent_for_each;
      no_two = Network.no_two;
      last_word = Network.last_word;
      few_claims = Network.few_claims;
      few_deliveries = Network.few_deliveries;
      delivers_on = Network.delivers_on;
      comes_to_rest = Network.comes_to_rest;
      held_at_last = Network.held_at_last;
      table_agrees = Network.table_agrees;
      late_table_agrees = Network.late_table_agrees;
      nodes_run = NodesRuns.run_by_record;
      nodes_every_run_runs = NodesRuns.every_run_runs;
      challenge_waits = NodesChallenge.challenge_waits;
      challenge_takes = NodesChallenge.challenge_takes;
      holder_leaves = NodesChallenge.holder_leaves;
      takes_only_so = NodesChallenge.takes_only_so;
      challenge_entered = NodesChallenge.challenge_entered;
      holder_stays = NodesChallenge.holder_stays;
      other_dgn = Command.other_dgn;
      request_too_large = Command.request_too_large;
      later_bytes_ignored = Command.later_bytes_ignored;
      reports_exactly = CommandEditions.reports_exactly;
      positions_exactly = CommandEditions.positions_exactly;
      nak_exactly = CommandEditions.nak_exactly;
      nak_names = CommandEditions.nak_names;
      quiet_exactly = CommandEditions.quiet_exactly;
      global_no_nak = CommandEditions.global_no_nak;
      nobody_no_nak = CommandEditions.nobody_no_nak;
      all_report = CommandEditions.all_report;
      all_nak = CommandEditions.all_nak;
      all_nak_only = CommandEditions.all_nak_only;
      one_reports = CommandEditions.one_reports;
      one_nak = CommandEditions.one_nak;
      one_nak_only = CommandEditions.one_nak_only;
      nobodys_instance = CommandEditions.nobodys_instance;
      editions_agree = CommandEditions.editions_agree;
      claim_for_any_instance = CommandEditions.claim_for_any_instance;
      one_ignores_byte_three = CommandEditions.one_ignores_byte_three;
      one_as_before = CommandEditions.one_as_before;
      dm_rv_rows = FaultsFields.rows_ruled;
      dm_rv_table = FaultsFields.table_is_rows;
      service_point_reads_back = FaultsFields.service_point_reads_back;
      service_point_alone = FaultsFields.service_point_alone;
      longest_due = FaultsLongest.longest_due_lem;
      fair = FaultsFair.fair;
      sent_within = FaultsFair.sent_within;
      fair_added = FaultsWaiting.fair_added;
      fair_again = FaultsWaiting.fair_again;
      sharp = FaultsPlayed.sharp;
      sent_is_own = FaultsWaiting.sent_is_own;
      never_early = FaultsWaiting.never_early;
      never_cleared = FaultsWaiting.never_cleared;
      faults_every_run_runs = FaultsPlayed.every_run_runs;
      faults_run_sound = Faults.run_sound;
      tiles_heard_exactly = Tiles.heard_exactly;
      tiles_named_exactly = Tiles.named_exactly;
      tiles_exact_for_every_code = Tiles.exact_for_every_code;
      tiles_reading_exact = Tiles.reading_exact;
      tiles_latest_shown = Tiles.latest_shown;
      tiles_shows_one = Tiles.shows_one;
      tiles_every_run_runs = Tiles.every_run_runs;
      tiles_run_sound = Tiles.run_sound;
      one_a_step = Faults.one_a_step;
      fault_request_keeps = Faults.request_keeps;
      lowest_answers = FaultsRequests.lowest_answers;
      dm_rv_is_sound = FaultsRequests.dm_rv_is_sound;
      reply_no_nak = FaultsRequests.reply_no_nak;
      reply_else_host = FaultsRequests.reply_else_host;
      written_taken_apart = Capture.written_taken_apart;
      taken_apart_written = Capture.taken_apart_written;
      blocks_do_not_matter = Feeding.blocks_do_not_matter;
    }

pub demand_three : DemandThree
demand_three =
    record {
      busy_bus = BusyBus.busy_bus;
      open_on_bus = BusyBus.open_on_bus;
      told_on_bus = BusyBus.told_on_bus;
      no_place_free = BusyBus.no_place_free;
      pause_count = BusyBus.pause_count;
      sums_of_pauses = BusyBus.sums_of_pauses;
      start_kept = BusyBus.start_kept;
      rules_kept = BusyBus.rules_kept;
      every_run_runs = BusyBus.every_run_runs;
      no_place_free_at = BusyBus.no_place_free_at;
      pause_count_at = BusyBus.pause_count_at;
      fast_busy_bus = FastBus.busy_bus;
      fast_open_on_bus = FastBus.open_on_bus;
      fast_told_on_bus = FastBus.told_on_bus;
      fast_no_place_free = FastBus.no_place_free;
      fast_pause_count = FastBus.pause_count;
      fast_sums_of_pauses = FastBus.sums_of_pauses;
      fast_every_list_starts = FastKeepsPlaces.every_list_starts;
      fast_start_kept = FastBus.start_kept;
      fast_rules_kept = FastBus.rules_kept;
      fast_every_run_runs = FastBus.every_run_runs;
      fast_no_place_free_at = FastBus.no_place_free_at;
      fast_pause_count_at = FastBus.pause_count_at;
      pauses_add_up =
          record {
            long_messages = MessagePauses.pauses_add_up;
            fast_packets = FastPauses.pauses_add_up;
            claim = ClaimPauses.pauses_add_up;
            node_table = NodesPauses.pauses_add_up;
          };
    }
