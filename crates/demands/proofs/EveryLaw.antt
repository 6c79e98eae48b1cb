-- Every law of the parts, by its name.
-- Assumes nothing.
use Rattle.words.proofs.WrongPauses as WrongPauses
use Rattle.frame.proofs.Laws as Frame
use Rattle.places.specs.Format.{Format}
use Rattle.places.specs.Calls.{Calls, KeepsPlaces}
use Rattle.places.proofs.Steps as PlacesSteps
use Rattle.places.proofs.Statements as PlacesStatements
use Rattle.places.proofs.Calls as PlacesCalls
use Rattle.places.proofs.NineKeys as PlacesNineKeys
use Rattle.places.proofs.Tiny as PlacesTiny
use Rattle.places.proofs.TinyReceiver as PlacesTinyReceiver
use Rattle.message.proofs.Laws as Message
use Rattle.message.proofs.PacketCount as MessagePacketCount
use Rattle.message.proofs.Pauses as MessagePauses
use Rattle.fast.proofs.Laws as Fast
use Rattle.fast.proofs.Example as FastExample
use Rattle.fast.proofs.KeepsPlaces as FastKeepsPlaces
use Rattle.fast.proofs.Joined as FastJoined
use Rattle.fast.proofs.Pauses as FastPauses
use Rattle.catalogue.proofs.Laws as Catalogue
use Rattle.claim.proofs.Laws as Claim
use Rattle.claim.proofs.Machine as ClaimMachine
use Rattle.claim.proofs.Pauses as ClaimPauses
use Rattle.claim.proofs.Moves as ClaimMoves
use Rattle.nodes.proofs.Blank as NodesBlank
use Rattle.nodes.proofs.Challenge as NodesChallenge
use Rattle.nodes.proofs.Find as NodesFind
use Rattle.nodes.proofs.Kept as NodesKept
use Rattle.nodes.proofs.Laws as Nodes
use Rattle.nodes.proofs.Pass as NodesPass
use Rattle.nodes.proofs.Pauses as NodesPauses
use Rattle.nodes.proofs.Runs as NodesRuns
use Rattle.nodes.proofs.Sentences as NodesSentences
use Rattle.nodes.proofs.Shown as NodesShown
use Rattle.command.proofs.Laws as Command
use Rattle.command.proofs.PositionLaws as CommandPositionLaws
use Rattle.command.proofs.ReplyLaws as CommandReplyLaws
use Rattle.command.proofs.Unheld as CommandUnheld
use Rattle.command.proofs.Editions as CommandEditions
use Rattle.faults.proofs.FieldLaws as FaultsFields
use Rattle.faults.proofs.Laws as Faults
use Rattle.faults.proofs.RequestLaws as FaultsRequests
use Rattle.faults.proofs.Fair as FaultsFair
use Rattle.faults.proofs.Waiting as FaultsWaiting
use Rattle.faults.proofs.Longest as FaultsLongest
use Rattle.faults.proofs.Played as FaultsPlayed
use Rattle.capture.proofs.Feeding as CaptureFeeding
use Rattle.capture.proofs.Laws as Capture
use Rattle.capture.proofs.Runs as CaptureRuns
use Rattle.text.proofs.Laws as Text
use Rattle.tiles.proofs.Laws as Tiles
use Rattle.network.proofs.Laws as Network
use Rattle.demands.specs.EveryLaw.{EveryLaw, WordsLaws, FrameLaws, FormatLaws, CallLaws, PlacesLaws, MessageLaws}
use Rattle.demands.specs.EveryLaw.{FastLaws, CatalogueLaws, ClaimLaws, NodesLaws, CommandLaws, FaultsLaws}
use Rattle.demands.specs.EveryLaw.{CaptureLaws, TextLaws, NetworkLaws, TilesLaws}

words_laws : WordsLaws
words_laws =
    record {
      idle_adds_up = WrongPauses.idle_adds_up;
      restarts_do_not = WrongPauses.restarts_do_not;
      capped_do_not = WrongPauses.capped_do_not;
      wraps_do_not = WrongPauses.wraps_do_not;
      places_do_not = WrongPauses.places_do_not;
    }

frame_laws : FrameLaws
frame_laws =
    record {
      told_apart_same = Frame.told_apart_same;
      told_formed_same = Frame.told_formed_same;
      told_verdict_same = Frame.told_verdict_same;
      take_apart_only = Frame.take_apart_only;
      form_only = Frame.form_only;
      check_only = Frame.check_only;
      destination_of_only = Frame.destination_of_only;
      catalogue_form_only = Frame.catalogue_form_only;
      number_of_only = Frame.number_of_only;
      bytes_of_only = Frame.bytes_of_only;
      dgn_bytes_only = Frame.dgn_bytes_only;
      dgn_of_only = Frame.dgn_of_only;
      apart_refusal_only = Frame.apart_refusal_only;
      formed_refusal_only = Frame.formed_refusal_only;
      bad_frame_refusal_only = Frame.bad_frame_refusal_only;
      verdict_refusal_only = Frame.verdict_refusal_only;
      bad_identifier_refusal_only = Frame.bad_identifier_refusal_only;
      apart_refusal_told = Frame.apart_refusal_told;
      not_formed_refusal_only = Frame.not_formed_refusal_only;
      formed_refusal_told = Frame.formed_refusal_told;
      verdict_refusal_told = Frame.verdict_refusal_told;
      bad_frame_refusal_told = Frame.bad_frame_refusal_told;
      refused_keeps = Frame.refused_keeps;
      parts_back = Frame.parts_back;
      identifier_back = Frame.identifier_back;
      priority_ignored = Frame.priority_ignored;
      number_back = Frame.number_back;
      bytes_back = Frame.bytes_back;
      dgn_back = Frame.dgn_back;
      no_frame_refused = Frame.no_frame_refused;
      example_one = Frame.example_one;
      lowest_wins = Frame.lowest_wins;
      refused_for_reason = Frame.refused_for_reason;
    }

format_laws : (𝓕 : Format) → FormatLaws 𝓕
format_laws 𝓕 =
    record {
      one_step = PlacesSteps.one_step 𝓕;
      pause_closes = PlacesStatements.pause_closes 𝓕;
      run_keeps = PlacesStatements.run_keeps 𝓕;
      as_rules_from_any = PlacesStatements.as_rules_from_any 𝓕;
      open_as_rules = PlacesStatements.open_as_rules 𝓕;
      told_as_rules = PlacesStatements.told_as_rules 𝓕;
      busy_as_quiet = PlacesStatements.busy_as_quiet 𝓕;
      full_exactly_when = PlacesStatements.full_exactly_when 𝓕;
      closes_as_rules = PlacesStatements.closes_as_rules 𝓕;
      full_exactly_when_at = PlacesStatements.full_exactly_when_at 𝓕;
      sums_of_pauses = PlacesStatements.sums_of_pauses 𝓕;
      pauses_add = PlacesStatements.pauses_add 𝓕;
    }

call_laws : (𝓕 : Format) (𝓒 : Calls 𝓕) → KeepsPlaces 𝓒 → CallLaws 𝓕 𝓒
call_laws 𝓕 𝓒 𝓚 =
    record {
      busy_bus = PlacesCalls.busy_bus 𝓒 𝓚;
      open_on_bus = PlacesCalls.open_on_bus 𝓒 𝓚;
      told_on_bus = PlacesCalls.told_on_bus 𝓒 𝓚;
      no_place_free = PlacesCalls.no_place_free 𝓒 𝓚;
      pause_count = PlacesCalls.pause_count 𝓒 𝓚;
      sums_on_bus = PlacesCalls.sums_on_bus 𝓒 𝓚;
      start_kept = PlacesCalls.start_kept 𝓒 𝓚;
      rules_kept = PlacesCalls.rules_kept 𝓒 𝓚;
      every_run_runs = PlacesCalls.every_run_runs 𝓒 𝓚;
      full_at_any_state = PlacesCalls.full_at_any_state 𝓒 𝓚;
      pause_at_any_state = PlacesCalls.pause_at_any_state 𝓒 𝓚;
    }

places_laws : PlacesLaws
places_laws =
    record {
      formats = format_laws;
      calls = call_laws;
      nine_keys_told = PlacesNineKeys.nine_keys_told;
      nine_keys_after = PlacesNineKeys.nine_keys_after;
      nine_keys_paused = PlacesNineKeys.nine_keys_paused;
      tiny_busy_as_quiet = PlacesTiny.tiny_busy_as_quiet;
      tiny_open_as_rules = PlacesTiny.tiny_open_as_rules;
      tiny_told_as_rules = PlacesTiny.tiny_told_as_rules;
      tiny_full_exactly_when = PlacesTiny.tiny_full_exactly_when;
      tiny_closes_as_rules = PlacesTiny.tiny_closes_as_rules;
      tiny_pausing = PlacesTiny.tiny_pausing;
      tiny_sums_of_pauses = PlacesTiny.tiny_sums_of_pauses;
      tiny_keeps_places = PlacesTinyReceiver.tiny_keeps_places;
    }

message_laws : MessageLaws
message_laws =
    record {
      told_answer_same = Message.told_answer_same;
      told_pausing_same = Message.told_pausing_same;
      announcing_number_same = Message.announcing_number_same;
      splitting_number_same = Message.splitting_number_same;
      new_only = Message.new_only;
      hear_only = Message.hear_only;
      pause_only = Message.pause_only;
      message_only = Message.message_only;
      announcement_only = Message.announcement_only;
      packet_only = Message.packet_only;
      answer_refusal_only = Message.answer_refusal_only;
      pausing_refusal_only = Message.pausing_refusal_only;
      announcing_refusal_only = Message.announcing_refusal_only;
      splitting_refusal_only = Message.splitting_refusal_only;
      unsplittable_refusal_only = Message.unsplittable_refusal_only;
      not_heard_refusal_only = Message.not_heard_refusal_only;
      answer_refusal_told = Message.answer_refusal_told;
      bad_state_refusal_only = Message.bad_state_refusal_only;
      pausing_refusal_told = Message.pausing_refusal_told;
      announcing_refusal_told = Message.announcing_refusal_told;
      unsplittable_refusal_told = Message.unsplittable_refusal_told;
      not_split_refusal_only = Message.not_split_refusal_only;
      splitting_refusal_told = Message.splitting_refusal_told;
      refused_keeps = Message.refused_keeps;
      ten_closes = Message.ten_closes;
      pause_refused_keeps = Message.pause_refused_keeps;
      writes_the_packet = Message.writes_the_packet;
      writes_its_own = Message.writes_its_own;
      not_beyond = Message.not_beyond;
      splitter_announces = Message.splitter_announces;
      splitter_splits = Message.splitter_splits;
      lowest_wins = Message.lowest_wins;
      fits_exactly = MessagePacketCount.fits_exactly;
      announcement_fits = MessagePacketCount.announcement_fits;
      packet_fits = MessagePacketCount.packet_fits;
      too_many_to_announce = MessagePacketCount.too_many_to_announce;
      too_many_to_split = MessagePacketCount.too_many_to_split;
      never_fourteen = MessagePacketCount.never_fourteen;
      announcement_as_before = MessagePacketCount.announcement_as_before;
      packet_as_before = MessagePacketCount.packet_as_before;
      pauses_add_up = MessagePauses.pauses_add_up;
    }

fast_laws : FastLaws
fast_laws =
    record {
      starting_number_same = Fast.starting_number_same;
      told_answer_same = Fast.told_answer_same;
      told_pausing_same = Fast.told_pausing_same;
      splitting_number_same = Fast.splitting_number_same;
      start_only = Fast.start_only;
      hear_only = Fast.hear_only;
      pause_only = Fast.pause_only;
      message_only = Fast.message_only;
      frame_of_only = Fast.frame_of_only;
      starting_refusal_only = Fast.starting_refusal_only;
      answer_refusal_only = Fast.answer_refusal_only;
      pausing_refusal_only = Fast.pausing_refusal_only;
      splitting_refusal_only = Fast.splitting_refusal_only;
      bad_list_refusal_only = Fast.bad_list_refusal_only;
      starting_refusal_told = Fast.starting_refusal_told;
      not_heard_refusal_only = Fast.not_heard_refusal_only;
      answer_refusal_told = Fast.answer_refusal_told;
      bad_state_refusal_only = Fast.bad_state_refusal_only;
      pausing_refusal_told = Fast.pausing_refusal_told;
      not_split_refusal_only = Fast.not_split_refusal_only;
      splitting_refusal_told = Fast.splitting_refusal_told;
      pair_same = Fast.pair_same;
      first_byte_read = Fast.first_byte_read;
      frames_needed = Fast.frames_needed;
      named_when = Fast.named_when;
      start_names = Fast.start_names;
      start_refused_keeps = Fast.start_refused_keeps;
      refused_keeps = Fast.refused_keeps;
      ten_closes = Fast.ten_closes;
      pause_refused_keeps = Fast.pause_refused_keeps;
      lowest_wins = Fast.lowest_wins;
      writes_frame_zero = Fast.writes_frame_zero;
      writes_the_frame = Fast.writes_the_frame;
      writes_its_own = Fast.writes_its_own;
      not_beyond = Fast.not_beyond;
      splitter_splits = Fast.splitter_splits;
      statistics_joined = FastExample.statistics_joined;
      statistics_split = FastExample.statistics_split;
      every_list_starts = FastKeepsPlaces.every_list_starts;
      fast_keeps_places = FastKeepsPlaces.fast_keeps_places;
      fast_pauses_add = FastKeepsPlaces.fast_pauses_add;
      pauses_add_up = FastPauses.pauses_add_up;
      joined_by_rules = FastJoined.joined_by_rules;
    }

catalogue_laws : CatalogueLaws
catalogue_laws =
    record {
      told_looked_same = Catalogue.told_looked_same;
      told_reading_same = Catalogue.told_reading_same;
      told_scaled_same = Catalogue.told_scaled_same;
      told_writing_same = Catalogue.told_writing_same;
      rows_only = Catalogue.rows_only;
      row_at_only = Catalogue.row_at_only;
      rows_of_only = Catalogue.rows_of_only;
      row_of_only = Catalogue.row_of_only;
      packed_rows_only = Catalogue.packed_rows_only;
      row_in_only = Catalogue.row_in_only;
      rows_in_only = Catalogue.rows_in_only;
      row_of_in_only = Catalogue.row_of_in_only;
      has_instance_only = Catalogue.has_instance_only;
      steps_in_one_only = Catalogue.steps_in_one_only;
      classify_only = Catalogue.classify_only;
      read_only = Catalogue.read_only;
      read_scaled_only = Catalogue.read_scaled_only;
      write_only = Catalogue.write_only;
      read_row_only = Catalogue.read_row_only;
      read_row_scaled_only = Catalogue.read_row_scaled_only;
      write_row_only = Catalogue.write_row_only;
      looked_refusal_only = Catalogue.looked_refusal_only;
      reading_refusal_only = Catalogue.reading_refusal_only;
      scaled_reading_refusal_only = Catalogue.scaled_reading_refusal_only;
      writing_refusal_only = Catalogue.writing_refusal_only;
      not_found_refusal_only = Catalogue.not_found_refusal_only;
      not_read_refusal_only = Catalogue.not_read_refusal_only;
      not_written_refusal_only = Catalogue.not_written_refusal_only;
      looked_refusal_told = Catalogue.looked_refusal_told;
      reading_refusal_told = Catalogue.reading_refusal_told;
      scaled_reading_refusal_told = Catalogue.scaled_reading_refusal_told;
      writing_refusal_told = Catalogue.writing_refusal_told;
      refused_keeps = Catalogue.refused_keeps;
      row_refused_keeps = Catalogue.row_refused_keeps;
      lies_in_frame = Catalogue.lies_in_frame_lem;
      outside_refused = Catalogue.outside_refused;
      rule_holds = Catalogue.rule_holds;
      catalogue_rule = Catalogue.catalogue_rule;
      row_found = Catalogue.row_found;
      span_within = Catalogue.span_within;
      row_in_ruled = Catalogue.row_in_ruled;
      rows_in_ruled = Catalogue.rows_in_ruled;
      row_of_in_ruled = Catalogue.row_of_in_ruled;
      rows_in_within = Catalogue.rows_in_within;
      row_in_packed = Catalogue.row_in_packed;
      rows_in_packed = Catalogue.rows_in_packed;
      row_of_in_packed = Catalogue.row_of_in_packed;
      read_at = Catalogue.read_at;
      scaled_at = Catalogue.scaled_at;
      written_at = Catalogue.written_at;
      row_count = Catalogue.row_count_lem;
      rising = Catalogue.rising;
      ends = Catalogue.ends;
      apart = Catalogue.apart;
      exactly = Catalogue.exactly;
      within = Catalogue.within;
      three_rows = Catalogue.three_rows;
      three_classes = Catalogue.three_classes;
      one_class = Catalogue.one_class;
      always_numbers = Catalogue.always_numbers;
      class_by_width = Catalogue.class_by_width_lem;
      two_states = Catalogue.two_states_lem;
      two_states_answered = Catalogue.two_states_answered;
      unmarked_as_before = Catalogue.unmarked_as_before;
      mark_reads = Catalogue.mark_reads;
      mark_writes = Catalogue.mark_writes;
      two_state_rows = Catalogue.two_state_rows;
      two_state_count = Catalogue.two_state_count;
      no_third_state = Catalogue.no_third_state;
      bit_of_byte = Catalogue.bit_of_byte;
      code_back = Catalogue.code_back;
      value_back = Catalogue.value_back;
      row_reads_back = Catalogue.row_reads_back;
      row_reads_code = Catalogue.row_reads_code;
      row_reads_others = Catalogue.row_reads_others;
      row_bits_kept = Catalogue.row_bits_kept;
      row_eight_bytes = Catalogue.row_eight_bytes;
      reads_back = Catalogue.reads_back;
      reads_code = Catalogue.reads_code;
      reads_others = Catalogue.reads_others;
      bits_kept = Catalogue.bits_kept;
      eight_bytes = Catalogue.eight_bytes_lem;
      example_eight = Catalogue.example_eight;
      example_nine = Catalogue.example_nine;
      example_ten = Catalogue.example_ten;
      row_lowest_wins = Catalogue.row_lowest_wins;
      lowest_wins = Catalogue.lowest_wins;
      instance_row = Catalogue.instance_row;
      instance_count = Catalogue.instance_count;
      scaled_with_instance = Catalogue.scaled_with_instance;
      scaled_by_unit = Catalogue.scaled_by_unit;
      steps_by_unit = Catalogue.steps_by_unit;
      scaled_small = Catalogue.scaled_small;
      value_small = Catalogue.value_small;
      code_below = Catalogue.code_below;
      value_by_class = Catalogue.value_by_class;
      row_given = Catalogue.row_given;
      row_refused = Catalogue.row_refused;
      scaled_in_frame = Catalogue.scaled_in_frame;
    }

claim_laws : ClaimLaws
claim_laws =
    record {
      told_starting_same = Claim.told_starting_same;
      told_hearing_same = Claim.told_hearing_same;
      told_pausing_same = Claim.told_pausing_same;
      told_standing_same = Claim.told_standing_same;
      told_sending_same = Claim.told_sending_same;
      start_only = Claim.start_only;
      hear_only = Claim.hear_only;
      pause_only = Claim.pause_only;
      stands_only = Claim.stands_only;
      our_claim_only = Claim.our_claim_only;
      keeps_rules_only = Claim.keeps_rules_only;
      holds_list_only = Claim.holds_list_only;
      starting_refusal_only = Claim.starting_refusal_only;
      hearing_refusal_only = Claim.hearing_refusal_only;
      pausing_refusal_only = Claim.pausing_refusal_only;
      standing_refusal_only = Claim.standing_refusal_only;
      sending_refusal_only = Claim.sending_refusal_only;
      not_started_refusal_only = Claim.not_started_refusal_only;
      not_heard_refusal_only = Claim.not_heard_refusal_only;
      bad_state_refusal_only = Claim.bad_state_refusal_only;
      starting_refusal_told = Claim.starting_refusal_told;
      hearing_refusal_told = Claim.hearing_refusal_told;
      pausing_refusal_told = Claim.pausing_refusal_told;
      standing_refusal_told = Claim.standing_refusal_told;
      sending_refusal_told = Claim.sending_refusal_told;
      start_refused_keeps = Claim.start_refused_keeps;
      hear_refused_keeps = Claim.hear_refused_keeps;
      pause_refused_keeps = Claim.pause_refused_keeps;
      our_claim_refused_keeps = Claim.our_claim_refused_keeps;
      priority_ignored = Claim.priority_ignored;
      other_dgn = Claim.other_dgn;
      nobodys_claim = ClaimMachine.nobodys_claim;
      start_sound = Claim.start_sound;
      hear_sound = Claim.hear_sound;
      pause_sound = Claim.pause_sound;
      run_sound = ClaimMachine.run_sound;
      node_stays = ClaimMachine.node_stays;
      position_rises = ClaimMachine.position_rises;
      silent_ignores = ClaimMachine.silent_ignores;
      silent_for_good = ClaimMachine.silent_for_good;
      only_lower_moves = ClaimMachine.only_lower_moves;
      held_exactly = ClaimMachine.held_exactly;
      claim_is_ours = Claim.claim_is_ours;
      start_sends_ours = Claim.start_sends_ours;
      hear_sends_ours = Claim.hear_sends_ours;
      hear_sends_nothing = Claim.hear_sends_nothing;
      frame_is_heard = Claim.frame_is_heard;
      calls_are_events = Claim.calls_are_events;
      lowest_wins = Claim.lowest_wins;
      pauses_add_up = ClaimPauses.pauses_add_up;
      every_run_runs = ClaimMoves.every_run_runs;
      losses_exactly = ClaimMoves.losses_exactly;
      losses_as_told = ClaimMoves.losses_as_told;
      wrong_count_refused = ClaimMoves.wrong_count_refused;
      repeats_unlimited = ClaimMoves.repeats_unlimited;
      every_count_reached = ClaimMoves.every_count_reached;
      sent_for_each = ClaimMoves.sent_for_each;
    }

nodes_laws : NodesLaws
nodes_laws =
    record {
      told_hearing_same = Nodes.told_hearing_same;
      told_pausing_same = Nodes.told_pausing_same;
      told_looked_up_same = Nodes.told_looked_up_same;
      told_found_address_same = Nodes.told_found_address_same;
      told_found_challenger_same = Nodes.told_found_challenger_same;
      empty_only = Nodes.empty_only;
      hear_only = Nodes.hear_only;
      pause_only = Nodes.pause_only;
      look_up_only = Nodes.look_up_only;
      find_address_only = Nodes.find_address_only;
      find_challenger_only = Nodes.find_challenger_only;
      hearing_refusal_only = Nodes.hearing_refusal_only;
      pausing_refusal_only = Nodes.pausing_refusal_only;
      looked_up_refusal_only = Nodes.looked_up_refusal_only;
      found_address_refusal_only = Nodes.found_address_refusal_only;
      found_challenger_refusal_only = Nodes.found_challenger_refusal_only;
      not_heard_refusal_only = Nodes.not_heard_refusal_only;
      bad_table_refusal_only = Nodes.bad_table_refusal_only;
      hearing_refusal_told = Nodes.hearing_refusal_told;
      pausing_refusal_told = Nodes.pausing_refusal_told;
      looked_up_refusal_told = Nodes.looked_up_refusal_told;
      found_address_refusal_told = Nodes.found_address_refusal_told;
      found_challenger_refusal_told = Nodes.found_challenger_refusal_told;
      hear_refused_keeps = Nodes.hear_refused_keeps;
      pause_refused_keeps = Nodes.pause_refused_keeps;
      hear_nothing_keeps = Nodes.hear_nothing_keeps;
      priority_ignored = Nodes.priority_ignored;
      past_untouched = Nodes.past_untouched;
      pause_past_untouched = Nodes.pause_past_untouched;
      past_unread = Nodes.past_unread;
      length_kept = Nodes.length_kept;
      pause_length_kept = Nodes.pause_length_kept;
      rules_read = Nodes.rules_read;
      empty_keeps_rules = NodesBlank.empty_keeps_rules;
      empty_has_nobody = NodesBlank.empty_has_nobody;
      empty_has_no_name = NodesBlank.empty_has_no_name;
      empty_has_no_challenger = NodesBlank.empty_has_no_challenger;
      rules_kept = Nodes.rules_kept;
      pause_rules_kept = Nodes.pause_rules_kept;
      name_once = NodesKept.name_once;
      cleared_then_entered = NodesPass.cleared_then_entered;
      taken_by_lower = NodesKept.taken_by_lower;
      every_sentence = NodesSentences.every_sentence;
      replaced_counts = NodesSentences.replaced_counts;
      taken_shown = NodesShown.taken_shown;
      challenges_shown = NodesShown.challenges_shown;
      held_shown = NodesShown.held_shown;
      found_there = NodesFind.found_there;
      found_nowhere = NodesFind.found_nowhere;
      found_shown = NodesFind.found_shown;
      taken_found = NodesShown.taken_found;
      lowest_wins = Nodes.lowest_wins;
      pause_lowest_wins = Nodes.pause_lowest_wins;
      run_by_record = NodesRuns.run_by_record;
      every_run_runs = NodesRuns.every_run_runs;
      challenge_waits = NodesChallenge.challenge_waits;
      challenge_takes = NodesChallenge.challenge_takes;
      holder_leaves = NodesChallenge.holder_leaves;
      takes_only_so = NodesChallenge.takes_only_so;
      challenge_entered = NodesChallenge.challenge_entered;
      holder_stays = NodesChallenge.holder_stays;
      pauses_add_up = NodesPauses.pauses_add_up;
    }

command_laws : CommandLaws
command_laws =
    record {
      told_starting_same = Command.told_starting_same;
      told_routing_same = Command.told_routing_same;
      told_requesting_same = Command.told_requesting_same;
      told_acknowledging_same = Command.told_acknowledging_same;
      start_only = Command.start_only;
      route_only = Command.route_only;
      request_only = Command.request_only;
      acknowledge_only = Command.acknowledge_only;
      starting_refusal_only = Command.starting_refusal_only;
      routing_refusal_only = Command.routing_refusal_only;
      requesting_refusal_only = Command.requesting_refusal_only;
      acknowledging_refusal_only = Command.acknowledging_refusal_only;
      routing_refusal_any = Command.routing_refusal_any;
      requesting_refusal_any = Command.requesting_refusal_any;
      acknowledging_refusal_any = Command.acknowledging_refusal_any;
      not_started_refusal_only = Command.not_started_refusal_only;
      not_routed_refusal_only = Command.not_routed_refusal_only;
      not_answered_refusal_only = Command.not_answered_refusal_only;
      not_acknowledged_refusal_only = Command.not_acknowledged_refusal_only;
      starting_refusal_told = Command.starting_refusal_told;
      routing_refusal_told = Command.routing_refusal_told;
      requesting_refusal_told = Command.requesting_refusal_told;
      acknowledging_refusal_told = Command.acknowledging_refusal_told;
      start_refused_keeps = Command.start_refused_keeps;
      route_refused_keeps = Command.route_refused_keeps;
      request_refused_keeps = Command.request_refused_keeps;
      acknowledge_refused_keeps = Command.acknowledge_refused_keeps;
      priority_ignored = Command.priority_ignored;
      start_hosts = Command.start_hosts;
      past_count_ignored = Command.past_count_ignored;
      hosted_dgn_low = Command.hosted_dgn_low;
      positions_exact = CommandPositionLaws.positions_exact;
      positions_rise = CommandPositionLaws.positions_rise;
      listed_filled = CommandPositionLaws.listed_filled;
      instance_picks = CommandPositionLaws.instance_picks;
      instance_picks_one = CommandPositionLaws.instance_picks_one;
      zero_picks_marked = CommandPositionLaws.zero_picks_marked;
      slide_ignores_zero = CommandPositionLaws.slide_ignores_zero;
      not_hosted = Command.not_hosted;
      unheld_command = Command.unheld_command;
      command_elsewhere = Command.command_elsewhere;
      other_dgn = Command.other_dgn;
      request_too_large = Command.request_too_large;
      later_bytes_ignored = Command.later_bytes_ignored;
      claiming_for_claim_only = CommandReplyLaws.claiming_for_claim_only;
      silent_only_global = CommandReplyLaws.silent_only_global;
      claim_exactly = CommandUnheld.claim_exactly;
      claim_given = CommandUnheld.claim_given;
      unheld_exactly = CommandUnheld.unheld_exactly;
      picked_held = CommandReplyLaws.picked_held;
      supported_held = CommandReplyLaws.supported_held;
      nak_is_sound = CommandReplyLaws.nak_is_sound;
      request_sends_ours = CommandReplyLaws.request_sends_ours;
      acknowledge_sends_ours = CommandReplyLaws.acknowledge_sends_ours;
      example_eleven = CommandReplyLaws.example_eleven;
      reports_exactly = CommandEditions.reports_exactly;
      positions_exactly = CommandEditions.positions_exactly;
      nak_exactly = CommandEditions.nak_exactly;
      nak_names = CommandEditions.nak_names;
      quiet_exactly = CommandEditions.quiet_exactly;
      global_no_nak = CommandEditions.global_no_nak;
      nobody_no_nak = CommandEditions.nobody_no_nak;
      all_report = CommandEditions.all_report;
      all_nak = CommandEditions.all_nak;
      all_nak_only = CommandEditions.all_nak_only;
      one_reports = CommandEditions.one_reports;
      one_nak = CommandEditions.one_nak;
      one_nak_only = CommandEditions.one_nak_only;
      nobodys_instance = CommandEditions.nobodys_instance;
      editions_agree = CommandEditions.editions_agree;
      claim_for_any_instance = CommandEditions.claim_for_any_instance;
      commands_have_no_edition = CommandEditions.commands_have_no_edition;
      one_ignores_byte_three = CommandEditions.one_ignores_byte_three;
      one_as_before = CommandEditions.one_as_before;
      heat_pump_example = CommandEditions.heat_pump_example;
      lowest_wins = Command.lowest_wins;
      acknowledge_lowest_wins = Command.acknowledge_lowest_wins;
    }

faults_laws : FaultsLaws
faults_laws =
    record {
      told_service_point_same = FaultsFields.told_service_point_same;
      packed_rows_only = FaultsFields.packed_rows_only;
      row_at_only = FaultsFields.row_at_only;
      read_only = FaultsFields.read_only;
      write_only = FaultsFields.write_only;
      read_service_point_only = FaultsFields.read_service_point_only;
      write_service_point_only = FaultsFields.write_service_point_only;
      service_point_refusal_only = FaultsFields.service_point_refusal_only;
      rows_keep_rule = FaultsFields.rows_keep_rule;
      rows_ruled = FaultsFields.rows_ruled;
      table_is_rows = FaultsFields.table_is_rows;
      rows_apart = FaultsFields.rows_apart;
      plain_parts = FaultsFields.plain_parts;
      field_refused_keeps = FaultsFields.field_refused_keeps;
      service_point_refused_keeps = FaultsFields.service_point_refused_keeps;
      field_lowest_wins = FaultsFields.field_lowest_wins;
      service_point_lowest_wins = FaultsFields.service_point_lowest_wins;
      service_point_fits = FaultsFields.service_point_fits;
      service_point_bytes = FaultsFields.service_point_bytes;
      service_point_reads_back = FaultsFields.service_point_reads_back;
      service_point_alone = FaultsFields.service_point_alone;
      service_point_example = FaultsFields.service_point_example;
      told_adding_same = Faults.told_adding_same;
      told_clearing_same = Faults.told_clearing_same;
      told_stepping_same = Faults.told_stepping_same;
      told_requesting_same = Faults.told_requesting_same;
      start_only = Faults.start_only;
      add_only = Faults.add_only;
      clear_only = Faults.clear_only;
      step_only = Faults.step_only;
      request_only = Faults.request_only;
      reply_only = Faults.reply_only;
      adding_refusal_only = Faults.adding_refusal_only;
      clearing_refusal_only = Faults.clearing_refusal_only;
      stepping_refusal_only = Faults.stepping_refusal_only;
      requesting_refusal_only = Faults.requesting_refusal_only;
      service_point_refusal_told = FaultsFields.service_point_refusal_told;
      not_added_refusal_only = Faults.not_added_refusal_only;
      not_cleared_refusal_only = Faults.not_cleared_refusal_only;
      not_stepped_refusal_only = Faults.not_stepped_refusal_only;
      not_heard_refusal_only = Faults.not_heard_refusal_only;
      adding_refusal_told = Faults.adding_refusal_told;
      clearing_refusal_told = Faults.clearing_refusal_told;
      stepping_refusal_told = Faults.stepping_refusal_told;
      requesting_refusal_told = Faults.requesting_refusal_told;
      add_refused_keeps = Faults.add_refused_keeps;
      clear_refused_keeps = Faults.clear_refused_keeps;
      step_refused_keeps = Faults.step_refused_keeps;
      request_refused_keeps = Faults.request_refused_keeps;
      request_keeps = Faults.request_keeps;
      reply_keeps = Faults.reply_keeps;
      add_lowest = Faults.add_lowest;
      clear_lowest = Faults.clear_lowest;
      step_lowest = Faults.step_lowest;
      request_lowest = FaultsRequests.request_lowest;
      run_sound = Faults.run_sound;
      start_sound = Faults.start_sound;
      added_lowest = Faults.added_lowest;
      one_a_step = Faults.one_a_step;
      lowest_answers = FaultsRequests.lowest_answers;
      priority_ignored = FaultsRequests.priority_ignored;
      only_dgn_read = FaultsRequests.only_dgn_read;
      dm_rv_is_sound = FaultsRequests.dm_rv_is_sound;
      dm_rv_example = FaultsRequests.dm_rv_example;
      step_example = FaultsRequests.step_example;
      reply_no_nak = FaultsRequests.reply_no_nak;
      reply_else_host = FaultsRequests.reply_else_host;
      host_alone = FaultsRequests.host_alone;
      every_run_runs = FaultsPlayed.every_run_runs;
      fair = FaultsFair.fair;
      sent_within = FaultsFair.sent_within;
      fair_added = FaultsWaiting.fair_added;
      fair_again = FaultsWaiting.fair_again;
      sent_is_own = FaultsWaiting.sent_is_own;
      never_early = FaultsWaiting.never_early;
      never_cleared = FaultsWaiting.never_cleared;
      longest_due = FaultsLongest.longest_due_lem;
      sharp = FaultsPlayed.sharp;
    }

capture_laws : CaptureLaws
capture_laws =
    record {
      told_reading_same = Capture.told_reading_same;
      take_apart_only = Capture.take_apart_only;
      write_only = Capture.write_only;
      new_only = Capture.new_only;
      next_only = Capture.next_only;
      last_only = Capture.last_only;
      reading_refusal_only = Capture.reading_refusal_only;
      not_read_refusal_only = Capture.not_read_refusal_only;
      reading_refusal_told = Capture.reading_refusal_told;
      malformed_keeps = Capture.malformed_keeps;
      number_back = Capture.number_back;
      digits_back = Capture.digits_back;
      sound_exactly = Capture.sound_exactly;
      malformed_exactly = Capture.malformed_exactly;
      only_nineteen = Capture.only_nineteen;
      one_line = Capture.one_line_lem;
      one_frame = Capture.one_frame;
      sound_length = Capture.sound_length;
      written_length = Capture.written_length;
      written_taken_apart = Capture.written_taken_apart;
      taken_apart_written = Capture.taken_apart_written;
      no_bytes_no_lines = Capture.no_bytes_no_lines;
      final_newline = Capture.final_newline;
      no_more_lines = Capture.no_more_lines;
      piece_says = Capture.piece_says;
      blocks_do_not_matter = CaptureFeeding.blocks_do_not_matter;
      next_advances = CaptureFeeding.next_advances;
      within_block = CaptureFeeding.within_block;
      carried_fits = CaptureFeeding.carried_fits;
      last_fits = CaptureFeeding.last_fits;
      every_stream_is_fed = CaptureFeeding.every_stream_is_fed;
      runs_do_not_matter = CaptureRuns.runs_do_not_matter;
    }

text_laws : TextLaws
text_laws =
    record {
      put_only = Text.put_only;
      put_decimal_only = Text.put_decimal_only;
      put_hex_only = Text.put_hex_only;
      put_bytes_only = Text.put_bytes_only;
      decimal_width_only = Text.decimal_width_only;
      fits_wrote = Text.fits_wrote;
      no_room_keeps = Text.no_room_keeps;
      no_leading_zeros = Text.no_leading_zeros;
      width_at_most = Text.width_at_most;
    }

network_laws : NetworkLaws
network_laws =
    record {
      no_two = Network.no_two;
      last_word = Network.last_word;
      few_claims = Network.few_claims;
      few_deliveries = Network.few_deliveries;
      delivers_on = Network.delivers_on;
      comes_to_rest = Network.comes_to_rest;
      every_act_can = Network.every_act_can;
      none_refuses = Network.none_refuses;
      held_at_last = Network.held_at_last;
      no_two_in_any_order = Network.no_two_in_any_order;
      table_agrees = Network.table_agrees;
      late_table_agrees = Network.late_table_agrees;
      names_differ = Network.names_differ;
      none_lost = Network.none_lost;
      start_first = Network.start_first;
      one_order = Network.one_order;
      own_order = Network.own_order;
    }

tiles_laws : TilesLaws
tiles_laws =
    record {
      told_naming_same = Tiles.told_naming_same;
      told_hearing_same = Tiles.told_hearing_same;
      told_asking_same = Tiles.told_asking_same;
      new_only = Tiles.new_only;
      name_only = Tiles.name_only;
      hear_only = Tiles.hear_only;
      read_tile_only = Tiles.read_tile_only;
      naming_refusal_only = Tiles.naming_refusal_only;
      hearing_refusal_only = Tiles.hearing_refusal_only;
      asking_refusal_only = Tiles.asking_refusal_only;
      not_named_refusal_only = Tiles.not_named_refusal_only;
      not_heard_refusal_only = Tiles.not_heard_refusal_only;
      not_shown_refusal_only = Tiles.not_shown_refusal_only;
      naming_refusal_told = Tiles.naming_refusal_told;
      hearing_refusal_told = Tiles.hearing_refusal_told;
      asking_refusal_told = Tiles.asking_refusal_told;
      name_refused_keeps = Tiles.name_refused_keeps;
      hear_refused_keeps = Tiles.hear_refused_keeps;
      name_lowest = Tiles.name_lowest;
      hear_lowest = Tiles.hear_lowest;
      reading_lowest = Tiles.reading_lowest;
      accepted_rows = Tiles.accepted_rows;
      matches_exactly = Tiles.matches_exactly;
      zero_is_not_all = Tiles.zero_is_not_all;
      heard_exactly = Tiles.heard_exactly;
      named_exactly = Tiles.named_exactly;
      priority_ignored = Tiles.priority_ignored;
      exact_for_every_code = Tiles.exact_for_every_code;
      reading_exact = Tiles.reading_exact;
      run_sound = Tiles.run_sound;
      latest_shown = Tiles.latest_shown;
      shows_one = Tiles.shows_one;
      every_run_runs = Tiles.every_run_runs;
    }

pub every_law : EveryLaw
every_law =
    record {
      words = words_laws;
      frame = frame_laws;
      places = places_laws;
      message = message_laws;
      fast = fast_laws;
      catalogue = catalogue_laws;
      claim = claim_laws;
      nodes = nodes_laws;
      command = command_laws;
      faults = faults_laws;
      capture = capture_laws;
      text = text_laws;
      network = network_laws;
      tiles = tiles_laws;
    }
