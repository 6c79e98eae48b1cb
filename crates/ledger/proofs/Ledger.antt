-- The ledger: each entry is the field or the line itself.
-- Assumes nothing.
use mathlib.Core.Path.{refl}
use Rattle.words.specs.Pauses.{PauseCall, AddUp}
use Rattle.message.specs.Pauses as MessagePauses
use Rattle.fast.specs.Pauses as FastPauses
use Rattle.claim.specs.Pauses as ClaimPauses
use Rattle.nodes.specs.Pauses as NodesPauses
use Rattle.demands.proofs.Demands.{demand_one, demand_two, demand_three}
use Rattle.demands.proofs.EveryLaw.{every_law}
use Rattle.examples.proofs.Examples.{all_as_printed}
use Rattle.ledger.specs.Ledger.{FieldsOfOne, FieldsOfTwo, FieldsOfThree, FieldsOfAddUp, FieldsOfPauses, Ledger}

fields_of_one : FieldsOfOne
fields_of_one =
    record {
      calls = demand_one.calls;
      numbers = demand_one.numbers;
      frame = demand_one.frame;
      hear = demand_one.hear;
      ten_closes = demand_one.ten_closes;
      pause = demand_one.pause;
      fast_start = demand_one.fast_start;
      fast_hear = demand_one.fast_hear;
      fast_ten_closes = demand_one.fast_ten_closes;
      fast_pause = demand_one.fast_pause;
      write = demand_one.write;
      claim_start = demand_one.claim_start;
      claim_hear = demand_one.claim_hear;
      claim_pause = demand_one.claim_pause;
      our_claim = demand_one.our_claim;
      nodes = demand_one.nodes;
      nodes_pause = demand_one.nodes_pause;
      host_start = demand_one.host_start;
      route = demand_one.route;
      request = demand_one.request;
      acknowledge = demand_one.acknowledge;
      dm_rv_write = demand_one.dm_rv_write;
      service_point_write = demand_one.service_point_write;
      fault_add = demand_one.fault_add;
      fault_clear = demand_one.fault_clear;
      fault_step = demand_one.fault_step;
      fault_request = demand_one.fault_request;
      line = demand_one.line;
      tile_name = demand_one.tile_name;
      tile_hear = demand_one.tile_hear;
    }

fields_of_two : FieldsOfTwo
fields_of_two =
    record {
      parts_back = demand_two.parts_back;
      identifier_back = demand_two.identifier_back;
      number_back = demand_two.number_back;
      bytes_back = demand_two.bytes_back;
      rising = demand_two.rising;
      ends = demand_two.ends;
      apart = demand_two.apart;
      bit_of_byte = demand_two.bit_of_byte;
      code_back = demand_two.code_back;
      value_back = demand_two.value_back;
      reads_back = demand_two.reads_back;
      reads_others = demand_two.reads_others;
      bits_kept = demand_two.bits_kept;
      two_states_answered = demand_two.two_states_answered;
      mark_reads = demand_two.mark_reads;
      mark_writes = demand_two.mark_writes;
      no_third_state = demand_two.no_third_state;
      splitter_announces = demand_two.splitter_announces;
      splitter_splits = demand_two.splitter_splits;
      fits_exactly = demand_two.fits_exactly;
      announcement_fits = demand_two.announcement_fits;
      packet_fits = demand_two.packet_fits;
      never_fourteen = demand_two.never_fourteen;
      announcement_as_before = demand_two.announcement_as_before;
      packet_as_before = demand_two.packet_as_before;
      split_and_join = demand_two.split_and_join;
      joined_by_rules = demand_two.joined_by_rules;
      fast_splitter_splits = demand_two.fast_splitter_splits;
      fast_split_and_join = demand_two.fast_split_and_join;
      fast_joined_by_rules = demand_two.fast_joined_by_rules;
      claim_is_heard = demand_two.claim_is_heard;
      claim_every_run_runs = demand_two.claim_every_run_runs;
      losses_exactly = demand_two.losses_exactly;
      losses_as_told = demand_two.losses_as_told;
      every_count_reached = demand_two.every_count_reached;
      repeats_unlimited = demand_two.repeats_unlimited;
      sent_for_each = demand_two.sent_for_each;
      no_two = demand_two.no_two;
      last_word = demand_two.last_word;
      few_claims = demand_two.few_claims;
      few_deliveries = demand_two.few_deliveries;
      delivers_on = demand_two.delivers_on;
      comes_to_rest = demand_two.comes_to_rest;
      held_at_last = demand_two.held_at_last;
      table_agrees = demand_two.table_agrees;
      late_table_agrees = demand_two.late_table_agrees;
      nodes_run = demand_two.nodes_run;
      nodes_every_run_runs = demand_two.nodes_every_run_runs;
      challenge_waits = demand_two.challenge_waits;
      challenge_takes = demand_two.challenge_takes;
      holder_leaves = demand_two.holder_leaves;
      takes_only_so = demand_two.takes_only_so;
      challenge_entered = demand_two.challenge_entered;
      holder_stays = demand_two.holder_stays;
      other_dgn = demand_two.other_dgn;
      request_too_large = demand_two.request_too_large;
      later_bytes_ignored = demand_two.later_bytes_ignored;
      reports_exactly = demand_two.reports_exactly;
      positions_exactly = demand_two.positions_exactly;
      nak_exactly = demand_two.nak_exactly;
      nak_names = demand_two.nak_names;
      quiet_exactly = demand_two.quiet_exactly;
      global_no_nak = demand_two.global_no_nak;
      nobody_no_nak = demand_two.nobody_no_nak;
      all_report = demand_two.all_report;
      all_nak = demand_two.all_nak;
      all_nak_only = demand_two.all_nak_only;
      one_reports = demand_two.one_reports;
      one_nak = demand_two.one_nak;
      one_nak_only = demand_two.one_nak_only;
      nobodys_instance = demand_two.nobodys_instance;
      editions_agree = demand_two.editions_agree;
      claim_for_any_instance = demand_two.claim_for_any_instance;
      one_ignores_byte_three = demand_two.one_ignores_byte_three;
      one_as_before = demand_two.one_as_before;
      dm_rv_rows = demand_two.dm_rv_rows;
      dm_rv_table = demand_two.dm_rv_table;
      service_point_reads_back = demand_two.service_point_reads_back;
      service_point_alone = demand_two.service_point_alone;
      longest_due = demand_two.longest_due;
      fair = demand_two.fair;
      sent_within = demand_two.sent_within;
      fair_added = demand_two.fair_added;
      fair_again = demand_two.fair_again;
      sharp = demand_two.sharp;
      sent_is_own = demand_two.sent_is_own;
      never_early = demand_two.never_early;
      never_cleared = demand_two.never_cleared;
      faults_every_run_runs = demand_two.faults_every_run_runs;
      faults_run_sound = demand_two.faults_run_sound;
      tiles_heard_exactly = demand_two.tiles_heard_exactly;
      tiles_named_exactly = demand_two.tiles_named_exactly;
      tiles_exact_for_every_code = demand_two.tiles_exact_for_every_code;
      tiles_reading_exact = demand_two.tiles_reading_exact;
      tiles_latest_shown = demand_two.tiles_latest_shown;
      tiles_shows_one = demand_two.tiles_shows_one;
      tiles_every_run_runs = demand_two.tiles_every_run_runs;
      tiles_run_sound = demand_two.tiles_run_sound;
      one_a_step = demand_two.one_a_step;
      fault_request_keeps = demand_two.fault_request_keeps;
      lowest_answers = demand_two.lowest_answers;
      dm_rv_is_sound = demand_two.dm_rv_is_sound;
      reply_no_nak = demand_two.reply_no_nak;
      reply_else_host = demand_two.reply_else_host;
      written_taken_apart = demand_two.written_taken_apart;
      taken_apart_written = demand_two.taken_apart_written;
      blocks_do_not_matter = demand_two.blocks_do_not_matter;
    }

fields_of_three : FieldsOfThree
fields_of_three =
    record {
      busy_bus = demand_three.busy_bus;
      open_on_bus = demand_three.open_on_bus;
      told_on_bus = demand_three.told_on_bus;
      no_place_free = demand_three.no_place_free;
      pause_count = demand_three.pause_count;
      sums_of_pauses = demand_three.sums_of_pauses;
      start_kept = demand_three.start_kept;
      rules_kept = demand_three.rules_kept;
      every_run_runs = demand_three.every_run_runs;
      no_place_free_at = demand_three.no_place_free_at;
      pause_count_at = demand_three.pause_count_at;
      fast_busy_bus = demand_three.fast_busy_bus;
      fast_open_on_bus = demand_three.fast_open_on_bus;
      fast_told_on_bus = demand_three.fast_told_on_bus;
      fast_no_place_free = demand_three.fast_no_place_free;
      fast_pause_count = demand_three.fast_pause_count;
      fast_sums_of_pauses = demand_three.fast_sums_of_pauses;
      fast_every_list_starts = demand_three.fast_every_list_starts;
      fast_start_kept = demand_three.fast_start_kept;
      fast_rules_kept = demand_three.fast_rules_kept;
      fast_every_run_runs = demand_three.fast_every_run_runs;
      fast_no_place_free_at = demand_three.fast_no_place_free_at;
      fast_pause_count_at = demand_three.fast_pause_count_at;
      pauses_add_up = demand_three.pauses_add_up;
    }

fields_of_add_up : (𝓟 : PauseCall) → AddUp 𝓟 → FieldsOfAddUp 𝓟
fields_of_add_up 𝓟 law =
    record {
      two_as_one = law.two_as_one;
      zero_keeps = law.zero_keeps;
      refused_stays = law.refused_stays;
      rules_last = law.rules_last;
      others_refused = law.others_refused;
      shops_agree = law.shops_agree;
      every_pause_answers = law.every_pause_answers;
      every_shop_ends = law.every_shop_ends;
    }

fields_of_pauses : FieldsOfPauses
fields_of_pauses =
    let laws = demand_three.pauses_add_up in
    record {
      long_messages = fields_of_add_up MessagePauses.pause_call laws.long_messages;
      fast_packets = fields_of_add_up FastPauses.pause_call laws.fast_packets;
      claim = fields_of_add_up ClaimPauses.pause_call laws.claim;
      node_table = fields_of_add_up NodesPauses.pause_call laws.node_table;
    }

pub ledger : Ledger
ledger =
    record {
      one = fields_of_one;
      two = fields_of_two;
      three = fields_of_three;
      pauses = fields_of_pauses;
      retired = demand_one.numbers.retired;
      every_law = every_law;
      lines = refl;
      as_printed = all_as_printed;
    }
