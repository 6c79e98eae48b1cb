-- The first demand: each call's own proof, its promise, and the law that the promise leaves one answer.
-- Assumes nothing.
use mathlib.Core.Path.{◌≡◌, refl, sym, ap, ◌∙◌}
use seplogic.Ra.Ura.{Ura}
use contract.Notation.{connectives}
use Rattle.words.proofs.ResultRefusal.refusal.Met as words_result_refusal
use Rattle.frame.specs.Promises as frame_promises
use Rattle.frame.proofs.Laws as Frame
use Rattle.frame.proofs.take_apart.Met as frame_take_apart
use Rattle.frame.proofs.form.Met as frame_form
use Rattle.frame.proofs.check.Met as frame_check
use Rattle.frame.proofs.destination_of.Met as frame_destination_of
use Rattle.frame.proofs.catalogue_form.Met as frame_catalogue_form
use Rattle.frame.proofs.number_of.Met as frame_number_of
use Rattle.frame.proofs.bytes_of.Met as frame_bytes_of
use Rattle.frame.proofs.BadIdentifierRefusal.refusal.Met as frame_bad_identifier_refusal
use Rattle.frame.proofs.NotFormedRefusal.refusal.Met as frame_not_formed_refusal
use Rattle.frame.proofs.BadFrameRefusal.refusal.Met as frame_bad_frame_refusal
use Rattle.frame.proofs.dgn_bytes.Met as frame_dgn_bytes
use Rattle.frame.proofs.dgn_of.Met as frame_dgn_of
use Rattle.message.specs.Promises as message_promises
use Rattle.message.proofs.Laws as Message
use Rattle.message.proofs.Receiver.new.Met as message_new
use Rattle.message.proofs.Receiver.hear.Met as message_hear
use Rattle.message.proofs.Receiver.pause.Met as message_pause
use Rattle.message.proofs.message.Met as message_message
use Rattle.message.proofs.announcement.Met as message_announcement
use Rattle.message.proofs.packet.Met as message_packet
use Rattle.message.proofs.NotHeardRefusal.refusal.Met as message_not_heard_refusal
use Rattle.message.proofs.BadStateRefusal.refusal.Met as message_bad_state_refusal
use Rattle.message.proofs.UnsplittableRefusal.refusal.Met as message_unsplittable_refusal
use Rattle.message.proofs.NotSplitRefusal.refusal.Met as message_not_split_refusal
use Rattle.fast.specs.Promises as fast_promises
use Rattle.fast.proofs.Laws as Fast
use Rattle.fast.proofs.Receiver.start.Met as fast_start
use Rattle.fast.proofs.BadListRefusal.refusal.Met as fast_bad_list_refusal
use Rattle.fast.proofs.NotHeardRefusal.refusal.Met as fast_not_heard_refusal
use Rattle.fast.proofs.BadStateRefusal.refusal.Met as fast_bad_state_refusal
use Rattle.fast.proofs.NotSplitRefusal.refusal.Met as fast_not_split_refusal
use Rattle.fast.proofs.Receiver.hear.Met as fast_hear
use Rattle.fast.proofs.Receiver.pause.Met as fast_pause
use Rattle.fast.proofs.message.Met as fast_message
use Rattle.fast.proofs.frame_of.Met as fast_frame_of
use Rattle.catalogue.specs.Promises as catalogue_promises
use Rattle.catalogue.proofs.Laws as Catalogue
use Rattle.catalogue.proofs.rows.Met as catalogue_rows
use Rattle.catalogue.proofs.row_at.Met as catalogue_row_at
use Rattle.catalogue.proofs.rows_of.Met as catalogue_rows_of
use Rattle.catalogue.proofs.has_instance.Met as catalogue_has_instance
use Rattle.catalogue.proofs.steps_in_one.Met as catalogue_steps_in_one
use Rattle.catalogue.proofs.classify.Met as catalogue_classify
use Rattle.catalogue.proofs.read.Met as catalogue_read
use Rattle.catalogue.proofs.read_scaled.Met as catalogue_read_scaled
use Rattle.catalogue.proofs.write.Met as catalogue_write
use Rattle.catalogue.proofs.NotFoundRefusal.refusal.Met as catalogue_not_found_refusal
use Rattle.catalogue.proofs.NotReadRefusal.refusal.Met as catalogue_not_read_refusal
use Rattle.catalogue.proofs.NotWrittenRefusal.refusal.Met as catalogue_not_written_refusal
use Rattle.catalogue.proofs.row_of.Met as catalogue_row_of
use Rattle.catalogue.proofs.packed_rows.Met as catalogue_packed_rows
use Rattle.catalogue.proofs.row_in.Met as catalogue_row_in
use Rattle.catalogue.proofs.rows_in.Met as catalogue_rows_in
use Rattle.catalogue.proofs.row_of_in.Met as catalogue_row_of_in
use Rattle.catalogue.proofs.read_row.Met as catalogue_read_row
use Rattle.catalogue.proofs.read_row_scaled.Met as catalogue_read_row_scaled
use Rattle.catalogue.proofs.write_row.Met as catalogue_write_row
use Rattle.claim.specs.Promises as claim_promises
use Rattle.claim.proofs.Laws as Claim
use Rattle.claim.proofs.Claim.start.Met as claim_start
use Rattle.claim.proofs.Claim.hear.Met as claim_hear
use Rattle.claim.proofs.Claim.pause.Met as claim_pause
use Rattle.claim.proofs.Claim.stands.Met as claim_stands
use Rattle.claim.proofs.Claim.our_claim.Met as claim_our_claim
use Rattle.claim.proofs.Claim.keeps_rules.Met as claim_keeps_rules
use Rattle.claim.proofs.Claim.holds_list.Met as claim_holds_list
use Rattle.claim.proofs.NotStartedRefusal.refusal.Met as claim_not_started_refusal
use Rattle.claim.proofs.NotHeardRefusal.refusal.Met as claim_not_heard_refusal
use Rattle.claim.proofs.BadStateRefusal.refusal.Met as claim_bad_state_refusal
use Rattle.nodes.specs.Promises as nodes_promises
use Rattle.nodes.proofs.Laws as Nodes
use Rattle.nodes.proofs.empty.Met as nodes_empty
use Rattle.nodes.proofs.hear.Met as nodes_hear
use Rattle.nodes.proofs.pause.Met as nodes_pause
use Rattle.nodes.proofs.look_up.Met as nodes_look_up
use Rattle.nodes.proofs.find_address.Met as nodes_find_address
use Rattle.nodes.proofs.find_challenger.Met as nodes_find_challenger
use Rattle.nodes.proofs.BadTableRefusal.refusal.Met as nodes_bad_table_refusal
use Rattle.nodes.proofs.NotHeardRefusal.refusal.Met as nodes_not_heard_refusal
use Rattle.command.specs.Promises as command_promises
use Rattle.command.proofs.Laws as Command
use Rattle.command.proofs.Host.start.Met as command_start
use Rattle.command.proofs.Host.route.Met as command_route
use Rattle.command.proofs.Host.request.Met as command_request
use Rattle.command.proofs.acknowledge.Met as command_acknowledge
use Rattle.command.proofs.NotStartedRefusal.refusal.Met as command_not_started_refusal
use Rattle.command.proofs.NotRoutedRefusal.refusal.Met as command_not_routed_refusal
use Rattle.command.proofs.NotAnsweredRefusal.refusal.Met as command_not_answered_refusal
use Rattle.command.proofs.NotAcknowledgedRefusal.refusal.Met as command_not_acknowledged_refusal
use Rattle.faults.specs.Promises as faults_promises
use Rattle.faults.proofs.FieldLaws as FaultsFields
use Rattle.faults.proofs.Laws as Faults
use Rattle.faults.proofs.packed_rows.Met as faults_packed_rows
use Rattle.faults.proofs.row_at.Met as faults_row_at
use Rattle.faults.proofs.read.Met as faults_read
use Rattle.faults.proofs.write.Met as faults_write
use Rattle.faults.proofs.read_service_point.Met as faults_read_service_point
use Rattle.faults.proofs.write_service_point.Met as faults_write_service_point
use Rattle.faults.proofs.NotAddedRefusal.refusal.Met as faults_not_added_refusal
use Rattle.faults.proofs.NotClearedRefusal.refusal.Met as faults_not_cleared_refusal
use Rattle.faults.proofs.NotSteppedRefusal.refusal.Met as faults_not_stepped_refusal
use Rattle.faults.proofs.NotHeardRefusal.refusal.Met as faults_not_heard_refusal
use Rattle.faults.proofs.Sender.start.Met as faults_start
use Rattle.faults.proofs.Sender.add.Met as faults_add
use Rattle.faults.proofs.Sender.clear.Met as faults_clear
use Rattle.faults.proofs.Sender.step.Met as faults_step
use Rattle.faults.proofs.Sender.request.Met as faults_request
use Rattle.faults.proofs.Sender.reply.Met as faults_reply
use Rattle.capture.specs.Promises as capture_promises
use Rattle.capture.proofs.Laws as Capture
use Rattle.capture.proofs.take_apart.Met as capture_take_apart
use Rattle.capture.proofs.write.Met as capture_write
use Rattle.capture.proofs.Cutter.new.Met as capture_new
use Rattle.capture.proofs.Cutter.next.Met as capture_next
use Rattle.capture.proofs.Cutter.last.Met as capture_last
use Rattle.capture.proofs.NotReadRefusal.refusal.Met as capture_not_read_refusal
use Rattle.text.specs.Promises as text_promises
use Rattle.text.proofs.Laws as Text
use Rattle.text.proofs.put.Met as text_put
use Rattle.text.proofs.put_decimal.Met as text_put_decimal
use Rattle.text.proofs.put_hex.Met as text_put_hex
use Rattle.text.proofs.put_bytes.Met as text_put_bytes
use Rattle.text.proofs.decimal_width.Met as text_decimal_width
use Rattle.tiles.specs.Promises as tiles_promises
use Rattle.tiles.proofs.Laws as Tiles
use Rattle.tiles.proofs.Panel.new.Met as tiles_new
use Rattle.tiles.proofs.Panel.name.Met as tiles_name
use Rattle.tiles.proofs.Panel.hear.Met as tiles_hear
use Rattle.tiles.proofs.Panel.reading.Met as tiles_reading
use Rattle.tiles.proofs.NotNamedRefusal.refusal.Met as tiles_not_named_refusal
use Rattle.tiles.proofs.NotHeardRefusal.refusal.Met as tiles_not_heard_refusal
use Rattle.tiles.proofs.NotShownRefusal.refusal.Met as tiles_not_shown_refusal
use Rattle.demands.specs.EveryCall.{AsksNothing, EveryCall}

-- What Rattle makes of a contract with no `requires`.
free : {M : Type 1} {𝓤 : Ura M} → AsksNothing 𝓤 (λ (ghost : Unit {0}). (connectives 𝓤).⊤ₛ)
free = record { bound = tt; required = λ ghost. refl }

-- The answers are the same, and so is what is left in the one parameter that is lent to be written.
lent : {Same Left All : Type 0} {x y : Left} (all : Left → All) → Same × (x ≡ y) → Same × (all x ≡ all y)
lent all both = (both.0, ap all both.1)

-- Of a call, a are the arguments: a.0 the first, a.1.0 the second, a.1.1.0 the third; and so it is with e, the
-- parameters as the call leaves them, and with w and v, what is left in those that are lent to be written.
pub every_call : EveryCall
every_call M =
    record {
      words_result_refusal = record {
        meets = words_result_refusal.met;
        each = λ T E tc td refusals rd ec ed. record {
          asks_nothing = λ 𝓤 𝓛 mem run κs args ghost. refl;
          promises = λ 𝓤 𝓛 mem run κs args ghost r. refl;
        };
      };
      frame_take_apart = record {
        meets = frame_take_apart.met;
        asks_nothing = free;
        Promise = λ κs a r e. frame_promises.TakeApart a.0 r;
        promises = λ 𝓤 𝓛 mem run κs a ghost r. refl;
        one_answer = λ κs a r s w v h k. (Frame.take_apart_only a.0 r s h k, refl);
        only = Frame.take_apart_only;
      };
      frame_bad_identifier_refusal = record {
        meets = frame_bad_identifier_refusal.met;
        asks_nothing = free;
        Promise = λ κs a r e. r ≡ frame_promises.number_of_bad_identifier a.0;
        promises = λ 𝓤 𝓛 mem run κs a ghost r. refl;
        one_answer = λ κs a r s w v h k. (h ∙ sym k, refl);
        only = Frame.bad_identifier_refusal_only;
      };
      frame_not_formed_refusal = record {
        meets = frame_not_formed_refusal.met;
        asks_nothing = free;
        Promise = λ κs a r e. r ≡ frame_promises.number_of_not_formed a.0;
        promises = λ 𝓤 𝓛 mem run κs a ghost r. refl;
        one_answer = λ κs a r s w v h k. (h ∙ sym k, refl);
        only = Frame.not_formed_refusal_only;
      };
      frame_bad_frame_refusal = record {
        meets = frame_bad_frame_refusal.met;
        asks_nothing = free;
        Promise = λ κs a r e. r ≡ frame_promises.refusal_of a.0;
        promises = λ 𝓤 𝓛 mem run κs a ghost r. refl;
        one_answer = λ κs a r s w v h k. (h ∙ sym k, refl);
        only = Frame.bad_frame_refusal_only;
      };
      frame_form = record {
        meets = frame_form.met;
        asks_nothing = free;
        Promise = λ κs a r e. frame_promises.Form a.0 a.1.0 a.1.1.0 r;
        promises = λ 𝓤 𝓛 mem run κs a ghost r. refl;
        one_answer = λ κs a r s w v h k. (Frame.form_only a.0 a.1.0 a.1.1.0 r s h k, refl);
        only = Frame.form_only;
      };
      frame_check = record {
        meets = frame_check.met;
        asks_nothing = free;
        Promise = λ κs a r e. frame_promises.Check a.0 a.1.0.now r;
        promises = λ 𝓤 𝓛 mem run κs a ghost r. refl;
        one_answer = λ κs a r s w v h k. (Frame.check_only a.0 a.1.0.now r s h k, refl);
        only = Frame.check_only;
      };
      frame_destination_of = record {
        meets = frame_destination_of.met;
        asks_nothing = free;
        Promise = λ κs a r e. frame_promises.DestinationOf a.0 r;
        promises = λ 𝓤 𝓛 mem run κs a ghost r. refl;
        one_answer = λ κs a r s w v h k. (Frame.destination_of_only a.0 r s h k, refl);
        only = Frame.destination_of_only;
      };
      frame_catalogue_form = record {
        meets = frame_catalogue_form.met;
        asks_nothing = free;
        Promise = λ κs a r e. frame_promises.CatalogueForm a.0 r;
        promises = λ 𝓤 𝓛 mem run κs a ghost r. refl;
        one_answer = λ κs a r s w v h k. (Frame.catalogue_form_only a.0 r s h k, refl);
        only = Frame.catalogue_form_only;
      };
      frame_number_of = record {
        meets = frame_number_of.met;
        asks_nothing = free;
        Promise = λ κs a r e. frame_promises.NumberOf a.0 r;
        promises = λ 𝓤 𝓛 mem run κs a ghost r. refl;
        one_answer = λ κs a r s w v h k. (Frame.number_of_only a.0 r s h k, refl);
        only = Frame.number_of_only;
      };
      frame_bytes_of = record {
        meets = frame_bytes_of.met;
        asks_nothing = free;
        Promise = λ κs a r e. frame_promises.BytesOf a.0 r;
        promises = λ 𝓤 𝓛 mem run κs a ghost r. refl;
        one_answer = λ κs a r s w v h k. (Frame.bytes_of_only a.0 r s h k, refl);
        only = Frame.bytes_of_only;
      };
      frame_dgn_bytes = record {
        meets = frame_dgn_bytes.met;
        asks_nothing = free;
        Promise = λ κs a r e. frame_promises.DgnBytes a.0 r;
        promises = λ 𝓤 𝓛 mem run κs a ghost r. refl;
        one_answer = λ κs a r s w v h k. (Frame.dgn_bytes_only a.0 r s h k, refl);
        only = Frame.dgn_bytes_only;
      };
      frame_dgn_of = record {
        meets = frame_dgn_of.met;
        asks_nothing = free;
        Promise = λ κs a r e. frame_promises.DgnOf a.0 a.1.0 a.1.1.0 r;
        promises = λ 𝓤 𝓛 mem run κs a ghost r. refl;
        one_answer = λ κs a r s w v h k. (Frame.dgn_of_only a.0 a.1.0 a.1.1.0 r s h k, refl);
        only = Frame.dgn_of_only;
      };
      message_new = record {
        meets = message_new.met;
        asks_nothing = free;
        Promise = λ κs a r e. message_promises.New r;
        promises = λ 𝓤 𝓛 mem run κs a ghost r. refl;
        one_answer = λ κs a r s w v h k. (Message.new_only r s h k, refl);
        only = Message.new_only;
      };
      message_hear = record {
        meets = message_hear.met;
        asks_nothing = free;
        Promise = λ κs a r e.
            message_promises.Hear a.1.1.0 a.1.1.1.0.now a.0.places a.1.0.now r e.1.0.now;
        promises = λ 𝓤 𝓛 mem run κs a ghost r. refl;
        one_answer = λ κs a r s w v h k.
            lent (λ x. (tt, (x, (tt, (tt, tt)))))
            (Message.hear_only
            a.1.1.0 a.1.1.1.0.now a.0.places a.1.0.now r s w.1.0 v.1.0 h k);
        only = Message.hear_only;
      };
      message_not_heard_refusal = record {
        meets = message_not_heard_refusal.met;
        asks_nothing = free;
        Promise = λ κs a r e. r ≡ message_promises.number_of_not_heard a.0;
        promises = λ 𝓤 𝓛 mem run κs a ghost r. refl;
        one_answer = λ κs a r s w v h k. (h ∙ sym k, refl);
        only = Message.not_heard_refusal_only;
      };
      message_bad_state_refusal = record {
        meets = message_bad_state_refusal.met;
        asks_nothing = free;
        Promise = λ κs a r e. r ≡ message_promises.number_of_bad_state a.0;
        promises = λ 𝓤 𝓛 mem run κs a ghost r. refl;
        one_answer = λ κs a r s w v h k. (h ∙ sym k, refl);
        only = Message.bad_state_refusal_only;
      };
      message_unsplittable_refusal = record {
        meets = message_unsplittable_refusal.met;
        asks_nothing = free;
        Promise = λ κs a r e. r ≡ message_promises.refusal_why a.0;
        promises = λ 𝓤 𝓛 mem run κs a ghost r. refl;
        one_answer = λ κs a r s w v h k. (h ∙ sym k, refl);
        only = Message.unsplittable_refusal_only;
      };
      message_not_split_refusal = record {
        meets = message_not_split_refusal.met;
        asks_nothing = free;
        Promise = λ κs a r e. r ≡ message_promises.number_of_not_split a.0;
        promises = λ 𝓤 𝓛 mem run κs a ghost r. refl;
        one_answer = λ κs a r s w v h k. (h ∙ sym k, refl);
        only = Message.not_split_refusal_only;
      };
      message_pause = record {
        meets = message_pause.met;
        asks_nothing = free;
        Promise = λ κs a r e. message_promises.Pause a.1.0 a.0.places r;
        promises = λ 𝓤 𝓛 mem run κs a ghost r. refl;
        one_answer = λ κs a r s w v h k. (Message.pause_only a.1.0 a.0.places r s h k, refl);
        only = Message.pause_only;
      };
      message_message = record {
        meets = message_message.met;
        asks_nothing = free;
        Promise = λ κs a r e. message_promises.Message a.0.now a.1.0 r.now;
        promises = λ 𝓤 𝓛 mem run κs a ghost r. refl;
        one_answer = λ κs a r s w v h k. (Message.message_only a.0.now a.1.0 r.now s.now h k, refl);
        only = Message.message_only;
      };
      message_announcement = record {
        meets = message_announcement.met;
        asks_nothing = free;
        Promise = λ κs a r e. message_promises.Announcement a.0.now a.1.0 r;
        promises = λ 𝓤 𝓛 mem run κs a ghost r. refl;
        one_answer = λ κs a r s w v h k. (Message.announcement_only a.0.now a.1.0 r s h k, refl);
        only = Message.announcement_only;
      };
      message_packet = record {
        meets = message_packet.met;
        asks_nothing = free;
        Promise = λ κs a r e. message_promises.Packet a.0.now a.1.0 a.1.1.0 r;
        promises = λ 𝓤 𝓛 mem run κs a ghost r. refl;
        one_answer = λ κs a r s w v h k. (Message.packet_only a.0.now a.1.0 a.1.1.0 r s h k, refl);
        only = Message.packet_only;
      };
      fast_start = record {
        meets = fast_start.met;
        asks_nothing = free;
        Promise = λ κs a r e. fast_promises.Start a.0.now r;
        promises = λ 𝓤 𝓛 mem run κs a ghost r. refl;
        one_answer = λ κs a r s w v h k. (Fast.start_only a.0.now r s h k, refl);
        only = Fast.start_only;
      };
      fast_bad_list_refusal = record {
        meets = fast_bad_list_refusal.met;
        asks_nothing = free;
        Promise = λ κs a r e. r ≡ fast_promises.number_of_bad_list a.0;
        promises = λ 𝓤 𝓛 mem run κs a ghost r. refl;
        one_answer = λ κs a r s w v h k. (h ∙ sym k, refl);
        only = Fast.bad_list_refusal_only;
      };
      fast_not_heard_refusal = record {
        meets = fast_not_heard_refusal.met;
        asks_nothing = free;
        Promise = λ κs a r e. r ≡ fast_promises.number_of_not_heard a.0;
        promises = λ 𝓤 𝓛 mem run κs a ghost r. refl;
        one_answer = λ κs a r s w v h k. (h ∙ sym k, refl);
        only = Fast.not_heard_refusal_only;
      };
      fast_bad_state_refusal = record {
        meets = fast_bad_state_refusal.met;
        asks_nothing = free;
        Promise = λ κs a r e. r ≡ fast_promises.number_of_bad_state a.0;
        promises = λ 𝓤 𝓛 mem run κs a ghost r. refl;
        one_answer = λ κs a r s w v h k. (h ∙ sym k, refl);
        only = Fast.bad_state_refusal_only;
      };
      fast_not_split_refusal = record {
        meets = fast_not_split_refusal.met;
        asks_nothing = free;
        Promise = λ κs a r e. r ≡ fast_promises.number_of_not_split a.0;
        promises = λ 𝓤 𝓛 mem run κs a ghost r. refl;
        one_answer = λ κs a r s w v h k. (h ∙ sym k, refl);
        only = Fast.not_split_refusal_only;
      };
      fast_hear = record {
        meets = fast_hear.met;
        asks_nothing = free;
        Promise = λ κs a r e.
            fast_promises.Hear a.1.1.0 a.1.1.1.0.now a.0 a.1.0.now r e.1.0.now;
        promises = λ 𝓤 𝓛 mem run κs a ghost r. refl;
        one_answer = λ κs a r s w v h k.
            lent (λ x. (tt, (x, (tt, (tt, tt)))))
            (Fast.hear_only a.1.1.0 a.1.1.1.0.now a.0 a.1.0.now r s w.1.0 v.1.0 h k);
        only = Fast.hear_only;
      };
      fast_pause = record {
        meets = fast_pause.met;
        asks_nothing = free;
        Promise = λ κs a r e. fast_promises.Pause a.1.0 a.0 r;
        promises = λ 𝓤 𝓛 mem run κs a ghost r. refl;
        one_answer = λ κs a r s w v h k. (Fast.pause_only a.1.0 a.0 r s h k, refl);
        only = Fast.pause_only;
      };
      fast_message = record {
        meets = fast_message.met;
        asks_nothing = free;
        Promise = λ κs a r e. fast_promises.Message a.0.now a.1.0 r.now;
        promises = λ 𝓤 𝓛 mem run κs a ghost r. refl;
        one_answer = λ κs a r s w v h k. (Fast.message_only a.0.now a.1.0 r.now s.now h k, refl);
        only = Fast.message_only;
      };
      fast_frame_of = record {
        meets = fast_frame_of.met;
        asks_nothing = free;
        Promise = λ κs a r e. fast_promises.FrameOf a.0.now a.1.0 a.1.1.0 r;
        promises = λ 𝓤 𝓛 mem run κs a ghost r. refl;
        one_answer = λ κs a r s w v h k. (Fast.frame_of_only a.0.now a.1.0 a.1.1.0 r s h k, refl);
        only = Fast.frame_of_only;
      };
      catalogue_rows = record {
        meets = catalogue_rows.met;
        asks_nothing = free;
        Promise = λ κs a r e. catalogue_promises.Rows r;
        promises = λ 𝓤 𝓛 mem run κs a ghost r. refl;
        one_answer = λ κs a r s w v h k. (Catalogue.rows_only r s h k, refl);
        only = Catalogue.rows_only;
      };
      catalogue_row_at = record {
        meets = catalogue_row_at.met;
        asks_nothing = free;
        Promise = λ κs a r e. catalogue_promises.RowAt a.0 r;
        promises = λ 𝓤 𝓛 mem run κs a ghost r. refl;
        one_answer = λ κs a r s w v h k. (Catalogue.row_at_only a.0 r s h k, refl);
        only = Catalogue.row_at_only;
      };
      catalogue_rows_of = record {
        meets = catalogue_rows_of.met;
        asks_nothing = free;
        Promise = λ κs a r e. catalogue_promises.RowsOf a.0 r;
        promises = λ 𝓤 𝓛 mem run κs a ghost r. refl;
        one_answer = λ κs a r s w v h k. (Catalogue.rows_of_only a.0 r s h k, refl);
        only = Catalogue.rows_of_only;
      };
      catalogue_has_instance = record {
        meets = catalogue_has_instance.met;
        asks_nothing = free;
        Promise = λ κs a r e. catalogue_promises.HasInstance a.0 r;
        promises = λ 𝓤 𝓛 mem run κs a ghost r. refl;
        one_answer = λ κs a r s w v h k. (Catalogue.has_instance_only a.0 r s h k, refl);
        only = Catalogue.has_instance_only;
      };
      catalogue_steps_in_one = record {
        meets = catalogue_steps_in_one.met;
        asks_nothing = free;
        Promise = λ κs a r e. catalogue_promises.StepsInOne a.0 a.1.0 r;
        promises = λ 𝓤 𝓛 mem run κs a ghost r. refl;
        one_answer = λ κs a r s w v h k. (Catalogue.steps_in_one_only a.0 a.1.0 r s h k, refl);
        only = Catalogue.steps_in_one_only;
      };
      catalogue_classify = record {
        meets = catalogue_classify.met;
        asks_nothing = free;
        Promise = λ κs a r e. catalogue_promises.Classify a.0 a.1.0 r;
        promises = λ 𝓤 𝓛 mem run κs a ghost r. refl;
        one_answer = λ κs a r s w v h k. (Catalogue.classify_only a.0 a.1.0 r s h k, refl);
        only = Catalogue.classify_only;
      };
      catalogue_read = record {
        meets = catalogue_read.met;
        asks_nothing = free;
        Promise = λ κs a r e. catalogue_promises.ReadField a.0 a.1.0 a.1.1.0.now r;
        promises = λ 𝓤 𝓛 mem run κs a ghost r. refl;
        one_answer = λ κs a r s w v h k. (Catalogue.read_only a.0 a.1.0 a.1.1.0.now r s h k, refl);
        only = Catalogue.read_only;
      };
      catalogue_read_scaled = record {
        meets = catalogue_read_scaled.met;
        asks_nothing = free;
        Promise = λ κs a r e. catalogue_promises.ReadScaled a.0 a.1.0 a.1.1.0.now r;
        promises = λ 𝓤 𝓛 mem run κs a ghost r. refl;
        one_answer = λ κs a r s w v h k. (Catalogue.read_scaled_only a.0 a.1.0 a.1.1.0.now r s h k, refl);
        only = Catalogue.read_scaled_only;
      };
      catalogue_write = record {
        meets = catalogue_write.met;
        asks_nothing = free;
        Promise = λ κs a r e.
            catalogue_promises.WriteField a.0 a.1.0 a.1.1.0.now a.1.1.1.0 r e.1.1.0.now;
        promises = λ 𝓤 𝓛 mem run κs a ghost r. refl;
        one_answer = λ κs a r s w v h k.
            lent (λ x. (tt, (tt, (x, (tt, tt)))))
            (Catalogue.write_only
            a.0 a.1.0 a.1.1.0.now a.1.1.1.0 r s w.1.1.0 v.1.1.0 h k);
        only = Catalogue.write_only;
      };
      catalogue_not_found_refusal = record {
        meets = catalogue_not_found_refusal.met;
        asks_nothing = free;
        Promise = λ κs a r e. r ≡ catalogue_promises.number_of_not_found a.0;
        promises = λ 𝓤 𝓛 mem run κs a ghost r. refl;
        one_answer = λ κs a r s w v h k. (h ∙ sym k, refl);
        only = Catalogue.not_found_refusal_only;
      };
      catalogue_not_read_refusal = record {
        meets = catalogue_not_read_refusal.met;
        asks_nothing = free;
        Promise = λ κs a r e. r ≡ catalogue_promises.number_of_not_read a.0;
        promises = λ 𝓤 𝓛 mem run κs a ghost r. refl;
        one_answer = λ κs a r s w v h k. (h ∙ sym k, refl);
        only = Catalogue.not_read_refusal_only;
      };
      catalogue_not_written_refusal = record {
        meets = catalogue_not_written_refusal.met;
        asks_nothing = free;
        Promise = λ κs a r e. r ≡ catalogue_promises.number_of_not_written a.0;
        promises = λ 𝓤 𝓛 mem run κs a ghost r. refl;
        one_answer = λ κs a r s w v h k. (h ∙ sym k, refl);
        only = Catalogue.not_written_refusal_only;
      };
      catalogue_row_of = record {
        meets = catalogue_row_of.met;
        asks_nothing = free;
        Promise = λ κs a r e. catalogue_promises.RowOf a.0 a.1.0 r;
        promises = λ 𝓤 𝓛 mem run κs a ghost r. refl;
        one_answer = λ κs a r s w v h k. (Catalogue.row_of_only a.0 a.1.0 r s h k, refl);
        only = Catalogue.row_of_only;
      };
      catalogue_packed_rows = record {
        meets = catalogue_packed_rows.met;
        asks_nothing = free;
        Promise = λ κs a r e. catalogue_promises.PackedRows r;
        promises = λ 𝓤 𝓛 mem run κs a ghost r. refl;
        one_answer = λ κs a r s w v h k. (Catalogue.packed_rows_only r s h k, refl);
        only = Catalogue.packed_rows_only;
      };
      catalogue_row_in = record {
        meets = catalogue_row_in.met;
        asks_nothing = free;
        Promise = λ κs a r e. catalogue_promises.RowIn a.0.now a.1.0 r;
        promises = λ 𝓤 𝓛 mem run κs a ghost r. refl;
        one_answer = λ κs a r s w v h k. (Catalogue.row_in_only a.0.now a.1.0 r s h k, refl);
        only = Catalogue.row_in_only;
      };
      catalogue_rows_in = record {
        meets = catalogue_rows_in.met;
        asks_nothing = free;
        Promise = λ κs a r e. catalogue_promises.RowsIn a.0.now a.1.0 r;
        promises = λ 𝓤 𝓛 mem run κs a ghost r. refl;
        one_answer = λ κs a r s w v h k. (Catalogue.rows_in_only a.0.now a.1.0 r s h k, refl);
        only = Catalogue.rows_in_only;
      };
      catalogue_row_of_in = record {
        meets = catalogue_row_of_in.met;
        asks_nothing = free;
        Promise = λ κs a r e. catalogue_promises.RowOfIn a.0.now a.1.0 a.1.1.0 r;
        promises = λ 𝓤 𝓛 mem run κs a ghost r. refl;
        one_answer = λ κs a r s w v h k. (Catalogue.row_of_in_only a.0.now a.1.0 a.1.1.0 r s h k, refl);
        only = Catalogue.row_of_in_only;
      };
      catalogue_read_row = record {
        meets = catalogue_read_row.met;
        asks_nothing = free;
        Promise = λ κs a r e. catalogue_promises.ReadRow a.0 a.1.0 a.1.1.0.now r;
        promises = λ 𝓤 𝓛 mem run κs a ghost r. refl;
        one_answer = λ κs a r s w v h k. (Catalogue.read_row_only a.0 a.1.0 a.1.1.0.now r s h k, refl);
        only = Catalogue.read_row_only;
      };
      catalogue_read_row_scaled = record {
        meets = catalogue_read_row_scaled.met;
        asks_nothing = free;
        Promise = λ κs a r e. catalogue_promises.ReadRowScaled a.0 a.1.0 a.1.1.0.now r;
        promises = λ 𝓤 𝓛 mem run κs a ghost r. refl;
        one_answer = λ κs a r s w v h k. (Catalogue.read_row_scaled_only a.0 a.1.0 a.1.1.0.now r s h k, refl);
        only = Catalogue.read_row_scaled_only;
      };
      catalogue_write_row = record {
        meets = catalogue_write_row.met;
        asks_nothing = free;
        Promise = λ κs a r e.
            catalogue_promises.WriteRow a.0 a.1.0 a.1.1.0.now a.1.1.1.0 r e.1.1.0.now;
        promises = λ 𝓤 𝓛 mem run κs a ghost r. refl;
        one_answer = λ κs a r s w v h k.
            lent (λ x. (tt, (tt, (x, (tt, tt)))))
            (Catalogue.write_row_only
            a.0 a.1.0 a.1.1.0.now a.1.1.1.0 r s w.1.1.0 v.1.1.0 h k);
        only = Catalogue.write_row_only;
      };
      claim_start = record {
        meets = claim_start.met;
        asks_nothing = free;
        Promise = λ κs a r e. claim_promises.Start a.0 a.1.0.now r;
        promises = λ 𝓤 𝓛 mem run κs a ghost r. refl;
        one_answer = λ κs a r s w v h k. (Claim.start_only a.0 a.1.0.now r s h k, refl);
        only = Claim.start_only;
      };
      claim_hear = record {
        meets = claim_hear.met;
        asks_nothing = free;
        Promise = λ κs a r e. claim_promises.Hear a.1.0 a.1.1.0.now a.0 r;
        promises = λ 𝓤 𝓛 mem run κs a ghost r. refl;
        one_answer = λ κs a r s w v h k. (Claim.hear_only a.1.0 a.1.1.0.now a.0 r s h k, refl);
        only = Claim.hear_only;
      };
      claim_pause = record {
        meets = claim_pause.met;
        asks_nothing = free;
        Promise = λ κs a r e. claim_promises.Pause a.1.0 a.0 r;
        promises = λ 𝓤 𝓛 mem run κs a ghost r. refl;
        one_answer = λ κs a r s w v h k. (Claim.pause_only a.1.0 a.0 r s h k, refl);
        only = Claim.pause_only;
      };
      claim_stands = record {
        meets = claim_stands.met;
        asks_nothing = free;
        Promise = λ κs a r e. claim_promises.Stands a.0 r;
        promises = λ 𝓤 𝓛 mem run κs a ghost r. refl;
        one_answer = λ κs a r s w v h k. (Claim.stands_only a.0 r s h k, refl);
        only = Claim.stands_only;
      };
      claim_our_claim = record {
        meets = claim_our_claim.met;
        asks_nothing = free;
        Promise = λ κs a r e. claim_promises.OurClaim a.0 r;
        promises = λ 𝓤 𝓛 mem run κs a ghost r. refl;
        one_answer = λ κs a r s w v h k. (Claim.our_claim_only a.0 r s h k, refl);
        only = Claim.our_claim_only;
      };
      claim_keeps_rules = record {
        meets = claim_keeps_rules.met;
        asks_nothing = free;
        Promise = λ κs a r e. claim_promises.KeepsRules a.0 r;
        promises = λ 𝓤 𝓛 mem run κs a ghost r. refl;
        one_answer = λ κs a r s w v h k. (Claim.keeps_rules_only a.0 r s h k, refl);
        only = Claim.keeps_rules_only;
      };
      claim_holds_list = record {
        meets = claim_holds_list.met;
        asks_nothing = free;
        Promise = λ κs a r e. claim_promises.HoldsList a.0 r;
        promises = λ 𝓤 𝓛 mem run κs a ghost r. refl;
        one_answer = λ κs a r s w v h k. (Claim.holds_list_only a.0 r s h k, refl);
        only = Claim.holds_list_only;
      };
      claim_not_started_refusal = record {
        meets = claim_not_started_refusal.met;
        asks_nothing = free;
        Promise = λ κs a r e. r ≡ claim_promises.number_of_not_started a.0;
        promises = λ 𝓤 𝓛 mem run κs a ghost r. refl;
        one_answer = λ κs a r s w v h k. (h ∙ sym k, refl);
        only = Claim.not_started_refusal_only;
      };
      claim_not_heard_refusal = record {
        meets = claim_not_heard_refusal.met;
        asks_nothing = free;
        Promise = λ κs a r e. r ≡ claim_promises.number_of_not_heard a.0;
        promises = λ 𝓤 𝓛 mem run κs a ghost r. refl;
        one_answer = λ κs a r s w v h k. (h ∙ sym k, refl);
        only = Claim.not_heard_refusal_only;
      };
      claim_bad_state_refusal = record {
        meets = claim_bad_state_refusal.met;
        asks_nothing = free;
        Promise = λ κs a r e. r ≡ claim_promises.number_of_bad_state a.0;
        promises = λ 𝓤 𝓛 mem run κs a ghost r. refl;
        one_answer = λ κs a r s w v h k. (h ∙ sym k, refl);
        only = Claim.bad_state_refusal_only;
      };
      nodes_empty = record {
        meets = nodes_empty.met;
        asks_nothing = free;
        Promise = λ κs a r e. nodes_promises.Empty r;
        promises = λ 𝓤 𝓛 mem run κs a ghost r. refl;
        one_answer = λ κs a r s w v h k. (Nodes.empty_only r s h k, refl);
        only = Nodes.empty_only;
      };
      nodes_hear = record {
        meets = nodes_hear.met;
        asks_nothing = free;
        Promise = λ κs a r e. nodes_promises.Hear a.0.now a.1.0 a.1.1.0.now r e.0.now;
        promises = λ 𝓤 𝓛 mem run κs a ghost r. refl;
        one_answer = λ κs a r s w v h k.
            lent (λ x. (x, (tt, (tt, tt))))
            (Nodes.hear_only a.0.now a.1.0 a.1.1.0.now r s w.0 v.0 h k);
        only = Nodes.hear_only;
      };
      nodes_pause = record {
        meets = nodes_pause.met;
        asks_nothing = free;
        Promise = λ κs a r e. nodes_promises.Pause a.0.now a.1.0 r e.0.now;
        promises = λ 𝓤 𝓛 mem run κs a ghost r. refl;
        one_answer = λ κs a r s w v h k.
            lent (λ x. (x, (tt, tt))) (Nodes.pause_only a.0.now a.1.0 r s w.0 v.0 h k);
        only = Nodes.pause_only;
      };
      nodes_look_up = record {
        meets = nodes_look_up.met;
        asks_nothing = free;
        Promise = λ κs a r e. nodes_promises.LookUp a.0.now a.1.0 r;
        promises = λ 𝓤 𝓛 mem run κs a ghost r. refl;
        one_answer = λ κs a r s w v h k. (Nodes.look_up_only a.0.now a.1.0 r s h k, refl);
        only = Nodes.look_up_only;
      };
      nodes_find_address = record {
        meets = nodes_find_address.met;
        asks_nothing = free;
        Promise = λ κs a r e. nodes_promises.FindAddress a.0.now a.1.0 r;
        promises = λ 𝓤 𝓛 mem run κs a ghost r. refl;
        one_answer = λ κs a r s w v h k. (Nodes.find_address_only a.0.now a.1.0 r s h k, refl);
        only = Nodes.find_address_only;
      };
      nodes_find_challenger = record {
        meets = nodes_find_challenger.met;
        asks_nothing = free;
        Promise = λ κs a r e. nodes_promises.FindChallenger a.0.now a.1.0 r;
        promises = λ 𝓤 𝓛 mem run κs a ghost r. refl;
        one_answer = λ κs a r s w v h k. (Nodes.find_challenger_only a.0.now a.1.0 r s h k, refl);
        only = Nodes.find_challenger_only;
      };
      nodes_bad_table_refusal = record {
        meets = nodes_bad_table_refusal.met;
        asks_nothing = free;
        Promise = λ κs a r e. r ≡ nodes_promises.number_of_bad_table a.0;
        promises = λ 𝓤 𝓛 mem run κs a ghost r. refl;
        one_answer = λ κs a r s w v h k. (h ∙ sym k, refl);
        only = Nodes.bad_table_refusal_only;
      };
      nodes_not_heard_refusal = record {
        meets = nodes_not_heard_refusal.met;
        asks_nothing = free;
        Promise = λ κs a r e. r ≡ nodes_promises.number_of_not_heard a.0;
        promises = λ 𝓤 𝓛 mem run κs a ghost r. refl;
        one_answer = λ κs a r s w v h k. (h ∙ sym k, refl);
        only = Nodes.not_heard_refusal_only;
      };
      command_start = record {
        meets = command_start.met;
        asks_nothing = free;
        Promise = λ κs a r e. command_promises.Start a.0 a.1.0 a.1.1.0 r;
        promises = λ 𝓤 𝓛 mem run κs a ghost r. refl;
        one_answer = λ κs a r s w v h k. (Command.start_only a.0 a.1.0 a.1.1.0 r s h k, refl);
        only = Command.start_only;
      };
      command_route = record {
        meets = command_route.met;
        asks_nothing = free;
        Promise = λ κs a r e. command_promises.Route a.1.1.0 a.1.1.1.0.now a.0 a.1.0 r;
        promises = λ 𝓤 𝓛 mem run κs a ghost r. refl;
        one_answer =
            λ κs a r s w v h k. (Command.route_only a.1.1.0 a.1.1.1.0.now a.0 a.1.0 r s h k, refl);
        only = Command.route_only;
      };
      command_request = record {
        meets = command_request.met;
        asks_nothing = free;
        Promise = λ κs a r e. command_promises.Request a.1.1.0 a.1.1.1.0.now a.0 a.1.0 r;
        promises = λ 𝓤 𝓛 mem run κs a ghost r. refl;
        one_answer = λ κs a r s w v h k.
            (Command.request_only a.1.1.0 a.1.1.1.0.now a.0 a.1.0 r s h k, refl);
        only = Command.request_only;
      };
      command_acknowledge = record {
        meets = command_acknowledge.met;
        asks_nothing = free;
        Promise = λ κs a r e. command_promises.Acknowledge a.0 a.1.0 r;
        promises = λ 𝓤 𝓛 mem run κs a ghost r. refl;
        one_answer = λ κs a r s w v h k. (Command.acknowledge_only a.0 a.1.0 r s h k, refl);
        only = Command.acknowledge_only;
      };
      command_not_started_refusal = record {
        meets = command_not_started_refusal.met;
        asks_nothing = free;
        Promise = λ κs a r e. r ≡ command_promises.number_of_not_started a.0;
        promises = λ 𝓤 𝓛 mem run κs a ghost r. refl;
        one_answer = λ κs a r s w v h k. (h ∙ sym k, refl);
        only = Command.not_started_refusal_only;
      };
      command_not_routed_refusal = record {
        meets = command_not_routed_refusal.met;
        asks_nothing = free;
        Promise = λ κs a r e. r ≡ command_promises.number_of_not_routed a.0;
        promises = λ 𝓤 𝓛 mem run κs a ghost r. refl;
        one_answer = λ κs a r s w v h k. (h ∙ sym k, refl);
        only = Command.not_routed_refusal_only;
      };
      command_not_answered_refusal = record {
        meets = command_not_answered_refusal.met;
        asks_nothing = free;
        Promise = λ κs a r e. r ≡ command_promises.number_of_not_answered a.0;
        promises = λ 𝓤 𝓛 mem run κs a ghost r. refl;
        one_answer = λ κs a r s w v h k. (h ∙ sym k, refl);
        only = Command.not_answered_refusal_only;
      };
      command_not_acknowledged_refusal = record {
        meets = command_not_acknowledged_refusal.met;
        asks_nothing = free;
        Promise = λ κs a r e. r ≡ command_promises.number_of_not_acknowledged a.0;
        promises = λ 𝓤 𝓛 mem run κs a ghost r. refl;
        one_answer = λ κs a r s w v h k. (h ∙ sym k, refl);
        only = Command.not_acknowledged_refusal_only;
      };
      faults_packed_rows = record {
        meets = faults_packed_rows.met;
        asks_nothing = free;
        Promise = λ κs a r e. faults_promises.PackedRows r;
        promises = λ 𝓤 𝓛 mem run κs a ghost r. refl;
        one_answer = λ κs a r s w v h k. (FaultsFields.packed_rows_only r s h k, refl);
        only = FaultsFields.packed_rows_only;
      };
      faults_row_at = record {
        meets = faults_row_at.met;
        asks_nothing = free;
        Promise = λ κs a r e. faults_promises.RowAt a.0 r;
        promises = λ 𝓤 𝓛 mem run κs a ghost r. refl;
        one_answer = λ κs a r s w v h k. (FaultsFields.row_at_only a.0 r s h k, refl);
        only = FaultsFields.row_at_only;
      };
      faults_read = record {
        meets = faults_read.met;
        asks_nothing = free;
        Promise = λ κs a r e. faults_promises.ReadField a.0 a.1.0 a.1.1.0.now r;
        promises = λ 𝓤 𝓛 mem run κs a ghost r. refl;
        one_answer = λ κs a r s w v h k.
            (FaultsFields.read_only a.0 a.1.0 a.1.1.0.now r s h k, refl);
        only = FaultsFields.read_only;
      };
      faults_write = record {
        meets = faults_write.met;
        asks_nothing = free;
        Promise = λ κs a r e.
            faults_promises.WriteField a.0 a.1.0 a.1.1.0.now a.1.1.1.0 r e.1.1.0.now;
        promises = λ 𝓤 𝓛 mem run κs a ghost r. refl;
        one_answer = λ κs a r s w v h k.
            lent (λ x. (tt, (tt, (x, (tt, tt)))))
            (FaultsFields.write_only
            a.0 a.1.0 a.1.1.0.now a.1.1.1.0 r s w.1.1.0 v.1.1.0 h k);
        only = FaultsFields.write_only;
      };
      faults_read_service_point = record {
        meets = faults_read_service_point.met;
        asks_nothing = free;
        Promise = λ κs a r e. faults_promises.ReadServicePoint a.0 a.1.0.now r;
        promises = λ 𝓤 𝓛 mem run κs a ghost r. refl;
        one_answer = λ κs a r s w v h k. (FaultsFields.read_service_point_only a.0 a.1.0.now r s h k, refl);
        only = FaultsFields.read_service_point_only;
      };
      faults_write_service_point = record {
        meets = faults_write_service_point.met;
        asks_nothing = free;
        Promise = λ κs a r e. faults_promises.WriteServicePoint a.0 a.1.0.now a.1.1.0 r e.1.0.now;
        promises = λ 𝓤 𝓛 mem run κs a ghost r. refl;
        one_answer = λ κs a r s w v h k.
            lent (λ x. (tt, (x, (tt, tt))))
            (FaultsFields.write_service_point_only
            a.0 a.1.0.now a.1.1.0 r s w.1.0 v.1.0 h k);
        only = FaultsFields.write_service_point_only;
      };
      faults_not_added_refusal = record {
        meets = faults_not_added_refusal.met;
        asks_nothing = free;
        Promise = λ κs a r e. r ≡ faults_promises.number_of_not_added a.0;
        promises = λ 𝓤 𝓛 mem run κs a ghost r. refl;
        one_answer = λ κs a r s w v h k. (h ∙ sym k, refl);
        only = Faults.not_added_refusal_only;
      };
      faults_not_cleared_refusal = record {
        meets = faults_not_cleared_refusal.met;
        asks_nothing = free;
        Promise = λ κs a r e. r ≡ faults_promises.number_of_not_cleared a.0;
        promises = λ 𝓤 𝓛 mem run κs a ghost r. refl;
        one_answer = λ κs a r s w v h k. (h ∙ sym k, refl);
        only = Faults.not_cleared_refusal_only;
      };
      faults_not_stepped_refusal = record {
        meets = faults_not_stepped_refusal.met;
        asks_nothing = free;
        Promise = λ κs a r e. r ≡ faults_promises.number_of_not_stepped a.0;
        promises = λ 𝓤 𝓛 mem run κs a ghost r. refl;
        one_answer = λ κs a r s w v h k. (h ∙ sym k, refl);
        only = Faults.not_stepped_refusal_only;
      };
      faults_not_heard_refusal = record {
        meets = faults_not_heard_refusal.met;
        asks_nothing = free;
        Promise = λ κs a r e. r ≡ faults_promises.number_of_not_heard a.0;
        promises = λ 𝓤 𝓛 mem run κs a ghost r. refl;
        one_answer = λ κs a r s w v h k. (h ∙ sym k, refl);
        only = Faults.not_heard_refusal_only;
      };
      faults_start = record {
        meets = faults_start.met;
        asks_nothing = free;
        Promise = λ κs a r e. faults_promises.Start a.0 r;
        promises = λ 𝓤 𝓛 mem run κs a ghost r. refl;
        one_answer = λ κs a r s w v h k. (Faults.start_only a.0 r s h k, refl);
        only = Faults.start_only;
      };
      faults_add = record {
        meets = faults_add.met;
        asks_nothing = free;
        Promise = λ κs a r e. faults_promises.Add a.1.0 a.1.1.0 a.0 r;
        promises = λ 𝓤 𝓛 mem run κs a ghost r. refl;
        one_answer = λ κs a r s w v h k. (Faults.add_only a.1.0 a.1.1.0 a.0 r s h k, refl);
        only = Faults.add_only;
      };
      faults_clear = record {
        meets = faults_clear.met;
        asks_nothing = free;
        Promise = λ κs a r e. faults_promises.Clear a.1.0 a.0 r;
        promises = λ 𝓤 𝓛 mem run κs a ghost r. refl;
        one_answer = λ κs a r s w v h k. (Faults.clear_only a.1.0 a.0 r s h k, refl);
        only = Faults.clear_only;
      };
      faults_step = record {
        meets = faults_step.met;
        asks_nothing = free;
        Promise = λ κs a r e. faults_promises.Step a.1.0 a.0 r;
        promises = λ 𝓤 𝓛 mem run κs a ghost r. refl;
        one_answer = λ κs a r s w v h k. (Faults.step_only a.1.0 a.0 r s h k, refl);
        only = Faults.step_only;
      };
      faults_request = record {
        meets = faults_request.met;
        asks_nothing = free;
        Promise = λ κs a r e. faults_promises.Request a.1.1.0 a.1.1.1.0.now a.1.0 a.0 r;
        promises = λ 𝓤 𝓛 mem run κs a ghost r. refl;
        one_answer = λ κs a r s w v h k.
            (Faults.request_only a.1.1.0 a.1.1.1.0.now a.1.0 a.0 r s h k, refl);
        only = Faults.request_only;
      };
      faults_reply = record {
        meets = faults_reply.met;
        asks_nothing = free;
        Promise = λ κs a r e.
            faults_promises.Reply a.1.1.1.0 a.1.1.1.1.0.now a.1.0 a.1.1.0 a.0 r;
        promises = λ 𝓤 𝓛 mem run κs a ghost r. refl;
        one_answer = λ κs a r s w v h k.
            (Faults.reply_only a.1.1.1.0 a.1.1.1.1.0.now a.1.0 a.1.1.0 a.0 r s h k, refl);
        only = Faults.reply_only;
      };
      capture_take_apart = record {
        meets = capture_take_apart.met;
        asks_nothing = free;
        Promise = λ κs a r e. capture_promises.TakeApart a.0.now r;
        promises = λ 𝓤 𝓛 mem run κs a ghost r. refl;
        one_answer = λ κs a r s w v h k. (Capture.take_apart_only a.0.now r s h k, refl);
        only = Capture.take_apart_only;
      };
      capture_not_read_refusal = record {
        meets = capture_not_read_refusal.met;
        asks_nothing = free;
        Promise = λ κs a r e. r ≡ capture_promises.number_of_not_read a.0;
        promises = λ 𝓤 𝓛 mem run κs a ghost r. refl;
        one_answer = λ κs a r s w v h k. (h ∙ sym k, refl);
        only = Capture.not_read_refusal_only;
      };
      capture_write = record {
        meets = capture_write.met;
        asks_nothing = free;
        Promise = λ κs a r e. capture_promises.Write a.0 a.1.0 a.1.1.0 r;
        promises = λ 𝓤 𝓛 mem run κs a ghost r. refl;
        one_answer = λ κs a r s w v h k. (Capture.write_only a.0 a.1.0 a.1.1.0 r s h k, refl);
        only = Capture.write_only;
      };
      capture_new = record {
        meets = capture_new.met;
        asks_nothing = free;
        Promise = λ κs a r e. capture_promises.New r;
        promises = λ 𝓤 𝓛 mem run κs a ghost r. refl;
        one_answer = λ κs a r s w v h k. (Capture.new_only r s h k, refl);
        only = Capture.new_only;
      };
      capture_next = record {
        meets = capture_next.met;
        asks_nothing = free;
        Promise = λ κs a r e. capture_promises.Next a.1.0.now a.1.1.0 a.0 r;
        promises = λ 𝓤 𝓛 mem run κs a ghost r. refl;
        one_answer = λ κs a r s w v h k. (Capture.next_only a.1.0.now a.1.1.0 a.0 r s h k, refl);
        only = Capture.next_only;
      };
      capture_last = record {
        meets = capture_last.met;
        asks_nothing = free;
        Promise = λ κs a r e. capture_promises.Last a.0 r;
        promises = λ 𝓤 𝓛 mem run κs a ghost r. refl;
        one_answer = λ κs a r s w v h k. (Capture.last_only a.0 r s h k, refl);
        only = Capture.last_only;
      };
      text_put = record {
        meets = text_put.met;
        asks_nothing = free;
        Promise = λ κs a r e. text_promises.Put a.0.now a.1.0 a.1.1.0.now r e.0.now;
        promises = λ 𝓤 𝓛 mem run κs a ghost r. refl;
        one_answer = λ κs a r s w v h k.
            lent (λ x. (x, (tt, (tt, tt))))
            (Text.put_only a.0.now a.1.0 a.1.1.0.now r s w.0 v.0 h k);
        only = Text.put_only;
      };
      text_put_decimal = record {
        meets = text_put_decimal.met;
        asks_nothing = free;
        Promise = λ κs a r e.
            text_promises.PutDecimal a.0.now a.1.0 a.1.1.0.now a.1.1.1.0 r e.0.now;
        promises = λ 𝓤 𝓛 mem run κs a ghost r. refl;
        one_answer = λ κs a r s w v h k.
            lent (λ x. (x, (tt, (tt, (tt, tt)))))
            (Text.put_decimal_only
            a.0.now a.1.0 a.1.1.0.now a.1.1.1.0 r s w.0 v.0 h k);
        only = Text.put_decimal_only;
      };
      text_put_hex = record {
        meets = text_put_hex.met;
        asks_nothing = free;
        Promise = λ κs a r e.
            text_promises.PutHex
            a.0.now a.1.0 a.1.1.0.now a.1.1.1.0 a.1.1.1.1.0 r e.0.now;
        promises = λ 𝓤 𝓛 mem run κs a ghost r. refl;
        one_answer = λ κs a r s w v h k.
            lent (λ x. (x, (tt, (tt, (tt, (tt, tt))))))
            (Text.put_hex_only
            a.0.now a.1.0 a.1.1.0.now a.1.1.1.0 a.1.1.1.1.0 r s w.0 v.0 h k);
        only = Text.put_hex_only;
      };
      text_put_bytes = record {
        meets = text_put_bytes.met;
        asks_nothing = free;
        Promise = λ κs a r e.
            text_promises.PutBytes a.0.now a.1.0 a.1.1.0.now a.1.1.1.0.now r e.0.now;
        promises = λ 𝓤 𝓛 mem run κs a ghost r. refl;
        one_answer = λ κs a r s w v h k.
            lent (λ x. (x, (tt, (tt, (tt, tt)))))
            (Text.put_bytes_only a.0.now a.1.0 a.1.1.0.now a.1.1.1.0.now r s w.0 v.0 h k);
        only = Text.put_bytes_only;
      };
      text_decimal_width = record {
        meets = text_decimal_width.met;
        asks_nothing = free;
        Promise = λ κs a r e. text_promises.DecimalWidth a.0 r;
        promises = λ 𝓤 𝓛 mem run κs a ghost r. refl;
        one_answer = λ κs a r s w v h k. (Text.decimal_width_only a.0 r s h k, refl);
        only = Text.decimal_width_only;
      };
      tiles_new = record {
        meets = tiles_new.met;
        asks_nothing = free;
        Promise = λ κs a r e. tiles_promises.New r;
        promises = λ 𝓤 𝓛 mem run κs a ghost r. refl;
        one_answer = λ κs a r s w v h k. (Tiles.new_only r s h k, refl);
        only = Tiles.new_only;
      };
      tiles_name = record {
        meets = tiles_name.met;
        asks_nothing = free;
        Promise = λ κs a r e. tiles_promises.Name a.1.0 a.1.1.0 a.1.1.1.0 a.0 r;
        promises = λ 𝓤 𝓛 mem run κs a ghost r. refl;
        one_answer = λ κs a r s w v h k. (Tiles.name_only a.1.0 a.1.1.0 a.1.1.1.0 a.0 r s h k, refl);
        only = Tiles.name_only;
      };
      tiles_hear = record {
        meets = tiles_hear.met;
        asks_nothing = free;
        Promise = λ κs a r e. tiles_promises.Hear a.1.0 a.1.1.0.now a.0 r;
        promises = λ 𝓤 𝓛 mem run κs a ghost r. refl;
        one_answer = λ κs a r s w v h k. (Tiles.hear_only a.1.0 a.1.1.0.now a.0 r s h k, refl);
        only = Tiles.hear_only;
      };
      tiles_reading = record {
        meets = tiles_reading.met;
        asks_nothing = free;
        Promise = λ κs a r e. tiles_promises.ReadTile a.1.0 a.0 r;
        promises = λ 𝓤 𝓛 mem run κs a ghost r. refl;
        one_answer = λ κs a r s w v h k. (Tiles.read_tile_only a.1.0 a.0 r s h k, refl);
        only = Tiles.read_tile_only;
      };
      tiles_not_named_refusal = record {
        meets = tiles_not_named_refusal.met;
        asks_nothing = free;
        Promise = λ κs a r e. r ≡ tiles_promises.number_of_not_named a.0;
        promises = λ 𝓤 𝓛 mem run κs a ghost r. refl;
        one_answer = λ κs a r s w v h k. (h ∙ sym k, refl);
        only = Tiles.not_named_refusal_only;
      };
      tiles_not_heard_refusal = record {
        meets = tiles_not_heard_refusal.met;
        asks_nothing = free;
        Promise = λ κs a r e. r ≡ tiles_promises.number_of_not_heard a.0;
        promises = λ 𝓤 𝓛 mem run κs a ghost r. refl;
        one_answer = λ κs a r s w v h k. (h ∙ sym k, refl);
        only = Tiles.not_heard_refusal_only;
      };
      tiles_not_shown_refusal = record {
        meets = tiles_not_shown_refusal.met;
        asks_nothing = free;
        Promise = λ κs a r e. r ≡ tiles_promises.number_of_not_shown a.0;
        promises = λ 𝓤 𝓛 mem run κs a ghost r. refl;
        one_answer = λ κs a r s w v h k. (h ∙ sym k, refl);
        only = Tiles.not_shown_refusal_only;
      };
    }
