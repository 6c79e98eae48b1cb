-- The first demand (RULES 13.1 and 13.7): every public call ends with an answer for every input, and its promise leaves
-- no second one. Every public call of the library is named here, part by part, so that one that is missing is easy to
-- see.
use Rattle.std.specs.Prelude.{◌≡◌}
use seplogic.Ra.Ura.{Ura}
use base.Logic.{SProp, sep, emp}
use prog.Memory.{Memory}
use prog.Model.{Model}
use prog.Routine.{Routine}
use prog.Wired.{Code, Wired}
use mir.Syntax.{Callee, Dict}
use types.Logic.{Logic}
use contract.Monad.{Fun}
use contract.Lifetimes.{Lfts}
use contract.Notation.{connectives}
use contract.BorrowLft.{◌⊑◌}
use contract.Fact.{fact}
use contract.Running.{Running}
use denote.RattleType.{RattleType}
use denote.Signature.{Signature}
use denote.Triple.Clauses.{Ended, Lasts, AtExit, at_exit}
use denote.Triple.Entry.{Args, Res}
use denote.Triple.Spec.{Spec, Meets, exits}
use Rattle.std.specs.declared.clone.Clone as Clone
use Rattle.words.specs.Words.{number_of_answer}
use Rattle.words.specs.declared.Refusal as Refusal
use Rattle.words.specs.contracts.ResultRefusal.refusal as words_result_refusal
use Rattle.words.proofs.ResultRefusal.refusal.Statement as words_result_refusal_statement
use Rattle.frame.specs.Laws as Frame
use Rattle.frame.specs.contracts.take_apart as frame_take_apart
use Rattle.frame.proofs.take_apart.Symbol as frame_take_apart_symbol
use Rattle.frame.specs.contracts.form as frame_form
use Rattle.frame.proofs.form.Symbol as frame_form_symbol
use Rattle.frame.specs.contracts.check as frame_check
use Rattle.frame.proofs.check.Symbol as frame_check_symbol
use Rattle.frame.specs.contracts.destination_of as frame_destination_of
use Rattle.frame.proofs.destination_of.Symbol as frame_destination_of_symbol
use Rattle.frame.specs.contracts.catalogue_form as frame_catalogue_form
use Rattle.frame.proofs.catalogue_form.Symbol as frame_catalogue_form_symbol
use Rattle.frame.specs.contracts.number_of as frame_number_of
use Rattle.frame.proofs.number_of.Symbol as frame_number_of_symbol
use Rattle.frame.specs.contracts.bytes_of as frame_bytes_of
use Rattle.frame.proofs.bytes_of.Symbol as frame_bytes_of_symbol
use Rattle.frame.specs.contracts.BadIdentifierRefusal.refusal as frame_bad_identifier_refusal
use Rattle.frame.proofs.BadIdentifierRefusal.refusal.Symbol as frame_bad_identifier_refusal_symbol
use Rattle.frame.specs.contracts.NotFormedRefusal.refusal as frame_not_formed_refusal
use Rattle.frame.proofs.NotFormedRefusal.refusal.Symbol as frame_not_formed_refusal_symbol
use Rattle.frame.specs.contracts.BadFrameRefusal.refusal as frame_bad_frame_refusal
use Rattle.frame.proofs.BadFrameRefusal.refusal.Symbol as frame_bad_frame_refusal_symbol
use Rattle.frame.specs.contracts.dgn_bytes as frame_dgn_bytes
use Rattle.frame.proofs.dgn_bytes.Symbol as frame_dgn_bytes_symbol
use Rattle.frame.specs.contracts.dgn_of as frame_dgn_of
use Rattle.frame.proofs.dgn_of.Symbol as frame_dgn_of_symbol
use Rattle.message.specs.Laws as Message
use Rattle.message.specs.contracts.Receiver.new as message_new
use Rattle.message.proofs.Receiver.new.Symbol as message_new_symbol
use Rattle.message.specs.contracts.Receiver.hear as message_hear
use Rattle.message.proofs.Receiver.hear.Symbol as message_hear_symbol
use Rattle.message.specs.contracts.Receiver.pause as message_pause
use Rattle.message.proofs.Receiver.pause.Symbol as message_pause_symbol
use Rattle.message.specs.contracts.message as message_message
use Rattle.message.proofs.message.Symbol as message_message_symbol
use Rattle.message.specs.contracts.announcement as message_announcement
use Rattle.message.proofs.announcement.Symbol as message_announcement_symbol
use Rattle.message.specs.contracts.packet as message_packet
use Rattle.message.proofs.packet.Symbol as message_packet_symbol
use Rattle.message.specs.contracts.NotHeardRefusal.refusal as message_not_heard_refusal
use Rattle.message.proofs.NotHeardRefusal.refusal.Symbol as message_not_heard_refusal_symbol
use Rattle.message.specs.contracts.BadStateRefusal.refusal as message_bad_state_refusal
use Rattle.message.proofs.BadStateRefusal.refusal.Symbol as message_bad_state_refusal_symbol
use Rattle.message.specs.contracts.UnsplittableRefusal.refusal as message_unsplittable_refusal
use Rattle.message.proofs.UnsplittableRefusal.refusal.Symbol as message_unsplittable_refusal_symbol
use Rattle.message.specs.contracts.NotSplitRefusal.refusal as message_not_split_refusal
use Rattle.message.proofs.NotSplitRefusal.refusal.Symbol as message_not_split_refusal_symbol
use Rattle.fast.specs.Laws as Fast
use Rattle.fast.specs.contracts.Receiver.start as fast_start
use Rattle.fast.proofs.Receiver.start.Symbol as fast_start_symbol
use Rattle.fast.specs.contracts.BadListRefusal.refusal as fast_bad_list_refusal
use Rattle.fast.proofs.BadListRefusal.refusal.Symbol as fast_bad_list_refusal_symbol
use Rattle.fast.specs.contracts.NotHeardRefusal.refusal as fast_not_heard_refusal
use Rattle.fast.proofs.NotHeardRefusal.refusal.Symbol as fast_not_heard_refusal_symbol
use Rattle.fast.specs.contracts.BadStateRefusal.refusal as fast_bad_state_refusal
use Rattle.fast.proofs.BadStateRefusal.refusal.Symbol as fast_bad_state_refusal_symbol
use Rattle.fast.specs.contracts.NotSplitRefusal.refusal as fast_not_split_refusal
use Rattle.fast.proofs.NotSplitRefusal.refusal.Symbol as fast_not_split_refusal_symbol
use Rattle.fast.specs.contracts.Receiver.hear as fast_hear
use Rattle.fast.proofs.Receiver.hear.Symbol as fast_hear_symbol
use Rattle.fast.specs.contracts.Receiver.pause as fast_pause
use Rattle.fast.proofs.Receiver.pause.Symbol as fast_pause_symbol
use Rattle.fast.specs.contracts.message as fast_message
use Rattle.fast.proofs.message.Symbol as fast_message_symbol
use Rattle.fast.specs.contracts.frame_of as fast_frame_of
use Rattle.fast.proofs.frame_of.Symbol as fast_frame_of_symbol
use Rattle.catalogue.specs.Laws as Catalogue
use Rattle.catalogue.specs.contracts.rows as catalogue_rows
use Rattle.catalogue.proofs.rows.Symbol as catalogue_rows_symbol
use Rattle.catalogue.specs.contracts.row_at as catalogue_row_at
use Rattle.catalogue.proofs.row_at.Symbol as catalogue_row_at_symbol
use Rattle.catalogue.specs.contracts.rows_of as catalogue_rows_of
use Rattle.catalogue.proofs.rows_of.Symbol as catalogue_rows_of_symbol
use Rattle.catalogue.specs.contracts.has_instance as catalogue_has_instance
use Rattle.catalogue.proofs.has_instance.Symbol as catalogue_has_instance_symbol
use Rattle.catalogue.specs.contracts.steps_in_one as catalogue_steps_in_one
use Rattle.catalogue.proofs.steps_in_one.Symbol as catalogue_steps_in_one_symbol
use Rattle.catalogue.specs.contracts.classify as catalogue_classify
use Rattle.catalogue.proofs.classify.Symbol as catalogue_classify_symbol
use Rattle.catalogue.specs.contracts.read as catalogue_read
use Rattle.catalogue.proofs.read.Symbol as catalogue_read_symbol
use Rattle.catalogue.specs.contracts.read_scaled as catalogue_read_scaled
use Rattle.catalogue.proofs.read_scaled.Symbol as catalogue_read_scaled_symbol
use Rattle.catalogue.specs.contracts.write as catalogue_write
use Rattle.catalogue.proofs.write.Symbol as catalogue_write_symbol
use Rattle.catalogue.specs.contracts.NotFoundRefusal.refusal as catalogue_not_found_refusal
use Rattle.catalogue.proofs.NotFoundRefusal.refusal.Symbol as catalogue_not_found_refusal_symbol
use Rattle.catalogue.specs.contracts.NotReadRefusal.refusal as catalogue_not_read_refusal
use Rattle.catalogue.proofs.NotReadRefusal.refusal.Symbol as catalogue_not_read_refusal_symbol
use Rattle.catalogue.specs.contracts.NotWrittenRefusal.refusal as catalogue_not_written_refusal
use Rattle.catalogue.proofs.NotWrittenRefusal.refusal.Symbol as catalogue_not_written_refusal_symbol
use Rattle.catalogue.specs.contracts.row_of as catalogue_row_of
use Rattle.catalogue.proofs.row_of.Symbol as catalogue_row_of_symbol
use Rattle.catalogue.specs.contracts.packed_rows as catalogue_packed_rows
use Rattle.catalogue.proofs.packed_rows.Symbol as catalogue_packed_rows_symbol
use Rattle.catalogue.specs.contracts.row_in as catalogue_row_in
use Rattle.catalogue.proofs.row_in.Symbol as catalogue_row_in_symbol
use Rattle.catalogue.specs.contracts.rows_in as catalogue_rows_in
use Rattle.catalogue.proofs.rows_in.Symbol as catalogue_rows_in_symbol
use Rattle.catalogue.specs.contracts.row_of_in as catalogue_row_of_in
use Rattle.catalogue.proofs.row_of_in.Symbol as catalogue_row_of_in_symbol
use Rattle.catalogue.specs.contracts.read_row as catalogue_read_row
use Rattle.catalogue.proofs.read_row.Symbol as catalogue_read_row_symbol
use Rattle.catalogue.specs.contracts.read_row_scaled as catalogue_read_row_scaled
use Rattle.catalogue.proofs.read_row_scaled.Symbol as catalogue_read_row_scaled_symbol
use Rattle.catalogue.specs.contracts.write_row as catalogue_write_row
use Rattle.catalogue.proofs.write_row.Symbol as catalogue_write_row_symbol
use Rattle.claim.specs.Laws as Claim
use Rattle.claim.specs.contracts.Claim.start as claim_start
use Rattle.claim.proofs.Claim.start.Symbol as claim_start_symbol
use Rattle.claim.specs.contracts.Claim.hear as claim_hear
use Rattle.claim.proofs.Claim.hear.Symbol as claim_hear_symbol
use Rattle.claim.specs.contracts.Claim.pause as claim_pause
use Rattle.claim.proofs.Claim.pause.Symbol as claim_pause_symbol
use Rattle.claim.specs.contracts.Claim.stands as claim_stands
use Rattle.claim.proofs.Claim.stands.Symbol as claim_stands_symbol
use Rattle.claim.specs.contracts.Claim.our_claim as claim_our_claim
use Rattle.claim.proofs.Claim.our_claim.Symbol as claim_our_claim_symbol
use Rattle.claim.specs.contracts.Claim.keeps_rules as claim_keeps_rules
use Rattle.claim.proofs.Claim.keeps_rules.Symbol as claim_keeps_rules_symbol
use Rattle.claim.specs.contracts.Claim.holds_list as claim_holds_list
use Rattle.claim.proofs.Claim.holds_list.Symbol as claim_holds_list_symbol
use Rattle.claim.specs.contracts.NotStartedRefusal.refusal as claim_not_started_refusal
use Rattle.claim.proofs.NotStartedRefusal.refusal.Symbol as claim_not_started_refusal_symbol
use Rattle.claim.specs.contracts.NotHeardRefusal.refusal as claim_not_heard_refusal
use Rattle.claim.proofs.NotHeardRefusal.refusal.Symbol as claim_not_heard_refusal_symbol
use Rattle.claim.specs.contracts.BadStateRefusal.refusal as claim_bad_state_refusal
use Rattle.claim.proofs.BadStateRefusal.refusal.Symbol as claim_bad_state_refusal_symbol
use Rattle.nodes.specs.Laws as Nodes
use Rattle.nodes.specs.contracts.empty as nodes_empty
use Rattle.nodes.proofs.empty.Symbol as nodes_empty_symbol
use Rattle.nodes.specs.contracts.hear as nodes_hear
use Rattle.nodes.proofs.hear.Symbol as nodes_hear_symbol
use Rattle.nodes.specs.contracts.pause as nodes_pause
use Rattle.nodes.proofs.pause.Symbol as nodes_pause_symbol
use Rattle.nodes.specs.contracts.look_up as nodes_look_up
use Rattle.nodes.proofs.look_up.Symbol as nodes_look_up_symbol
use Rattle.nodes.specs.contracts.find_address as nodes_find_address
use Rattle.nodes.proofs.find_address.Symbol as nodes_find_address_symbol
use Rattle.nodes.specs.contracts.find_challenger as nodes_find_challenger
use Rattle.nodes.proofs.find_challenger.Symbol as nodes_find_challenger_symbol
use Rattle.nodes.specs.contracts.BadTableRefusal.refusal as nodes_bad_table_refusal
use Rattle.nodes.proofs.BadTableRefusal.refusal.Symbol as nodes_bad_table_refusal_symbol
use Rattle.nodes.specs.contracts.NotHeardRefusal.refusal as nodes_not_heard_refusal
use Rattle.nodes.proofs.NotHeardRefusal.refusal.Symbol as nodes_not_heard_refusal_symbol
use Rattle.command.specs.Laws as Command
use Rattle.command.specs.contracts.Host.start as command_start
use Rattle.command.proofs.Host.start.Symbol as command_start_symbol
use Rattle.command.specs.contracts.Host.route as command_route
use Rattle.command.proofs.Host.route.Symbol as command_route_symbol
use Rattle.command.specs.contracts.Host.request as command_request
use Rattle.command.proofs.Host.request.Symbol as command_request_symbol
use Rattle.command.specs.contracts.acknowledge as command_acknowledge
use Rattle.command.proofs.acknowledge.Symbol as command_acknowledge_symbol
use Rattle.command.specs.contracts.NotStartedRefusal.refusal as command_not_started_refusal
use Rattle.command.proofs.NotStartedRefusal.refusal.Symbol as command_not_started_refusal_symbol
use Rattle.command.specs.contracts.NotRoutedRefusal.refusal as command_not_routed_refusal
use Rattle.command.proofs.NotRoutedRefusal.refusal.Symbol as command_not_routed_refusal_symbol
use Rattle.command.specs.contracts.NotAnsweredRefusal.refusal as command_not_answered_refusal
use Rattle.command.proofs.NotAnsweredRefusal.refusal.Symbol as command_not_answered_refusal_symbol
use Rattle.command.specs.contracts.NotAcknowledgedRefusal.refusal as command_not_acknowledged_refusal
use Rattle.command.proofs.NotAcknowledgedRefusal.refusal.Symbol as command_not_acknowledged_refusal_symbol
use Rattle.faults.specs.Laws as Faults
use Rattle.faults.specs.contracts.packed_rows as faults_packed_rows
use Rattle.faults.proofs.packed_rows.Symbol as faults_packed_rows_symbol
use Rattle.faults.specs.contracts.row_at as faults_row_at
use Rattle.faults.proofs.row_at.Symbol as faults_row_at_symbol
use Rattle.faults.specs.contracts.read as faults_read
use Rattle.faults.proofs.read.Symbol as faults_read_symbol
use Rattle.faults.specs.contracts.write as faults_write
use Rattle.faults.proofs.write.Symbol as faults_write_symbol
use Rattle.faults.specs.contracts.read_service_point as faults_read_service_point
use Rattle.faults.proofs.read_service_point.Symbol as faults_read_service_point_symbol
use Rattle.faults.specs.contracts.write_service_point as faults_write_service_point
use Rattle.faults.proofs.write_service_point.Symbol as faults_write_service_point_symbol
use Rattle.faults.specs.contracts.NotAddedRefusal.refusal as faults_not_added_refusal
use Rattle.faults.proofs.NotAddedRefusal.refusal.Symbol as faults_not_added_refusal_symbol
use Rattle.faults.specs.contracts.NotClearedRefusal.refusal as faults_not_cleared_refusal
use Rattle.faults.proofs.NotClearedRefusal.refusal.Symbol as faults_not_cleared_refusal_symbol
use Rattle.faults.specs.contracts.NotSteppedRefusal.refusal as faults_not_stepped_refusal
use Rattle.faults.proofs.NotSteppedRefusal.refusal.Symbol as faults_not_stepped_refusal_symbol
use Rattle.faults.specs.contracts.NotHeardRefusal.refusal as faults_not_heard_refusal
use Rattle.faults.proofs.NotHeardRefusal.refusal.Symbol as faults_not_heard_refusal_symbol
use Rattle.faults.specs.contracts.Sender.start as faults_start
use Rattle.faults.proofs.Sender.start.Symbol as faults_start_symbol
use Rattle.faults.specs.contracts.Sender.add as faults_add
use Rattle.faults.proofs.Sender.add.Symbol as faults_add_symbol
use Rattle.faults.specs.contracts.Sender.clear as faults_clear
use Rattle.faults.proofs.Sender.clear.Symbol as faults_clear_symbol
use Rattle.faults.specs.contracts.Sender.step as faults_step
use Rattle.faults.proofs.Sender.step.Symbol as faults_step_symbol
use Rattle.faults.specs.contracts.Sender.request as faults_request
use Rattle.faults.proofs.Sender.request.Symbol as faults_request_symbol
use Rattle.faults.specs.contracts.Sender.reply as faults_reply
use Rattle.faults.proofs.Sender.reply.Symbol as faults_reply_symbol
use Rattle.capture.specs.Laws as Capture
use Rattle.capture.specs.contracts.take_apart as capture_take_apart
use Rattle.capture.proofs.take_apart.Symbol as capture_take_apart_symbol
use Rattle.capture.specs.contracts.write as capture_write
use Rattle.capture.proofs.write.Symbol as capture_write_symbol
use Rattle.capture.specs.contracts.Cutter.new as capture_new
use Rattle.capture.proofs.Cutter.new.Symbol as capture_new_symbol
use Rattle.capture.specs.contracts.Cutter.next as capture_next
use Rattle.capture.proofs.Cutter.next.Symbol as capture_next_symbol
use Rattle.capture.specs.contracts.Cutter.last as capture_last
use Rattle.capture.proofs.Cutter.last.Symbol as capture_last_symbol
use Rattle.capture.specs.contracts.NotReadRefusal.refusal as capture_not_read_refusal
use Rattle.capture.proofs.NotReadRefusal.refusal.Symbol as capture_not_read_refusal_symbol
use Rattle.text.specs.Laws as Text
use Rattle.text.specs.contracts.put as text_put
use Rattle.text.proofs.put.Symbol as text_put_symbol
use Rattle.text.specs.contracts.put_decimal as text_put_decimal
use Rattle.text.proofs.put_decimal.Symbol as text_put_decimal_symbol
use Rattle.text.specs.contracts.put_hex as text_put_hex
use Rattle.text.proofs.put_hex.Symbol as text_put_hex_symbol
use Rattle.text.specs.contracts.put_bytes as text_put_bytes
use Rattle.text.proofs.put_bytes.Symbol as text_put_bytes_symbol
use Rattle.text.specs.contracts.decimal_width as text_decimal_width
use Rattle.text.proofs.decimal_width.Symbol as text_decimal_width_symbol
use Rattle.tiles.specs.Laws as Tiles
use Rattle.tiles.specs.contracts.Panel.new as tiles_new
use Rattle.tiles.proofs.Panel.new.Symbol as tiles_new_symbol
use Rattle.tiles.specs.contracts.Panel.name as tiles_name
use Rattle.tiles.proofs.Panel.name.Symbol as tiles_name_symbol
use Rattle.tiles.specs.contracts.Panel.hear as tiles_hear
use Rattle.tiles.proofs.Panel.hear.Symbol as tiles_hear_symbol
use Rattle.tiles.specs.contracts.Panel.reading as tiles_reading
use Rattle.tiles.proofs.Panel.reading.Symbol as tiles_reading_symbol
use Rattle.tiles.specs.contracts.NotNamedRefusal.refusal as tiles_not_named_refusal
use Rattle.tiles.proofs.NotNamedRefusal.refusal.Symbol as tiles_not_named_refusal_symbol
use Rattle.tiles.specs.contracts.NotHeardRefusal.refusal as tiles_not_heard_refusal
use Rattle.tiles.proofs.NotHeardRefusal.refusal.Symbol as tiles_not_heard_refusal_symbol
use Rattle.tiles.specs.contracts.NotShownRefusal.refusal as tiles_not_shown_refusal
use Rattle.tiles.proofs.NotShownRefusal.refusal.Symbol as tiles_not_shown_refusal_symbol

-- A contract's `requires` asks nothing of a caller: there is a value of what the contract binds, and at each it is ⊤ₛ.
pub record AsksNothing {M : Type 1} (𝓤 : Ura M) {Ghost : Type 0} (requires : Ghost → SProp 𝓤) : Type 2 where
  pub bound : Ghost
  pub required : (ghost : Ghost) → requires ghost ≡ (connectives 𝓤).⊤ₛ

-- M is what the logic's resources are made of, and 𝓛 𝓜 𝓡 a model over it of memory, ghost state and running: what
-- is said of a contract is said at every one. T has the call's signature; κs are the lifetimes of what it is lent.
module _ (M : Type 1) where
  module _ (T : Ended) where
    abbrev S : Signature
    S = T.signature

    abbrev pub Contract : Type 2
    Contract = (𝓤 : Ura M) (𝓛 : Logic 𝓤) → (Memory → SProp 𝓤) → (Routine → Fun 𝓤) → Spec 𝓤 S

    -- A call, by its code and its contract, where `Same` says when two answers are the same one.
    pub record AnswersBy (code : Code) (name : Callee) (contract : Contract)
        (Same : (κs : Lfts S.lifetimes) (r s : Res S κs) → Type 0) (Only : Type 0) : Type 2 where
      -- The code meets the contract: where names mean the functions that have this code, the call by this name ends with
      -- an answer for which the contract's `ensures` holds.
      pub meets : (𝓤 : Ura M) (𝓛 : Logic 𝓤) (𝓜 : Model 𝓤 𝓛.H) (𝓡 : Running 𝓤 𝓛.H 𝓜) → Wired 𝓡.env code
          → Meets 𝓛 S (𝓡.run (𝓡.env name)) (contract 𝓤 𝓛 𝓜.mem 𝓡.returns)
      -- The contract asks nothing of its caller, whatever it is handed.
      pub asks_nothing : {𝓤 : Ura M} {𝓛 : Logic 𝓤} {mem : Memory → SProp 𝓤} {run : Routine → Fun 𝓤}
          {κs : Lfts S.lifetimes} {args : Args S κs}
          → AsksNothing 𝓤 (contract 𝓤 𝓛 mem run κs args).requires
      -- Its `ensures` is one promise: of the arguments, of the answer, and of the parameters as the call leaves them.
      pub Promise : (κs : Lfts S.lifetimes) → Args S κs → Res S κs → AtExit T κs → Type 0
      pub promises : (𝓤 : Ura M) (𝓛 : Logic 𝓤) (mem : Memory → SProp 𝓤) (run : Routine → Fun 𝓤)
          (κs : Lfts S.lifetimes) (args : Args S κs) (ghost : (contract 𝓤 𝓛 mem run κs args).ghost) (r : Res S κs)
          → (contract 𝓤 𝓛 mem run κs args).ensures ghost r
          ≡ exits 𝓛 S T.kept κs args (λ end. (connectives 𝓤).⌜◌⌝ (Promise κs args r end))
      -- No second answer keeps the promise, and nothing else is left in what was lent to be written.
      pub one_answer : (κs : Lfts S.lifetimes) (args : Args S κs) (r s : Res S κs) (left left' : Lasts T κs args)
          → Promise κs args r (at_exit T κs args left) → Promise κs args s (at_exit T κs args left')
          → Same κs r s × (left ≡ left')
      -- The same, in the words of the part's own laws.
      pub only : Only

    abbrev pub Answers : Code → Callee → Contract → Type 0 → Type 2
    Answers code name contract Only = AnswersBy code name contract (λ κs r s. r ≡ s) Only

  -- The number of an answer, at what the answer gives, `T`, and what it may refuse for, `E`, whose numbers are
  -- `refusals`.
  module _ (T E : RattleType) (tc : Clone.Ghosts T.Denot) (td : Dict) (refusals : Refusal.Ghosts E.Denot) (rd : Dict)
      (ec : Clone.Ghosts E.Denot) (ed : Dict) where
    abbrev Number : Ended
    Number = words_result_refusal.ended T E tc td refusals rd ec ed

    abbrev NumberContract : (𝓤 : Ura M) (𝓛 : Logic 𝓤) → (Memory → SProp 𝓤) → (Routine → Fun 𝓤) → Spec 𝓤 Number.signature
    NumberContract 𝓤 𝓛 = words_result_refusal.spec T E tc td refusals rd ec ed 𝓛

    pub record NumberOf : Type 2 where
      -- The contract asks nothing of its caller but that the answer may be held.
      pub asks_nothing : (𝓤 : Ura M) (𝓛 : Logic 𝓤) (mem : Memory → SProp 𝓤) (run : Routine → Fun 𝓤)
          (κs : Lfts Number.signature.lifetimes) (args : Args Number.signature κs)
          (ghost : (NumberContract 𝓤 𝓛 mem run κs args).ghost)
          → (NumberContract 𝓤 𝓛 mem run κs args).requires ghost
          ≡ sep 𝓤 (fact 𝓤 (κs.0 ⊑ T.lives)) (sep 𝓤 (fact 𝓤 (κs.1.0 ⊑ E.lives)) (emp 𝓤))
      -- Its `ensures` is one promise: the number of the answer, which leaves no second one.
      pub promises : (𝓤 : Ura M) (𝓛 : Logic 𝓤) (mem : Memory → SProp 𝓤) (run : Routine → Fun 𝓤)
          (κs : Lfts Number.signature.lifetimes) (args : Args Number.signature κs)
          (ghost : (NumberContract 𝓤 𝓛 mem run κs args).ghost) (r : Res Number.signature κs)
          → (NumberContract 𝓤 𝓛 mem run κs args).ensures ghost r
          ≡ exits 𝓛 Number.signature Number.kept κs args
          (λ end. (connectives 𝓤).⌜◌⌝ (r ≡ number_of_answer refusals.number args.0))

  -- The code meets this contract at every two types, and the contract is that promise.
  pub record EveryAnswerNumbered : Type 2 where
    pub meets : words_result_refusal_statement.statement M
    pub each : (T E : RattleType) (tc : Clone.Ghosts T.Denot) (td : Dict) (refusals : Refusal.Ghosts E.Denot) (rd : Dict)
        (ec : Clone.Ghosts E.Denot) (ed : Dict) → NumberOf T E tc td refusals rd ec ed

  pub record EveryCallOver : Type 2 where
    -- The number of every answer
    pub words_result_refusal : EveryAnswerNumbered
    -- Identifier
    pub frame_take_apart :
        Answers frame_take_apart.ended frame_take_apart_symbol.code frame_take_apart_symbol.name
        (λ 𝓤 𝓛. frame_take_apart.spec 𝓛) Frame.TakeApartOnly
    pub frame_bad_identifier_refusal :
        Answers frame_bad_identifier_refusal.ended frame_bad_identifier_refusal_symbol.code frame_bad_identifier_refusal_symbol.name
        (λ 𝓤 𝓛. frame_bad_identifier_refusal.spec 𝓛) Frame.BadIdentifierRefusalOnly
    pub frame_not_formed_refusal :
        Answers frame_not_formed_refusal.ended frame_not_formed_refusal_symbol.code frame_not_formed_refusal_symbol.name
        (λ 𝓤 𝓛. frame_not_formed_refusal.spec 𝓛) Frame.NotFormedRefusalOnly
    pub frame_bad_frame_refusal :
        Answers frame_bad_frame_refusal.ended frame_bad_frame_refusal_symbol.code frame_bad_frame_refusal_symbol.name
        (λ 𝓤 𝓛. frame_bad_frame_refusal.spec 𝓛) Frame.BadFrameRefusalOnly
    pub frame_form :
        Answers frame_form.ended frame_form_symbol.code frame_form_symbol.name
        (λ 𝓤 𝓛. frame_form.spec 𝓛) Frame.FormOnly
    pub frame_check :
        Answers frame_check.ended frame_check_symbol.code frame_check_symbol.name
        (λ 𝓤 𝓛. frame_check.spec 𝓛) Frame.CheckOnly
    pub frame_destination_of :
        Answers frame_destination_of.ended frame_destination_of_symbol.code frame_destination_of_symbol.name
        (λ 𝓤 𝓛. frame_destination_of.spec 𝓛) Frame.DestinationOfOnly
    pub frame_catalogue_form :
        Answers frame_catalogue_form.ended frame_catalogue_form_symbol.code frame_catalogue_form_symbol.name
        (λ 𝓤 𝓛. frame_catalogue_form.spec 𝓛) Frame.CatalogueFormOnly
    pub frame_number_of :
        Answers frame_number_of.ended frame_number_of_symbol.code frame_number_of_symbol.name
        (λ 𝓤 𝓛. frame_number_of.spec 𝓛) Frame.NumberOfOnly
    pub frame_bytes_of :
        Answers frame_bytes_of.ended frame_bytes_of_symbol.code frame_bytes_of_symbol.name
        (λ 𝓤 𝓛. frame_bytes_of.spec 𝓛) Frame.BytesOfOnly
    pub frame_dgn_bytes :
        Answers frame_dgn_bytes.ended frame_dgn_bytes_symbol.code frame_dgn_bytes_symbol.name
        (λ 𝓤 𝓛. frame_dgn_bytes.spec 𝓛) Frame.DgnBytesOnly
    pub frame_dgn_of :
        Answers frame_dgn_of.ended frame_dgn_of_symbol.code frame_dgn_of_symbol.name
        (λ 𝓤 𝓛. frame_dgn_of.spec 𝓛) Frame.DgnOfOnly
    -- Long messages, eight senders at once
    pub message_new :
        Answers message_new.ended message_new_symbol.code message_new_symbol.name
        (λ 𝓤 𝓛. message_new.spec 𝓛) Message.NewOnly
    pub message_hear :
        Answers message_hear.ended message_hear_symbol.code message_hear_symbol.name
        (λ 𝓤 𝓛. message_hear.spec 𝓛) Message.HearOnly
    pub message_not_heard_refusal :
        Answers message_not_heard_refusal.ended message_not_heard_refusal_symbol.code message_not_heard_refusal_symbol.name
        (λ 𝓤 𝓛. message_not_heard_refusal.spec 𝓛) Message.NotHeardRefusalOnly
    pub message_bad_state_refusal :
        Answers message_bad_state_refusal.ended message_bad_state_refusal_symbol.code message_bad_state_refusal_symbol.name
        (λ 𝓤 𝓛. message_bad_state_refusal.spec 𝓛) Message.BadStateRefusalOnly
    pub message_unsplittable_refusal :
        Answers message_unsplittable_refusal.ended message_unsplittable_refusal_symbol.code message_unsplittable_refusal_symbol.name
        (λ 𝓤 𝓛. message_unsplittable_refusal.spec 𝓛) Message.UnsplittableRefusalOnly
    pub message_not_split_refusal :
        Answers message_not_split_refusal.ended message_not_split_refusal_symbol.code message_not_split_refusal_symbol.name
        (λ 𝓤 𝓛. message_not_split_refusal.spec 𝓛) Message.NotSplitRefusalOnly
    pub message_pause :
        Answers message_pause.ended message_pause_symbol.code message_pause_symbol.name
        (λ 𝓤 𝓛. message_pause.spec 𝓛) Message.PauseOnly
    -- the answer is a part of the storage: two are the same that have the same bytes
    pub message_message :
        AnswersBy message_message.ended message_message_symbol.code message_message_symbol.name
        (λ 𝓤 𝓛. message_message.spec 𝓛) (λ κs r s. r.now ≡ s.now) Message.MessageOnly
    pub message_announcement :
        Answers message_announcement.ended message_announcement_symbol.code message_announcement_symbol.name
        (λ 𝓤 𝓛. message_announcement.spec 𝓛) Message.AnnouncementOnly
    pub message_packet :
        Answers message_packet.ended message_packet_symbol.code message_packet_symbol.name
        (λ 𝓤 𝓛. message_packet.spec 𝓛) Message.PacketOnly
    -- Fast packets
    pub fast_start :
        Answers fast_start.ended fast_start_symbol.code fast_start_symbol.name
        (λ 𝓤 𝓛. fast_start.spec 𝓛) Fast.StartOnly
    pub fast_bad_list_refusal :
        Answers fast_bad_list_refusal.ended fast_bad_list_refusal_symbol.code fast_bad_list_refusal_symbol.name
        (λ 𝓤 𝓛. fast_bad_list_refusal.spec 𝓛) Fast.BadListRefusalOnly
    pub fast_not_heard_refusal :
        Answers fast_not_heard_refusal.ended fast_not_heard_refusal_symbol.code fast_not_heard_refusal_symbol.name
        (λ 𝓤 𝓛. fast_not_heard_refusal.spec 𝓛) Fast.NotHeardRefusalOnly
    pub fast_bad_state_refusal :
        Answers fast_bad_state_refusal.ended fast_bad_state_refusal_symbol.code fast_bad_state_refusal_symbol.name
        (λ 𝓤 𝓛. fast_bad_state_refusal.spec 𝓛) Fast.BadStateRefusalOnly
    pub fast_not_split_refusal :
        Answers fast_not_split_refusal.ended fast_not_split_refusal_symbol.code fast_not_split_refusal_symbol.name
        (λ 𝓤 𝓛. fast_not_split_refusal.spec 𝓛) Fast.NotSplitRefusalOnly
    pub fast_hear :
        Answers fast_hear.ended fast_hear_symbol.code fast_hear_symbol.name
        (λ 𝓤 𝓛. fast_hear.spec 𝓛) Fast.HearOnly
    pub fast_pause :
        Answers fast_pause.ended fast_pause_symbol.code fast_pause_symbol.name
        (λ 𝓤 𝓛. fast_pause.spec 𝓛) Fast.PauseOnly
    pub fast_message :
        AnswersBy fast_message.ended fast_message_symbol.code fast_message_symbol.name
        (λ 𝓤 𝓛. fast_message.spec 𝓛) (λ κs r s. r.now ≡ s.now) Fast.MessageOnly
    pub fast_frame_of :
        Answers fast_frame_of.ended fast_frame_of_symbol.code fast_frame_of_symbol.name
        (λ 𝓤 𝓛. fast_frame_of.spec 𝓛) Fast.FrameOfOnly
    -- Field catalogue
    pub catalogue_rows :
        Answers catalogue_rows.ended catalogue_rows_symbol.code catalogue_rows_symbol.name
        (λ 𝓤 𝓛. catalogue_rows.spec 𝓛) Catalogue.RowsOnly
    pub catalogue_row_at :
        Answers catalogue_row_at.ended catalogue_row_at_symbol.code catalogue_row_at_symbol.name
        (λ 𝓤 𝓛. catalogue_row_at.spec 𝓛) Catalogue.RowAtOnly
    pub catalogue_rows_of :
        Answers catalogue_rows_of.ended catalogue_rows_of_symbol.code catalogue_rows_of_symbol.name
        (λ 𝓤 𝓛. catalogue_rows_of.spec 𝓛) Catalogue.RowsOfOnly
    pub catalogue_has_instance :
        Answers catalogue_has_instance.ended catalogue_has_instance_symbol.code catalogue_has_instance_symbol.name
        (λ 𝓤 𝓛. catalogue_has_instance.spec 𝓛) Catalogue.HasInstanceOnly
    pub catalogue_steps_in_one :
        Answers catalogue_steps_in_one.ended catalogue_steps_in_one_symbol.code catalogue_steps_in_one_symbol.name
        (λ 𝓤 𝓛. catalogue_steps_in_one.spec 𝓛) Catalogue.StepsInOneOnly
    pub catalogue_classify :
        Answers catalogue_classify.ended catalogue_classify_symbol.code catalogue_classify_symbol.name
        (λ 𝓤 𝓛. catalogue_classify.spec 𝓛) Catalogue.ClassifyOnly
    pub catalogue_read :
        Answers catalogue_read.ended catalogue_read_symbol.code catalogue_read_symbol.name
        (λ 𝓤 𝓛. catalogue_read.spec 𝓛) Catalogue.ReadOnly
    pub catalogue_read_scaled :
        Answers catalogue_read_scaled.ended catalogue_read_scaled_symbol.code catalogue_read_scaled_symbol.name
        (λ 𝓤 𝓛. catalogue_read_scaled.spec 𝓛) Catalogue.ReadScaledOnly
    pub catalogue_write :
        Answers catalogue_write.ended catalogue_write_symbol.code catalogue_write_symbol.name
        (λ 𝓤 𝓛. catalogue_write.spec 𝓛) Catalogue.WriteOnly
    pub catalogue_not_found_refusal :
        Answers catalogue_not_found_refusal.ended catalogue_not_found_refusal_symbol.code catalogue_not_found_refusal_symbol.name
        (λ 𝓤 𝓛. catalogue_not_found_refusal.spec 𝓛) Catalogue.NotFoundRefusalOnly
    pub catalogue_not_read_refusal :
        Answers catalogue_not_read_refusal.ended catalogue_not_read_refusal_symbol.code catalogue_not_read_refusal_symbol.name
        (λ 𝓤 𝓛. catalogue_not_read_refusal.spec 𝓛) Catalogue.NotReadRefusalOnly
    pub catalogue_not_written_refusal :
        Answers catalogue_not_written_refusal.ended catalogue_not_written_refusal_symbol.code catalogue_not_written_refusal_symbol.name
        (λ 𝓤 𝓛. catalogue_not_written_refusal.spec 𝓛) Catalogue.NotWrittenRefusalOnly
    pub catalogue_row_of :
        Answers catalogue_row_of.ended catalogue_row_of_symbol.code catalogue_row_of_symbol.name
        (λ 𝓤 𝓛. catalogue_row_of.spec 𝓛) Catalogue.RowOfOnly
    pub catalogue_packed_rows :
        Answers catalogue_packed_rows.ended catalogue_packed_rows_symbol.code catalogue_packed_rows_symbol.name
        (λ 𝓤 𝓛. catalogue_packed_rows.spec 𝓛) Catalogue.PackedRowsOnly
    pub catalogue_row_in :
        Answers catalogue_row_in.ended catalogue_row_in_symbol.code catalogue_row_in_symbol.name
        (λ 𝓤 𝓛. catalogue_row_in.spec 𝓛) Catalogue.RowInOnly
    pub catalogue_rows_in :
        Answers catalogue_rows_in.ended catalogue_rows_in_symbol.code catalogue_rows_in_symbol.name
        (λ 𝓤 𝓛. catalogue_rows_in.spec 𝓛) Catalogue.RowsInOnly
    pub catalogue_row_of_in :
        Answers catalogue_row_of_in.ended catalogue_row_of_in_symbol.code catalogue_row_of_in_symbol.name
        (λ 𝓤 𝓛. catalogue_row_of_in.spec 𝓛) Catalogue.RowOfInOnly
    pub catalogue_read_row :
        Answers catalogue_read_row.ended catalogue_read_row_symbol.code catalogue_read_row_symbol.name
        (λ 𝓤 𝓛. catalogue_read_row.spec 𝓛) Catalogue.ReadRowOnly
    pub catalogue_read_row_scaled :
        Answers catalogue_read_row_scaled.ended catalogue_read_row_scaled_symbol.code catalogue_read_row_scaled_symbol.name
        (λ 𝓤 𝓛. catalogue_read_row_scaled.spec 𝓛) Catalogue.ReadRowScaledOnly
    pub catalogue_write_row :
        Answers catalogue_write_row.ended catalogue_write_row_symbol.code catalogue_write_row_symbol.name
        (λ 𝓤 𝓛. catalogue_write_row.spec 𝓛) Catalogue.WriteRowOnly
    -- Claiming an address
    pub claim_start :
        Answers claim_start.ended claim_start_symbol.code claim_start_symbol.name
        (λ 𝓤 𝓛. claim_start.spec 𝓛) Claim.StartOnly
    pub claim_hear :
        Answers claim_hear.ended claim_hear_symbol.code claim_hear_symbol.name
        (λ 𝓤 𝓛. claim_hear.spec 𝓛) Claim.HearOnly
    pub claim_pause :
        Answers claim_pause.ended claim_pause_symbol.code claim_pause_symbol.name
        (λ 𝓤 𝓛. claim_pause.spec 𝓛) Claim.PauseOnly
    pub claim_stands :
        Answers claim_stands.ended claim_stands_symbol.code claim_stands_symbol.name
        (λ 𝓤 𝓛. claim_stands.spec 𝓛) Claim.StandsOnly
    pub claim_our_claim :
        Answers claim_our_claim.ended claim_our_claim_symbol.code claim_our_claim_symbol.name
        (λ 𝓤 𝓛. claim_our_claim.spec 𝓛) Claim.OurClaimOnly
    pub claim_keeps_rules :
        Answers claim_keeps_rules.ended claim_keeps_rules_symbol.code claim_keeps_rules_symbol.name
        (λ 𝓤 𝓛. claim_keeps_rules.spec 𝓛) Claim.KeepsRulesOnly
    pub claim_holds_list :
        Answers claim_holds_list.ended claim_holds_list_symbol.code claim_holds_list_symbol.name
        (λ 𝓤 𝓛. claim_holds_list.spec 𝓛) Claim.HoldsListOnly
    pub claim_not_started_refusal :
        Answers claim_not_started_refusal.ended claim_not_started_refusal_symbol.code claim_not_started_refusal_symbol.name
        (λ 𝓤 𝓛. claim_not_started_refusal.spec 𝓛) Claim.NotStartedRefusalOnly
    pub claim_not_heard_refusal :
        Answers claim_not_heard_refusal.ended claim_not_heard_refusal_symbol.code claim_not_heard_refusal_symbol.name
        (λ 𝓤 𝓛. claim_not_heard_refusal.spec 𝓛) Claim.NotHeardRefusalOnly
    pub claim_bad_state_refusal :
        Answers claim_bad_state_refusal.ended claim_bad_state_refusal_symbol.code claim_bad_state_refusal_symbol.name
        (λ 𝓤 𝓛. claim_bad_state_refusal.spec 𝓛) Claim.BadStateRefusalOnly
    -- Node table
    pub nodes_empty :
        Answers nodes_empty.ended nodes_empty_symbol.code nodes_empty_symbol.name
        (λ 𝓤 𝓛. nodes_empty.spec 𝓛) Nodes.EmptyOnly
    pub nodes_hear :
        Answers nodes_hear.ended nodes_hear_symbol.code nodes_hear_symbol.name
        (λ 𝓤 𝓛. nodes_hear.spec 𝓛) Nodes.HearOnly
    pub nodes_pause :
        Answers nodes_pause.ended nodes_pause_symbol.code nodes_pause_symbol.name
        (λ 𝓤 𝓛. nodes_pause.spec 𝓛) Nodes.PauseOnly
    pub nodes_look_up :
        Answers nodes_look_up.ended nodes_look_up_symbol.code nodes_look_up_symbol.name
        (λ 𝓤 𝓛. nodes_look_up.spec 𝓛) Nodes.LookUpOnly
    pub nodes_find_address :
        Answers nodes_find_address.ended nodes_find_address_symbol.code nodes_find_address_symbol.name
        (λ 𝓤 𝓛. nodes_find_address.spec 𝓛) Nodes.FindAddressOnly
    pub nodes_find_challenger :
        Answers nodes_find_challenger.ended nodes_find_challenger_symbol.code nodes_find_challenger_symbol.name
        (λ 𝓤 𝓛. nodes_find_challenger.spec 𝓛) Nodes.FindChallengerOnly
    pub nodes_bad_table_refusal :
        Answers nodes_bad_table_refusal.ended nodes_bad_table_refusal_symbol.code nodes_bad_table_refusal_symbol.name
        (λ 𝓤 𝓛. nodes_bad_table_refusal.spec 𝓛) Nodes.BadTableRefusalOnly
    pub nodes_not_heard_refusal :
        Answers nodes_not_heard_refusal.ended nodes_not_heard_refusal_symbol.code nodes_not_heard_refusal_symbol.name
        (λ 𝓤 𝓛. nodes_not_heard_refusal.spec 𝓛) Nodes.NotHeardRefusalOnly
    -- Commands, requests, replies
    pub command_start :
        Answers command_start.ended command_start_symbol.code command_start_symbol.name
        (λ 𝓤 𝓛. command_start.spec 𝓛) Command.StartOnly
    pub command_route :
        Answers command_route.ended command_route_symbol.code command_route_symbol.name
        (λ 𝓤 𝓛. command_route.spec 𝓛) Command.RouteOnly
    pub command_request :
        Answers command_request.ended command_request_symbol.code command_request_symbol.name
        (λ 𝓤 𝓛. command_request.spec 𝓛) Command.RequestOnly
    pub command_acknowledge :
        Answers command_acknowledge.ended command_acknowledge_symbol.code command_acknowledge_symbol.name
        (λ 𝓤 𝓛. command_acknowledge.spec 𝓛) Command.AcknowledgeOnly
    pub command_not_started_refusal :
        Answers command_not_started_refusal.ended command_not_started_refusal_symbol.code command_not_started_refusal_symbol.name
        (λ 𝓤 𝓛. command_not_started_refusal.spec 𝓛) Command.NotStartedRefusalOnly
    pub command_not_routed_refusal :
        Answers command_not_routed_refusal.ended command_not_routed_refusal_symbol.code command_not_routed_refusal_symbol.name
        (λ 𝓤 𝓛. command_not_routed_refusal.spec 𝓛) Command.NotRoutedRefusalOnly
    pub command_not_answered_refusal :
        Answers command_not_answered_refusal.ended command_not_answered_refusal_symbol.code command_not_answered_refusal_symbol.name
        (λ 𝓤 𝓛. command_not_answered_refusal.spec 𝓛) Command.NotAnsweredRefusalOnly
    pub command_not_acknowledged_refusal :
        Answers command_not_acknowledged_refusal.ended command_not_acknowledged_refusal_symbol.code command_not_acknowledged_refusal_symbol.name
        (λ 𝓤 𝓛. command_not_acknowledged_refusal.spec 𝓛) Command.NotAcknowledgedRefusalOnly
    -- Faults
    pub faults_packed_rows :
        Answers faults_packed_rows.ended faults_packed_rows_symbol.code faults_packed_rows_symbol.name
        (λ 𝓤 𝓛. faults_packed_rows.spec 𝓛) Faults.PackedRowsOnly
    pub faults_row_at :
        Answers faults_row_at.ended faults_row_at_symbol.code faults_row_at_symbol.name
        (λ 𝓤 𝓛. faults_row_at.spec 𝓛) Faults.RowAtOnly
    pub faults_read :
        Answers faults_read.ended faults_read_symbol.code faults_read_symbol.name
        (λ 𝓤 𝓛. faults_read.spec 𝓛) Faults.ReadOnly
    pub faults_write :
        Answers faults_write.ended faults_write_symbol.code faults_write_symbol.name
        (λ 𝓤 𝓛. faults_write.spec 𝓛) Faults.WriteOnly
    pub faults_read_service_point :
        Answers faults_read_service_point.ended faults_read_service_point_symbol.code faults_read_service_point_symbol.name
        (λ 𝓤 𝓛. faults_read_service_point.spec 𝓛) Faults.ReadServicePointOnly
    pub faults_write_service_point :
        Answers faults_write_service_point.ended faults_write_service_point_symbol.code faults_write_service_point_symbol.name
        (λ 𝓤 𝓛. faults_write_service_point.spec 𝓛) Faults.WriteServicePointOnly
    pub faults_not_added_refusal :
        Answers faults_not_added_refusal.ended faults_not_added_refusal_symbol.code faults_not_added_refusal_symbol.name
        (λ 𝓤 𝓛. faults_not_added_refusal.spec 𝓛) Faults.NotAddedRefusalOnly
    pub faults_not_cleared_refusal :
        Answers faults_not_cleared_refusal.ended faults_not_cleared_refusal_symbol.code faults_not_cleared_refusal_symbol.name
        (λ 𝓤 𝓛. faults_not_cleared_refusal.spec 𝓛) Faults.NotClearedRefusalOnly
    pub faults_not_stepped_refusal :
        Answers faults_not_stepped_refusal.ended faults_not_stepped_refusal_symbol.code faults_not_stepped_refusal_symbol.name
        (λ 𝓤 𝓛. faults_not_stepped_refusal.spec 𝓛) Faults.NotSteppedRefusalOnly
    pub faults_not_heard_refusal :
        Answers faults_not_heard_refusal.ended faults_not_heard_refusal_symbol.code faults_not_heard_refusal_symbol.name
        (λ 𝓤 𝓛. faults_not_heard_refusal.spec 𝓛) Faults.NotHeardRefusalOnly
    pub faults_start :
        Answers faults_start.ended faults_start_symbol.code faults_start_symbol.name
        (λ 𝓤 𝓛. faults_start.spec 𝓛) Faults.StartOnly
    pub faults_add :
        Answers faults_add.ended faults_add_symbol.code faults_add_symbol.name
        (λ 𝓤 𝓛. faults_add.spec 𝓛) Faults.AddOnly
    pub faults_clear :
        Answers faults_clear.ended faults_clear_symbol.code faults_clear_symbol.name
        (λ 𝓤 𝓛. faults_clear.spec 𝓛) Faults.ClearOnly
    pub faults_step :
        Answers faults_step.ended faults_step_symbol.code faults_step_symbol.name
        (λ 𝓤 𝓛. faults_step.spec 𝓛) Faults.StepOnly
    pub faults_request :
        Answers faults_request.ended faults_request_symbol.code faults_request_symbol.name
        (λ 𝓤 𝓛. faults_request.spec 𝓛) Faults.RequestOnly
    pub faults_reply :
        Answers faults_reply.ended faults_reply_symbol.code faults_reply_symbol.name
        (λ 𝓤 𝓛. faults_reply.spec 𝓛) Faults.ReplyOnly
    -- The capture reader
    pub capture_take_apart :
        Answers capture_take_apart.ended capture_take_apart_symbol.code capture_take_apart_symbol.name
        (λ 𝓤 𝓛. capture_take_apart.spec 𝓛) Capture.TakeApartOnly
    pub capture_not_read_refusal :
        Answers capture_not_read_refusal.ended capture_not_read_refusal_symbol.code capture_not_read_refusal_symbol.name
        (λ 𝓤 𝓛. capture_not_read_refusal.spec 𝓛) Capture.NotReadRefusalOnly
    pub capture_write :
        Answers capture_write.ended capture_write_symbol.code capture_write_symbol.name
        (λ 𝓤 𝓛. capture_write.spec 𝓛) Capture.WriteOnly
    pub capture_new :
        Answers capture_new.ended capture_new_symbol.code capture_new_symbol.name
        (λ 𝓤 𝓛. capture_new.spec 𝓛) Capture.NewOnly
    pub capture_next :
        Answers capture_next.ended capture_next_symbol.code capture_next_symbol.name
        (λ 𝓤 𝓛. capture_next.spec 𝓛) Capture.NextOnly
    pub capture_last :
        Answers capture_last.ended capture_last_symbol.code capture_last_symbol.name
        (λ 𝓤 𝓛. capture_last.spec 𝓛) Capture.LastOnly
    -- Text put into lent bytes
    pub text_put :
        Answers text_put.ended text_put_symbol.code text_put_symbol.name
        (λ 𝓤 𝓛. text_put.spec 𝓛) Text.PutOnly
    pub text_put_decimal :
        Answers text_put_decimal.ended text_put_decimal_symbol.code text_put_decimal_symbol.name
        (λ 𝓤 𝓛. text_put_decimal.spec 𝓛) Text.PutDecimalOnly
    pub text_put_hex :
        Answers text_put_hex.ended text_put_hex_symbol.code text_put_hex_symbol.name
        (λ 𝓤 𝓛. text_put_hex.spec 𝓛) Text.PutHexOnly
    pub text_put_bytes :
        Answers text_put_bytes.ended text_put_bytes_symbol.code text_put_bytes_symbol.name
        (λ 𝓤 𝓛. text_put_bytes.spec 𝓛) Text.PutBytesOnly
    pub text_decimal_width :
        Answers text_decimal_width.ended text_decimal_width_symbol.code text_decimal_width_symbol.name
        (λ 𝓤 𝓛. text_decimal_width.spec 𝓛) Text.DecimalWidthOnly
    -- The wall panel, above the library
    pub tiles_new :
        Answers tiles_new.ended tiles_new_symbol.code tiles_new_symbol.name
        (λ 𝓤 𝓛. tiles_new.spec 𝓛) Tiles.NewOnly
    pub tiles_name :
        Answers tiles_name.ended tiles_name_symbol.code tiles_name_symbol.name
        (λ 𝓤 𝓛. tiles_name.spec 𝓛) Tiles.NameOnly
    pub tiles_hear :
        Answers tiles_hear.ended tiles_hear_symbol.code tiles_hear_symbol.name
        (λ 𝓤 𝓛. tiles_hear.spec 𝓛) Tiles.HearOnly
    pub tiles_reading :
        Answers tiles_reading.ended tiles_reading_symbol.code tiles_reading_symbol.name
        (λ 𝓤 𝓛. tiles_reading.spec 𝓛) Tiles.ReadTileOnly
    pub tiles_not_named_refusal :
        Answers tiles_not_named_refusal.ended tiles_not_named_refusal_symbol.code tiles_not_named_refusal_symbol.name
        (λ 𝓤 𝓛. tiles_not_named_refusal.spec 𝓛) Tiles.NotNamedRefusalOnly
    pub tiles_not_heard_refusal :
        Answers tiles_not_heard_refusal.ended tiles_not_heard_refusal_symbol.code tiles_not_heard_refusal_symbol.name
        (λ 𝓤 𝓛. tiles_not_heard_refusal.spec 𝓛) Tiles.NotHeardRefusalOnly
    pub tiles_not_shown_refusal :
        Answers tiles_not_shown_refusal.ended tiles_not_shown_refusal_symbol.code tiles_not_shown_refusal_symbol.name
        (λ 𝓤 𝓛. tiles_not_shown_refusal.spec 𝓛) Tiles.NotShownRefusalOnly

abbrev pub EveryCall : Type 2
EveryCall = (M : Type 1) → EveryCallOver M
