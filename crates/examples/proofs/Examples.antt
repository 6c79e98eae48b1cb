-- The worked examples of RULES 13.11: each line computes to its result.
-- Assumes nothing.
use mathlib.Core.Path.{◌≡◌, refl, ap, ap₂, ◌∙◌}
use mathlib.Core.Bool.{true}
use mathlib.Core.List.{List, [], ◌∷◌, ◌++◌}
use Prim.Native.Nat.{ℕ}
use native.Mathlib.Nat.{le_refl}
use lib.ListN.{length-replicate, replicate}
use Rattle.words.specs.Words.{◌=?◌, Told}
use Rattle.frame.specs.Identifier.{priority_of, reserved_of, dgn_of, source_of, identifier_of}
use Rattle.frame.specs.Bytes.{number_of, bytes_of}
use Rattle.frame.specs.Frame.{source_allowed, checked_of, formed_of}
use Rattle.frame.specs.Standard.{Frame}
use Rattle.words.proofs.Words.{by_test}
use Rattle.places.specs.Format.{Event, frame, pause}
use Rattle.places.specs.Places.{Place as Seat, Out, hear, run, told_to, place_count}
use Rattle.places.specs.Statements.{on_busy_bus}
use Rattle.places.proofs.View.{blank_view, view_pass}
use Rattle.places.specs.Telling.{Tells}
use Rattle.message.specs.LongMessage.{bytes_to, announced, meant, meaning_of}
use Rattle.message.specs.OneSender.{Open, long_messages}
use Rattle.message.specs.Receiver.{room, free_place, layout, idled, is_zero, place_keeps_rules, keeps_rules, closes}
use Rattle.message.specs.Receiver.{paused_answer}
use Rattle.message.specs.Splitter.{splits, announcement_bytes, announcement_of}
use Rattle.message.specs.Calls.{Held, Starts, Keeps, open_in}
use Rattle.message.specs.declared.Place.{Place}
use Rattle.catalogue.specs.Classes.{class_at}
use Rattle.catalogue.specs.Scale.{scaled_of}
use Rattle.message.proofs.Pauses.{paused_places_lem, seat_idled}
use Rattle.demands.proofs.LongReceiver.{frame_agrees, heard_by, heard_kept_rules, rested_by, rested_kept_rules}
use Rattle.demands.proofs.LongReceiver.{starts_keep}
use Rattle.claim.specs.Candidates.{is_well_formed, padded}
use Rattle.claim.specs.Claim.{keeps_rules as keeps_claim_rules, holds_list, held, stand_of}
use Rattle.claim.specs.Promises.{is_sound}
use Rattle.command.specs.Acknowledgment.{acknowledged_of}
use Rattle.command.proofs.ReplyLaws.{example_eleven}
use Rattle.examples.specs.Examples.{sent, holding9_c, slide_reply, storage_of_zeros, told_from, told_of, answers}
use Rattle.examples.specs.Examples.{eight_senders, nine_bytes, announcement54, first54, second54, ◌▸◌, end}
use Rattle.examples.specs.Examples.{AllAsPrinted}
use Rattle.examples.specs.Examples as Examples

-- the runs of examples (6) and (7), computed on the places, which need no storage

told_run : (sender : ℕ) (s : Held) → Keeps s → (events : List (Event Frame))
    → told_from sender s.receiver.places s.storage events ≡ told_to long_messages sender (run long_messages (open_in s) events)
told_run sender s k [] = refl
told_run sender s k (frame f ∷ es) =
    let a = (frame_agrees s k f).shows in
    let later : told_from sender (heard_by s k f).receiver.places (heard_by s k f).storage es
    ≡ told_to long_messages sender (run long_messages (hear long_messages f (open_in s)).next es) =
    told_run sender (heard_by s k f) (heard_kept_rules s k f) es ∙ ap (λ (ps : List (Seat Open)). told_to long_messages sender (run long_messages ps es)) a.places in
    by_test (source_of f.id =? sender)
    (λ t. rw t (ap₂ (λ (o : Out (Told Tells)) (os : List (Out (Told Tells))). o ∷ os) a.answer later))
    (λ t. rw t later)
told_run sender s k (pause ms ∷ es) =
    ap (λ (ps : List Place). told_from sender ps s.storage es) (paused_places_lem ms s.receiver.places k.rules)
    ∙ told_run sender (rested_by s k ms) (rested_kept_rules s k ms) es
    ∙ ap (λ (ps : List (Seat Open)). told_to long_messages sender (run long_messages ps es))
    (view_pass long_messages layout ms (idled ms) (seat_idled ms) s.receiver.places s.storage)

abbrev begin : Held
begin = record { receiver = record { places = replicate place_count free_place }; storage = storage_of_zeros }

begins : Starts begin
begins = record { new = record { places = refl }; enough = rw (length-replicate {A = ℕ} room 0) (le_refl room) }

told : (sender : ℕ) (events : List (Event Frame)) → answers (told_of sender events) ≡ answers (told_to long_messages sender (on_busy_bus long_messages events))
told sender events =
    ap answers (told_run sender begin (starts_keep begin begins) events
    ∙ ap (λ (ps : List (Seat Open)). told_to long_messages sender (run long_messages ps events)) (blank_view layout place_count storage_of_zeros))

ninth :
    answers
    (told_to long_messages 9 (on_busy_bus long_messages (eight_senders ++ (Examples.announcement_by 9 nine_bytes ∷ []))))
    ≡ 8 ∷ []
unfolding priority_of reserved_of dgn_of source_of identifier_of number_of source_allowed checked_of bytes_to announced meant meaning_of
ninth = refl

long : answers (told_to long_messages 0x54 (on_busy_bus long_messages (announcement54 ∷ pause 50 ∷ first54 ∷ pause 50 ∷ second54 ∷ [])))
    ≡ 0 ∷ 1 ∷ 0 ∷ 2 ∷ 0 ∷ 0x54 ∷ 0xFEEB ∷ 0x41 ∷ 0x43 ∷ 0x4D ∷ 0x45 ∷ 0x2A ∷ 0x58 ∷ 0x31 ∷ 0x2A ∷ 0x39 ∷ []
unfolding priority_of reserved_of dgn_of source_of identifier_of number_of source_allowed checked_of bytes_to announced meant meaning_of
long = refl

-- example (11)

sound : is_sound holding9_c ≡ true
unfolding keeps_claim_rules holds_list is_well_formed padded
sound = refl

holds : stand_of holding9_c ≡ held 0x9C
unfolding stand_of padded
holds = refl

eleven : sent (acknowledged_of holding9_c slide_reply)
    ≡ 0 ∷ 0x18E8449C ∷ 0x03 ∷ 0x02 ∷ 0xFF ∷ 0xFF ∷ 0x44 ∷ 0xE7 ∷ 0xFF ∷ 0x01 ∷ []
eleven = ap sent (example_eleven holding9_c sound holds)

pub all_as_printed : AllAsPrinted
unfolding priority_of reserved_of dgn_of source_of identifier_of number_of bytes_of source_allowed checked_of formed_of bytes_to announced meant meaning_of is_zero place_keeps_rules keeps_rules closes paused_answer splits announcement_bytes announcement_of class_at scaled_of
all_as_printed =
    refl ▸ refl ▸ refl ▸ refl ▸ refl ▸ refl ▸ refl ▸ refl ▸ refl ▸ refl ▸ refl ▸ refl ▸
    (told 9 (eight_senders ++ (Examples.announcement_by 9 nine_bytes ∷ [])) ∙ ninth) ▸
    (told 0x54 (announcement54 ∷ pause 50 ∷ first54 ∷ pause 50 ∷ second54 ∷ []) ∙ long) ▸
    refl ▸ refl ▸ refl ▸ refl ▸ eleven ▸ end
