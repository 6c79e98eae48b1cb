-- `busread::step::put_answer` meets its contract. Assumes nothing.
use mathlib.Core.Path.{sym, ◌∙◌}
use Rattle.message.specs.Promises.{told_answer}
use Rattle.capture.specs.Promises.{frame_in}
use Rattle.text.proofs.Pieces.{nothing}
use Rattle.busread.proofs.Printing.{prints, message_bytes, message_most}
use native.Mathlib.Omega.{arith}
use Rattle.busread.proofs.step.put_answer.Goals as goal

pub put_message-requires : goal.put_message-requires
put_message-requires c = (omega arith, rw (message_bytes (omega arith) c.message-bytes.ensures) (message_most c.args.storage.now (told_answer c.args.answer)))

pub returns-in-Refused : goal.returns-in-Refused
returns-in-Refused c = (rw (prints c.args.number (frame_in c.args.line) c.args.storage.now (told_answer c.args.answer) (sym c.print_of.ensures ∙ c.in-Refused.is)) c.put_refusal.ensures.0, omega arith)

pub returns-in-Message : goal.returns-in-Message
returns-in-Message c = (rw (prints c.args.number (frame_in c.args.line) c.args.storage.now (told_answer c.args.answer) (sym c.print_of.ensures ∙ c.in-Message.is), ← message_bytes (omega arith) c.message-bytes.ensures) c.put_message.ensures.0, omega arith)

pub returns-in-Fields : goal.returns-in-Fields
returns-in-Fields c = (rw (prints c.args.number (frame_in c.args.line) c.args.storage.now (told_answer c.args.answer) (sym c.print_of.ensures ∙ c.in-Fields.is)) c.put_fields.ensures.0, omega arith)

pub returns-in-Nothing : goal.returns-in-Nothing
returns-in-Nothing c = (rw (prints c.args.number (frame_in c.args.line) c.args.storage.now (told_answer c.args.answer) (sym c.print_of.ensures ∙ c.in-Nothing.is)) (nothing c.args.out.now c.args.at (omega arith)), omega arith)
