-- `command::place::of` meets its contract. Assumes nothing.
use Rattle.command.proofs.Answers.{sound_stands, stands_ok}
use Rattle.command.proofs.place.of.Goals as goal

pub unwrap-requires : goal.unwrap-requires
unwrap-requires c = stands_ok _ _ (sound_stands _ c.stands.result c.requires c.stands.ensures.answer)
