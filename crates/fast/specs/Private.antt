-- What the private functions of this crate promise, where it is no definition of the others (for RULES 12).
use Rattle.std.specs.Prelude.{◌≡◌, map, ℕ, ◌≤◌, ◌<◌}
use Rattle.words.specs.Words.{Told, refused, gives}
use Rattle.words.specs.Lists.{count}
use Rattle.fast.specs.FastPacket.{first_bytes, longest, last_frame, Meaning, begins, continues}
use Rattle.fast.specs.Receiver.{holding, closes, idled}
use Rattle.fast.specs.Promises.{told_pausing}
use Rattle.fast.specs.declared.Place.{Place}
use Rattle.fast.specs.declared.Receiver.{Receiver}
use Rattle.fast.specs.declared.Paused.{Paused}
use Rattle.fast.specs.declared.meaning.Meant.{Meant}
use Rattle.fast.specs.declared.meaning.Meant.TheVariants.{Malformed, Begins, Continues}

abbrev pub told_meant : Meant → Told Meaning
told_meant Malformed = refused 7
told_meant (Begins sender dgn sequence size) =
    gives (begins (record { sender = sender; dgn = dgn; sequence = sequence; size = size }))
told_meant (Continues sender dgn sequence number) =
    gives (continues (record { sender = sender; dgn = dgn; sequence = sequence; number = number }))

-- what an open place's message still needs
pub record Live (p : Place) : Type 0 where
  pub long : first_bytes < p.length
  pub short : p.length ≤ longest
  pub begun : 1 ≤ p.expected
  pub within : p.expected ≤ last_frame p.length

-- the same DGNs, each place after the pause, and how many closed
pub record PausedBy (ms : ℕ) (state : Receiver) (r : Paused) : Type 0 where
  pub after : r.receiver ≡ holding state (map (idled ms) state.places)
  pub answer : told_pausing r.answer ≡ gives (count (closes ms) state.places)
