-- What the private functions of this crate promise, where it is no definition of the others (for RULES 4 and 5).
use Rattle.std.specs.Prelude.{◌≡◌, List, map, ℕ, ◌≤◌}
use Rattle.words.specs.Words.{Told, refused, gives}
use Rattle.words.specs.Lists.{count}
use Rattle.message.specs.LongMessage.{longest, packets_of, Meaning, other, announcement, packet}
use Rattle.message.specs.Receiver.{closes, idled}
use Rattle.message.specs.Promises.{told_pausing}
use Rattle.message.specs.declared.Place.{Place}
use Rattle.message.specs.declared.Paused.{Paused}
use Rattle.message.specs.declared.meaning.Meant.{Meant}
use Rattle.message.specs.declared.meaning.Meant.TheVariants.{Malformed, Other, Announcement, Packet}

abbrev pub told_meant : Meant → Told Meaning
told_meant Malformed = refused 7
told_meant Other = gives other
told_meant (Announcement sender size dgn) = gives (announcement (record { sender = sender; size = size; dgn = dgn }))
told_meant (Packet sender number) = gives (packet (record { sender = sender; number = number }))

-- what an open place's message still needs
pub record Live (p : Place) : Type 0 where
  pub short : p.length ≤ longest
  pub begun : 1 ≤ p.expected
  pub within : p.expected ≤ packets_of p.length

-- each place after the pause, and how many closed
pub record PausedBy (ms : ℕ) (state : List Place) (r : Paused) : Type 0 where
  pub places : r.receiver.places ≡ map (idled ms) state
  pub answer : told_pausing r.answer ≡ gives (count (closes ms) state)
