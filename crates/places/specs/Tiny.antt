-- A made-up format, small enough to run by hand: the statements hold for more than one format (RULES 13.5), and an
-- opening that finishes at once is seen at work. A frame has a key, a number and a byte. Number 0 is a message by
-- itself, that byte; 1 to 9 opens one that needs so many packets; any other is a packet, and brings its byte.
use Rattle.std.specs.Prelude.{◌≡◌, List, [], ◌∷◌, ◌++◌, ℕ, ◌+◌, ◌-◌, if◌then◌else◌}
use Rattle.std.proofs.Math.Option.{Option, some, none}
use Rattle.words.specs.Words.{◌<?◌, ◌≤?◌, ◌=?◌}
use Rattle.places.specs.Format.{Asks, opens, finishes, feeds, Fed, goes, ends, Format, Event, frame, pause}
use Rattle.places.specs.Places.{free, held, Out, full, said, heard, paused, closed_by, eight_free, after, History}
use Rattle.places.specs.Statements.{on_busy_bus, OpenAsRules, ToldAsRules, BusyAsQuiet}
use Rattle.places.specs.Statements.{FullExactlyWhen, ClosesAsRules, Pausing, SumsOfPauses}

pub record Card : Type 0 where
  pub key : ℕ
  pub number : ℕ
  pub byte : ℕ

pub record Pile : Type 0 where
  pub size : ℕ
  pub missing : ℕ
  pub idle : ℕ
  pub bytes : List ℕ

pub data Word : Type 0 where
  opened stored unknown : Word
  finished : List ℕ → Word

abbrev pub most_packets : ℕ
most_packets = 9

abbrev pub tiny_idle_limit : ℕ
tiny_idle_limit = 100

abbrev pub new_pile : ℕ → Pile
new_pile n = record { size = n; missing = n; idle = 0; bytes = [] }

unfoldable pub tiny_asks : ℕ → ℕ → Asks Pile ℕ Word
tiny_asks n byte =
    if n =? 0 then finishes (finished (byte ∷ [])) else
    if n ≤? most_packets then opens (new_pile n) opened else
    feeds byte unknown

unfoldable pub tiny_feed : Pile → ℕ → Fed Pile Word
tiny_feed p byte =
    if p.missing ≤? 1
    then ends (finished (p.bytes ++ (byte ∷ [])))
    else goes (record { size = p.size; missing = p.missing - 1; idle = 0; bytes = p.bytes ++ (byte ∷ []) }) stored

unfoldable pub tiny_wait : ℕ → Pile → Option Pile
tiny_wait ms p =
    if tiny_idle_limit <? p.idle + ms then none else
    some (record { size = p.size; missing = p.missing; idle = p.idle + ms; bytes = p.bytes })

abbrev pub tiny : Format
tiny = record {
  Session = Pile;
  Data = ℕ;
  Answer = Word;
  Frame = Card;
  key = λ c. c.key;
  asks = λ c. tiny_asks c.number c.byte;
  feed = tiny_feed;
  wait = tiny_wait;
}

abbrev pub card : ℕ → ℕ → ℕ → Event Card
card key number byte = frame (record { key = key; number = number; byte = byte })

-- Nine keys: eight open, the ninth's message by itself finds no place. Packets finish the third's, and then the ninth
-- is heard; the place is left free.
abbrev pub nine_keys : List (Event Card)
nine_keys =
    card 1 2 0 ∷ card 2 2 0 ∷ card 3 2 0 ∷ card 4 2 0 ∷ card 5 2 0 ∷ card 6 2 0 ∷ card 7 2 0 ∷ card 8 2 0 ∷
    card 9 0 77 ∷ card 3 10 31 ∷ pause 60 ∷ card 3 10 32 ∷ card 9 0 90 ∷ card 6 0 60 ∷ card 9 4 0 ∷ []

-- the answers alone, each with the key that it is told to
abbrev pub answers_in : History tiny → List (ℕ × Out Word)
answers_in [] = []
answers_in (heard c o ∷ h) = (c.key, o) ∷ answers_in h
answers_in (paused ms n ∷ h) = answers_in h

abbrev pub NineKeysTold : Type 0
NineKeysTold =
    answers_in (on_busy_bus tiny nine_keys)
    ≡ (1, said opened) ∷ (2, said opened) ∷ (3, said opened) ∷ (4, said opened)
    ∷ (5, said opened) ∷ (6, said opened) ∷ (7, said opened) ∷ (8, said opened)
    ∷ (9, full) ∷ (3, said stored) ∷ (3, said (finished (31 ∷ 32 ∷ []))) ∷ (9, said (finished (90 ∷ [])))
    ∷ (6, said (finished (60 ∷ []))) ∷ (9, said opened) ∷ []

-- The ninth's last opening took the lowest free place, the third's. A pause of 41 closes those that have been idle for
-- 60.
abbrev pub NineKeysAfter : Type 0
NineKeysAfter =
    let waited : Pile = record { size = 2; missing = 2; idle = 60; bytes = [] } in
    after tiny (eight_free tiny) nine_keys
    ≡ held 1 waited ∷ held 2 waited ∷ held 9 (new_pile 4) ∷ held 4 waited
    ∷ held 5 waited ∷ free ∷ held 7 waited ∷ held 8 waited ∷ []

abbrev pub NineKeysPaused : Type 0
NineKeysPaused =
    (closed_by tiny 40 (after tiny (eight_free tiny) nine_keys) ≡ 0)
    × (closed_by tiny 41 (after tiny (eight_free tiny) nine_keys) ≡ 6)

-- The statements at this format.

abbrev pub TinyBusyAsQuiet : Type 0
TinyBusyAsQuiet = BusyAsQuiet tiny

abbrev pub TinyOpenAsRules : Type 0
TinyOpenAsRules = OpenAsRules tiny

abbrev pub TinyToldAsRules : Type 0
TinyToldAsRules = ToldAsRules tiny

abbrev pub TinyFullExactlyWhen : Type 0
TinyFullExactlyWhen = FullExactlyWhen tiny

abbrev pub TinyClosesAsRules : Type 0
TinyClosesAsRules = ClosesAsRules tiny

abbrev pub TinyPausing : Type 1
TinyPausing = Pausing tiny

abbrev pub TinySumsOfPauses : Type 1
TinySumsOfPauses = SumsOfPauses tiny
