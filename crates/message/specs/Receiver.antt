-- The receiver: eight places over lent storage (RULES 5.1 to 5.13).
use Rattle.std.specs.Prelude.{Option, Some, None}
use Rattle.std.specs.Prelude.{refl, Bool, not, List, map, ℕ, ◌+◌, ◌-◌, ◌*◌, length, take, drop, get_or, set, if◌then◌else◌}
use Rattle.std.proofs.Math.Seq.{paste}
use Rattle.words.specs.Words.{◌<?◌, ◌≤?◌, ◌=?◌, ◌and◌, Told, refused, gives}
use Rattle.words.specs.Lists.{every, count, first, or_else}
use Rattle.frame.specs.Identifier.{greatest_dgn}
use Rattle.frame.specs.Standard.{greatest_address}
use Rattle.places.specs.Layout.{Layout, open_by, one_each}
use Rattle.places.specs.Places.{place_count}
use Rattle.places.specs.Telling.{WholeAt, Outcome, nothing_to_do, opened, stored, finished}
use Rattle.message.specs.OneSender.{Open}
use Rattle.message.specs.LongMessage.{shortest, longest, packet_bytes, packets_of, idle_limit, needed, Meaning}
use Rattle.message.specs.LongMessage.{other, announcement, packet, meaning_of}
use Rattle.message.specs.declared.Place.{Place}

-- eight places own the storage's first bytes, each as many as the longest message has
abbrev pub room : ℕ
room = place_count * longest

-- A place is free where its length is 0, which no message has; closing sets zeros.

abbrev pub free_place : Place
free_place = record { sender = 0; length = 0; dgn = 0; expected = 0; idle = 0 }

abbrev pub is_free : Place → Bool
is_free p = p.length =? 0

-- A place and its stretch of the storage are the open message: what is collected stands at the beginning of the
-- stretch.
abbrev pub open_message : Place → List ℕ → Open
open_message p stretch =
    record {
      sender = p.sender;
      size = p.length;
      dgn = p.dgn;
      expected = p.expected;
      idle = p.idle;
      collected = take (packet_bytes * (p.expected - 1)) stretch;
    }

abbrev pub layout : Layout Place Open
layout =
    record {
      is_free = is_free;
      key_of = λ p. p.sender;
      stride = longest;
      session = open_message;
      blank = free_place;
      blank_free = refl;
    }

abbrev pub is_open_by : ℕ → Place → Bool
is_open_by sender p = open_by layout sender p

-- The rules of a state.

unfoldable pub is_zero : Place → Bool
is_zero p = (p.sender =? 0) and (p.dgn =? 0) and (p.expected =? 0) and (p.idle =? 0)

unfoldable pub place_keeps_rules : Place → Bool
place_keeps_rules p =
    if is_free p then is_zero p
    else (p.sender ≤? greatest_address) and (shortest ≤? p.length) and (p.length ≤? longest)
    and (p.dgn ≤? greatest_dgn) and (p.idle ≤? idle_limit)
    and (1 ≤? p.expected) and (p.expected ≤? packets_of p.length)

-- each place keeps its own, and no sender is open in two
unfoldable pub keeps_rules : List Place → Bool
keeps_rules places = every place_keeps_rules places and one_each layout places

-- What a frame leaves: the places, the storage, and the answer.

-- a finished message in its place
abbrev pub whole_at : ℕ → Place → WholeAt
whole_at i p = record { place = i; sender = p.sender; dgn = p.dgn; size = p.length }

pub record After : Type 0 where
  pub places : List Place
  pub storage : List ℕ
  pub answer : Told Outcome

abbrev pub leaves : List Place → List ℕ → Told Outcome → After
leaves places storage answer = record { places = places; storage = storage; answer = answer }

-- An announcement: who has a message open stays in its place, anyone else takes the lowest-numbered free one.

unfoldable pub place_for : ℕ → List Place → Option ℕ
place_for sender places = or_else (first (is_open_by sender) places) (first is_free places)

abbrev pub opened_at : Option ℕ → Place → List Place → List ℕ → After
opened_at (Some i) p places storage = leaves (set places i p) storage (gives opened)
opened_at None p places storage = leaves places storage (refused 8)

unfoldable pub hears_announcement : ℕ → ℕ → ℕ → List Place → List ℕ → After
hears_announcement sender size dgn places storage =
    opened_at (place_for sender places) (record { sender = sender; length = size; dgn = dgn; expected = 1; idle = 0 })
    places storage

-- A data packet: the expected one is stored in its place's own stretch, from 7 (number - 1) on, and only what the
-- length still needs.

abbrev pub kept_at : ℕ → Place → List ℕ → List ℕ → List ℕ
kept_at i p bytes storage =
    paste storage (longest * i + packet_bytes * (p.expected - 1)) (drop 1 bytes) (needed p.length p.expected)

-- the place with other pauses
abbrev pub waited : ℕ → Place → Place
waited idle p = record { sender = p.sender; length = p.length; dgn = p.dgn; expected = p.expected; idle = idle }

abbrev pub expecting : ℕ → Place → Place
expecting number p = record { sender = p.sender; length = p.length; dgn = p.dgn; expected = number; idle = 0 }

-- the last packet hands the message over and closes; any other leaves the next one expected
unfoldable pub advanced : ℕ → Place → List Place → List ℕ → After
advanced i p places storage =
    if p.expected =? packets_of p.length
    then leaves (set places i free_place) storage (gives (finished (whole_at i p)))
    else leaves (set places i (expecting (p.expected + 1) p)) storage (gives stored)

unfoldable pub packet_at : ℕ → Place → ℕ → List ℕ → List Place → List ℕ → After
packet_at i p number bytes places storage =
    if number =? p.expected
    then advanced i p places (kept_at i p bytes storage)
    else leaves (set places i free_place) storage (refused 10)

abbrev pub packet_for : Option ℕ → ℕ → List ℕ → List Place → List ℕ → After
packet_for (Some i) number bytes places storage = packet_at i (get_or places i free_place) number bytes places storage
packet_for None number bytes places storage = leaves places storage (refused 9)

unfoldable pub carries : ℕ → ℕ → List ℕ → List Place → List ℕ → After
carries sender number bytes places storage = packet_for (first (is_open_by sender) places) number bytes places storage

-- A frame.

abbrev pub by_meaning : Told Meaning → List ℕ → List Place → List ℕ → After
by_meaning (refused n) bytes places storage = leaves places storage (refused n)
by_meaning (gives other) bytes places storage = leaves places storage (gives nothing_to_do)
by_meaning (gives (announcement m)) bytes places storage =
    hears_announcement m.sender m.size m.dgn places storage
by_meaning (gives (packet p)) bytes places storage = carries p.sender p.number bytes places storage

unfoldable pub heard : ℕ → List ℕ → List Place → List ℕ → After
heard id bytes places storage =
    if length storage <? room then leaves places storage (refused 1) else
    if keeps_rules places then by_meaning (meaning_of id bytes) bytes places storage else
    leaves places storage (refused 2)

-- A pause: idle time adds up, and above the limit the message closes.

unfoldable pub closes : ℕ → Place → Bool
closes ms p = not (is_free p) and (idle_limit <? p.idle + ms)

unfoldable pub idled : ℕ → Place → Place
idled ms p =
    if is_free p then p else
    if idle_limit <? p.idle + ms then free_place else
    record { sender = p.sender; length = p.length; dgn = p.dgn; expected = p.expected; idle = p.idle + ms }

unfoldable pub paused_places : ℕ → List Place → List Place
paused_places ms places = if keeps_rules places then map (idled ms) places else places

unfoldable pub paused_answer : ℕ → List Place → Told ℕ
paused_answer ms places = if keeps_rules places then gives (count (closes ms) places) else refused 2
