-- The receiver: eight places over lent storage of their own, and the DGNs that are named (RULES 12.7 to 12.19).
use Rattle.std.specs.Prelude.{Option, Some, None}
use Rattle.std.specs.Prelude.{refl, Bool, not, List, map, ℕ, ◌+◌, ◌*◌, length, take, drop, get_or, set, if◌then◌else◌}
use Rattle.std.proofs.Math.Seq.{paste}
use Rattle.words.specs.Words.{◌<?◌, ◌≤?◌, ◌=?◌, ◌and◌, Told, refused, gives}
use Rattle.words.specs.Lists.{every, count, first, or_else}
use Rattle.frame.specs.Standard.{greatest_address}
use Rattle.places.specs.Places.{place_count}
use Rattle.places.specs.Layout.{Layout, open_by, one_each}
use Rattle.places.specs.Telling.{WholeAt, Outcome, nothing_to_do, opened, stored, finished}
use Rattle.fast.specs.FastPacket.{greatest_sequence, first_bytes, longest, offset_of, last_frame, needed_first, needed}
use Rattle.fast.specs.FastPacket.{idle_limit, pair_of, Meaning, other, begins, continues, meaning_of}
use Rattle.fast.specs.Names.{most_named, is_named, is_well_formed}
use Rattle.fast.specs.OnePair.{Open}
use Rattle.fast.specs.declared.Place.{Place}
use Rattle.fast.specs.declared.Receiver.{Receiver}

-- eight places own the storage's first bytes, each as many as the longest message has
abbrev pub room : ℕ
room = place_count * longest

-- A place is free where its length is 0, which no message has; closing sets zeros.

abbrev pub free_place : Place
free_place = record { sender = 0; dgn = 0; sequence = 0; length = 0; expected = 0; idle = 0 }

abbrev pub is_free : Place → Bool
is_free p = p.length =? 0

-- A place and its stretch of the storage are the open message: what is collected stands at the beginning of the
-- stretch.
abbrev pub open_message : Place → List ℕ → Open
open_message p stretch =
    record {
      sender = p.sender;
      dgn = p.dgn;
      sequence = p.sequence;
      size = p.length;
      expected = p.expected;
      idle = p.idle;
      collected = take (offset_of p.expected) stretch;
    }

abbrev pub layout : Layout Place Open
layout =
    record {
      is_free = is_free;
      key_of = λ p. pair_of p.sender p.dgn;
      stride = longest;
      session = open_message;
      blank = free_place;
      blank_free = refl;
    }

abbrev pub is_open_by : ℕ → Place → Bool
is_open_by pair p = open_by layout pair p

-- The rules of a state.

abbrev pub names_of : Receiver → List ℕ
names_of r = take r.named r.dgns

-- the held list is one that a start takes
unfoldable pub holds_names : Receiver → Bool
holds_names r = (r.named ≤? most_named) and is_well_formed (names_of r)

unfoldable pub is_zero : Place → Bool
is_zero p = (p.sender =? 0) and (p.dgn =? 0) and (p.sequence =? 0) and (p.expected =? 0) and (p.idle =? 0)

-- a message of six bytes or fewer is never open
unfoldable pub keeps_limits : Place → Bool
keeps_limits p =
    (p.sender ≤? greatest_address) and (p.sequence ≤? greatest_sequence) and (first_bytes <? p.length)
    and (p.length ≤? longest) and (1 ≤? p.expected) and (p.expected ≤? last_frame p.length)
    and (p.idle ≤? idle_limit)

unfoldable pub place_keeps_rules : List ℕ → Place → Bool
place_keeps_rules names p = if is_free p then is_zero p else is_named p.dgn names and keeps_limits p

-- each place keeps its own, and no pair is open in two
unfoldable pub keeps_rules : Receiver → Bool
keeps_rules r = holds_names r and every (place_keeps_rules (names_of r)) r.places and one_each layout r.places

-- What a frame leaves: the state, the storage, and the answer.

-- a finished message in its place
abbrev pub whole_at : ℕ → Place → WholeAt
whole_at i p = record { place = i; sender = p.sender; dgn = p.dgn; size = p.length }

pub record After : Type 0 where
  pub receiver : Receiver
  pub storage : List ℕ
  pub answer : Told Outcome

abbrev pub leaves : Receiver → List ℕ → Told Outcome → After
leaves r storage answer = record { receiver = r; storage = storage; answer = answer }

-- the same DGNs with other places, and with one place replaced
abbrev pub holding : Receiver → List Place → Receiver
holding r places = record { dgns = r.dgns; named = r.named; places = places }

abbrev pub placing : Receiver → ℕ → Place → Receiver
placing r i p = holding r (set r.places i p)

-- Frame 0: a pair that has a message open stays in its place, any other takes the lowest-numbered free one. The frame's
-- bytes are kept there; a message of six bytes or fewer is handed over, and the place is free.

unfoldable pub place_for : ℕ → List Place → Option ℕ
place_for pair places = or_else (first (is_open_by pair) places) (first is_free places)

abbrev pub new_place : ℕ → ℕ → ℕ → ℕ → Place
new_place sender dgn sequence size =
    record { sender = sender; dgn = dgn; sequence = sequence; length = size; expected = 1; idle = 0 }

abbrev pub first_kept : ℕ → Place → List ℕ → List ℕ → List ℕ
first_kept i p bytes storage = paste storage (longest * i + 0) (drop 2 bytes) (needed_first p.length)

unfoldable pub entered : ℕ → Place → Receiver → List ℕ → After
entered i p r storage =
    if p.length ≤? first_bytes
    then leaves (placing r i free_place) storage (gives (finished (whole_at i p)))
    else leaves (placing r i p) storage (gives opened)

abbrev pub enters_at : ℕ → Place → List ℕ → Receiver → List ℕ → After
enters_at i p bytes r storage = entered i p r (first_kept i p bytes storage)

abbrev pub enters_in : Option ℕ → Place → List ℕ → Receiver → List ℕ → After
enters_in (Some i) p bytes r storage = enters_at i p bytes r storage
enters_in None p bytes r storage = leaves r storage (refused 8)

unfoldable pub hears_first : Place → List ℕ → Receiver → List ℕ → After
hears_first p bytes r storage = enters_in (place_for (pair_of p.sender p.dgn) r.places) p bytes r storage

-- A later frame: the expected one of the same sequence is stored in its place's own stretch, from 6 + 7 (number - 1)
-- on, and only what the length still needs.

abbrev pub kept_at : ℕ → Place → List ℕ → List ℕ → List ℕ
kept_at i p bytes storage =
    paste storage (longest * i + offset_of p.expected) (drop 1 bytes) (needed p.length p.expected)

-- the place with other pauses
abbrev pub waited : ℕ → Place → Place
waited idle p =
    record {
      sender = p.sender;
      dgn = p.dgn;
      sequence = p.sequence;
      length = p.length;
      expected = p.expected;
      idle = idle;
    }

abbrev pub expecting : ℕ → Place → Place
expecting number p =
    record {
      sender = p.sender;
      dgn = p.dgn;
      sequence = p.sequence;
      length = p.length;
      expected = number;
      idle = 0;
    }

-- the last frame hands the message over and closes; any other leaves the next one expected
unfoldable pub advanced : ℕ → Place → Receiver → List ℕ → After
advanced i p r storage =
    if p.expected =? last_frame p.length
    then leaves (placing r i free_place) storage (gives (finished (whole_at i p)))
    else leaves (placing r i (expecting (p.expected + 1) p)) storage (gives stored)

unfoldable pub frame_at : ℕ → Place → ℕ → ℕ → List ℕ → Receiver → List ℕ → After
frame_at i p sequence number bytes r storage =
    if (sequence =? p.sequence) and (number =? p.expected)
    then advanced i p r (kept_at i p bytes storage)
    else leaves (placing r i free_place) storage (refused 10)

abbrev pub frame_in : Option ℕ → ℕ → ℕ → List ℕ → Receiver → List ℕ → After
frame_in (Some i) sequence number bytes r storage =
    frame_at i (get_or r.places i free_place) sequence number bytes r storage
frame_in None sequence number bytes r storage = leaves r storage (refused 9)

unfoldable pub hears_later : ℕ → ℕ → ℕ → List ℕ → Receiver → List ℕ → After
hears_later pair sequence number bytes r storage =
    frame_in (first (is_open_by pair) r.places) sequence number bytes r storage

-- A frame.

abbrev pub by_meaning : Told Meaning → List ℕ → Receiver → List ℕ → After
by_meaning (refused n) bytes r storage = leaves r storage (refused n)
by_meaning (gives other) bytes r storage = leaves r storage (gives nothing_to_do)
by_meaning (gives (begins m)) bytes r storage =
    hears_first (new_place m.sender m.dgn m.sequence m.size) bytes r storage
by_meaning (gives (continues f)) bytes r storage =
    hears_later (pair_of f.sender f.dgn) f.sequence f.number bytes r storage

unfoldable pub heard : ℕ → List ℕ → Receiver → List ℕ → After
heard id bytes r storage =
    if length storage <? room then leaves r storage (refused 1) else
    if keeps_rules r then by_meaning (meaning_of (names_of r) id bytes) bytes r storage else
    leaves r storage (refused 2)

-- A pause: idle time adds up, and above the limit the message closes.

unfoldable pub closes : ℕ → Place → Bool
closes ms p = not (is_free p) and (idle_limit <? p.idle + ms)

unfoldable pub idled : ℕ → Place → Place
idled ms p =
    if is_free p then p else
    if idle_limit <? p.idle + ms then free_place else
    record {
      sender = p.sender;
      dgn = p.dgn;
      sequence = p.sequence;
      length = p.length;
      expected = p.expected;
      idle = p.idle + ms;
    }

unfoldable pub paused_state : ℕ → Receiver → Receiver
paused_state ms r = if keeps_rules r then holding r (map (idled ms) r.places) else r

unfoldable pub paused_answer : ℕ → Receiver → Told ℕ
paused_answer ms r = if keeps_rules r then gives (count (closes ms) r.places) else refused 2
