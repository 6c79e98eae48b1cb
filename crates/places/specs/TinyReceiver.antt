-- A receiver of the made-up format, as a definition (RULES 13.5): eight slots over lent storage, nine bytes a slot. An
-- opening that finishes at once is stored in its key's slot, or in the first free one, and handed over from there; the
-- slot is free afterwards.
use Rattle.std.specs.Prelude.{Option, Some, None}
use Rattle.std.specs.Prelude.{◌≡◌, refl, Bool, true, not, List, [], ◌∷◌, map, ℕ, ◌+◌, ◌-◌, ◌*◌, ◌≤◌, length, take, get_or, set, replicate, if◌then◌else◌}
use Rattle.std.proofs.Math.Seq.{paste}
use Rattle.words.specs.Words.{◌<?◌, ◌≤?◌, ◌=?◌, ◌and◌, Told, gives}
use Rattle.words.specs.Lists.{every, count, first}
use Rattle.places.specs.Places.{Out, full, said, place_count}
use Rattle.places.specs.Layout.{stretch, Layout, open_by, view, one_each}
use Rattle.places.specs.Calls.{Calls, KeepsPlaces}
use Rattle.places.specs.Tiny.{Card, Pile, Word, opened, stored, unknown, finished}
use Rattle.places.specs.Tiny.{most_packets, tiny_idle_limit, tiny}

pub record Slot : Type 0 where
  pub key : ℕ
  pub size : ℕ
  pub missing : ℕ
  pub idle : ℕ

abbrev pub free_slot : Slot
free_slot = record { key = 0; size = 0; missing = 0; idle = 0 }

abbrev pub is_free_slot : Slot → Bool
is_free_slot s = s.size =? 0

-- a slot and its stretch of the storage are the open message
abbrev pub pile_in : Slot → List ℕ → Pile
pile_in s bytes =
    record { size = s.size; missing = s.missing; idle = s.idle; bytes = take (s.size - s.missing) bytes }

abbrev pub tiny_layout : Layout Slot Pile
tiny_layout =
    record {
      is_free = is_free_slot;
      key_of = λ s. s.key;
      stride = most_packets;
      session = pile_in;
      blank = free_slot;
      blank_free = refl;
    }

-- The receiver with its storage, and the rules of its state.

pub record TinyHeld : Type 0 where
  pub slots : List Slot
  pub storage : List ℕ

abbrev pub slot_keeps_rules : Slot → Bool
slot_keeps_rules s =
    if is_free_slot s then true else
    (1 ≤? s.missing) and (s.missing ≤? s.size) and (s.size ≤? most_packets)

pub record TinyKeeps (h : TinyHeld) : Type 0 where
  pub eight : length h.slots ≡ place_count
  pub rules : every slot_keeps_rules h.slots ≡ true
  pub each : one_each tiny_layout h.slots ≡ true
  pub enough : place_count * most_packets ≤ length h.storage

-- What a card leaves.

pub record TinyAfter : Type 0 where
  pub held : TinyHeld
  pub answer : Out Word

abbrev pub tiny_leaves : List Slot → List ℕ → Out Word → TinyAfter
tiny_leaves slots storage answer = record { held = record { slots = slots; storage = storage }; answer = answer }

-- a byte written into a slot's own stretch
abbrev pub written : ℕ → ℕ → ℕ → List ℕ → List ℕ
written j at byte storage = paste storage (most_packets * j + at) (byte ∷ []) 1

-- the first bytes of a slot's stretch, handed over
abbrev pub handed : ℕ → ℕ → List ℕ → Out Word
handed j size storage = said (finished (take size (stretch most_packets j storage)))

unfoldable pub tiny_finishes : ℕ → Option ℕ → Option ℕ → List Slot → List ℕ → TinyAfter
tiny_finishes byte (Some j) free slots storage =
    tiny_leaves (set slots j free_slot) (written j 0 byte storage) (handed j 1 (written j 0 byte storage))
tiny_finishes byte None (Some j) slots storage =
    tiny_leaves slots (written j 0 byte storage) (handed j 1 (written j 0 byte storage))
tiny_finishes byte None None slots storage = tiny_leaves slots storage full

abbrev pub new_slot : ℕ → ℕ → Slot
new_slot key n = record { key = key; size = n; missing = n; idle = 0 }

unfoldable pub tiny_opens : ℕ → ℕ → Option ℕ → Option ℕ → List Slot → List ℕ → TinyAfter
tiny_opens key n (Some j) free slots storage = tiny_leaves (set slots j (new_slot key n)) storage (said opened)
tiny_opens key n None (Some j) slots storage = tiny_leaves (set slots j (new_slot key n)) storage (said opened)
tiny_opens key n None None slots storage = tiny_leaves slots storage full

abbrev pub next_slot : Slot → Slot
next_slot s = record { key = s.key; size = s.size; missing = s.missing - 1; idle = 0 }

unfoldable pub tiny_stores : ℕ → ℕ → Slot → List Slot → List ℕ → TinyAfter
tiny_stores byte j s slots storage =
    if s.missing ≤? 1
    then tiny_leaves (set slots j free_slot) storage (handed j s.size storage)
    else tiny_leaves (set slots j (next_slot s)) storage (said stored)

unfoldable pub tiny_feeds : ℕ → Option ℕ → List Slot → List ℕ → TinyAfter
tiny_feeds byte (Some j) slots storage =
    let s = get_or slots j free_slot in
    tiny_stores byte j s slots (written j (s.size - s.missing) byte storage)
tiny_feeds byte None slots storage = tiny_leaves slots storage (said unknown)

unfoldable pub tiny_heard : Card → TinyHeld → TinyAfter
tiny_heard c h =
    let place = first (open_by tiny_layout c.key) h.slots in
    let free = first is_free_slot h.slots in
    if c.number =? 0 then tiny_finishes c.byte place free h.slots h.storage else
    if c.number ≤? most_packets then tiny_opens c.key c.number place free h.slots h.storage else
    tiny_feeds c.byte place h.slots h.storage

-- A pause.

unfoldable pub slot_closes : ℕ → Slot → Bool
slot_closes ms s = not (is_free_slot s) and (tiny_idle_limit <? s.idle + ms)

unfoldable pub slot_idled : ℕ → Slot → Slot
slot_idled ms s =
    if is_free_slot s then s else
    if tiny_idle_limit <? s.idle + ms then free_slot else
    record { key = s.key; size = s.size; missing = s.missing; idle = s.idle + ms }

-- The calls, and that they keep to their places: with it every statement of Calls.antt.

pub record TinyStarts (h : TinyHeld) : Type 0 where
  pub new : h.slots ≡ replicate place_count free_slot
  pub enough : place_count * most_packets ≤ length h.storage

pub record TinyHears (h : TinyHeld) (c : Card) (told : Out Word) (after : TinyHeld) : Type 0 where
  pub state : after ≡ (tiny_heard c h).held
  pub answer : told ≡ (tiny_heard c h).answer

pub record TinyPauses (h : TinyHeld) (ms : ℕ) (told : Told ℕ) (after : TinyHeld) : Type 0 where
  pub state : after ≡ record { slots = map (slot_idled ms) h.slots; storage = h.storage }
  pub answer : told ≡ gives (count (slot_closes ms) h.slots)

abbrev pub tiny_calls : Calls tiny
tiny_calls = record {
  State = TinyHeld;
  Starts = TinyStarts;
  Kept = TinyKeeps;
  Hears = TinyHears;
  Pauses = TinyPauses;
  seen = λ h. view tiny_layout h.slots h.storage;
}

abbrev pub TinyKeepsPlaces : Type 1
TinyKeepsPlaces = KeepsPlaces tiny_calls
