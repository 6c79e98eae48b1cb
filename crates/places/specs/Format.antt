-- A packet format: messages that come in packets, as a receiver of several of them at once needs to know it (RULES 4
-- and 12). Messages are told apart by a key: the sender's address, or a number for sender and DGN.
use Rattle.std.specs.Prelude.{Bool, true, false, ℕ}
use Rattle.std.proofs.Math.Option.{Option, some, none}

-- What a frame asks for, read off the frame alone: S are sessions, D what a packet brings, A answers.
pub data Asks (S D A : Type 0) : Type 0 where
  fixed : A → Asks S D A  -- an answer, whatever is open
  opens : S → A → Asks S D A  -- a valid opening: the session that it starts, and the answer
  finishes : A → Asks S D A  -- an opening that finishes at once
  feeds : D → A → Asks S D A  -- a packet for the key's session: what it brings, and the answer where none is open

-- What a packet does to a session: it goes on, or it ends.
pub data Fed (S A : Type 0) : Type 0 where
  goes : S → A → Fed S A
  ends : A → Fed S A

pub record Format : Type 1 where
  pub Session : Type 0
  pub Data : Type 0
  pub Answer : Type 0
  pub Frame : Type 0
  pub key : Frame → ℕ
  pub asks : Frame → Asks Session Data Answer
  pub feed : Session → Data → Fed Session Answer
  pub wait : ℕ → Session → Option Session  -- a pause: none where it closes the session

-- whether a pause left nothing
abbrev pub is_none : {A : Type 0} → Option A → Bool
is_none none = true
is_none (some a) = false

-- What happens on the bus.
pub data Event (F : Type 0) : Type 0 where
  frame : F → Event F
  pause : ℕ → Event F  -- in milliseconds

-- What a machine does with a frame: its next state, and the answer.
pub record Step (State Answer : Type 0) : Type 0 where
  pub next : State
  pub answer : Answer

abbrev pub step : {State Answer : Type 0} → State → Answer → Step State Answer
step next answer = record { next = next; answer = answer }
