-- The frames that a message is split into, in every format (RULES 5.15 and 12.21).
use Rattle.std.specs.Prelude.{List, ◌++◌, ℕ, ◌-◌, length, take, replicate}
use Rattle.frame.specs.Frame.{frame_bytes}
use Rattle.frame.specs.Standard.{unused}

-- a frame's own first bytes, as many of the message's as it has room for, and FFh for what is left
abbrev pub filled : List ℕ → List ℕ → List ℕ
filled head message =
    let room : ℕ = frame_bytes - length head in
    head ++ take room (message ++ replicate room unused)
