-- What the private functions of this crate promise, where it is no definition of the others (for RULES 9).
use Rattle.std.specs.Prelude.{◌≡◌, List, ℕ, ◌<◌, length, get_or, Result, Ok, Err}
use Rattle.words.specs.Words.{Told, refused, gives, Done, done}
use Rattle.nodes.specs.Table.{absent, each_from}
use Rattle.nodes.specs.Promises.{number_of_bad_table}
use Rattle.nodes.specs.declared.Node.{Node}
use Rattle.nodes.specs.declared.BadTable.{BadTable}

-- a table judged by itself: refused, or nothing is said of it
abbrev pub told_table : Result Unit BadTable → Told Done
told_table (Ok u) = gives done
told_table (Err why) = refused (number_of_bad_table why)

-- Each record becomes what a function on values makes of it and its address: of a function that is known by what it may
-- answer, as what it computes.

abbrev pub ComputesAt : (ℕ → Node → Node → Type 0) → (ℕ → Node → Node) → List Node → Type 0
ComputesAt answers f ns =
    (a : ℕ) (n : Node) → a < length ns → answers a (get_or ns a absent) n → n ≡ f a (get_or ns a absent)

abbrev pub Changes : (ℕ → Node → Node → Type 0) → List Node → List Node → Type 0
Changes answers before after =
    (f : ℕ → Node → Node) → ComputesAt answers f before → after ≡ each_from f (length before) 0 before
