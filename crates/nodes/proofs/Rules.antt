-- What a test of a table shows of the rules.
-- Assumes nothing.
use Rattle.std.specs.Prelude.{if◌then◌else◌}
use mathlib.Core.Path.{◌≡◌, refl}
use mathlib.Core.Bool.{Bool, true, false, cond}
use mathlib.Core.List.{List, [], ◌∷◌}
use Prim.Native.Nat.{ℕ, ◌+◌}
use native.Mathlib.Omega.{arith}
use Rattle.std.specs.List.{count_by}
use Rattle.std.proofs.lemmas.List.Recursion.{is_count_by}
use Rattle.words.specs.Words.{◌and◌, ◌or◌}
use Rattle.words.specs.Lists.{any, count}
use Rattle.nodes.specs.Table.{is_challenged, stands, sound_challenge, sound_record, shares_name, is_replaced, replaced_in}
use Rattle.nodes.specs.declared.Node.{Node}

-- whether a record shares a NAME with another: its holder is looked for, and its challenger, each by itself

and_false : (a : Bool) → a and false ≡ false
and_false true = refl
and_false false = refl

-- the two searches of a turn, put in order
apart : (a b f g p q : Bool)
    → ((a and f) or (b and g)) or ((a and p) or (b and q)) ≡ (a and (f or p)) or (b and (g or q))
apart false false f g p q = refl
apart false true f g p q = refl
apart true false true g p q = refl
apart true false false g p q = refl
apart true true true g p q = refl
apart true true false true true q = refl
apart true true false true false q = refl
apart true true false false p q = refl

any_either : (a b : Bool) (f g : Node → Bool) (ns : List Node)
    → any (λ m. (a and f m) or (b and g m)) ns ≡ (a and any f ns) or (b and any g ns)
any_either a b f g [] = rw (and_false a, and_false b)
any_either a b f g (n ∷ ns) = rw (any_either a b f g ns) (apart a b (f n) (g n) (any f ns) (any g ns))

pub again_is : (n : Node) (ns : List Node)
    → any (shares_name n) ns
    ≡ (n.present and any (stands n.name) ns) or (is_challenged n and any (stands n.challenger) ns)
unfolding shares_name
again_is n ns = any_either n.present (is_challenged n) (stands n.name) (stands n.challenger) ns

-- a record that is present is sound where its challenge is
pub sound_present : (n : Node) → n.present ≡ true → sound_record n ≡ sound_challenge n
unfolding sound_record
sound_present n p = rw p

-- how many challengers take over, as the library counts them

counts_so : (ms : ℕ) (n : Node) (ns : List Node)
    → replaced_in ms (n ∷ ns) ≡ cond (is_replaced ms n) (1 + replaced_in ms ns) (replaced_in ms ns)
unfolding replaced_in
counts_so ms n ns = by_count (is_replaced ms n)
  where
    by_count : (b : Bool) → (if b then 1 else 0) + count (is_replaced ms) ns ≡ cond b (1 + count (is_replaced ms) ns) (count (is_replaced ms) ns)
    by_count true = refl
    by_count false = omega arith

none_replaced : (ms : ℕ) → replaced_in ms [] ≡ 0
unfolding replaced_in
none_replaced ms = refl

pub replaced_count : (ms : ℕ) (ns : List Node) → replaced_in ms ns ≡ count_by (is_replaced ms) ns
replaced_count ms ns = is_count_by (replaced_in ms) (is_replaced ms) (none_replaced ms) (counts_so ms) ns
