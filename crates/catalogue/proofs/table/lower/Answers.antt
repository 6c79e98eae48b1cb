-- `catalogue::table::lower` meets its contract. Assumes nothing.
use mathlib.Core.Path.{subst}
use mathlib.Core.List.{List}
use Prim.Native.Nat.{ℕ, ◌+◌, ◌-◌, ◌≤◌, ◌<◌, ◌/◌}
use native.Mathlib.Omega.{arith}
use lib.ListN.{length, length-map}
use Rattle.catalogue.specs.Table.{nth}
use Rattle.catalogue.specs.Packed.{unpacked, table_rows}
use Rattle.catalogue.proofs.Halving.{Left, left_first, left_up, left_down, left_last}
use Rattle.catalogue.proofs.table.lower.Goals as goal

first : (table : List ℕ) (key : ℕ) → Left (table_rows table) key 0 (length table)
first table key = subst (Left (table_rows table) key 0) (length-map table unpacked) (left_first (table_rows table) key)

pub loop-low-init : goal.loop-low-init
loop-low-init c = let a = c.args in (omega arith, omega arith, first a.table.now a.key)

pub overflow_sub-middle : goal.overflow_sub-middle
overflow_sub-middle c = omega arith

pub overflow_add-middle : goal.overflow_add-middle
overflow_add-middle c = omega arith

pub dgn_at-requires : goal.dgn_at-requires
dgn_at-requires c = omega arith

pub overflow_add-low : goal.overflow_add-low
overflow_add-low c = omega arith

pub loop-low-smaller-then-dgn_at-key : goal.loop-low-smaller-then-dgn_at-key
loop-low-smaller-then-dgn_at-key c = omega arith

pub loop-low-preserved-then-dgn_at-key : goal.loop-low-preserved-then-dgn_at-key
loop-low-preserved-then-dgn_at-key c =
    let a = c.args in
    let l = c.loop-low in
    let list = table_rows a.table.now in
    let middle = l.low + (l.high - l.low) / 2 in
    let at : (nth list middle).dgn < a.key = omega arith in
    (omega arith, omega arith, left_up list a.key l.low l.high (omega arith) at l.invariant.2)

pub loop-low-smaller : goal.loop-low-smaller
loop-low-smaller c = omega arith

pub loop-low-preserved : goal.loop-low-preserved
loop-low-preserved c =
    let a = c.args in
    let l = c.loop-low in
    let list = table_rows a.table.now in
    let middle = l.low + (l.high - l.low) / 2 in
    let at : a.key ≤ (nth list middle).dgn = omega arith in
    (omega arith, omega arith, left_down list a.key l.low l.high (omega arith) at l.invariant.2)

pub returns : goal.returns
returns c =
    let a = c.args in
    let l = c.loop-low in
    left_last (table_rows a.table.now) a.key l.low l.high (omega arith) l.invariant.2
