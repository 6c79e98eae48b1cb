-- `busread::report::put_value` meets its contract. Assumes nothing.
use Rattle.text.specs.Text.{text}
use Rattle.text.proofs.Pieces.{wrote_decimal}
use Rattle.busread.specs.Report.{class_name, value_text}
use native.Mathlib.Omega.{arith}
use Rattle.busread.proofs.report.put_value.Goals as goal

pub returns-in-Number : goal.returns-in-Number
unfolding class_name value_text
returns-in-Number c =
    rw c.in-Number.is
    (let w = wrote_decimal (text " class=number raw=") _ c.put_decimal.ensures (omega arith) (omega arith) in
    (w.0, omega (arith, w.1)))

pub returns-in-NoData : goal.returns-in-NoData
unfolding class_name value_text
returns-in-NoData c =
    rw c.in-NoData.is
    (let w = wrote_decimal (text " class=no-data raw=") _ c.put_decimal-in-NoData.ensures (omega arith) (omega arith) in
    (w.0, omega (arith, w.1)))

pub returns-in-OutOfRange : goal.returns-in-OutOfRange
unfolding class_name value_text
returns-in-OutOfRange c =
    rw c.in-OutOfRange.is
    (let w = wrote_decimal (text " class=out-of-range raw=") _ c.put_decimal-in-OutOfRange.ensures (omega arith) (omega arith) in
    (w.0, omega (arith, w.1)))

pub returns-in-Reserved : goal.returns-in-Reserved
unfolding class_name value_text
returns-in-Reserved c =
    rw c.in-Reserved.is
    (let w = wrote_decimal (text " class=reserved raw=") _ c.put_decimal-in-Reserved.ensures (omega arith) (omega arith) in
    (w.0, omega (arith, w.1)))
