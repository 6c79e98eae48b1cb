-- `wall::values::put_steps` is safe and ends. Assumes nothing.
use Rattle.std.proofs.Common.{mul-le-mul_left, arith}
use Rattle.wall.proofs.values.put_steps.Goals as goal

pub overflow_mul-count : goal.overflow_mul-count
overflow_mul-count c =
    let h = mul-le-mul_left c.unsigned_abs-count.result c.requires in
    omega arith
