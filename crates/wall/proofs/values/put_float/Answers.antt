-- `wall::values::put_float` is safe and ends. Assumes nothing.
-- The two tests say what the cast asks, once `of_bits` and `neg` are unfolded: the same two numbers stand there by their
-- bits.
use Rattle.std.proofs.Common.{T, sym, subst}
use lib.Ieee.{of_bits, neg}
use Rattle.wall.proofs.values.put_float.Goals as goal

pub truncating_f32_to_i64-requires : goal.truncating_f32_to_i64-requires
unfolding of_bits neg
truncating_f32_to_i64-requires c =
    record { lower_bound = subst T (sym c.if-steps.true) tt; upper_bound = subst T (sym c.if-steps-2.true) tt }
