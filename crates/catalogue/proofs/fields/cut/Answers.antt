-- `catalogue::fields::cut` meets its contract. Assumes nothing.
use lib.Pow.{pow_pos}
use Rattle.catalogue.specs.Field.{field_of}
use Rattle.catalogue.proofs.Bits.{field_past, field_all}
use Rattle.catalogue.proofs.fields.cut.Goals as goal

pub returns-then-first-ge-FRAME_BITS : goal.returns-then-first-ge-FRAME_BITS
returns-then-first-ge-FRAME_BITS c = field_past c.args.first c.args.width c.args.number c.if-first-ge-FRAME_BITS.true c.ranges.number.fits

pub returns-then-width-ge-FRAME_BITS : goal.returns-then-width-ge-FRAME_BITS
returns-then-width-ge-FRAME_BITS c = field_all c.args.first c.args.width c.args.number c.if-width-ge-FRAME_BITS.true c.ranges.number.fits

pub nonzero_rem-result : goal.nonzero_rem-result
nonzero_rem-result c = rw c.power.ensures (pow_pos c.args.width)

pub returns-else-width-ge-FRAME_BITS : goal.returns-else-width-ge-FRAME_BITS
unfolding field_of
returns-else-width-ge-FRAME_BITS c = rw c.power.ensures
