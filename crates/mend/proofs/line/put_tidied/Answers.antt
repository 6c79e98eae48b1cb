-- `mend::line::put_tidied` meets its contract. Assumes nothing.
use native.Mathlib.Omega.{arith}
use Prim.Native.Nat.{◌+◌}
use Rattle.mend.specs.Places.{parts_at}
use Rattle.mend.proofs.Finding.{length_part}
use Rattle.mend.proofs.Putting.{tidied_put}
use Rattle.mend.proofs.line.put_tidied.Goals as goal

pub returns : goal.returns
unfolding parts_at
returns c =
    let a = c.args in
    let f = c.requires.2 in (
      tidied_put (parts_at a.line.now a.places) c.put_gap-gap_end.ensures.0 c.put_id-id_end.ensures.0 c.put_data.ensures.0,
      omega (
        arith,
        c.put_gap-gap_end.ensures.1,
        c.put_id-id_end.ensures.1,
        c.put_data.ensures.1,
        length_part a.line.now 4 a.places.gap_to f.gap (omega (arith, f.id, f.bytes, f.within)),
        length_part a.line.now (a.places.gap_to + 4) a.places.id_to f.id (omega (arith, f.bytes, f.within)),
        length_part a.line.now (a.places.id_to + 6) a.places.data_to f.bytes f.within,
        f.gap,
        f.id,
        f.bytes,
        f.within,
      ),
    )
