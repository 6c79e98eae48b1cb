-- The statements of specs/Laws.antt, proved.
-- Assumes nothing.
use mathlib.Core.Path.{sym, ◌∙◌}
use mathlib.Core.List.{◌++◌}
use Prim.Native.Nat.{◌+◌}
use borrow.Author.Tests.{lt-leb}
use lib.ListN.{length}
use Rattle.text.specs.Text.{digits, decimal, byte_pairs}
use Rattle.text.specs.Pieces.{put_in, end_of}
use Rattle.text.specs.Laws.{PutOnly, PutDecimalOnly, PutHexOnly, PutBytesOnly, DecimalWidthOnly}
use Rattle.text.specs.Laws.{FitsWrote, NoRoomKeeps, NoLeadingZeros, WidthAtMost}
use Rattle.text.proofs.Digits.{width_digits, width_most}
use Rattle.text.proofs.Pieces as Pieces

pub put_only : PutOnly
put_only before at word r s after after' p q = (p.behind ∙ sym q.behind, p.bytes ∙ sym q.bytes)

pub put_decimal_only : PutDecimalOnly
put_decimal_only before at key number = put_only before at (key ++ decimal number)

pub put_hex_only : PutHexOnly
put_hex_only before at key number count = put_only before at (key ++ digits 16 count number)

pub put_bytes_only : PutBytesOnly
put_bytes_only before at key bytes = put_only before at (key ++ byte_pairs bytes)

pub decimal_width_only : DecimalWidthOnly
decimal_width_only number r s p q = p.width ∙ sym q.width

pub fits_wrote : FitsWrote
fits_wrote before at word r after p h = Pieces.fits_wrote p h

pub no_room_keeps : NoRoomKeeps
unfolding put_in end_of
no_room_keeps before at word r after p h =
    let t = lt-leb (at + length word) (length before) h in
    (p.behind ∙ rw t, p.bytes ∙ rw t)

pub no_leading_zeros : NoLeadingZeros
no_leading_zeros = width_digits

pub width_at_most : WidthAtMost
width_at_most = width_most
