use Prim.Native.Nat.{◌<◌}
use native.Mathlib.Omega.{arith}
use borrow.Author.Tests.{lt-ltb, le-ltb}
use mir.Syntax.{w16}
use mir.Facts.{to_z_pos, to_z-of_z}
use Rattle.offsets.specs.Offsets.{signed_byte}
use Rattle.offsets.proofs.Signed.{signed-fits}
use Rattle.offsets.proofs.signed_byte.Goals as goal

pub returns-then-byte-lt128 : goal.returns-then-byte-lt128
unfolding signed_byte
returns-then-byte-lt128 c = let b = c.args.byte in rw (to_z_pos w16 {n = b} (omega arith), lt-ltb b 128 c.if-byte-lt128.true)

pub returns-else-byte-lt128 : goal.returns-else-byte-lt128
unfolding signed_byte
returns-else-byte-lt128 c =
    let b = c.args.byte in
    let h : b < 256 = c.ranges.byte.fits in
    let e = le-ltb b 128 c.if-byte-lt128.false in
    rw (to_z_pos w16 {n = b} (omega arith), to_z-of_z (signed-fits b h e), e)
