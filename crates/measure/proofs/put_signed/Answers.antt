use Prim.Native.Nat.{◌*◌, ◌<◌}
use mathlib.Core.Path.{refl}
use native.Mathlib.Omega.{arith}
use lib.IntN.{ℤ, pos, nat_abs, ◌-ℤ◌}
use mir.Syntax.{w32}
use mir.Val.{SFits}
use mir.Facts.{to_z-of_z}
use Rattle.laws.proofs.Ints.{neg-size, small-fits}
use Rattle.benchlog.proofs.Places.{put_first}
use Rattle.text.proofs.Texts.{pushed, pushed-two}
use Rattle.measure.specs.Measure.{signed_text}
use Rattle.measure.proofs.put_signed.Goals as goal

turn-fits : (z : ℤ) → nat_abs z < 1000 * 1024 → SFits w32 (pos 0 -ℤ z)
turn-fits z h = small-fits (pos 0 -ℤ z) (rw neg-size (omega arith))

pub returns-then-n-lt0 : goal.returns-then-n-lt0
unfolding signed_text
returns-then-n-lt0 c =
    let a = c.args in
    rw (rw (to_z-of_z c.ranges.n) at c.if-n-lt0.true)
    (pushed-two (pushed (put_first a.out.now a.at 45 (omega arith)) refl)
    (rw (to_z-of_z c.ranges.n, to_z-of_z (turn-fits a.n c.requires.0), neg-size) at c.put_unsigned.ensures))

pub returns : goal.returns
unfolding signed_text
returns c = rw (rw (to_z-of_z c.ranges.n) at c.if-n-lt0.false) (rw (to_z-of_z c.ranges.n) at c.put_unsigned-2.ensures)
