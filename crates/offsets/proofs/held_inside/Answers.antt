use mir.Facts.{to_z-of_z}
use Rattle.offsets.specs.Offsets.{held_inside}
use Rattle.offsets.proofs.Signed.{inside-fits}
use Rattle.offsets.proofs.held_inside.Goals as goal

pub returns-then-value-ltminus2048 : goal.returns-then-value-ltminus2048
unfolding held_inside
returns-then-value-ltminus2048 c = let e = rw (to_z-of_z c.ranges.value) at c.if-value-ltminus2048.true in simp e

pub returns-then-value-gt2047 : goal.returns-then-value-gt2047
unfolding held_inside
returns-then-value-gt2047 c =
    let f = c.ranges.value in
    let e = rw (to_z-of_z f) at c.if-value-ltminus2048.false in
    let g = rw (to_z-of_z f) at c.if-value-gt2047.true in
    simp (e, g)

pub returns : goal.returns
unfolding held_inside
returns c =
    let f = c.ranges.value in
    let e = rw (to_z-of_z f) at c.if-value-ltminus2048.false in
    let g = rw (to_z-of_z f) at c.if-value-gt2047.false in
    simp (to_z-of_z f, to_z-of_z (inside-fits c.args.value e g), e, g)
