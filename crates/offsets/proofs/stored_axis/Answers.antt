use native.Mathlib.Omega.{arith}
use mir.Syntax.{w32}
use mir.Facts.{to_z_pos, to_z-of_z}
use Rattle.laws.proofs.Ints.{wide}
use Rattle.offsets.proofs.Signed.{steps-fit, counts-fit, sum_fits, held_same}
use Rattle.offsets.proofs.stored_axis.Goals as goal

pub returns : goal.returns
returns c =
    let s = c.ranges.step.fits in
    let b = c.ranges.byte.fits in
    let g = c.ranges.given in
    rw (
      c.held_inside.ensures,
      c.signed_byte-steps.ensures,
      wide (steps-fit _ b),
      to_z_pos w32 {n = c.args.step} (omega arith),
      to_z-of_z (counts-fit _ _ s b),
      wide g,
      to_z-of_z (sum_fits _ _ s b g),
      held_same,
    )
