use native.Mathlib.Omega.{arith}
use Rattle.sheetfile.specs.Format.{axes_bytes, ranges_bytes}
use Rattle.sheetfile.proofs.Lengths.{length-axes}
use Rattle.sheetfile.proofs.Pieces.{four}
use Rattle.sheetfile.proofs.put_ranges.Goals as goal

pub returns : goal.returns
unfolding ranges_bytes
returns c =
    let a = c.args in (
      (four a.out.now a.at 39 (axes_bytes a.ranges.g2) (axes_bytes a.ranges.g4) (axes_bytes a.ranges.g8) (length-axes _) (length-axes _) (length-axes _) (axes_bytes a.ranges.g16) (length-axes _)
          (omega arith) c.put_axes.ensures.0 c.put_axes-2.ensures.0 c.put_axes-3.ensures.0 c.put_axes-4.ensures.0).is,
      record { g2 = c.put_axes.ensures.1; g4 = c.put_axes-2.ensures.1; g8 = c.put_axes-3.ensures.1; g16 = c.put_axes-4.ensures.1 },
    )
