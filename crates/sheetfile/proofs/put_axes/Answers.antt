use native.Mathlib.Omega.{arith}
use Rattle.sheetfile.specs.Format.{tally_bytes, axes_bytes}
use Rattle.sheetfile.proofs.Lengths.{length-tally}
use Rattle.sheetfile.proofs.Pieces.{three}
use Rattle.sheetfile.proofs.put_axes.Goals as goal

pub returns : goal.returns
unfolding axes_bytes
returns c =
    let a = c.args in (
      (three a.out.now a.at 13 (tally_bytes a.axes.x) (tally_bytes a.axes.y) (tally_bytes a.axes.z) (length-tally _) (length-tally _) (length-tally _)
          (omega arith) c.put_tally.ensures.0 c.put_tally-2.ensures.0 c.put_tally-3.ensures.0).is,
      record { x = c.put_tally.ensures.1; y = c.put_tally-2.ensures.1; z = c.put_tally-3.ensures.1 },
    )
