use Rattle.std.proofs.Common.{arith, w16}
use Rattle.std.proofs.Math.Facts.{to_z-of_z}
use Rattle.text.proofs.Texts.{put-pushed}
use Rattle.measure.specs.Measure.{longest_g}
use Rattle.measure.proofs.Numerals.{length-g}
use Rattle.sheetlines.proofs.in_g.Goals as goal

pub returns : goal.returns
returns c =
    let f = c.ranges.count in
    let short = length-g c.args.count c.args.range f.sfits in
    record { pushed = put-pushed longest_g (omega arith) short (rw (to_z-of_z {w = w16} f) at c.put_g.ensures); short = omega arith }
