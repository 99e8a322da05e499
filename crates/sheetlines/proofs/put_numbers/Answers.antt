use Rattle.std.proofs.Common.{w16, w64}
use Rattle.std.proofs.Math.Facts.{to_z-of_z}
use Rattle.sheetlines.proofs.Sizes.{wide}
use Rattle.sheetlines.specs.Lines.{numbers_text}
use Rattle.wording.proofs.Lines.{spelt-two}
use Rattle.sheetlines.proofs.put_numbers.Goals as goal

pub returns : goal.returns
unfolding numbers_text
returns c =
    let f = c.ranges in
    spelt-two (rw (wide f.smallest) at c.put_signed-to.ensures)
    (spelt-two (rw (wide f.largest) at c.put_signed-to-2.ensures)
    (spelt-two (rw (to_z-of_z {w = w64} f.sum) at c.put_signed-to-3.ensures)
    (rw (to_z-of_z {w = w16} f.smallest, to_z-of_z {w = w16} f.largest) at c.put_in_g.ensures)))
