use Rattle.std.proofs.Common.{w16}
use Rattle.std.proofs.Math.Facts.{to_z-of_z}
use Rattle.sheetlines.specs.Lines.{in_g_text}
use Rattle.wording.proofs.Lines.{spelt-two}
use Rattle.sheetlines.proofs.put_in_g.Goals as goal

pub returns : goal.returns
unfolding in_g_text
returns c =
    let f = c.ranges in
    spelt-two (rw (to_z-of_z {w = w16} f.smallest) at c.in_g-to.ensures)
    (spelt-two c.word-to.ensures (spelt-two (rw (to_z-of_z {w = w16} f.largest) at c.in_g-to-2.ensures) c.word.ensures))
