use Rattle.std.proofs.Common.{w16}
use Rattle.std.proofs.Math.Facts.{to_z-of_z}
use Rattle.wording.specs.Wording.{sample_line}
use Rattle.wording.proofs.Lines.{spelt-two}
use Rattle.wording.proofs.write_sample.Goals as goal

pub returns : goal.returns
unfolding sample_line
returns c =
    let f = c.ranges in
    (spelt-two c.word-to.ensures
    (spelt-two c.put_column-to.ensures
    (spelt-two (rw (to_z-of_z {w = w16} f.x) at c.put_signed-to.ensures)
    (spelt-two (rw (to_z-of_z {w = w16} f.y) at c.put_signed-to-2.ensures)
    (spelt-two (rw (to_z-of_z {w = w16} f.z) at c.put_signed-to-3.ensures) (spelt-two c.put_column-to-2.ensures c.phrase.ensures)))))).pushed
