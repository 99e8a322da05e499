use Rattle.std.proofs.Common.{arith, w64}
use Rattle.std.proofs.Math.Facts.{to_z-of_z}
use Rattle.wording.specs.Wording.{signed_column}
use Rattle.wording.proofs.Lines.{spelt-two, spelt-within}
use Rattle.sheetlines.proofs.put_signed.Goals as goal

pub returns-then-n-lt0 : goal.returns-then-n-lt0
unfolding signed_column
returns-then-n-lt0 c =
    let f = c.ranges.n in
    rw (rw (to_z-of_z {w = w64} f) at c.if-n-lt0.true)
    (spelt-two c.word-to.ensures (rw (c.unsigned_abs.ensures.value, to_z-of_z {w = w64} f) at c.put_column.ensures))

pub returns : goal.returns
unfolding signed_column
returns c =
    let f = c.ranges.n in
    rw (rw (to_z-of_z {w = w64} f) at c.if-n-lt0.false)
    (spelt-within (omega arith) (rw (c.unsigned_abs-2.ensures.value, to_z-of_z {w = w64} f) at c.put_column-2.ensures))
