use Rattle.std.proofs.Common.{ℤ, pos, ◌-ℤ◌, arith, w16, w32, SFits}
use Rattle.std.proofs.Math.Facts.{to_z-of_z}
use Rattle.laws.proofs.Ints.{wide, diff-fits, neg-size}
use Rattle.wording.specs.Wording.{signed_column}
use Rattle.wording.proofs.Lines.{spelt-two, spelt-within}
use Rattle.wording.proofs.put_signed.Goals as goal

turn-fits : {z : ℤ} → SFits w16 z → SFits w32 (pos 0 -ℤ z)
turn-fits h = diff-fits {a = pos 0} (record { sfits = omega arith }) h

pub returns-then-wide-lt0 : goal.returns-then-wide-lt0
unfolding signed_column
returns-then-wide-lt0 c =
    let f : SFits w16 c.args.n = c.ranges.n in
    rw (rw (wide f) at c.if-wide-lt0.true)
    (spelt-two c.word-to.ensures (rw (wide f, to_z-of_z (turn-fits f), neg-size) at c.put_column.ensures))

pub returns : goal.returns
unfolding signed_column
returns c =
    let f : SFits w16 c.args.n = c.ranges.n in
    rw (rw (wide f) at c.if-wide-lt0.false) (spelt-within (omega arith) (rw (wide f) at c.put_column-2.ensures))
