use Rattle.std.proofs.Common.{rules, w64, SFits}
use Rattle.std.proofs.Math.Facts.{to_z-of_z}
use Rattle.sheetlines.specs.Lines.{tally_line}
use Rattle.wording.proofs.Lines.{spelt-two}
use Rattle.sheetlines.proofs.put_tally.Goals as goal

pub returns : goal.returns
unfolding tally_line
returns c =
    let f : SFits w64 c.args.tally.sum = search rules in
    spelt-two c.word-to.ensures (spelt-two c.word-to-2.ensures (rw (to_z-of_z {w = w64} f) at c.put_extremes.ensures))
