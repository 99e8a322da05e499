use Rattle.std.proofs.Common.{arith}
use Rattle.sheetlines.specs.Lines.{axes_text}
use Rattle.wording.proofs.Lines.{spelt-two, spelt-within}
use Rattle.sheetlines.proofs.put_axes.Goals as goal

pub returns : goal.returns
unfolding axes_text
returns c =
    spelt-within (omega arith) (spelt-two c.put_tally-to.ensures (spelt-two c.put_tally-to-2.ensures c.put_tally.ensures))
