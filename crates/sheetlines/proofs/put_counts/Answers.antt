use Rattle.sheetlines.specs.Lines.{counts_text}
use Rattle.wording.proofs.Lines.{spelt-two}
use Rattle.sheetlines.proofs.put_counts.Goals as goal

pub returns : goal.returns
unfolding counts_text
returns c =
    spelt-two c.put_count-to.ensures
    (spelt-two c.put_count-to-2.ensures
    (spelt-two c.put_count-to-3.ensures
    (spelt-two c.put_count-to-4.ensures
    (spelt-two c.put_count-to-5.ensures c.put_count.ensures))))
