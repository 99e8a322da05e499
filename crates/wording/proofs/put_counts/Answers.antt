use Rattle.wording.proofs.Lines.{spelt-two}
use Rattle.wording.proofs.put_counts.Goals as goal

pub returns : goal.returns
returns c =
    spelt-two c.put_column-to.ensures
    (spelt-two c.put_column-to-2.ensures
    (spelt-two c.put_column-to-3.ensures
    (spelt-two c.put_column-to-4.ensures
    (spelt-two c.put_column-to-5.ensures c.put_column.ensures))))
