use Rattle.wording.specs.Wording.{stretch_columns}
use Rattle.wording.proofs.Lines.{spelt-two}
use Rattle.wording.proofs.put_columns.Goals as goal

pub returns : goal.returns
unfolding stretch_columns
returns c =
    spelt-two c.put_column-to.ensures
    (spelt-two c.put_column-to-2.ensures
    (spelt-two c.put_range_column-to.ensures
    (spelt-two (rw c.since-between.ensures at c.put_counts-to.ensures) c.put_why.ensures)))
