use Rattle.wording.proofs.Lines.{spelt-two}
use Rattle.wording.proofs.put_range_column.Goals as goal

pub returns : goal.returns
returns c = spelt-two c.put_range_word-to.ensures (spelt-two c.put_doubt_sign-to.ensures c.word.ensures)
