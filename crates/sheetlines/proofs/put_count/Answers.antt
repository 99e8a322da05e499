use Rattle.wording.proofs.Lines.{spelt-two}
use Rattle.sheetlines.proofs.put_count.Goals as goal

pub returns : goal.returns
returns c = spelt-two c.word-to.ensures c.phrase.ensures
