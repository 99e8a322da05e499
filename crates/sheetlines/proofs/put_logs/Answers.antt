use Rattle.wording.proofs.Lines.{spelt-two}
use Rattle.sheetlines.proofs.put_logs.Goals as goal

pub returns : goal.returns
returns c = spelt-two c.word-to.ensures (spelt-two c.phrase-to.ensures c.phrase.ensures)
