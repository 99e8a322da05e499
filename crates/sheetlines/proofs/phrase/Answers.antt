use Rattle.wording.proofs.Lines.{spelt-two}
use Rattle.sheetlines.proofs.phrase.Goals as goal

pub returns : goal.returns
returns c = spelt-two c.number-to.ensures c.word.ensures
