use Rattle.wording.proofs.Lines.{spelt-two}
use Rattle.wording.proofs.phrase.Goals as goal

pub returns : goal.returns
returns c = spelt-two c.number-to.ensures c.word.ensures
