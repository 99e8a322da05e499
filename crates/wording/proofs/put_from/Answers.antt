use Rattle.wording.proofs.Lines.{spelt-two}
use Rattle.wording.proofs.put_from.Goals as goal

pub returns : goal.returns
returns c = spelt-two c.word-to.ensures c.phrase.ensures
