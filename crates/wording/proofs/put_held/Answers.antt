use Rattle.wording.proofs.Lines.{spelt-two}
use Rattle.wording.proofs.put_held.Goals as goal

pub returns : goal.returns
returns c = spelt-two c.phrase-to.ensures (spelt-two c.phrase-to-2.ensures c.phrase.ensures)
