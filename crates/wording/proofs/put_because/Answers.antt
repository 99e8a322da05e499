use Rattle.wording.proofs.Lines.{spelt-two}
use Rattle.wording.proofs.put_because.Goals as goal

pub returns : goal.returns
returns c = rw c.in-Some.is (spelt-two c.word-to.ensures (spelt-two c.put_wrote-to.ensures c.word-2.ensures))
