use Rattle.wording.specs.Wording.{refused_line}
use Rattle.wording.proofs.Lines.{spelt-two}
use Rattle.wording.proofs.write_refused.Goals as goal

pub returns : goal.returns
unfolding refused_line
returns c =
    (spelt-two c.word-to.ensures
    (spelt-two c.put_wrote-to.ensures (spelt-two c.word-to-2.ensures c.phrase.ensures))).pushed
