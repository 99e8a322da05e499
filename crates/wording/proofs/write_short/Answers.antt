use Rattle.wording.specs.Wording.{short_line}
use Rattle.wording.proofs.Lines.{spelt-two}
use Rattle.wording.proofs.write_short.Goals as goal

pub returns : goal.returns
unfolding short_line
returns c =
    (spelt-two c.put_ended-to.ensures
    (spelt-two c.word-to.ensures (spelt-two c.phrase-to.ensures c.phrase.ensures))).pushed
