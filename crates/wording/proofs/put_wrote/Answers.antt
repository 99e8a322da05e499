use Rattle.wording.specs.Wording.{wrote_text}
use Rattle.wording.proofs.Lines.{spelt-two}
use Rattle.wording.proofs.put_wrote.Goals as goal

pub returns : goal.returns
unfolding wrote_text
returns c =
    spelt-two c.phrase-to.ensures
    (spelt-two c.in_hex-to.ensures
    (spelt-two c.word-to.ensures (spelt-two c.in_hex-to-2.ensures c.word.ensures)))
