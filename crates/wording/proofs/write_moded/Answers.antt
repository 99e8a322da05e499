use Rattle.wording.specs.Wording.{moded_line}
use Rattle.wording.proofs.Lines.{spelt-two}
use Rattle.wording.proofs.write_moded.Goals as goal

pub returns : goal.returns
unfolding moded_line
returns c =
    (spelt-two c.put_columns-to.ensures
    (spelt-two c.word-to.ensures
    (spelt-two c.put_mode_word-to.ensures (spelt-two c.put_doubt_sign-to.ensures c.word.ensures)))).pushed
