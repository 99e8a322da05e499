use Rattle.wording.specs.Wording.{range_line}
use Rattle.wording.proofs.Lines.{spelt-two}
use Rattle.wording.proofs.write_range.Goals as goal

pub returns : goal.returns
unfolding range_line
returns c =
    (spelt-two c.put_from-to.ensures
    (spelt-two c.put_range_word-to.ensures (spelt-two c.put_doubt_sign-to.ensures c.put_because.ensures))).pushed
