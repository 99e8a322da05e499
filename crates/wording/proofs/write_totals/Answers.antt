use Rattle.wording.specs.Wording.{totals_line}
use Rattle.wording.proofs.Lines.{spelt-two}
use Rattle.wording.proofs.write_totals.Goals as goal

pub returns : goal.returns
unfolding totals_line
returns c =
    let between = c.since-between.ensures in
    (spelt-two c.word-to.ensures
    (spelt-two c.phrase-to.ensures
    (spelt-two c.phrase-to-2.ensures
    (spelt-two (rw between at c.put_totals_text-to.ensures) (rw between at c.put_held.ensures))))).pushed
