use Rattle.std.proofs.Common.{ne_eqb}
use Rattle.benchlog.proofs.Logs.{not-done}
use Rattle.wording.specs.Wording.{last_line}
use Rattle.wording.proofs.Lines.{spelt-two}
use Rattle.wording.proofs.write_last.Goals as goal

pub returns-in_default : goal.returns-in_default
unfolding last_line
returns-in_default c = rw c.in_default.is (spelt-two c.word-to.ensures c.phrase.ensures).pushed

pub returns : goal.returns
unfolding last_line
returns c =
    rw (c.in-Some.is, ne_eqb _ 0 (not-done c.in-Some.refusal)) (spelt-two c.word-to-2.ensures
    (spelt-two (rw c.stopped_at.ensures at c.put_column-to.ensures) (rw c.from.ensures at c.phrase-2.ensures))).pushed
