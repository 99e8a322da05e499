use Rattle.std.proofs.Common.{ne_eqb}
use Rattle.benchlog.proofs.Logs.{not-done}
use Rattle.wording.proofs.Lines.{spelt-two}
use Rattle.wording.proofs.put_ended.Goals as goal

pub returns : goal.returns
returns c = rw (c.in-Some.is, ne_eqb _ 0 (not-done c.in-Some.refusal)) (spelt-two c.word-to.ensures (rw c.from.ensures at c.number.ensures))
