-- A sheet where sheets are joined, and else a log.
use Rattle.sheet.proofs.take.Goals as goal

pub returns-then-join : goal.returns-then-join
returns-then-join g c = rw c.if-join.true c.take_sheet.ensures

pub returns-else-join : goal.returns-else-join
returns-else-join g c = rw c.if-join.false c.take_log.ensures
