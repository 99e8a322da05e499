use Rattle.interrupts.specs.Statuses.{statuses_of}
use Rattle.interrupts.proofs.statuses_of.Goals as goal

pub returns : goal.returns
unfolding statuses_of
returns c = simp (c.bit-3.ensures, c.reached.ensures, c.bit-2.ensures, c.bit.ensures)
