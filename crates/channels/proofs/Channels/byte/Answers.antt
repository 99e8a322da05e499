use native.Mathlib.Omega.{arith}
use Rattle.channels.specs.Channels.{byte_at}
use Rattle.channels.proofs.Channels.byte.Goals as goal

pub returns-in-2 : goal.returns-in-2
unfolding byte_at
returns-in-2 c = simp (c.in-2.is, c.lsb.ensures)

pub returns-in-3 : goal.returns-in-3
unfolding byte_at
returns-in-3 c = simp (c.in-3.is, c.msb.ensures)

pub returns-in-4 : goal.returns-in-4
unfolding byte_at
returns-in-4 c = simp (c.in-4.is, c.lsb-in-4.ensures)

pub returns-in-5 : goal.returns-in-5
unfolding byte_at
returns-in-5 c = simp (c.in-5.is, c.msb-in-5.ensures)

pub returns-in-6 : goal.returns-in-6
unfolding byte_at
returns-in-6 c = simp (c.in-6.is, c.lsb-in-6.ensures)

pub returns-in-7 : goal.returns-in-7
unfolding byte_at
returns-in-7 c = simp (c.in-7.is, c.msb-in-7.ensures)

pub returns-in_default : goal.returns-in_default
unfolding byte_at
returns-in_default c = grind arith
