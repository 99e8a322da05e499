use native.Mathlib.Omega.{arith}
use borrow.Author.Tests.{ne_eqb}
use Rattle.channels.specs.Channels.{after_read}
use Rattle.channels.proofs.Channels.after_read.Goals as goal

pub returns-in-2 : goal.returns-in-2
unfolding after_read
returns-in-2 c = simp (c.in-2.is, ← c.after_lsb-self.ensures)

pub returns-in-3 : goal.returns-in-3
unfolding after_read
returns-in-3 c = simp (c.in-3.is, ← c.unlock-self.ensures)

pub returns-in-4 : goal.returns-in-4
unfolding after_read
returns-in-4 c = simp (c.in-4.is, ← c.after_lsb-self-in-4.ensures)

pub returns-in-5 : goal.returns-in-5
unfolding after_read
returns-in-5 c = simp (c.in-5.is, ← c.unlock-self-in-5.ensures)

pub returns-in-6 : goal.returns-in-6
unfolding after_read
returns-in-6 c = simp (c.in-6.is, ← c.after_lsb-self-in-6.ensures)

pub returns-in-7 : goal.returns-in-7
unfolding after_read
returns-in-7 c = simp (c.in-7.is, ← c.unlock-self-in-7.ensures)

pub returns-in_default : goal.returns-in_default
unfolding after_read
returns-in_default c =
    let a = c.args.address in
    simp (
      ne_eqb a 2 (omega arith),
      ne_eqb a 3 (omega arith),
      ne_eqb a 4 (omega arith),
      ne_eqb a 5 (omega arith),
      ne_eqb a 6 (omega arith),
      ne_eqb a 7 (omega arith),
    )
