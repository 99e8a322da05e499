use Rattle.std.proofs.Math.Nat.{add-zero}
use Rattle.interrupts.specs.Maps.{status_byte}
use Rattle.interrupts.proofs.data_byte.Goals as goal

pub returns : goal.returns
unfolding status_byte
returns c = simp (c.weigh-3.ensures, c.weigh-2.ensures, c.weigh.ensures, add-zero)
