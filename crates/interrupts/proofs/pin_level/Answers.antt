use Rattle.interrupts.specs.Pins.{pin_level}
use Rattle.interrupts.proofs.pin_level.Goals as goal

pub returns : goal.returns
unfolding pin_level
returns c = simp (c.level_of.ensures, c.bit-2.ensures, c.open_bit.ensures, c.bit.ensures, c.level_bit.ensures, c.is_active-active.ensures)
