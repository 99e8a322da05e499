use Rattle.std.proofs.Common.{◌∙◌}
use Rattle.interrupts.proofs.Maps.{maps-are}
use Rattle.interrupts.proofs.is_active.Goals as goal

pub returns : goal.returns
returns c = let a = c.args in c.any_mapped.ensures ∙ maps-are a.pin a.statuses a.regs.now _ c.mapped_to.ensures
