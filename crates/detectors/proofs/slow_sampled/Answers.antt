use mathlib.Core.Path.{sym, ◌∙◌}
use Rattle.slopes.specs.Previous.{slopes_to}
use Rattle.slow.proofs.Laws.{no-axis}
use Rattle.detectors.specs.Detectors.{slow_settings}
use Rattle.detectors.proofs.slow_sampled.Goals as goal

pub returns-then-no_axis : goal.returns-then-no_axis
returns-then-no_axis c =
    let a = c.args in
    sym (no-axis (slow_settings a.regs.now) (slopes_to a.x a.y a.z a.previous) a.slow (sym c.no_axis.ensures ∙ c.if-no_axis.true))
