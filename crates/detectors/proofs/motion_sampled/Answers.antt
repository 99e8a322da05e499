use mathlib.Core.Path.{sym, ◌∙◌}
use Rattle.slopes.specs.Previous.{slopes_to}
use Rattle.motion.proofs.Laws.{no-axis}
use Rattle.detectors.specs.Detectors.{motion_settings}
use Rattle.detectors.proofs.motion_sampled.Goals as goal

pub returns-then-no_axis : goal.returns-then-no_axis
returns-then-no_axis c =
    let a = c.args in
    sym (no-axis (motion_settings a.regs.now) (slopes_to a.x a.y a.z a.previous) a.motion (sym c.no_axis.ensures ∙ c.if-no_axis.true))
