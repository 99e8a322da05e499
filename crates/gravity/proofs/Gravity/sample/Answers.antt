use Rattle.gravity.proofs.Idle.{neither}
use Rattle.gravity.proofs.Gravity.sample.Goals as goal

pub returns-then-regs-eq0 : goal.returns-then-regs-eq0
returns-then-regs-eq0 c = neither c.args.regs.now c.args.x c.args.y c.args.z c.args.self c.if-regs-eq0.true
