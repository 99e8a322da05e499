use Rattle.device.proofs.Device.held.Goals as goal

pub returns : goal.returns
returns c = rw c.core.ensures at (c.held.ensures c.args.self.regs c.args.self.frames)
