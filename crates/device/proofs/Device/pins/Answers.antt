use Rattle.device.specs.Parts.{frames_of}
use Rattle.device.proofs.Device.pins.Goals as goal

pub returns : goal.returns
returns c = rw c.core.ensures at (c.pins.ensures (frames_of c.args.self))
