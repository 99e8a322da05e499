use Rattle.device.specs.Parts.{core_of, frames_of}
use Rattle.device.proofs.Device.mode.Goals as goal

pub returns : goal.returns
returns c = let d = c.args.self in c.mode_in.ensures (core_of d) (frames_of d)
