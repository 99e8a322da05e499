use Rattle.std.proofs.Common.{◌∙◌}
use Rattle.std.proofs.Math.Facts.{to_z-of_z}
use Rattle.device.proofs.Device.sample.Goals as goal

pub returns : goal.returns
returns c =
    let f = c.ranges in
    c.answered.ensures ∙ (rw (c.core.ensures, to_z-of_z f.x, to_z-of_z f.y, to_z-of_z f.z) at c.sample-done.ensures)
