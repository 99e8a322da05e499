use mir.Facts.{to_z-of_z}
use Rattle.tally.specs.Tally.{sums_sampled}
use Rattle.tally.proofs.Sums.sampled.Goals as goal

pub returns : goal.returns
unfolding sums_sampled
returns c =
    let f = c.ranges in
    rw (to_z-of_z f.x, to_z-of_z f.y, to_z-of_z f.z) at c.add_sample.ensures
