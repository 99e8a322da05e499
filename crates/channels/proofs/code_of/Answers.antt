use mir.Facts.{to_z-of_z}
use Rattle.channels.proofs.Remainders.{twelve_bits}
use Rattle.channels.proofs.code_of.Goals as goal

pub returns : goal.returns
returns c =
    let f = c.ranges.sample in
    rw (c.cast_unsigned.ensures, to_z-of_z f) (twelve_bits f)
