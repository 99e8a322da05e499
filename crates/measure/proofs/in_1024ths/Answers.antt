use lib.Ieee.{of_bits}
use lib.Ieee.Casts.{to_signed_in}
use mir.Syntax.{w32}
use mir.Facts.{to_z-of_z}
use Rattle.measure.specs.Measure.{times1024}
use Rattle.measure.proofs.in_1024ths.Goals as goal

pub float_to_int-result : goal.float_to_int-result
unfolding of_bits
float_to_int-result c = c.requires

pub returns : goal.returns
unfolding of_bits
returns c = to_z-of_z {w = w32} (record { sfits = to_signed_in 31 (times1024 c.args.g) })
