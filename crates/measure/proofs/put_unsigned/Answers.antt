use native.Mathlib.Omega.{arith}
use Prim.Native.Nat.{◌/◌}
use Rattle.text.proofs.Texts.{pushed-two, pushed-length}
use Rattle.measure.specs.Measure.{unsigned_text}
use Rattle.measure.proofs.Numerals.{length_whole}
use Rattle.measure.proofs.put_unsigned.Goals as goal

pub put_fraction-requires : goal.put_fraction-requires
put_fraction-requires c = (omega arith, omega (arith, pushed-length c.put_whole-to.ensures, length_whole (c.args.n / 1024) (omega arith)))

pub returns : goal.returns
unfolding unsigned_text
returns c = pushed-two c.put_whole-to.ensures c.put_fraction.ensures
