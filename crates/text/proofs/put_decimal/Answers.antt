use native.Mathlib.Omega.{arith}
use Rattle.text.proofs.Texts.{length-decimal}
use Rattle.text.proofs.put_decimal.Goals as goal

pub spell-requires : goal.spell-requires
spell-requires c = (c.digits_in-count.ensures, omega (arith, length-decimal c.args.n))
