use mathlib.Core.Path.{ap}
use borrow.Author.Rules.{rules}
use Rattle.std.specs.Prelude.{Some}
use Rattle.slopes.specs.Previous.{slopes_to}
use Rattle.slopes.specs.declared.Slopes.{Slopes}
use Rattle.slopes.proofs.Previous.slopes_to.Goals as goal

pub returns-then-self : goal.returns-then-self
unfolding slopes_to
returns-then-self c = rw c.if-self.true (ap {A = Slopes} Some (search rules))
