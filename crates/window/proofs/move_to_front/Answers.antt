-- What moves to the front is what is not used.
use Rattle.window.specs.Window.{unused}
use Rattle.window.proofs.move_to_front.Goals as goal

pub returns : goal.returns
unfolding unused
returns c = let m = c.move_forward-to.ensures in (rw m.0, m.1)
