-- The part that is lent is what came and is not used.
use Rattle.window.proofs.Places.{unused-part}
use Rattle.stream.proofs.run_over.Goals as goal

pub returns : goal.returns
returns g c = rw (unused-part c.args.state.window c.args.buffer.now c.requires) at c.run.ensures
