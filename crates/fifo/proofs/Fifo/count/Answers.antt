-- `fifo::Fifo::count` meets its contract: no more are held than fit.
use Rattle.fifo.specs.Store.{count_in}
use Rattle.fifo.proofs.Fifo.count.Goals as goal

pub returns : goal.returns
unfolding count_in
returns c = rw (c.least.ensures, c.depth_within.ensures)
