-- `fifo::Fifo::status` meets its contract: no more are held than fit, and the overrun bit stands above the count.
use Rattle.std.proofs.Common.{rules}
use Rattle.fifo.specs.Store.{count_in}
use Rattle.fifo.proofs.Fifo.status.Goals as goal

pub overflow_cast-count : goal.overflow_cast-count
unfolding count_in
overflow_cast-count c = search rules

pub overflow_add-result : goal.overflow_add-result
unfolding count_in
overflow_add-result c = search rules
