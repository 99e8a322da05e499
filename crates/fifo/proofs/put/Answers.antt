-- `fifo::put` meets its contract, by the invariant of a loop that copies.
use Rattle.std.proofs.Common.{refl, arith}
use Rattle.laws.proofs.Bytes.{copied_none, copied_more, copied_all}
use Rattle.fifo.proofs.put.Goals as goal

pub loop-i-init : goal.loop-i-init
loop-i-init c = (omega arith, copied_none c.args.s.now c.args.at c.args.frame.now)

pub loop-i-preserved : goal.loop-i-preserved
loop-i-preserved c = (omega arith, copied_more c.loop-i.invariant.1 (omega arith) (omega arith) refl refl)

pub returns : goal.returns
returns c = copied_all c.args.size (omega arith) c.loop-i.invariant.1
