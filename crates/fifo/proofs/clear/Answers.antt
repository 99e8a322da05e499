-- `fifo::clear` meets its contract, by the invariant of a loop that copies, here zeros.
use Rattle.std.proofs.Common.{refl, sym, arith}
use Rattle.laws.specs.Bytes.{zeros}
use Rattle.laws.proofs.Bytes.{copied_none, copied_more, copied_all, length-zeros, get_d-zeros}
use Rattle.fifo.proofs.clear.Goals as goal

pub loop-i-init : goal.loop-i-init
loop-i-init c = (omega arith, copied_none c.args.s.now c.args.at (zeros c.args.n))

pub loop-i-preserved : goal.loop-i-preserved
loop-i-preserved c =
    let n = c.args.n in
    let l = c.loop-i in
    (omega arith, copied_more l.invariant.1 (omega arith) (omega (arith, length-zeros n)) refl (sym (get_d-zeros n l.i)))

pub returns : goal.returns
returns c = copied_all c.args.n (omega arith) c.loop-i.invariant.1
