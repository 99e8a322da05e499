use mathlib.Core.Path.{◌∙◌, sym}
use native.Mathlib.Omega.{arith}
use Rattle.laws.proofs.Bytes.{copied_more, copied-ahead, copied-forward, length-between, get_d_between}
use Rattle.laws.proofs.move_forward.Goals as goal

pub loop-i-preserved : goal.loop-i-preserved
loop-i-preserved c =
    let a = c.args in
    let l = c.loop-i in
    let s = a.s.now in
    let b = length-between a.from a.to s in (
      omega arith,
      l.invariant.1,
      copied_more l.invariant.2 (omega arith) (omega arith) (omega arith)
          (copied-ahead a.from l.invariant.2 (omega arith) ∙ sym (get_d_between a.from a.to s l.i (omega arith))),
    )

pub returns : goal.returns
returns c = (omega arith, copied-forward c.args.from c.args.to (omega arith) c.loop-i.invariant.2)
