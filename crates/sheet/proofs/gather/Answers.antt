-- One name more is one more that is taken.
use Rattle.std.proofs.Common.{arith, ◌≡◌, suc, ◌+◌, ◌-◌}
use Rattle.sheet.specs.Program.{Gathered}
use Rattle.sheet.proofs.gather.Goals as goal

pub loop-i-init : goal.loop-i-init
loop-i-init c = record { gathered = rw c.empty.ensures Gathered.none; upto = omega arith }

pub loop-i-preserved : goal.loop-i-preserved
loop-i-preserved c =
    let l = c.loop-i in
    let one : l.i + 1 - 2 ≡ suc (l.i - 2) = omega (arith, l.auto.i) in
    record {
      gathered = rw one (Gathered.more l.invariant.gathered c.take_word-gathering.ensures);
      upto = omega (arith, l.auto.i, c.loop-i-test.true);
    }

pub returns : goal.returns
returns c =
    let l = c.loop-i in
    let all : l.i - 2 ≡ c.args.count - 2 = omega (arith, l.invariant.upto, c.loop-i-test.false) in
    rw (← all) l.invariant.gathered
