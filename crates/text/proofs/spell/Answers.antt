use mathlib.Core.List.{[], append-nil}
use mathlib.Core.Path.{◌≡◌, sym, ◌∙◌}
use Prim.Native.Nat.{◌+◌}
use native.Mathlib.Omega.{arith}
use Rattle.text.proofs.Texts.{put-none, pushed}
use Rattle.text.proofs.Spelled.{exactly, next, done}
use Rattle.text.proofs.spell.Goals as goal

pub loop-i-init : goal.loop-i-init
loop-i-init c =
    let a = c.args in
    record { tail = []; whole = exactly a.n ∙ rw c.requires.0 (sym (append-nil _)); put = put-none a.out.now (a.at + a.count) c.requires.1 }

pub loop-i-preserved : goal.loop-i-preserved
loop-i-preserved c = next c.loop-i-test.true c.loop-i.invariant

pub returns : goal.returns
returns c =
    let e : c.loop-i.i ≡ 0 = omega arith in
    pushed (done (rw e at c.loop-i.invariant)) (omega (arith, c.requires.0))
