use mathlib.Core.List.{[]}
use mathlib.Core.Path.{◌≡◌, refl}
use native.Mathlib.Omega.{arith}
use Rattle.text.proofs.Texts.{put-none}
use Rattle.measure.specs.Measure.{most_places}
use Rattle.measure.proofs.Numerals.{no-places, places-end}
use Rattle.measure.proofs.Begun.{next, done}
use Rattle.measure.proofs.put_places.Goals as goal

pub loop-i-init : goal.loop-i-init
loop-i-init c = (omega arith, record { front = []; so-many = refl; whole = refl; put = put-none c.args.out.now c.args.at (omega arith) })

pub returns-then-left-eq-NOTHING : goal.returns-then-left-eq-NOTHING
returns-then-left-eq-NOTHING c = done (no-places _ _ c.if-left-eq-NOTHING.true) c.loop-i.invariant.1

pub loop-i-preserved : goal.loop-i-preserved
loop-i-preserved c = (omega arith, next c.loop-i-test.true c.if-left-eq-NOTHING.false c.requires.1 c.loop-i.invariant.1)

pub returns : goal.returns
returns c =
    let l = c.loop-i in
    let e : l.i ≡ most_places = omega arith in
    done (places-end l.left) (rw e at l.invariant.1)
