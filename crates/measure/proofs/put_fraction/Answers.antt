use borrow.Author.Tests.{eq-eqb, ne_eqb}
use mathlib.Core.Path.{refl}
use native.Mathlib.Omega.{arith}
use Rattle.benchlog.proofs.Places.{put_first}
use Rattle.text.proofs.Texts.{pushed, pushed_none, pushed-two}
use Rattle.measure.specs.Measure.{fraction_text}
use Rattle.measure.proofs.put_fraction.Goals as goal

pub returns-then-rest-eq0 : goal.returns-then-rest-eq0
unfolding fraction_text
returns-then-rest-eq0 c = rw (eq-eqb _ 0 c.if-rest-eq0.true) (pushed_none c.args.out.now c.args.at (omega arith))

pub returns : goal.returns
unfolding fraction_text
returns c =
    let a = c.args in
    rw (ne_eqb _ 0 c.if-rest-eq0.false) (pushed-two (pushed (put_first a.out.now a.at 46 (omega arith)) refl) c.put_places.ensures)
