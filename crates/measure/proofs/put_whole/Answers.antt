use mathlib.Core.Path.{refl}
use native.Mathlib.Omega.{arith}
use Rattle.benchlog.proofs.Places.{put_first, put-store}
use Rattle.text.proofs.Texts.{pushed}
use Rattle.measure.proofs.Numerals.{one-digit, two_digits, three-digits}
use Rattle.measure.proofs.put_whole.Goals as goal

pub returns-then-n-lt10 : goal.returns-then-n-lt10
returns-then-n-lt10 c =
    let a = c.args in
    rw (one-digit a.n c.if-n-lt10.true) (pushed (put_first a.out.now a.at _ (omega arith)) refl)

pub returns-then-n-lt100 : goal.returns-then-n-lt100
returns-then-n-lt100 c =
    let a = c.args in
    rw (two_digits a.n c.if-n-lt10.false c.if-n-lt100.true) (pushed (put-store _ (put_first a.out.now a.at _ (omega arith)) (omega arith) refl) refl)

pub returns : goal.returns
returns c =
    let a = c.args in
    rw (three-digits a.n c.if-n-lt100.false (omega arith))
    (pushed (put-store _ (put-store _ (put_first a.out.now a.at _ (omega arith)) (omega arith) refl) (omega arith) refl) refl)
