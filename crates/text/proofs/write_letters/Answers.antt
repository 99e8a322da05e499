use mathlib.Core.Path.{refl}
use native.Mathlib.Omega.{arith}
use Rattle.benchlog.proofs.Places.{put_first, put-store}
use Rattle.text.proofs.Texts.{pushed}
use Rattle.text.proofs.write_letters.Goals as goal

pub returns : goal.returns
returns c =
    let a = c.args in
    rw (c.letter_of.ensures, c.letter_of-2.ensures)
    (pushed
    (put-store _ (put-store _ (put-store _ (put-store _ (put_first a.out.now a.at 32 (omega arith)) (omega arith) refl) (omega arith) refl) (omega arith) refl) (omega arith) refl)
    refl)
