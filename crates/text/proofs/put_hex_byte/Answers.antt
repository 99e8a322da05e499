use mathlib.Core.Path.{refl}
use native.Mathlib.Omega.{arith}
use Rattle.benchlog.proofs.Places.{put_first, put-store}
use Rattle.text.proofs.Texts.{pushed}
use Rattle.text.proofs.put_hex_byte.Goals as goal

pub returns : goal.returns
returns c =
    let a = c.args in
    rw (c.hex_digit.ensures, c.hex_digit-2.ensures)
    (pushed (put-store _ (put_first a.out.now a.at _ (omega arith)) (omega arith) refl) refl)
