use mathlib.Core.Path.{refl}
use native.Mathlib.Omega.{arith}
use Rattle.benchlog.proofs.Fields.{copied_first}
use Rattle.text.proofs.Texts.{pushed}
use Rattle.text.proofs.copy_word.Goals as goal

pub returns : goal.returns
returns c =
    let a = c.args in
    pushed (copied_first a.out.now a.at _ a.word.now c.requires (omega arith) c.copy_from_slice.ensures.after) refl
