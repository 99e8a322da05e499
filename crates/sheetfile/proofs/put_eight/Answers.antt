use mathlib.Core.Path.{◌∙◌}
use native.Mathlib.Omega.{arith}
use Rattle.benchlog.proofs.Fields.{copied}
use Rattle.sheetfile.proofs.Eight.{eight-bytes}
use Rattle.sheetfile.proofs.Lengths.{length-eight}
use Rattle.sheetfile.proofs.put_eight.Goals as goal

pub returns : goal.returns
returns c =
    let a = c.args in
    rw (c.copy_from_slice.ensures.after ∙ c.to_be_bytes.ensures ∙ eight-bytes a.number c.ranges.number.fits)
    (copied a.out.now a.at _ _ (omega (arith, length-eight a.number)))
