use mir.Facts.{to_z-of_z}
use mir.Syntax.{w16, w64}
use mir.Val.{SFits}
use borrow.Author.Rules.{rules}
use Rattle.sheetfile.specs.Whole.{tally_is_whole}
use Rattle.sheetfile.proofs.Sums.{zero_bits}
use Rattle.sheetfile.proofs.tally_is_whole.Goals as goal

pub returns-in-None : goal.returns-in-None
unfolding tally_is_whole
returns-in-None c =
    let t = c.args.tally in
    let fits : SFits w64 t.sum = search rules in
    rw (zero_bits t.sum fits) (simp c.in-None.is)

pub returns-in-Some : goal.returns-in-Some
unfolding tally_is_whole
returns-in-Some c =
    let s : SFits w16 c.in-Some.extremes.smallest = search rules in
    let l : SFits w16 c.in-Some.extremes.largest = search rules in
    simp (c.in-Some.is, to_z-of_z s, to_z-of_z l)
