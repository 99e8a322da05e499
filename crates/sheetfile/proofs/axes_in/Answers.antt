use Rattle.std.proofs.lemmas.List.{take_rest}
use Rattle.sheetfile.specs.Reader.{axes_in}
use Rattle.sheetfile.proofs.axes_in.Goals as goal

pub returns : goal.returns
unfolding axes_in
returns c = simp (c.tally_in-3.ensures, c.tally_in-2.ensures, c.tally_in.ensures, take_rest)
