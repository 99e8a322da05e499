use Rattle.std.proofs.lemmas.List.{take_rest}
use Rattle.sheetfile.specs.Reader.{ranges_in}
use Rattle.sheetfile.proofs.ranges_in.Goals as goal

pub returns : goal.returns
unfolding ranges_in
returns c = simp (c.axes_in-4.ensures, c.axes_in-3.ensures, c.axes_in-2.ensures, c.axes_in.ensures, take_rest)
