use Rattle.std.proofs.lemmas.List.{take_rest}
use Rattle.sheetfile.specs.Reader.{ranges_stand}
use Rattle.sheetfile.proofs.ranges_stand.Goals as goal

pub returns : goal.returns
unfolding ranges_stand
returns c = simp (c.both-3.ensures, c.both-2.ensures, c.both.ensures, c.axes_stand-g16.ensures, c.axes_stand-g8.ensures, c.axes_stand-g4.ensures, c.axes_stand-g2.ensures, take_rest)
