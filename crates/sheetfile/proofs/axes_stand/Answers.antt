use Rattle.std.proofs.lemmas.List.{take_rest}
use Rattle.sheetfile.specs.Reader.{axes_stand}
use Rattle.sheetfile.proofs.axes_stand.Goals as goal

pub returns : goal.returns
unfolding axes_stand
returns c = simp (c.both-2.ensures, c.both.ensures, c.tally_stands-z.ensures, c.tally_stands-y.ensures, c.tally_stands-x.ensures, take_rest)
