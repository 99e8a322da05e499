use Rattle.std.proofs.lemmas.List.{take_rest}
use Rattle.sheetfile.specs.Reader.{month_in}
use Rattle.sheetfile.proofs.month_in.Goals as goal

pub returns : goal.returns
unfolding month_in
returns c = simp (c.eight_in-8.ensures, c.eight_in-7.ensures, c.ranges_in.ensures, c.eight_in-6.ensures, c.eight_in-5.ensures, c.eight_in-4.ensures, c.eight_in-3.ensures, c.eight_in-2.ensures, c.eight_in.ensures, take_rest)
