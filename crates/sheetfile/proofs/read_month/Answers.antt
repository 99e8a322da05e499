use borrow.Author.Tests.{eq-eqb, ne_eqb}
use Rattle.std.proofs.lemmas.List.{take_rest}
use Rattle.sheetfile.specs.Reader.{is_sheet, decode}
use Rattle.sheetfile.proofs.read_month.Goals as goal

pub returns-then-bytes-ne-SIZE : goal.returns-then-bytes-ne-SIZE
unfolding is_sheet decode
returns-then-bytes-ne-SIZE c = simp (ne_eqb _ _ c.if-bytes-ne-SIZE.true)

pub returns-then-both : goal.returns-then-both
unfolding is_sheet decode
returns-then-both c =
    let t = rw (c.both-2.ensures, c.both.ensures, c.is_whole.ensures, c.month_in-month.ensures, c.ranges_stand-ranges.ensures, take_rest, c.head_stands-head.ensures) at c.if-both.true in
    simp (eq-eqb _ _ c.if-bytes-ne-SIZE.false, t, c.month_in-month.ensures)

pub returns-else-both : goal.returns-else-both
unfolding is_sheet decode
returns-else-both c =
    let t = rw (c.both-2.ensures, c.both.ensures, c.is_whole.ensures, c.month_in-month.ensures, c.ranges_stand-ranges.ensures, take_rest, c.head_stands-head.ensures) at c.if-both.false in
    simp (eq-eqb _ _ c.if-bytes-ne-SIZE.false, t)
