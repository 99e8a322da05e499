-- Each part is joined after the other: the sum of all where all of it fits, and none from the first part on that does not.
use mathlib.Core.Path.{◌∙◌}
use Rattle.sheets.specs.Sheets.{month_joined}
use Rattle.sheets.proofs.Joins.{refused, count-passed, count-whole, sheet-passed, sheet-whole}
use Rattle.sheets.proofs.Month.joined.Goals as goal

pub returns-in_err-joined : goal.returns-in_err-joined
unfolding month_joined
returns-in_err-joined c = refused _ c.from_residual.ensures.0 ∙ simp (sheet-passed _ _ c.in_err-joined.ensures)

pub returns-in_err-join_counts : goal.returns-in_err-join_counts
unfolding month_joined
returns-in_err-join_counts c = refused _ c.from_residual-in_err-join_counts.ensures.0 ∙ simp ((sheet-whole _ _ c.in_ok-joined.ensures).0, count-passed _ _ c.in_err-join_counts.ensures)

pub returns-in_err-join_counts-2 : goal.returns-in_err-join_counts-2
unfolding month_joined
returns-in_err-join_counts-2 c = refused _ c.from_residual-in_err-join_counts-2.ensures.0 ∙ simp ((sheet-whole _ _ c.in_ok-joined.ensures).0, (count-whole _ _ c.in_ok-join_counts.ensures).0, count-passed _ _ c.in_err-join_counts-2.ensures)

pub returns : goal.returns
unfolding month_joined
returns c =
    let p1 = sheet-whole _ _ c.in_ok-joined.ensures in
    let p2 = count-whole _ _ c.in_ok-join_counts.ensures in
    let p3 = count-whole _ _ c.in_ok-join_counts-2.ensures in
    simp (p1.0, p1.1, p2.0, p2.1, p3.0, p3.1)
