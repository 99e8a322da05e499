-- Each part is joined after the other: the sum of all where all of it fits, and none from the first part on that does not.
use mathlib.Core.Path.{◌∙◌}
use Rattle.sheets.specs.Sheets.{sheet_joined}
use Rattle.sheets.proofs.Joins.{refused, count-passed, count-whole, ranges-passed, ranges-whole}
use Rattle.sheets.proofs.Sheet.joined.Goals as goal

pub returns-in_err-join_counts : goal.returns-in_err-join_counts
unfolding sheet_joined
returns-in_err-join_counts c = refused _ c.from_residual.ensures.0 ∙ simp (count-passed _ _ c.in_err-join_counts.ensures)

pub returns-in_err-join_counts-2 : goal.returns-in_err-join_counts-2
unfolding sheet_joined
returns-in_err-join_counts-2 c = refused _ c.from_residual-in_err-join_counts-2.ensures.0 ∙ simp ((count-whole _ _ c.in_ok-join_counts.ensures).0, count-passed _ _ c.in_err-join_counts-2.ensures)

pub returns-in_err-join_counts-3 : goal.returns-in_err-join_counts-3
unfolding sheet_joined
returns-in_err-join_counts-3 c = refused _ c.from_residual-in_err-join_counts-3.ensures.0 ∙ simp ((count-whole _ _ c.in_ok-join_counts.ensures).0, (count-whole _ _ c.in_ok-join_counts-2.ensures).0, count-passed _ _ c.in_err-join_counts-3.ensures)

pub returns-in_err-join_counts-4 : goal.returns-in_err-join_counts-4
unfolding sheet_joined
returns-in_err-join_counts-4 c = refused _ c.from_residual-in_err-join_counts-4.ensures.0 ∙ simp ((count-whole _ _ c.in_ok-join_counts.ensures).0, (count-whole _ _ c.in_ok-join_counts-2.ensures).0, (count-whole _ _ c.in_ok-join_counts-3.ensures).0, count-passed _ _ c.in_err-join_counts-4.ensures)

pub returns-in_err-join_counts-5 : goal.returns-in_err-join_counts-5
unfolding sheet_joined
returns-in_err-join_counts-5 c = refused _ c.from_residual-in_err-join_counts-5.ensures.0 ∙ simp ((count-whole _ _ c.in_ok-join_counts.ensures).0, (count-whole _ _ c.in_ok-join_counts-2.ensures).0, (count-whole _ _ c.in_ok-join_counts-3.ensures).0, (count-whole _ _ c.in_ok-join_counts-4.ensures).0, count-passed _ _ c.in_err-join_counts-5.ensures)

pub returns-in_err-join_counts-6 : goal.returns-in_err-join_counts-6
unfolding sheet_joined
returns-in_err-join_counts-6 c = refused _ c.from_residual-in_err-join_counts-6.ensures.0 ∙ simp ((count-whole _ _ c.in_ok-join_counts.ensures).0, (count-whole _ _ c.in_ok-join_counts-2.ensures).0, (count-whole _ _ c.in_ok-join_counts-3.ensures).0, (count-whole _ _ c.in_ok-join_counts-4.ensures).0, (count-whole _ _ c.in_ok-join_counts-5.ensures).0, count-passed _ _ c.in_err-join_counts-6.ensures)

pub returns-in_err-joined : goal.returns-in_err-joined
unfolding sheet_joined
returns-in_err-joined c = refused _ c.from_residual-in_err-joined.ensures.0 ∙ simp ((count-whole _ _ c.in_ok-join_counts.ensures).0, (count-whole _ _ c.in_ok-join_counts-2.ensures).0, (count-whole _ _ c.in_ok-join_counts-3.ensures).0, (count-whole _ _ c.in_ok-join_counts-4.ensures).0, (count-whole _ _ c.in_ok-join_counts-5.ensures).0, (count-whole _ _ c.in_ok-join_counts-6.ensures).0, ranges-passed _ _ c.in_err-joined.ensures)

pub returns : goal.returns
unfolding sheet_joined
returns c =
    let p1 = count-whole _ _ c.in_ok-join_counts.ensures in
    let p2 = count-whole _ _ c.in_ok-join_counts-2.ensures in
    let p3 = count-whole _ _ c.in_ok-join_counts-3.ensures in
    let p4 = count-whole _ _ c.in_ok-join_counts-4.ensures in
    let p5 = count-whole _ _ c.in_ok-join_counts-5.ensures in
    let p6 = count-whole _ _ c.in_ok-join_counts-6.ensures in
    let p7 = ranges-whole _ _ c.in_ok-joined.ensures in
    simp (p1.0, p1.1, p2.0, p2.1, p3.0, p3.1, p4.0, p4.1, p5.0, p5.1, p6.0, p6.1, p7.0, p7.1)
