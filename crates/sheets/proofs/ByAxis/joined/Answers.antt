-- Each part is joined after the other: the sum of all where all of it fits, and none from the first part on that does not.
use mathlib.Core.Path.{◌∙◌}
use Rattle.sheets.specs.Sheets.{axes_joined}
use Rattle.sheets.proofs.Joins.{refused, tally-passed, tally-whole}
use Rattle.sheets.proofs.ByAxis.joined.Goals as goal

pub returns-in_err-joined : goal.returns-in_err-joined
unfolding axes_joined
returns-in_err-joined c = refused _ c.from_residual.ensures.0 ∙ simp (tally-passed _ _ c.in_err-joined.ensures)

pub returns-in_err-joined-2 : goal.returns-in_err-joined-2
unfolding axes_joined
returns-in_err-joined-2 c = refused _ c.from_residual-in_err-joined-2.ensures.0 ∙ simp ((tally-whole _ _ c.in_ok-joined.ensures).0, tally-passed _ _ c.in_err-joined-2.ensures)

pub returns-in_err-joined-3 : goal.returns-in_err-joined-3
unfolding axes_joined
returns-in_err-joined-3 c = refused _ c.from_residual-in_err-joined-3.ensures.0 ∙ simp ((tally-whole _ _ c.in_ok-joined.ensures).0, (tally-whole _ _ c.in_ok-joined-2.ensures).0, tally-passed _ _ c.in_err-joined-3.ensures)

pub returns : goal.returns
unfolding axes_joined
returns c =
    let p1 = tally-whole _ _ c.in_ok-joined.ensures in
    let p2 = tally-whole _ _ c.in_ok-joined-2.ensures in
    let p3 = tally-whole _ _ c.in_ok-joined-3.ensures in
    simp (p1.0, p1.1, p2.0, p2.1, p3.0, p3.1)
