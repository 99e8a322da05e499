-- Each part is joined after the other: the sum of all where all of it fits, and none from the first part on that does not.
use mathlib.Core.Path.{◌∙◌}
use Rattle.sheets.specs.Sheets.{ranges_joined}
use Rattle.sheets.proofs.Joins.{refused, axes-passed, axes-whole}
use Rattle.sheets.proofs.ByRange.joined.Goals as goal

pub returns-in_err-g2 : goal.returns-in_err-g2
unfolding ranges_joined
returns-in_err-g2 c = refused _ c.from_residual.ensures.0 ∙ simp (axes-passed _ _ c.in_err-g2.ensures)

pub returns-in_err-g4 : goal.returns-in_err-g4
unfolding ranges_joined
returns-in_err-g4 c = refused _ c.from_residual-in_err-g4.ensures.0 ∙ simp ((axes-whole _ _ c.in_ok-g2.ensures).0, axes-passed _ _ c.in_err-g4.ensures)

pub returns-in_err-g8 : goal.returns-in_err-g8
unfolding ranges_joined
returns-in_err-g8 c = refused _ c.from_residual-in_err-g8.ensures.0 ∙ simp ((axes-whole _ _ c.in_ok-g2.ensures).0, (axes-whole _ _ c.in_ok-g4.ensures).0, axes-passed _ _ c.in_err-g8.ensures)

pub returns-in_err-g16 : goal.returns-in_err-g16
unfolding ranges_joined
returns-in_err-g16 c = refused _ c.from_residual-in_err-g16.ensures.0 ∙ simp ((axes-whole _ _ c.in_ok-g2.ensures).0, (axes-whole _ _ c.in_ok-g4.ensures).0, (axes-whole _ _ c.in_ok-g8.ensures).0, axes-passed _ _ c.in_err-g16.ensures)

pub returns : goal.returns
unfolding ranges_joined
returns c =
    let p1 = axes-whole _ _ c.in_ok-g2.ensures in
    let p2 = axes-whole _ _ c.in_ok-g4.ensures in
    let p3 = axes-whole _ _ c.in_ok-g8.ensures in
    let p4 = axes-whole _ _ c.in_ok-g16.ensures in
    simp (p1.0, p1.1, p2.0, p2.1, p3.0, p3.1, p4.0, p4.1)
