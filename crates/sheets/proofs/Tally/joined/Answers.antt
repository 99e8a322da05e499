use mathlib.Core.Path.{◌≡◌, ◌∙◌}
use Rattle.std.specs.Prelude.{Ok}
use borrow.Author.Rules.{rules}
use mir.Facts.{to_z-of_z}
use mir.Syntax.{w64}
use mir.Val.{SFits}
use Rattle.sheets.specs.Sheets.{extremes_over, tally_joined}
use Rattle.sheets.proofs.Joins.{refused, sum-whole, sum-passed}
use Rattle.sheets.proofs.Tally.joined.Goals as goal

pub returns-in_err-join_sums : goal.returns-in_err-join_sums
unfolding tally_joined
returns-in_err-join_sums c =
    let p = c.args in
    let a : SFits w64 p.self.sum = search rules in
    let b : SFits w64 p.more.sum = search rules in
    refused _ c.from_residual.ensures.0 ∙ simp (rw (to_z-of_z a, to_z-of_z b) at (sum-passed _ _ c.in_err-join_sums.ensures))

pub returns : goal.returns
unfolding tally_joined
returns c =
    let p = c.args in
    let a : SFits w64 p.self.sum = search rules in
    let b : SFits w64 p.more.sum = search rules in
    let s : SFits w64 c.in_ok-join_sums.field-0 = search rules in
    let sum = rw (to_z-of_z a, to_z-of_z b) at (sum-whole _ _ c.in_ok-join_sums.ensures) in
    let extremes : c.extremes_over.result ≡ extremes_over p.self.extremes p.more.extremes = c.extremes_over.ensures in
    rw sum.0 (λ i. Ok (record { extremes = extremes i; sum = (to_z-of_z s ∙ sum.1) i }))
