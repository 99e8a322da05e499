use mathlib.Core.Path.{◌≡◌, ap, ◌∙◌}
use lib.ListN.{get_or}
use mir.Facts.{to_z-of_z}
use mir.Syntax.{w16, w64}
use mir.Val.{SFits, to_z, of_z}
use borrow.Author.Rules.{rules}
use Rattle.std.proofs.lemmas.List.{take_rest}
use Rattle.sheetfile.specs.Reader.{extremes_of, tally_in}
use Rattle.sheetfile.proofs.tally_in.Goals as goal

pub returns : goal.returns
unfolding tally_in
returns c =
    let s = c.args.s.now in
    let fits : SFits w64 c.cast_signed.result = search rules in
    let fits-smallest : SFits w16 c.from_be_bytes-smallest.result = search rules in
    let fits-largest : SFits w16 c.from_be_bytes-largest.result = search rules in
    let sum : to_z w64 (of_z w64 c.cast_signed.result) ≡ (tally_in s).sum =
    to_z-of_z fits ∙ c.cast_signed.ensures ∙ ap (to_z w64) (rw take_rest at c.eight_in.ensures) in
    let told : c.extremes_of.result ≡ extremes_of (get_or s 0 0) c.from_be_bytes-smallest.result c.from_be_bytes-largest.result =
    simp (c.extremes_of.ensures, to_z-of_z fits-smallest, to_z-of_z fits-largest) in
    let extremes : c.extremes_of.result ≡ (tally_in s).extremes = told ∙ simp (c.from_be_bytes-smallest.ensures, c.from_be_bytes-largest.ensures) in
    λ i. record { extremes = extremes i; sum = sum i }
