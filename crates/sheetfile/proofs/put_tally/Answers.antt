-- The flag, the smallest, the largest and the sum are written one behind the other.
use Prim.Native.Nat.{◌+◌, ◌-◌}
use mathlib.Core.Path.{refl, ◌∙◌}
use native.Mathlib.Omega.{arith}
use mir.Facts.{to_z-of_z, Fits-of_z}
use mir.Syntax.{w16, w64}
use mir.Val.{SFits}
use borrow.Author.Rules.{rules}
use Rattle.benchlog.specs.Format.{signed}
use Rattle.benchlog.proofs.Places.{put_first, put_on}
use Rattle.benchlog.proofs.Fields.{two-bytes, copied-behind}
use Rattle.sheetfile.specs.Format.{big_endian8, tally_bytes}
use Rattle.sheetfile.proofs.Lengths.{length-eight}
use Rattle.sheetfile.proofs.put_tally.Goals as goal

pub returns : goal.returns
unfolding tally_bytes
returns c =
    let a = c.args in
    let fits-smallest : SFits w16 c.smallest_of-smallest.result = search rules in
    let fits-largest : SFits w16 c.largest_of-largest.result = search rules in
    let fits : SFits w64 a.tally.sum = search rules in
    let low = signed c.smallest_of-smallest.result in
    let high = signed c.largest_of-largest.result in
    -- the flag and the smallest; both and the largest; and the sum
    let p =
    copied-behind (a.at + 3 - (a.at + 1)) low (put_first a.out.now a.at c.flag_of.result (omega arith)) (omega arith) refl (omega arith)
    (c.copy_from_slice.ensures.after ∙ rw (to_z-of_z fits-smallest) at c.to_be_bytes.ensures ∙ two-bytes _ (Fits-of_z fits-smallest).fits) in
    let q =
    copied-behind (a.at + 5 - (a.at + 3)) high p (omega arith) refl (omega arith)
    (c.copy_from_slice-2.ensures.after ∙ rw (to_z-of_z fits-largest) at c.to_be_bytes-2.ensures ∙ two-bytes _ (Fits-of_z fits-largest).fits) in
    let sum = rw (to_z-of_z fits) at c.cast_unsigned.ensures in
    let all = put_on (big_endian8 c.cast_unsigned.result) q (omega (arith, length-eight c.cast_unsigned.result)) refl c.put_eight.ensures in (
      rw (← c.flag_of.ensures, ← c.smallest_of-smallest.ensures.0, ← c.largest_of-largest.ensures, ← sum) all.is,
      record { extremes = c.smallest_of-smallest.ensures.1; sum = fits },
    )
