-- A join that came to a sum: all of it fits, and it is that. One that came to none: it does not fit.
-- Assumes nothing.
use Prim.Native.Nat.{ℕ, ◌+◌}
use mathlib.Core.Bool.{Bool, true, false}
use mathlib.Core.Path.{◌≡◌, refl}
use lib.IntN.{ℤ, ◌+ℤ◌}
use Rattle.std.specs.Prelude.{Result, Ok, Err, IsErr}
use Rattle.laws.specs.Choice.{pick}
use Rattle.sheets.specs.Sheets.{where_it_fits, tally_fits, axes_fit, ranges_fit, sheet_fits, count_fits, sum_fits, tally_over, axes_over, ranges_over, sheet_over, count_joined, sum_joined, tally_joined, axes_joined, ranges_joined, sheet_joined}
use Rattle.sheets.specs.declared.TooLarge.{TooLarge}
use Rattle.sheets.specs.declared.Tally.{Tally}
use Rattle.sheets.specs.declared.ByAxis.{ByAxis}
use Rattle.sheets.specs.declared.ByRange.{ByRange}
use Rattle.sheets.specs.declared.Sheet.{Sheet}

module _ {T : Type 0} (fits : T → Bool) (total : T) where
  pub whole : {sum : T} → ◌≡◌ {A = Result T TooLarge} (Ok sum) (where_it_fits fits total) → (fits total ≡ true) × (sum ≡ total)
  whole {sum} e = go (fits total) refl e
    where
      go : (t : Bool) → fits total ≡ t → ◌≡◌ {A = Result T TooLarge} (Ok sum) (pick t (Ok total) (Err (record {}))) → (fits total ≡ true) × (sum ≡ total)
      go true f e = (f, cc)
      go false f e = cc

  pub passed : {e : TooLarge} → ◌≡◌ {A = Result T TooLarge} (Err e) (where_it_fits fits total) → fits total ≡ false
  passed {e} p = go (fits total) refl p
    where
      go : (t : Bool) → fits total ≡ t → ◌≡◌ {A = Result T TooLarge} (Err e) (pick t (Ok total) (Err (record {}))) → fits total ≡ false
      go true f p = cc
      go false f p = f

-- there is one value of a refusal
pub refused : {T : Type 0} (r : Result T TooLarge) → IsErr r → r ≡ Err (record {})
refused (Ok x) e = cc
refused (Err e) h = refl

pub count-whole : (a b : ℕ) {n : ℕ} → Ok n ≡ count_joined a b → (count_fits (a + b) ≡ true) × (n ≡ a + b)
unfolding count_joined
count-whole a b e = whole count_fits _ e

pub count-passed : (a b : ℕ) {e : TooLarge} → Err e ≡ count_joined a b → count_fits (a + b) ≡ false
unfolding count_joined
count-passed a b e = passed count_fits _ e

pub sum-whole : (a b : ℤ) {n : ℤ} → Ok n ≡ sum_joined a b → (sum_fits (a +ℤ b) ≡ true) × (n ≡ a +ℤ b)
unfolding sum_joined
sum-whole a b e = whole sum_fits _ e

pub sum-passed : (a b : ℤ) {e : TooLarge} → Err e ≡ sum_joined a b → sum_fits (a +ℤ b) ≡ false
unfolding sum_joined
sum-passed a b e = passed sum_fits _ e

pub tally-whole : (a b : Tally) {t : Tally} → Ok t ≡ tally_joined a b → (tally_fits (tally_over a b) ≡ true) × (t ≡ tally_over a b)
unfolding tally_joined
tally-whole a b e = whole tally_fits _ e

pub tally-passed : (a b : Tally) {e : TooLarge} → Err e ≡ tally_joined a b → tally_fits (tally_over a b) ≡ false
unfolding tally_joined
tally-passed a b e = passed tally_fits _ e

pub axes-whole : (a b : ByAxis) {t : ByAxis} → Ok t ≡ axes_joined a b → (axes_fit (axes_over a b) ≡ true) × (t ≡ axes_over a b)
unfolding axes_joined
axes-whole a b e = whole axes_fit _ e

pub axes-passed : (a b : ByAxis) {e : TooLarge} → Err e ≡ axes_joined a b → axes_fit (axes_over a b) ≡ false
unfolding axes_joined
axes-passed a b e = passed axes_fit _ e

pub ranges-whole : (a b : ByRange) {t : ByRange} → Ok t ≡ ranges_joined a b → (ranges_fit (ranges_over a b) ≡ true) × (t ≡ ranges_over a b)
unfolding ranges_joined
ranges-whole a b e = whole ranges_fit _ e

pub ranges-passed : (a b : ByRange) {e : TooLarge} → Err e ≡ ranges_joined a b → ranges_fit (ranges_over a b) ≡ false
unfolding ranges_joined
ranges-passed a b e = passed ranges_fit _ e

pub sheet-whole : (a b : Sheet) {t : Sheet} → Ok t ≡ sheet_joined a b → (sheet_fits (sheet_over a b) ≡ true) × (t ≡ sheet_over a b)
unfolding sheet_joined
sheet-whole a b e = whole sheet_fits _ e

pub sheet-passed : (a b : Sheet) {e : TooLarge} → Err e ≡ sheet_joined a b → sheet_fits (sheet_over a b) ≡ false
unfolding sheet_joined
sheet-passed a b e = passed sheet_fits _ e
