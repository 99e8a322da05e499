-- Months that are sheets of some logs, and months whose numbers fit.
use Rattle.std.specs.Prelude.{ℕ, ◌+◌, ◌^◌, ◌<◌, Bool, false, eqb, leb, Option, Some, None, ℤ, pos, negsuc}
use Rattle.std.specs.Int.Signed.{le_z}
use Rattle.std.specs.Int.{w16, w64}
use Rattle.std.proofs.Common.{SFits}
use Rattle.laws.specs.Choice.{both}
use Rattle.sheets.specs.declared.Extremes.{Extremes}
use Rattle.sheets.specs.declared.Tally.{Tally}
use Rattle.sheets.specs.declared.ByAxis.{ByAxis}
use Rattle.sheets.specs.declared.ByRange.{ByRange}
use Rattle.sheets.specs.declared.Sheet.{Sheet}
use Rattle.sheets.specs.declared.Month.{Month}

-- ---- what every sheet of logs has
abbrev pub is_zero : ℤ → Bool
is_zero (pos n) = eqb n 0
is_zero (negsuc n) = false

-- the sum of no samples is 0; of some, the smallest is not above the largest
abbrev pub goes_with : Option Extremes → ℤ → Bool
goes_with None sum = is_zero sum
goes_with (Some e) sum = le_z e.smallest e.largest

unfoldable pub tally_is_whole : Tally → Bool
tally_is_whole t = goes_with t.extremes t.sum

unfoldable pub axes_are_whole : ByAxis → Bool
axes_are_whole a = both (tally_is_whole a.x) (both (tally_is_whole a.y) (tally_is_whole a.z))

unfoldable pub ranges_are_whole : ByRange → Bool
ranges_are_whole r = both (both (axes_are_whole r.g2) (axes_are_whole r.g4)) (both (axes_are_whole r.g8) (axes_are_whole r.g16))

abbrev pub add_up : ℕ → ℕ → ℕ → ℕ → ℕ → Bool
add_up total a b c d = eqb total (a + b + c + d)

-- every sample that was accepted is taken, held, lost or cleared
abbrev pub counts_add_up : Sheet → Bool
counts_add_up s = add_up s.accepted s.taken s.held s.lost s.cleared

-- and no more logs were refused than there are
unfoldable pub is_whole : Month → Bool
is_whole m = both (counts_add_up m.sheet) (both (leb m.refused m.logs) (ranges_are_whole m.sheet.ranges))

-- ---- months whose counts have 64 bits, whose extremes 16 and whose sums 64. Every month that a program holds is such a one: the writer's
-- `put_month` promises it of whatever month it is handed, by the types of its fields alone
abbrev pub ExtremesFit : Option Extremes → Type 0
ExtremesFit None = Unit {0}
ExtremesFit (Some e) = SFits w16 e.smallest × SFits w16 e.largest

pub record TallyFits (t : Tally) : Type 0 where
  pub extremes : ExtremesFit t.extremes
  pub sum : SFits w64 t.sum

pub record AxesFit (a : ByAxis) : Type 0 where
  pub x : TallyFits a.x
  pub y : TallyFits a.y
  pub z : TallyFits a.z

pub record RangesFit (r : ByRange) : Type 0 where
  pub g2 : AxesFit r.g2
  pub g4 : AxesFit r.g4
  pub g8 : AxesFit r.g8
  pub g16 : AxesFit r.g16

abbrev pub FourFit : ℕ → ℕ → ℕ → ℕ → Type 0
FourFit a b c d = (a < 2 ^ 64) × (b < 2 ^ 64) × (c < 2 ^ 64) × (d < 2 ^ 64)

pub record CountsFit (m : Month) : Type 0 where
  pub accepted : m.sheet.accepted < 2 ^ 64
  pub taken : m.sheet.taken < 2 ^ 64
  pub held : m.sheet.held < 2 ^ 64
  pub lost : m.sheet.lost < 2 ^ 64
  pub cleared : m.sheet.cleared < 2 ^ 64
  pub clock : m.sheet.clock < 2 ^ 64
  pub logs : m.logs < 2 ^ 64
  pub refused : m.refused < 2 ^ 64

pub record NumbersFit (m : Month) : Type 0 where
  pub counts : CountsFit m
  pub ranges : RangesFit m.sheet.ranges
