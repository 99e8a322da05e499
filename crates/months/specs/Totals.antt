-- Q-8: "All exact, in 64 bits"; "15 when a total would not fit, the sheet unchanged". In words of the numbers alone: no contract cites these.
use Rattle.std.specs.Prelude.{ℕ, ◌-◌, ◌^◌, ◌<◌, ◌≡◌, ℤ, pos, neg_ℤ, ◌≤ℤ◌}
use Rattle.sheets.specs.Sheets.{sheet_over, sheet_joined, kept, join_number}
use Rattle.sheets.specs.declared.ByAxis.{ByAxis}
use Rattle.sheets.specs.declared.Sheet.{Sheet}

-- counts and clock unsigned
abbrev pub CountIn64 : ℕ → Type 0
CountIn64 n = n < 2 ^ 64

-- sums signed
abbrev pub SumIn64 : ℤ → Type 0
SumIn64 z = (neg_ℤ (pos (2 ^ 63)) ≤ℤ z) × (z ≤ℤ pos (2 ^ 63 - 1))

pub record SumsIn64 (a : ByAxis) : Type 0 where
  pub x : SumIn64 a.x.sum
  pub y : SumIn64 a.y.sum
  pub z : SumIn64 a.z.sum

-- every total of a sheet fits
pub record AllIn64 (s : Sheet) : Type 0 where
  pub accepted : CountIn64 s.accepted
  pub taken : CountIn64 s.taken
  pub held : CountIn64 s.held
  pub lost : CountIn64 s.lost
  pub cleared : CountIn64 s.cleared
  pub clock : CountIn64 s.clock
  pub at-2-g : SumsIn64 s.ranges.g2
  pub at-4-g : SumsIn64 s.ranges.g4
  pub at-8-g : SumsIn64 s.ranges.g8
  pub at-16-g : SumsIn64 s.ranges.g16

-- ---- a join, both ways
pub record JoinRule (a b : Sheet) : Type 0 where
  -- where all of the sum fits, it is the sum, and refused by no number
  pub done : AllIn64 (sheet_over a b) → (join_number (sheet_joined a b) ≡ 0) × (kept a (sheet_joined a b) ≡ sheet_over a b)
  -- "15 when a total would not fit, the sheet unchanged": the first sheet is kept
  pub refused : (AllIn64 (sheet_over a b) → ⊥) → (join_number (sheet_joined a b) ≡ 15) × (kept a (sheet_joined a b) ≡ a)
