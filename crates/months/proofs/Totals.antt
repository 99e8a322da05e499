-- The tests of the code are the words: a sheet fits exactly where each of its totals does.
-- Assumes nothing.
use Prim.Native.Nat.{ℕ, ◌-◌, ◌^◌, ◌≤◌, ◌<◌}
use mathlib.Core.Bool.{Bool, true, false}
use mathlib.Core.Path.{◌≡◌, refl}
use native.Mathlib.Omega.{arith}
use borrow.Author.Tests.{ltb-true, lt-ltb}
use lib.Dec.{T, le→leb, leb→le}
use lib.IntN.{ℤ, pos, negsuc}
use Rattle.laws.specs.Choice.{both}
use Rattle.laws.proofs.Finite.{left, right}
use Rattle.sheets.specs.Sheets.{count_fits, sum_fits, axes_fit, ranges_fit, counts_fit, sheet_fits, sheet_over, sheet_joined}
use Rattle.sheets.specs.declared.ByAxis.{ByAxis}
use Rattle.sheets.specs.declared.Sheet.{Sheet}
use Rattle.months.specs.Totals.{CountIn64, SumIn64, SumsIn64, AllIn64, JoinRule}

pub clash : {A : Type 0} {b : Bool} → b ≡ true → b ≡ false → A
clash {b = true} p q = let z : ◌≡◌ {A = ℕ} 0 1 = cc in absurd (omega arith)
clash {b = false} p q = let z : ◌≡◌ {A = ℕ} 0 1 = cc in absurd (omega arith)

-- ---- one total
pub count-in : (n : ℕ) → count_fits n ≡ true → CountIn64 n
unfolding count_fits
count-in n h = ltb-true n (2 ^ 64) h

pub count_fits_lem : (n : ℕ) → CountIn64 n → count_fits n ≡ true
unfolding count_fits
count_fits_lem n h = lt-ltb n (2 ^ 64) h

sum-in : (z : ℤ) → sum_fits z ≡ true → SumIn64 z
unfolding sum_fits
sum-in (pos n) h = let k = ltb-true n (2 ^ 63) h in let l : n ≤ 2 ^ 63 - 1 = omega (arith, k) in (record { le = tt }, record { le = le→leb n (2 ^ 63 - 1) l })
sum-in (negsuc n) h = let k = ltb-true n (2 ^ 63) h in let l : n ≤ 2 ^ 63 - 1 = omega (arith, k) in (record { le = le→leb n (2 ^ 63 - 1) l }, record { le = tt })

sum_fits_lem : (z : ℤ) → SumIn64 z → sum_fits z ≡ true
unfolding sum_fits
sum_fits_lem (pos n) h = let l : n ≤ 2 ^ 63 - 1 = leb→le n (2 ^ 63 - 1) h.1.le in let k : n < 2 ^ 63 = omega (arith, l) in lt-ltb n (2 ^ 63) k
sum_fits_lem (negsuc n) h = let l : n ≤ 2 ^ 63 - 1 = leb→le n (2 ^ 63 - 1) h.0.le in let k : n < 2 ^ 63 = omega (arith, l) in lt-ltb n (2 ^ 63) k

-- ---- all of them
axes-in : (a : ByAxis) → axes_fit a ≡ true → SumsIn64 a
axes-in a h =
    let x = left (sum_fits a.x.sum) (both (sum_fits a.y.sum) (sum_fits a.z.sum)) h in
    let yz = right (sum_fits a.x.sum) (both (sum_fits a.y.sum) (sum_fits a.z.sum)) h in
    record { x = sum-in a.x.sum x; y = sum-in a.y.sum (left (sum_fits a.y.sum) (sum_fits a.z.sum) yz); z = sum-in a.z.sum (right (sum_fits a.y.sum) (sum_fits a.z.sum) yz) }

axes-fit : (a : ByAxis) → SumsIn64 a → axes_fit a ≡ true
axes-fit a h = rw (sum_fits_lem a.x.sum h.x, sum_fits_lem a.y.sum h.y, sum_fits_lem a.z.sum h.z)

module _ (s : Sheet) where
  abbrev first : Bool
  first = both (count_fits s.accepted) (both (count_fits s.taken) (count_fits s.held))

  abbrev others : Bool
  others = both (count_fits s.lost) (both (count_fits s.cleared) (count_fits s.clock))

  abbrev low : Bool
  low = both (axes_fit s.ranges.g2) (axes_fit s.ranges.g4)

  abbrev high : Bool
  high = both (axes_fit s.ranges.g8) (axes_fit s.ranges.g16)

  pub all_in : sheet_fits s ≡ true → AllIn64 s
  all_in h =
      let counts = left (counts_fit s) (ranges_fit s.ranges) h in
      let ranges = right (counts_fit s) (ranges_fit s.ranges) h in
      let f = left first others counts in
      let o = right first others counts in
      let l = left low high ranges in
      let u = right low high ranges in
      let f' = right (count_fits s.accepted) (both (count_fits s.taken) (count_fits s.held)) f in
      let o' = right (count_fits s.lost) (both (count_fits s.cleared) (count_fits s.clock)) o in
      record {
        accepted = count-in s.accepted (left (count_fits s.accepted) (both (count_fits s.taken) (count_fits s.held)) f);
        taken = count-in s.taken (left (count_fits s.taken) (count_fits s.held) f');
        held = count-in s.held (right (count_fits s.taken) (count_fits s.held) f');
        lost = count-in s.lost (left (count_fits s.lost) (both (count_fits s.cleared) (count_fits s.clock)) o);
        cleared = count-in s.cleared (left (count_fits s.cleared) (count_fits s.clock) o');
        clock = count-in s.clock (right (count_fits s.cleared) (count_fits s.clock) o');
        at-2-g = axes-in s.ranges.g2 (left (axes_fit s.ranges.g2) (axes_fit s.ranges.g4) l);
        at-4-g = axes-in s.ranges.g4 (right (axes_fit s.ranges.g2) (axes_fit s.ranges.g4) l);
        at-8-g = axes-in s.ranges.g8 (left (axes_fit s.ranges.g8) (axes_fit s.ranges.g16) u);
        at-16-g = axes-in s.ranges.g16 (right (axes_fit s.ranges.g8) (axes_fit s.ranges.g16) u);
      }

  pub all_fit : AllIn64 s → sheet_fits s ≡ true
  all_fit h =
      rw (
        count_fits_lem s.accepted h.accepted,
        count_fits_lem s.taken h.taken,
        count_fits_lem s.held h.held,
        count_fits_lem s.lost h.lost,
        count_fits_lem s.cleared h.cleared,
        count_fits_lem s.clock h.clock,
        axes-fit s.ranges.g2 h.at-2-g,
        axes-fit s.ranges.g4 h.at-4-g,
        axes-fit s.ranges.g8 h.at-8-g,
        axes-fit s.ranges.g16 h.at-16-g,
      )

  pub some-unfit : (AllIn64 s → ⊥) → sheet_fits s ≡ false
  some-unfit h = go (sheet_fits s) refl
    where
      go : (t : Bool) → sheet_fits s ≡ t → sheet_fits s ≡ false
      go true e = absurd (h (all_in e))
      go false e = e

-- ---- a join
pub join_rule : (a b : Sheet) → JoinRule a b
unfolding sheet_joined
join_rule a b = record {
  done = λ h. let f = all_fit (sheet_over a b) h in (rw f, rw f);
  refused = λ h. let f = some-unfit (sheet_over a b) h in (rw f, rw f);
}
