-- The totals of a log, where every one has fitted, behind a clock or a sample: what it makes of those before it; and none, where there were none.
-- Assumes nothing.
use Prim.Native.Nat.{ℕ}
use mathlib.Core.Path.{◌≡◌, refl}
use lib.IntN.{ℤ}
use Rattle.std.specs.Prelude.{Result, Ok, Err}
use Rattle.codes.specs.declared.Range.{Range}
use Rattle.sheets.specs.Sheets.{kept, count_joined}
use Rattle.sheets.specs.declared.ByRange.{ByRange}
use Rattle.sheets.specs.declared.TooLarge.{TooLarge}
use Rattle.tally.specs.Tally.{one_sample, going_on, ranges_sampled, fitted_with, sums_clocked, sums_sampled, so_far, totals_clocked, totals_sampled}
use Rattle.tally.specs.declared.Sums.{Sums}
use Rattle.tally.specs.declared.Totals.{Totals}

pub clocked-so-far : (s : Sums) (us : ℕ) → so_far (sums_clocked s us) ≡ totals_clocked (so_far s) us
unfolding sums_clocked
clocked-so-far s us = go s.fitted (count_joined s.totals.clock us) refl
  where
    go : (fitted : Result Unit TooLarge) (j : Result ℕ TooLarge) → count_joined s.totals.clock us ≡ j
        → so_far (record { totals = record { clock = kept s.totals.clock j; ranges = s.totals.ranges }; fitted = fitted_with fitted j })
        ≡ totals_clocked (so_far (record { totals = s.totals; fitted = fitted })) us
    go (Ok u) (Ok clock) is = rw is refl
    go (Ok u) (Err e) is = rw is refl
    go (Err e) (Ok clock) is = refl
    go (Err e) (Err e') is = refl

pub sampled-so-far : (s : Sums) (range : Range) (x y z : ℤ) → so_far (sums_sampled s range x y z) ≡ totals_sampled (so_far s) range (one_sample x y z)
unfolding sums_sampled
sampled-so-far s range x y z = go s.fitted (ranges_sampled s.totals.ranges range (one_sample x y z)) refl
  where
    go : (fitted : Result Unit TooLarge) (j : Result ByRange TooLarge) → ranges_sampled s.totals.ranges range (one_sample x y z) ≡ j
        → so_far (record { totals = record { clock = s.totals.clock; ranges = kept s.totals.ranges j }; fitted = fitted_with fitted j })
        ≡ totals_sampled (so_far (record { totals = s.totals; fitted = fitted })) range (one_sample x y z)
    go (Ok u) (Ok ranges) is = rw is refl
    go (Ok u) (Err e) is = rw is refl
    go (Err e) (Ok ranges) is = refl
    go (Err e) (Err e') is = refl
