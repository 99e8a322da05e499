-- Q-8: what a sample and a clock add to the sheet of a log, and whether every total has fitted at every event so far.
use Rattle.std.specs.Prelude.{ℕ, Option, Some, None, Result, Ok, Err, ℤ}
use Rattle.codes.specs.declared.Range.{Range}
use Rattle.codes.specs.declared.Range.TheVariants.{G2, G4, G8, G16, Reserved}
use Rattle.sheets.specs.Sheets.{no_ranges, from_to, kept, count_joined, axes_joined}
use Rattle.sheets.specs.declared.ByAxis.{ByAxis}
use Rattle.sheets.specs.declared.ByRange.{ByRange}
use Rattle.sheets.specs.declared.Tally.{Tally}
use Rattle.sheets.specs.declared.TooLarge.{TooLarge}
use Rattle.tally.specs.declared.Sums.{Sums}
use Rattle.tally.specs.declared.Totals.{Totals}

-- ---- one sample
abbrev pub one_tally : ℤ → Tally
one_tally count = record { extremes = from_to count count; sum = count }

-- "all three axes, whatever 0x3E selects"
abbrev pub one_sample : ℤ → ℤ → ℤ → ByAxis
one_sample x y z = record { x = one_tally x; y = one_tally y; z = one_tally z }

-- the row of a range; there is none for an unknown one
abbrev pub row_of : ByRange → Range → Option ByAxis
row_of r G2 = Some r.g2
row_of r G4 = Some r.g4
row_of r G8 = Some r.g8
row_of r G16 = Some r.g16
row_of r Reserved = None

abbrev pub with_row : ByRange → Range → ByAxis → ByRange
with_row r G2 row = record { g2 = row; g4 = r.g4; g8 = r.g8; g16 = r.g16 }
with_row r G4 row = record { g2 = r.g2; g4 = row; g8 = r.g8; g16 = r.g16 }
with_row r G8 row = record { g2 = r.g2; g4 = r.g4; g8 = row; g16 = r.g16 }
with_row r G16 row = record { g2 = r.g2; g4 = r.g4; g8 = r.g8; g16 = row }
with_row r Reserved row = r

-- what comes of a total that fits: where one does not, none does behind it
abbrev pub going_on : {S T : Type 0} → (S → Result T TooLarge) → Result S TooLarge → Result T TooLarge
going_on f (Ok total) = f total
going_on f (Err e) = Err e

abbrev pub row_sampled : ByRange → Range → ByAxis → Option ByAxis → Result ByRange TooLarge
row_sampled r range s (Some row) = going_on (λ joined. Ok (with_row r range joined)) (axes_joined row s)
row_sampled r range s None = Ok r

-- in the row of the range in force
unfoldable pub ranges_sampled : ByRange → Range → ByAxis → Result ByRange TooLarge
ranges_sampled r range s = row_sampled r range s (row_of r range)

-- ---- the sums of a log
abbrev pub no_totals : Totals
no_totals = record { clock = 0; ranges = no_ranges }

abbrev pub no_sums : Sums
no_sums = record { totals = no_totals; fitted = Ok tt }

-- "at the event that would pass": once a total did not fit, it did not
abbrev pub fitted_with : {T : Type 0} → Result Unit TooLarge → Result T TooLarge → Result Unit TooLarge
fitted_with fitted (Ok total) = fitted
fitted_with fitted (Err e) = Err e

-- a clock or a row that would not fit stays as it was, and the others go on
unfoldable pub sums_clocked : Sums → ℕ → Sums
sums_clocked s us =
    let j = count_joined s.totals.clock us in
    record { totals = record { clock = kept s.totals.clock j; ranges = s.totals.ranges }; fitted = fitted_with s.fitted j }

unfoldable pub sums_sampled : Sums → Range → ℤ → ℤ → ℤ → Sums
sums_sampled s range x y z =
    let j = ranges_sampled s.totals.ranges range (one_sample x y z) in
    record { totals = record { clock = s.totals.clock; ranges = kept s.totals.ranges j }; fitted = fitted_with s.fitted j }

-- the totals, where every one has fitted at every event
abbrev pub so_far : Sums → Result Totals TooLarge
so_far s = going_on (λ fitted. Ok s.totals) s.fitted

-- what an event makes of these
abbrev pub with_clock : ℕ → Totals → Result Totals TooLarge
with_clock us t = going_on (λ clock. Ok (record { clock = clock; ranges = t.ranges })) (count_joined t.clock us)

abbrev pub with_sample : Range → ByAxis → Totals → Result Totals TooLarge
with_sample range s t = going_on (λ ranges. Ok (record { clock = t.clock; ranges = ranges })) (ranges_sampled t.ranges range s)

abbrev pub totals_clocked : Result Totals TooLarge → ℕ → Result Totals TooLarge
totals_clocked before us = going_on (with_clock us) before

abbrev pub totals_sampled : Result Totals TooLarge → Range → ByAxis → Result Totals TooLarge
totals_sampled before range s = going_on (with_sample range s) before
