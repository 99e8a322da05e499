-- Q-8: "one sheet over many logs: samples accepted, taken, held at the end, lost, and held when the FIFO was cleared; per range and axis smallest, largest
-- (none where no sample came) and signed sum of stored counts; clock total." The numbers of a sheet are exact here, and without bounds; `fits` says
-- which of them go into 64 bits.
use Rattle.std.specs.Prelude.{ℕ, ◌+◌, ◌^◌, Bool, true, false, ltb, Option, Some, None, Result, Ok, Err, ℤ, pos, ◌+ℤ◌}
use Rattle.std.specs.Int.Signed.{mag, lt_z}
use Rattle.laws.specs.Choice.{pick, both}
use Rattle.sheets.specs.declared.Extremes.{Extremes}
use Rattle.sheets.specs.declared.Tally.{Tally}
use Rattle.sheets.specs.declared.ByAxis.{ByAxis}
use Rattle.sheets.specs.declared.ByRange.{ByRange}
use Rattle.sheets.specs.declared.Sheet.{Sheet}
use Rattle.sheets.specs.declared.Month.{Month}
use Rattle.sheets.specs.declared.TooLarge.{TooLarge}

-- ---- what nothing comes to
abbrev pub no_tally : Tally
no_tally = record { extremes = None; sum = pos 0 }

abbrev pub no_tallies : ByAxis
no_tallies = record { x = no_tally; y = no_tally; z = no_tally }

abbrev pub no_ranges : ByRange
no_ranges = record { g2 = no_tallies; g4 = no_tallies; g8 = no_tallies; g16 = no_tallies }

abbrev pub empty_sheet : Sheet
empty_sheet = record { accepted = 0; taken = 0; held = 0; lost = 0; cleared = 0; clock = 0; ranges = no_ranges }

abbrev pub empty_month : Month
empty_month = record { sheet = empty_sheet; logs = 0; refused = 0 }

-- ---- two of them together, without bounds
abbrev pub smaller : ℤ → ℤ → ℤ
smaller a b = pick (lt_z b a) b a

abbrev pub larger : ℤ → ℤ → ℤ
larger a b = pick (lt_z a b) b a

abbrev pub wider : Extremes → Extremes → Extremes
wider a b = record { smallest = smaller a.smallest b.smallest; largest = larger a.largest b.largest }

-- of some counts
abbrev pub from_to : ℤ → ℤ → Option Extremes
from_to smallest largest = Some (record { smallest = smallest; largest = largest })

-- where no sample came to one of them, the other's
abbrev pub extremes_over : Option Extremes → Option Extremes → Option Extremes
extremes_over None e = e
extremes_over (Some a) None = Some a
extremes_over (Some a) (Some b) = Some (wider a b)

abbrev pub tally_over : Tally → Tally → Tally
tally_over a b = record { extremes = extremes_over a.extremes b.extremes; sum = a.sum +ℤ b.sum }

abbrev pub axes_over : ByAxis → ByAxis → ByAxis
axes_over a b = record { x = tally_over a.x b.x; y = tally_over a.y b.y; z = tally_over a.z b.z }

abbrev pub ranges_over : ByRange → ByRange → ByRange
ranges_over a b = record { g2 = axes_over a.g2 b.g2; g4 = axes_over a.g4 b.g4; g8 = axes_over a.g8 b.g8; g16 = axes_over a.g16 b.g16 }

-- "joining two sheets equals the sheet over both": each total is the sum, held too, since each log starts at power-up
abbrev pub sheet_over : Sheet → Sheet → Sheet
sheet_over a b = record {
  accepted = a.accepted + b.accepted;
  taken = a.taken + b.taken;
  held = a.held + b.held;
  lost = a.lost + b.lost;
  cleared = a.cleared + b.cleared;
  clock = a.clock + b.clock;
  ranges = ranges_over a.ranges b.ranges;
}

abbrev pub month_over : Month → Month → Month
month_over a b = record { sheet = sheet_over a.sheet b.sheet; logs = a.logs + b.logs; refused = a.refused + b.refused }

-- ---- "in 64 bits": counts and clock unsigned, sums signed
unfoldable pub count_fits : ℕ → Bool
count_fits n = ltb n (2 ^ 64)

-- mag z is below 2 ^ 63 exactly from -2 ^ 63 to 2 ^ 63 - 1
unfoldable pub sum_fits : ℤ → Bool
sum_fits z = ltb (mag z) (2 ^ 63)

abbrev pub tally_fits : Tally → Bool
tally_fits t = sum_fits t.sum

abbrev pub axes_fit : ByAxis → Bool
axes_fit a = both (tally_fits a.x) (both (tally_fits a.y) (tally_fits a.z))

abbrev pub ranges_fit : ByRange → Bool
ranges_fit r = both (both (axes_fit r.g2) (axes_fit r.g4)) (both (axes_fit r.g8) (axes_fit r.g16))

abbrev pub counts_fit : Sheet → Bool
counts_fit s =
    both (both (count_fits s.accepted) (both (count_fits s.taken) (count_fits s.held)))
    (both (count_fits s.lost) (both (count_fits s.cleared) (count_fits s.clock)))

abbrev pub sheet_fits : Sheet → Bool
sheet_fits s = both (counts_fit s) (ranges_fit s.ranges)

abbrev pub month_fits : Month → Bool
month_fits m = both (sheet_fits m.sheet) (both (count_fits m.logs) (count_fits m.refused))

-- ---- "15 when a total would not fit, the sheet unchanged": all of it where all of it fits, and else nothing
abbrev pub where_it_fits : {T : Type 0} → (T → Bool) → T → Result T TooLarge
where_it_fits fits total = pick (fits total) (Ok total) (Err (record {}))

unfoldable pub count_joined : ℕ → ℕ → Result ℕ TooLarge
count_joined a b = where_it_fits count_fits (a + b)

unfoldable pub sum_joined : ℤ → ℤ → Result ℤ TooLarge
sum_joined a b = where_it_fits sum_fits (a +ℤ b)

unfoldable pub tally_joined : Tally → Tally → Result Tally TooLarge
tally_joined a b = where_it_fits tally_fits (tally_over a b)

unfoldable pub axes_joined : ByAxis → ByAxis → Result ByAxis TooLarge
axes_joined a b = where_it_fits axes_fit (axes_over a b)

unfoldable pub ranges_joined : ByRange → ByRange → Result ByRange TooLarge
ranges_joined a b = where_it_fits ranges_fit (ranges_over a b)

unfoldable pub sheet_joined : Sheet → Sheet → Result Sheet TooLarge
sheet_joined a b = where_it_fits sheet_fits (sheet_over a b)

unfoldable pub month_joined : Month → Month → Result Month TooLarge
month_joined a b = where_it_fits month_fits (month_over a b)

-- what whoever joins has then: the sum, or the first as it was
abbrev pub kept : {T E : Type 0} → T → Result T E → T
kept first (Ok sum) = sum
kept first (Err e) = first

-- the number of the refusal
abbrev pub too_large : ℕ
too_large = 15

-- the number of a join, by whether it fits
abbrev pub fit_number : Bool → ℕ
fit_number fits = pick fits 0 too_large

abbrev pub join_number : {T : Type 0} → Result T TooLarge → ℕ
join_number (Ok sum) = fit_number true
join_number (Err e) = fit_number false
