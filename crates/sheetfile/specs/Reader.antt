-- Q-8: "what is no sheet is refused". Each part is read at the head of the bytes that are left.
use Rattle.std.specs.Prelude.{ℕ, ◌+◌, ◌*◌, Bool, List, Option, None, eqb, ℤ, length, get_or, drop, Result, Ok, Err}
use Rattle.std.specs.Int.{w64}
use Rattle.std.proofs.Common.{to_z}
use Rattle.laws.specs.Choice.{pick, both}
use Rattle.benchlog.specs.Reader.{four_at, signed_at}
use Rattle.sheets.specs.Sheets.{from_to}
use Rattle.sheets.specs.declared.Extremes.{Extremes}
use Rattle.sheets.specs.declared.Tally.{Tally}
use Rattle.sheets.specs.declared.ByAxis.{ByAxis}
use Rattle.sheets.specs.declared.ByRange.{ByRange}
use Rattle.sheets.specs.declared.Month.{Month}
use Rattle.sheetfile.specs.Format.{mark, version, number_length, tally_length, axes_length, counts_place, ranges_place, size}
use Rattle.sheetfile.specs.Whole.{is_whole}
use Rattle.sheetfile.specs.declared.NoSheet.{NoSheet}

-- ---- what the bytes say
-- four bytes, and eight, the highest first
unfoldable pub four_in : List ℕ → ℕ
four_in s = four_at s 0

unfoldable pub eight_in : List ℕ → ℕ
eight_in s = four_in s * 4294967296 + four_in (drop 4 s)

abbrev pub extremes_of : ℕ → ℤ → ℤ → Option Extremes
extremes_of flag smallest largest = pick (eqb flag 0) None (from_to smallest largest)

unfoldable pub tally_in : List ℕ → Tally
tally_in s = record { extremes = extremes_of (get_or s 0 0) (signed_at s 1) (signed_at s 3); sum = to_z w64 (eight_in (drop 5 s)) }

unfoldable pub axes_in : List ℕ → ByAxis
axes_in s = record { x = tally_in s; y = tally_in (drop tally_length s); z = tally_in (drop (2 * tally_length) s) }

unfoldable pub ranges_in : List ℕ → ByRange
ranges_in s = record { g2 = axes_in s; g4 = axes_in (drop axes_length s); g8 = axes_in (drop (2 * axes_length) s); g16 = axes_in (drop (3 * axes_length) s) }

-- the n-th of the counts, from 0 on
abbrev pub count_in : List ℕ → ℕ → ℕ
count_in s n = eight_in (drop (counts_place + n * number_length) s)

unfoldable pub month_in : List ℕ → Month
month_in s = record {
  sheet = record {
    accepted = count_in s 0;
    taken = count_in s 1;
    held = count_in s 2;
    lost = count_in s 3;
    cleared = count_in s 4;
    clock = count_in s 5;
    ranges = ranges_in (drop ranges_place s);
  };
  logs = count_in s 6;
  refused = count_in s 7;
}

-- ---- whether they are a month's
-- a flag is 0 or 1; where it is 0, so are the smallest and the largest
unfoldable pub tally_stands : List ℕ → Bool
tally_stands s = pick (eqb (get_or s 0 0) 0) (eqb (four_in (drop 1 s)) 0) (eqb (get_or s 0 0) 1)

unfoldable pub axes_stand : List ℕ → Bool
axes_stand s = both (tally_stands s) (both (tally_stands (drop tally_length s)) (tally_stands (drop (2 * tally_length) s)))

unfoldable pub ranges_stand : List ℕ → Bool
ranges_stand s = both (both (axes_stand s) (axes_stand (drop axes_length s))) (both (axes_stand (drop (2 * axes_length) s)) (axes_stand (drop (3 * axes_length) s)))

unfoldable pub head_stands : List ℕ → Bool
head_stands s = both (eqb (four_in s) mark) (eqb (get_or s 4 0) version)

-- the length, the mark, the version and the flags are right, and the month is whole
unfoldable pub is_sheet : List ℕ → Bool
is_sheet s = both (eqb (length s) size) (both (head_stands s) (both (ranges_stand (drop ranges_place s)) (is_whole (month_in s))))

abbrev pub no_sheet : NoSheet
no_sheet = record {}

unfoldable pub decode : List ℕ → Result Month NoSheet
decode s = pick (is_sheet s) (Ok (month_in s)) (Err no_sheet)
