-- No month has a longer text than is said, whatever numbers stand in it.
-- Assumes nothing.
use Prim.Native.Nat.{ℕ, ◌+◌, ◌*◌, ◌/◌, ◌%◌, ◌≤◌}
use mathlib.Core.Bool.{Bool, true, false}
use mathlib.Core.List.{List, [], ◌++◌}
use native.Mathlib.Omega.{arith}
use lib.Dec.{eqb}
use lib.IntN.{ℤ, pos, nat_abs}
use lib.ListN.{length, length-append}
use Rattle.std.specs.Prelude.{Option, Some, None}
use lib.Signed.{lt_z}
use Rattle.laws.specs.Choice.{pick}
use Rattle.codes.specs.declared.Range.{Range}
use Rattle.codes.specs.declared.Range.TheVariants.{G2, G4, G8, G16}
use Rattle.text.specs.Text.{ascii}
use Rattle.text.proofs.Texts.{length-decimal}
use Rattle.sheets.specs.declared.ByAxis.{ByAxis}
use Rattle.sheets.specs.declared.ByRange.{ByRange}
use Rattle.sheets.specs.declared.Extremes.{Extremes}
use Rattle.sheets.specs.declared.Month.{Month}
use Rattle.sheets.specs.declared.Sheet.{Sheet}
use Rattle.sheets.specs.declared.Tally.{Tally}
use Rattle.wording.specs.Wording.{column, signed_column}
use Rattle.measure.specs.Measure.{in1024ths, most_places, places, fraction_text, unsigned_text, signed_text, g_text}
use Rattle.measure.proofs.Numerals.{length-places}
use Rattle.sheetlines.specs.Lines.{counts_text, in_g_text, numbers_text, extremes_text, tally_line, axes_text, ranges_text, month_text, most_in_g, longest_sheet}

-- ---- numbers
length-column : (z : ℤ) → length (signed_column z) ≤ 22
unfolding signed_column
length-column z = go (lt_z z (pos 0))
  where
    go : (t : Bool) → length (pick t (ascii "-") [] ++ column (nat_abs z)) ≤ 22
    go true = simp length-append (omega (arith, length-decimal (nat_abs z)))
    go false = simp length-append (omega (arith, length-decimal (nat_abs z)))

length-fraction : (rest : ℕ) → length (fraction_text rest) ≤ 11
unfolding fraction_text
length-fraction rest = go (eqb rest 0)
  where
    go : (t : Bool) → length (pick t [] (ascii "." ++ places most_places rest)) ≤ 11
    go true = omega arith
    go false = omega (arith, length-places most_places rest)

length-unsigned : (n : ℕ) → length (unsigned_text n) ≤ 31
unfolding unsigned_text
length-unsigned n = simp length-append (omega (arith, length-decimal (n / 1024), length-fraction (n % 1024)))

length-in-g : (count : ℤ) (range : Range) → length (g_text count range) ≤ most_in_g
unfolding g_text signed_text
length-in-g count range = go (lt_z n (pos 0))
  where
    n : ℤ
    n = in1024ths count range

    go : (t : Bool) → length (pick t (ascii "-") [] ++ unsigned_text (nat_abs n)) ≤ most_in_g
    go true = omega (arith, length-unsigned (nat_abs n))
    go false = omega (arith, length-unsigned (nat_abs n))

-- ---- lines
length-counts : (s : Sheet) → length (counts_text s) ≤ 165
unfolding counts_text
length-counts s =
    simp length-append
    (omega (
      arith,
      length-decimal s.accepted,
      length-decimal s.taken,
      length-decimal s.held,
      length-decimal s.lost,
      length-decimal s.cleared,
      length-decimal s.clock,
    ))

length_both : (range : Range) (smallest largest : ℤ) → length (in_g_text range smallest largest) ≤ 66
unfolding in_g_text
length_both range smallest largest = simp length-append (omega (arith, length-in-g smallest range, length-in-g largest range))

length-extremes : (range : Range) (e : Option Extremes) (sum : ℤ) → length (extremes_text range e sum) ≤ 132
unfolding numbers_text
length-extremes range None sum = omega arith
length-extremes range (Some e) sum =
    simp length-append (omega (arith, length-column e.smallest, length-column e.largest, length-column sum, length_both range e.smallest e.largest))

length-tally : (name axis : List ℕ) (range : Range) (t : Tally) → length (tally_line name axis range t) ≤ length name + (length axis + 132)
unfolding tally_line
length-tally name axis range t = simp length-append (omega (arith, length-extremes range t.extremes t.sum))

length-axes : (name : List ℕ) (range : Range) (a : ByAxis) → length (axes_text name range a) ≤ 3 * (length name + 135)
unfolding axes_text
length-axes name range a =
    simp length-append
    (omega (
      arith,
      length-tally name (ascii " x ") range a.x,
      length-tally name (ascii " y ") range a.y,
      length-tally name (ascii " z ") range a.z,
    ))

length-ranges : (r : ByRange) → length (ranges_text r) ≤ 1647
unfolding ranges_text
length-ranges r =
    simp length-append
    (omega (
      arith,
      length-axes (ascii "2g") G2 r.g2,
      length-axes (ascii "4g") G4 r.g4,
      length-axes (ascii "8g") G8 r.g8,
      length-axes (ascii "16g") G16 r.g16,
    ))

pub length-month : (m : Month) → length (month_text m) ≤ longest_sheet
unfolding month_text
length-month m =
    simp length-append
    (omega (arith, length-counts m.sheet, length-ranges m.sheet.ranges, length-decimal m.logs, length-decimal m.refused))
