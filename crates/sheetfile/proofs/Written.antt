-- What was written is read as the same month.
-- Assumes nothing.
use Prim.Native.Nat.{ℕ, ◌+◌, ◌*◌, ◌/◌, ◌%◌}
use mathlib.Core.Bool.{true}
use mathlib.Core.List.{List, [], ◌++◌}
use mathlib.Core.Path.{◌≡◌, refl}
use Rattle.std.specs.Prelude.{Ok}
use native.Mathlib.Omega.{arith}
use borrow.Author.Tests.{eq-eqb}
use lib.IntN.{ℤ}
use lib.ListN.{drop, length}
use mir.Syntax.{w64}
use mir.Val.{SFits}
use mir.Facts.{to_z-of_z}
use Rattle.std.specs.Prelude.{Option, Some, None}
use Rattle.laws.proofs.Words.{joined}
use Rattle.benchlog.proofs.Signed.{joined4}
use Rattle.sheets.specs.declared.Extremes.{Extremes}
use Rattle.sheets.specs.declared.Tally.{Tally}
use Rattle.sheets.specs.declared.ByAxis.{ByAxis}
use Rattle.sheets.specs.declared.ByRange.{ByRange}
use Rattle.sheets.specs.declared.Month.{Month}
use Rattle.sheetfile.specs.Format.{big_endian8, tally_bytes, axes_bytes, ranges_bytes, head_bytes, four_numbers, counts_bytes, encode, size}
use Rattle.sheetfile.specs.Reader.{four_in, eight_in, tally_in, axes_in, ranges_in, month_in, tally_stands, axes_stand, ranges_stand, head_stands, is_sheet, decode}
use Rattle.sheetfile.specs.Whole.{is_whole, ExtremesFit, TallyFits, AxesFit, RangesFit, NumbersFit}
use Rattle.sheetfile.proofs.Lengths.{length-encode}

pub eight-read : (n : ℕ) (rest : List ℕ) → eight_in (big_endian8 n ++ rest) ≡ n
unfolding big_endian8 four_in eight_in
eight-read n rest =
    let whole : n / 4294967296 * 4294967296 + n % 4294967296 ≡ n = omega arith in
    rw (joined4 (n / 4294967296), joined4 (n % 4294967296)) whole

-- ---- a tally, whatever follows it
tally-read-of : (e : Option Extremes) (sum : ℤ) (rest : List ℕ) → ExtremesFit e → SFits w64 sum → tally_in (tally_bytes (record { extremes = e; sum = sum }) ++ rest) ≡ record { extremes = e; sum = sum }
unfolding tally_bytes tally_in
tally-read-of None sum rest e f = rw (eight-read, to_z-of_z f)
tally-read-of (Some some) sum rest e f = rw (joined e.0, joined e.1, eight-read, to_z-of_z f)

tally-read : (t : Tally) (rest : List ℕ) → TallyFits t → tally_in (tally_bytes t ++ rest) ≡ t
tally-read t rest f = tally-read-of t.extremes t.sum rest f.extremes f.sum

tally-stands-of : (e : Option Extremes) (sum : ℤ) (rest : List ℕ) → tally_stands (tally_bytes (record { extremes = e; sum = sum }) ++ rest) ≡ true
unfolding tally_bytes four_in tally_stands
tally-stands-of None sum rest = refl
tally-stands-of (Some some) sum rest = refl

tally-stands : (t : Tally) (rest : List ℕ) → tally_stands (tally_bytes t ++ rest) ≡ true
tally-stands t rest = tally-stands-of t.extremes t.sum rest

-- ---- three of them
module _ (a : ByAxis) (rest : List ℕ) where
  axes-read : AxesFit a → axes_in (axes_bytes a ++ rest) ≡ a
  unfolding big_endian8 tally_bytes axes_bytes axes_in
  axes-read f =
      let px = tally-read a.x (tally_bytes a.y ++ tally_bytes a.z ++ rest) f.x in
      let py = tally-read a.y (tally_bytes a.z ++ rest) f.y in
      let pz = tally-read a.z rest f.z in
      λ i. record { x = px i; y = py i; z = pz i }

  axes-stand : axes_stand (axes_bytes a ++ rest) ≡ true
  unfolding big_endian8 tally_bytes axes_bytes axes_stand
  axes-stand =
      let px = tally-stands a.x (tally_bytes a.y ++ tally_bytes a.z ++ rest) in
      let py = tally-stands a.y (tally_bytes a.z ++ rest) in
      let pz = tally-stands a.z rest in
      rw (px, py, pz)

-- ---- and four of those
module _ (r : ByRange) where
  g4-on : List ℕ
  g4-on = axes_bytes r.g4 ++ axes_bytes r.g8 ++ axes_bytes r.g16

  ranges-read : RangesFit r → ranges_in (ranges_bytes r) ≡ r
  unfolding big_endian8 tally_bytes axes_bytes ranges_bytes ranges_in g4-on
  ranges-read f =
      let p2 = axes-read r.g2 g4-on f.g2 in
      let p4 = axes-read r.g4 (axes_bytes r.g8 ++ axes_bytes r.g16) f.g4 in
      let p8 = axes-read r.g8 (axes_bytes r.g16) f.g8 in
      let p16 = axes-read r.g16 [] f.g16 in
      λ i. record { g2 = p2 i; g4 = p4 i; g8 = p8 i; g16 = p16 i }

  ranges-stand : ranges_stand (ranges_bytes r) ≡ true
  unfolding big_endian8 tally_bytes axes_bytes ranges_bytes ranges_stand g4-on
  ranges-stand =
      let p2 = axes-stand r.g2 g4-on in
      let p4 = axes-stand r.g4 (axes_bytes r.g8 ++ axes_bytes r.g16) in
      let p8 = axes-stand r.g8 (axes_bytes r.g16) in
      let p16 = axes-stand r.g16 [] in
      rw (p2, p4, p8, p16)

-- ---- a month
module _ (m : Month) where
  head-stands : head_stands (encode m) ≡ true
  unfolding head_bytes encode four_in head_stands
  head-stands = refl

  behind-counts : drop 69 (encode m) ≡ ranges_bytes m.sheet.ranges
  unfolding big_endian8 head_bytes four_numbers counts_bytes encode
  behind-counts = refl

  month-read : NumbersFit m → month_in (encode m) ≡ m
  unfolding big_endian8 head_bytes four_numbers counts_bytes encode month_in
  month-read f =
      let s = m.sheet in
      let accepted = eight-read s.accepted (drop 13 (encode m)) in
      let taken = eight-read s.taken (drop 21 (encode m)) in
      let held = eight-read s.held (drop 29 (encode m)) in
      let lost = eight-read s.lost (drop 37 (encode m)) in
      let cleared = eight-read s.cleared (drop 45 (encode m)) in
      let clock = eight-read s.clock (drop 53 (encode m)) in
      let logs = eight-read m.logs (drop 61 (encode m)) in
      let refused = eight-read m.refused (drop 69 (encode m)) in
      let ranges = ranges-read s.ranges f.ranges in
      λ i. record {
        sheet = record { accepted = accepted i; taken = taken i; held = held i; lost = lost i; cleared = cleared i; clock = clock i; ranges = ranges i };
        logs = logs i;
        refused = refused i;
      }

  pub written_read : NumbersFit m → is_whole m ≡ true → decode (encode m) ≡ Ok m
  unfolding is_sheet decode
  written_read f w =
      simp (eq-eqb (length (encode m)) size (length-encode m), head-stands, behind-counts, ranges-stand m.sheet.ranges, month-read f, w)
