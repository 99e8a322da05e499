-- Q-8: "written and read is the same sheet, and what is no sheet is refused".
-- Assumes nothing.
use Prim.Native.Nat.{ℕ}
use Rattle.std.specs.Prelude.{Ok, Err}
use mathlib.Core.Bool.{Bool, true, false}
use mathlib.Core.List.{List}
use mathlib.Core.Path.{◌≡◌, refl, sym, ap, ◌∙◌}
use native.Mathlib.Omega.{arith}
use borrow.Author.Tests.{eqb-true}
use lib.Dec.{eqb}
use lib.ListN.{length, drop}
use Rattle.laws.specs.Choice.{pick, both}
use Rattle.laws.proofs.Finite.{left, right}
use Rattle.benchlog.specs.Whole.{Bytes}
use Rattle.sheets.specs.declared.Month.{Month}
use Rattle.sheetfile.specs.Format.{size, ranges_place}
use Rattle.sheetfile.specs.Whole.{is_whole}
use Rattle.sheetfile.specs.Reader.{month_in, head_stands, ranges_stand, is_sheet, no_sheet, decode}
use Rattle.sheetfile.specs.Trips.{Writes, Trips}
use Rattle.sheetfile.proofs.Written.{written_read}
use Rattle.sheetfile.proofs.Back.{month-fits, month-back}

-- bytes that are a sheet are those of the month that they say
sheet-writes : (s : List ℕ) → Bytes s → is_sheet s ≡ true → Writes (month_in s) s
unfolding is_sheet
sheet-writes s h e =
    let long = eqb (length s) size in
    let head = head_stands s in
    let ranges = ranges_stand (drop ranges_place s) in
    let whole = is_whole (month_in s) in
    let behind = right long (both head (both ranges whole)) e in
    let rest = right head (both ranges whole) behind in
    record {
      fit = month-fits s h;
      whole = right ranges whole rest;
      is = month-back s h (eqb-true (length s) size (left long (both head (both ranges whole)) e)) (left head (both ranges whole) behind) (left ranges whole rest);
    }

read-written : (s : List ℕ) → Bytes s → (m : Month) → decode s ≡ Ok m → Writes m s
unfolding decode
read-written s h m = go (is_sheet s) refl
  where
    go : (t : Bool) → is_sheet s ≡ t → pick t (Ok (month_in s)) (Err no_sheet) ≡ Ok m → Writes m s
    go true e d = let q : month_in s ≡ m = cc in rw (sym q) (sheet-writes s h e)
    go false e d = let z : ◌≡◌ {A = ℕ} 0 1 = cc in absurd (omega arith)

refused-by-none : (s : List ℕ) → decode s ≡ Err no_sheet → (m : Month) → Writes m s → ⊥
refused-by-none s d m w =
    let q : decode s ≡ Ok m = ap decode (sym w.is) ∙ written_read m w.fit w.whole in
    let z : ◌≡◌ {A = ℕ} 0 1 = cc in
    omega arith

none-refused : (s : List ℕ) → Bytes s → ((m : Month) → Writes m s → ⊥) → decode s ≡ Err no_sheet
unfolding decode
none-refused s h none = go (is_sheet s) refl
  where
    go : (t : Bool) → is_sheet s ≡ t → pick t (Ok (month_in s)) (Err no_sheet) ≡ Err no_sheet
    go true e = absurd (none (month_in s) (sheet-writes s h e))
    go false e = refl

pub trips : Trips
trips = record {
  written_read = written_read;
  read-written = read-written;
  refused = λ s h. (refused-by-none s, none-refused s h);
}
