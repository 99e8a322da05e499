-- Q-8: "written and read is the same sheet, and what is no sheet is refused".
use Rattle.std.specs.Prelude.{ℕ, true, List, ◌↔◌, ◌≡◌, Ok, Err}
use Rattle.benchlog.specs.Whole.{Bytes}
use Rattle.sheets.specs.declared.Month.{Month}
use Rattle.sheetfile.specs.Format.{encode}
use Rattle.sheetfile.specs.Whole.{is_whole, NumbersFit}
use Rattle.sheetfile.specs.Reader.{no_sheet, decode}

-- a month whose numbers fit, that is whole, and whose bytes these are
pub record Writes (m : Month) (bytes : List ℕ) : Type 0 where
  pub fit : NumbersFit m
  pub whole : is_whole m ≡ true
  pub is : encode m ≡ bytes

pub record Trips : Type 0 where
  -- written and read is the same month
  pub written_read : (m : Month) → NumbersFit m → is_whole m ≡ true → decode (encode m) ≡ Ok m
  -- read and written are the same bytes
  pub read-written : (bytes : List ℕ) → Bytes bytes → (m : Month) → decode bytes ≡ Ok m → Writes m bytes
  -- refused is exactly what no month is written as
  pub refused : (bytes : List ℕ) → Bytes bytes → (decode bytes ≡ Err no_sheet) ↔ ((m : Month) → Writes m bytes → ⊥)
