-- Q-8: "`--join FILE..` joins raws": what is joined of months that are whole is whole, so that it can be written and read again.
use Rattle.std.specs.Prelude.{true, ◌≡◌}
use Rattle.sheets.specs.Sheets.{empty_month, month_joined, kept}
use Rattle.sheets.specs.declared.Month.{Month}
use Rattle.sheetfile.specs.Whole.{is_whole}

pub record Joins : Type 0 where
  -- a month over no log is whole
  pub none : is_whole empty_month ≡ true
  -- and so is what there is behind a join of two whole months: both joined, or the first
  pub joined : (a b : Month) → is_whole a ≡ true → is_whole b ≡ true → is_whole (kept a (month_joined a b)) ≡ true
