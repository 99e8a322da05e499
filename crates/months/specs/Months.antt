-- Q-8: a month: the sheet over logs, how many they are, and how many of them were refused. A log is added by what stops it, and by its sheet.
use Rattle.std.specs.Prelude.{ℕ, ◌+◌, ◌^◌, ◌<◌, not, List, [], ◌∷◌, map, ◌≡◌, Result, eqb, length}
use Rattle.laws.specs.Bits.{worth}
use Rattle.benchlog.specs.Whole.{read_log}
use Rattle.sheets.specs.Sheets.{empty_month, month_over, kept, join_number}
use Rattle.sheets.specs.declared.Month.{Month}
use Rattle.sheets.specs.declared.TooLarge.{TooLarge}
use Rattle.sheeting.specs.Sheeting.{log_sheet, month_with}
use Rattle.months.specs.Totals.{CountIn64, AllIn64}
use Rattle.months.specs.Histories.{sheet_of, Passes}
use Rattle.months.specs.Logs.{events_in, in_all, sheet_over_all, AllTick}

-- 1 for a log that 7, 8 or 9 stopped
abbrev pub refused_once : List ℕ → ℕ
refused_once log = worth 1 (not (eqb (read_log log).stop 0))

-- what a log is in a month
abbrev pub in_month : List ℕ → Month
in_month log = record { sheet = sheet_of (events_in log); logs = 1; refused = refused_once log }

-- a month with a log more, as the code adds it
abbrev pub with_log : Month → List ℕ → Result Month TooLarge
with_log m log = month_with m (log_sheet log) (read_log log).stop

pub record MonthIn64 (m : Month) : Type 0 where
  pub sheet : AllIn64 m.sheet
  pub logs : CountIn64 m.logs
  pub refused : CountIn64 m.refused

-- one log more, both ways
pub record AddRule (m : Month) (log : List ℕ) : Type 0 where
  pub done : (Passes (events_in log) → ⊥) → MonthIn64 (month_over m (in_month log)) → (join_number (with_log m log) ≡ 0) × (kept m (with_log m log) ≡ month_over m (in_month log))
  -- "inside a log, at the event that would pass, so that log adds nothing and the month stays"
  pub passed : Passes (events_in log) → (join_number (with_log m log) ≡ 15) × (kept m (with_log m log) ≡ m)
  -- "of a join, the first sheet"
  pub unfit : (MonthIn64 (month_over m (in_month log)) → ⊥) → (join_number (with_log m log) ≡ 15) × (kept m (with_log m log) ≡ m)

-- ---- logs one after the other, of which the latest stands first
unfoldable pub month_of : List (List ℕ) → Month
month_of [] = empty_month
month_of (log ∷ logs) = kept (month_of logs) (with_log (month_of logs) log)

abbrev pub AllShort : List (List ℕ) → Type 0
AllShort [] = Unit {0}
AllShort (log ∷ logs) = (length log < 2 ^ 64) × AllShort logs

abbrev pub refused_in : List (List ℕ) → ℕ
refused_in [] = 0
refused_in (log ∷ logs) = refused_in logs + refused_once log

-- below 2 ^ 32 events in all, and as few logs as 64 bits count, none is left out
pub record MonthSays (logs : List (List ℕ)) : Type 0 where
  pub sheet : (month_of logs).sheet ≡ sheet_over_all (map events_in logs)
  pub logs-are : (month_of logs).logs ≡ length logs
  pub refused-are : (month_of logs).refused ≡ refused_in logs

pub record MonthRule : Type 0 where
  pub adds : (m : Month) (log : List ℕ) → length log < 2 ^ 64 → AddRule m log
  pub says : (logs : List (List ℕ)) → AllShort logs → AllTick (map events_in logs) → in_all length (map events_in logs) < 2 ^ 32 → length logs < 2 ^ 64 → MonthSays logs
