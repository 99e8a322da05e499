-- A month with one log more, and over logs.
-- Assumes nothing.
use Prim.Native.Nat.{ℕ, suc, ◌+◌, ◌^◌, ◌≤◌, ◌<◌}
use mathlib.Core.Bool.{Bool, true, false, not}
use mathlib.Core.List.{List, [], ◌∷◌, map}
use mathlib.Core.Path.{◌≡◌, refl, sym, ap, ◌∙◌, subst}
use native.Mathlib.Omega.{arith}
use lib.Dec.{eqb}
use lib.ListN.{length}
use Rattle.std.specs.Prelude.{Result, Ok, Err}
use Rattle.laws.specs.Bits.{worth}
use Rattle.laws.specs.Choice.{pick, both}
use Rattle.laws.proofs.Finite.{left, right}
use Rattle.benchlog.specs.Whole.{read_log}
use Rattle.sheets.specs.Sheets.{empty_month, sheet_over, month_over, sheet_fits, count_fits, month_fits, month_joined, kept, join_number}
use Rattle.sheets.specs.declared.Month.{Month}
use Rattle.sheets.specs.declared.Sheet.{Sheet}
use Rattle.sheets.specs.declared.TooLarge.{TooLarge}
use Rattle.sheeting.specs.Sheeting.{log_sheet, month_with}
use Rattle.months.specs.Histories.{sheet_of, Passes}
use Rattle.months.specs.Logs.{events_in, in_all, sheet_over_all, AllTick, SheetOfLog}
use Rattle.months.specs.Months.{refused_once, in_month, with_log, MonthIn64, AddRule, month_of, AllShort, refused_in, MonthRule}
use Rattle.months.proofs.Few as few
use Rattle.months.proofs.Over.{joins, ordered, single, over_none}
use Rattle.months.proofs.Promise.{sheet-of-log}
use Rattle.months.proofs.Totals.{all_in, all_fit, count-in, count_fits_lem}

-- ---- one log
refused_as : (stop : ℕ) → pick {A = ℕ} (eqb stop 0) 0 1 ≡ worth 1 (not (eqb stop 0))
refused_as stop = go (eqb stop 0)
  where
    go : (t : Bool) → pick {A = ℕ} t 0 1 ≡ worth 1 (not t)
    go true = refl
    go false = refl

month-in : (m : Month) → month_fits m ≡ true → MonthIn64 m
month-in m h =
    let n = right (sheet_fits m.sheet) (both (count_fits m.logs) (count_fits m.refused)) h in
    record {
      sheet = all_in m.sheet (left (sheet_fits m.sheet) (both (count_fits m.logs) (count_fits m.refused)) h);
      logs = count-in m.logs (left (count_fits m.logs) (count_fits m.refused) n);
      refused = count-in m.refused (right (count_fits m.logs) (count_fits m.refused) n);
    }

month-fits : (m : Month) → MonthIn64 m → month_fits m ≡ true
month-fits m h = rw (all_fit m.sheet h.sheet, count_fits_lem m.logs h.logs, count_fits_lem m.refused h.refused)

month-unfit : (m : Month) → (MonthIn64 m → ⊥) → month_fits m ≡ false
month-unfit m h = go (month_fits m) refl
  where
    go : (t : Bool) → month_fits m ≡ t → month_fits m ≡ false
    go true e = absurd (h (month-in m e))
    go false e = e

module _ (m : Month) (log : List ℕ) (room : length log < 2 ^ 64) where
  rule : SheetOfLog log
  rule = sheet-of-log log room

  -- a log that has a sheet is joined, as what it is in a month
  joined_as : (s : Result Sheet TooLarge) → log_sheet log ≡ s → (Passes (events_in log) → ⊥) → month_with m s (read_log log).stop ≡ month_joined m (in_month log)
  joined_as (Ok s) e none = λ i. month_joined m (record { sheet = rule.is s e i; logs = 1; refused = refused_as (read_log log).stop i })
  joined_as (Err t) e none = absurd (none (rule.refused.0 e))

  left_out : Passes (events_in log) → with_log m log ≡ Err (record {})
  left_out p = ap (λ (s : Result Sheet TooLarge). month_with m s (read_log log).stop) (rule.refused.1 p)

  fits-then : MonthIn64 (month_over m (in_month log)) → month_joined m (in_month log) ≡ Ok (month_over m (in_month log))
  unfolding month_joined
  fits-then h = rw (month-fits (month_over m (in_month log)) h)

  stays_then : (MonthIn64 (month_over m (in_month log)) → ⊥) → month_joined m (in_month log) ≡ Err (record {})
  unfolding month_joined
  stays_then h = rw (month-unfit (month_over m (in_month log)) h)

  pub add_done : (Passes (events_in log) → ⊥) → MonthIn64 (month_over m (in_month log)) → with_log m log ≡ Ok (month_over m (in_month log))
  add_done none h = joined_as (log_sheet log) refl none ∙ fits-then h

  add-unfit : (s : Result Sheet TooLarge) → log_sheet log ≡ s → (MonthIn64 (month_over m (in_month log)) → ⊥) → month_with m s (read_log log).stop ≡ Err (record {})
  add-unfit (Ok s) e h = (λ i. month_joined m (record { sheet = rule.is s e i; logs = 1; refused = refused_as (read_log log).stop i })) ∙ stays_then h
  add-unfit (Err t) e h = refl

  told : (j : Result Month TooLarge) → with_log m log ≡ j → (join_number (with_log m log) ≡ join_number j) × (kept m (with_log m log) ≡ kept m j)
  told j e = (ap (λ (x : Result Month TooLarge). join_number x) e, ap (λ (x : Result Month TooLarge). kept m x) e)

  pub add-rule : AddRule m log
  add-rule = record {
    done = λ none h. told (Ok (month_over m (in_month log))) (add_done none h);
    passed = λ p. told (Err (record {})) (left_out p);
    unfit = λ h. told (Err (record {})) (add-unfit (log_sheet log) refl h);
  }

-- ---- logs one after the other
refused-few : (logs : List (List ℕ)) → refused_in logs ≤ length logs
refused-few [] = omega arith
refused-few (log ∷ logs) = let r = refused-few logs in let o = once (not (eqb (read_log log).stop 0)) in omega (arith, r, o)
  where
    once : (b : Bool) → worth 1 b ≤ 1
    once true = omega arith
    once false = omega arith

abbrev over : List (List ℕ) → Month
over logs = record { sheet = sheet_over_all (map events_in logs); logs = length logs; refused = refused_in logs }

-- the sheets of the logs and of one more
sheet-more : (log : List ℕ) (logs : List (List ℕ)) → sheet_over (sheet_over_all (map events_in logs)) (sheet_of (events_in log)) ≡ sheet_over_all (map events_in (log ∷ logs))
sheet-more log logs =
    ap (λ (s : Sheet). sheet_over (sheet_over_all (map events_in logs)) s) (sym (single (events_in log)))
    ∙ joins (map events_in logs) (events_in log ∷ [])
    ∙ ordered (map events_in logs) (events_in log ∷ [])

more-one : (n : ℕ) → n + 1 ≡ suc n
more-one n = omega arith

month-more : (log : List ℕ) (logs : List (List ℕ)) → month_over (over logs) (in_month log) ≡ over (log ∷ logs)
month-more log logs = λ i. record { sheet = sheet-more log logs i; logs = more-one (length logs) i; refused = refused_in logs + refused_once log }

over-fits : (logs : List (List ℕ)) → AllTick (map events_in logs) → in_all length (map events_in logs) < 2 ^ 32 → length logs < 2 ^ 64 → MonthIn64 (over logs)
over-fits logs ticks events many = record { sheet = few.few (map events_in logs) ticks events; logs = many; refused = let r = refused-few logs in omega (arith, r, many) }

empty-over : empty_month ≡ over []
empty-over = λ i. record { sheet = no-log i; logs = 0; refused = 0 }
  where
    no-log : ◌≡◌ {A = Sheet} empty_month.sheet (sheet_over_all [])
    no-log = over_none

month-is : (logs : List (List ℕ)) → AllShort logs → AllTick (map events_in logs) → in_all length (map events_in logs) < 2 ^ 32 → length logs < 2 ^ 64 → month_of logs ≡ over logs
unfolding month_of
month-is [] short ticks events many = empty-over
month-is (log ∷ logs) short ticks events many =
    let rest : month_of logs ≡ over logs = month-is logs short.1 ticks.1 (omega (arith, events)) (omega (arith, many)) in
    let alone : length (events_in log) < 2 ^ 32 = omega (arith, events) in
    let none = few.few-in-a-log (events_in log) ticks.0 alone in
    let fits : MonthIn64 (month_over (over logs) (in_month log)) = subst MonthIn64 (sym (month-more log logs)) (over-fits (log ∷ logs) ticks events many) in
    ap (λ (m : Month). kept m (with_log m log)) rest ∙ ap (λ (j : Result Month TooLarge). kept (over logs) j) (add_done (over logs) log short.0 none fits) ∙ month-more log logs

pub month-rule : MonthRule
month-rule = record {
  adds = add-rule;
  says = λ logs short ticks events many.
      let is = month-is logs short ticks events many in
      record { sheet = ap (λ (m : Month). m.sheet) is; logs-are = ap (λ (m : Month). m.logs) is; refused-are = ap (λ (m : Month). m.refused) is };
}
