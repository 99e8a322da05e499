-- Q-8: one log, and many. A log is its bytes; its events are those of the records up to where the replay stops.
use Rattle.std.specs.Prelude.{ℕ, ◌+◌, ◌^◌, ◌<◌, true, List, [], ◌∷◌, ◌++◌, map, ◌↔◌, ◌≡◌, Ok, Err, ℤ, length}
use Rattle.events.specs.Event.{Event}
use Rattle.paper.specs.Samples.{Values, microseconds_at}
use Rattle.history.specs.History.{accelerometer}
use Rattle.demand3.specs.Whole.{sum, held_now, totals}
use Rattle.recorded.specs.Recorded.{events_of, history_of}
use Rattle.sheets.specs.Sheets.{empty_sheet, sheet_over, sheet_joined}
use Rattle.sheets.specs.declared.Sheet.{Sheet}
use Rattle.sheeting.specs.Sheeting.{log_sheet}
use Rattle.months.specs.Totals.{AllIn64}
use Rattle.months.specs.Histories.{counts_at, clock_in, sheet_with, sheet_of, Says, SaysOf, Passes}

-- "A log counts up to where the replay stops": 7 and 9 at the version byte leave no event, and a sheet of zeros
abbrev pub events_in : List ℕ → List Event
events_in log = events_of (history_of log)

-- ---- one log
pub record SheetOfLog (log : List ℕ) : Type 0 where
  -- a log that has a sheet has this one
  pub is : (s : Sheet) → log_sheet log ≡ Ok s → s ≡ sheet_of (events_in log)
  -- and it says this of the events
  pub says : SaysOf (events_in log) (sheet_of (events_in log))
  -- 15 exactly where at some event a total would not fit
  pub refused : (log_sheet log ≡ Err (record {})) ↔ Passes (events_in log)

-- ---- many logs, by their histories
-- a number of each, added up
abbrev pub in_all : (List Event → ℕ) → List (List Event) → ℕ
in_all f hs = sum (map f hs)

-- the stored counts of all of them
abbrev pub joined : {A : Type 0} → List (List A) → List A
joined [] = []
joined (l ∷ ls) = l ++ joined ls

abbrev pub counts_over : List (List Event) → ℕ → (Values → ℤ) → List ℤ
counts_over hs g axis = joined (map (counts_at g axis) hs)

-- the sheet over them: "held at the end" is the sum, since each log starts at power-up
abbrev pub sheet_over_all : List (List Event) → Sheet
sheet_over_all hs =
    sheet_with
    (in_all (λ es. (totals accelerometer es).accepted) hs)
    (in_all (λ es. (totals accelerometer es).taken) hs)
    (in_all (λ es. held_now accelerometer es) hs)
    (in_all (λ es. (totals accelerometer es).lost) hs)
    (in_all (λ es. (totals accelerometer es).cleared_away) hs)
    (in_all clock_in hs)
    (counts_over hs)

-- joins of sheets of logs, in any grouping, of which every one fits
pub data Joins : List (List Event) → Sheet → Type 0 where
  none : Joins [] empty_sheet
  one : (es : List Event) → Joins (es ∷ []) (sheet_of es)
  join : {hs ks : List (List Event)} {a b s : Sheet} → Joins hs a → Joins ks b → sheet_joined a b ≡ Ok s → Joins (hs ++ ks) s

-- each clock has 32 bits, as a record of a log has it
abbrev pub Ticks : List Event → Type 0
Ticks [] = Unit {0}
Ticks (e ∷ es) = (microseconds_at e < 2 ^ 32) × Ticks es

abbrev pub AllTick : List (List Event) → Type 0
AllTick [] = Unit {0}
AllTick (es ∷ hs) = Ticks es × AllTick hs

pub record SheetsOver : Type 0 where
  -- "joining two sheets equals the sheet over both"
  pub joins : (hs ks : List (List Event)) → sheet_over (sheet_over_all hs) (sheet_over_all ks) ≡ sheet_over_all (hs ++ ks)
  -- in any grouping
  pub grouped : (hs : List (List Event)) (s : Sheet) → Joins hs s → s ≡ sheet_over_all hs
  -- and in any order
  pub ordered : (hs ks : List (List Event)) → sheet_over_all (hs ++ ks) ≡ sheet_over_all (ks ++ hs)
  -- the sheet over one log is its own, and the empty sheet is neutral
  pub single : (es : List Event) → sheet_over_all (es ∷ []) ≡ sheet_of es
  pub neutral-left : (s : Sheet) → sheet_over empty_sheet s ≡ s
  pub neutral-right : (s : Sheet) → sheet_over s empty_sheet ≡ s
  -- what it says of the histories
  pub says : (hs : List (List Event))
      → Says
      (in_all (λ es. (totals accelerometer es).accepted) hs)
      (in_all (λ es. (totals accelerometer es).taken) hs)
      (in_all (λ es. held_now accelerometer es) hs)
      (in_all (λ es. (totals accelerometer es).lost) hs)
      (in_all (λ es. (totals accelerometer es).cleared_away) hs)
      (in_all clock_in hs)
      (counts_over hs)
      (sheet_over_all hs)
  -- "accepted = taken + held at end + lost + held when cleared", over any logs
  pub whole : (hs : List (List Event)) → let s = sheet_over_all hs in s.accepted ≡ s.taken + s.held + s.lost + s.cleared
  -- below 2 ^ 32 events in all no total fails to fit, neither over the logs nor at an event of one
  pub few : (hs : List (List Event)) → AllTick hs → in_all length hs < 2 ^ 32 → AllIn64 (sheet_over_all hs)
  pub few-in-a-log : (es : List Event) → Ticks es → length es < 2 ^ 32 → Passes es → ⊥
