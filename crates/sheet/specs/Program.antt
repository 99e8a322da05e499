-- The sheet over all logs that are named, or over all sheets. No contract can say what stands in a file: of each name this says what was made of
-- what was read.
use Rattle.std.specs.Prelude.{ℕ, suc, Bool, true, false, List, Result, Ok, Err, ◌≡◌}
use Rattle.sheets.specs.Sheets.{empty_month, kept}
use Rattle.sheets.specs.declared.Month.{Month}
use Rattle.follow.specs.Whole.{printed_from}
use Rattle.sheeting.specs.Sheeting.{sheeter, start}
use Rattle.sheeting.specs.declared.Sheeting.{Sheeting}
use Rattle.arguments.specs.declared.SheetWanted.{SheetWanted}
use Rattle.arguments.specs.declared.SheetWanted.TheVariants.{Print, Raw, Join, JoinRaw}
use Rattle.stream.specs.Pump.{PumpedAs}
use Rattle.stream.specs.declared.Ended.{Ended}
use Rattle.stream.specs.declared.Status.{Status}
use Rattle.stream.specs.declared.Status.TheVariants.{Done, Refused, Failed, Misused}
use Rattle.gathering.specs.Gathering.{log_added, sheet_added, worse_of, month_status}
use Rattle.gathering.specs.declared.LeftOut.{LeftOut}
use Rattle.gathering.specs.declared.LeftOut.TheVariants.{TooLarge, NotRead, NoSheet}
use Rattle.sheet.specs.declared.Gathering.{Gathering}
use Rattle.sheet.specs.declared.handed.Printed.{Printed}

-- ---- what is asked for: whether sheets are joined, and whether the sheet is written as bytes
abbrev pub joins : SheetWanted → Bool
joins Print = false
joins Raw = false
joins Join = true
joins JoinRaw = true

abbrev pub raws : SheetWanted → Bool
raws Print = false
raws Raw = true
raws Join = false
raws JoinRaw = true

-- ---- a name: what is there cannot be read, or a pump came to its end with it
pub data LogTaken (m : Month) (added : Result Month LeftOut) : Type 0 where
  unread : added ≡ Err NotRead → LogTaken m added
  pumped : (ended : Ended Sheeting) → PumpedAs ended.how (printed_from sheeter start) sheeter start ended → added ≡ log_added m ended → LogTaken m added

-- or it gave these bytes
pub data SheetTaken (m : Month) (added : Result Month LeftOut) : Type 0 where
  unread : added ≡ Err NotRead → SheetTaken m added
  given : (bytes : List ℕ) → added ≡ sheet_added m bytes → SheetTaken m added

abbrev pub Taken : Bool → Month → Result Month LeftOut → Type 0
Taken true m added = SheetTaken m added
Taken false m added = LogTaken m added

abbrev pub no_sheet : Status
no_sheet = Misused

-- 1 where it cannot be read, 2 where it is no sheet, 3 where a total would not fit
abbrev pub added_status : Result Month LeftOut → Status
added_status (Ok m) = Done
added_status (Err TooLarge) = Refused
added_status (Err NotRead) = Failed
added_status (Err NoSheet) = no_sheet

-- "the sheet unchanged" where it is left out
abbrev pub month_after : Month → Result Month LeftOut → Month
month_after m added = kept m added

abbrev pub behind : Gathering → Result Month LeftOut → Gathering
behind g added = record { month = month_after g.month added; status = worse_of g.status (added_status added) }

pub record NameTaken (join : Bool) (g g' : Gathering) : Type 0 where
  pub added : Result Month LeftOut
  pub taken : Taken join g.month added
  pub is : g' ≡ behind g added

-- ---- so many names, one after the other
pub data Gathered (join : Bool) : ℕ → Gathering → Type 0 where
  none : Gathered join 0 (record { month = empty_month; status = Done })
  more : {n : ℕ} {g g' : Gathering} → Gathered join n g → NameTaken join g g' → Gathered join (suc n) g'

-- ---- the sheet, in the form that is asked for. Who has a Printed has handed the whole sheet of its month to a write, or nothing where the status
-- is that of something that is no sheet
abbrev pub PrintedOf : Bool → Gathering → Printed → Type 0
PrintedOf raw g p = (p.gathering ≡ g) × (p.raw ≡ raw)

pub record PrintedAs (names : ℕ) (wanted : SheetWanted) (p : Printed) : Type 0 where
  pub gathered : Gathered (joins wanted) names p.gathering
  pub form : p.raw ≡ raws wanted

abbrev pub written_status : Bool → Status
written_status true = Done
written_status false = Failed

-- the status of what is left out, of what was refused, and of the write
abbrev pub status_behind : Printed → Status
status_behind p = worse_of (worse_of p.gathering.status (month_status p.gathering.month)) (written_status p.whole)
