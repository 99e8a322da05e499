-- Q-8: "one sheet over many logs": how a month takes them, one after the other, and sheets too; and the status of a program behind them.
use Rattle.std.specs.Prelude.{ℕ, List, eqb, ltb, Result, Ok, Err}
use Rattle.laws.specs.Choice.{pick}
use Rattle.benchlog.specs.Answers.{stop_number}
use Rattle.sheets.specs.Sheets.{month_joined}
use Rattle.sheets.specs.declared.Month.{Month}
use Rattle.sheets.specs.declared.TooLarge as refusal
use Rattle.sheetfile.specs.Reader.{decode}
use Rattle.sheetfile.specs.declared.NoSheet as unread
use Rattle.sheeting.specs.Sheeting.{sheet_of, month_with}
use Rattle.sheeting.specs.declared.Sheeting.{Sheeting}
use Rattle.stream.specs.declared.Ended.{Ended}
use Rattle.stream.specs.declared.How.{How}
use Rattle.stream.specs.declared.How.TheVariants as how
use Rattle.stream.specs.declared.Status.{Status}
use Rattle.stream.specs.declared.Status.TheVariants.{Done, Refused, Failed, Misused}
use Rattle.gathering.specs.declared.LeftOut.{LeftOut}
use Rattle.gathering.specs.declared.LeftOut.TheVariants.{TooLarge, NotRead, NoSheet}

-- "15 when a total would not fit, the sheet unchanged": then it is left out
abbrev pub added_of : Result Month refusal.TooLarge → Result Month LeftOut
added_of (Ok month) = Ok month
added_of (Err e) = Err TooLarge

-- a log whose pump ended so, with this follower: up to where it stops, a log is in the month, by the number of its refusal; where it cannot be read, it is not
abbrev pub job_added : Month → How → Sheeting → Result Month LeftOut
job_added m how.On s = Err NotRead
job_added m (how.Stopped refusal) s = added_of (month_with m (sheet_of s) (stop_number refusal))
job_added m how.NotRead s = Err NotRead
job_added m how.NotWritten s = Err NotRead

unfoldable pub log_added : Month → Ended Sheeting → Result Month LeftOut
log_added m ended = job_added m ended.how ended.follower

-- "what is no sheet is refused"
abbrev pub read_added : Month → Result Month unread.NoSheet → Result Month LeftOut
read_added m (Ok more) = added_of (month_joined m more)
read_added m (Err e) = Err NoSheet

unfoldable pub sheet_added : Month → List ℕ → Result Month LeftOut
sheet_added m bytes = read_added m (decode bytes)

-- ---- statuses: 2 goes before 1, 1 before 3, and 3 before 0
abbrev pub rank_of : Status → ℕ
rank_of Misused = 3
rank_of Failed = 2
rank_of Refused = 1
rank_of Done = 0

unfoldable pub worse_of : Status → Status → Status
worse_of one other = pick (ltb (rank_of one) (rank_of other)) other one

-- 3, where some log was refused
unfoldable pub month_status : Month → Status
month_status m = pick (eqb m.refused 0) Done Refused
