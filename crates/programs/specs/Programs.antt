-- What the status of a program means, and what it writes: of the replay, and of the answer, by what their pumps promise; and what the sheet's
-- pump hands back of a log.
use Rattle.std.specs.Prelude.{ℕ, ◌≤◌, List, [], ◌∷◌, ◌++◌, ◌⊎◌, ◌↔◌, ◌≡◌, Option, Ok, Err, IsErr}
use Rattle.benchlog.specs.declared.Refusal.{Refusal}
use Rattle.follow.specs.Source.{records}
use Rattle.follow.specs.Teller.{Teller}
use Rattle.follow.specs.Whole.{joined, printed_from, led_to}
use Rattle.text.specs.Text.{decimal}
use Rattle.outcomes.specs.Demand1.{DueOfLog}
use Rattle.sheets.specs.declared.Month.{Month}
use Rattle.sheeting.specs.Sheeting.{sheeter, start, sheet_of, log_sheet}
use Rattle.sheeting.specs.declared.Sheeting.{Sheeting}
use Rattle.months.specs.Months.{with_log}
use Rattle.gathering.specs.Gathering.{added_of, log_added}
use Rattle.window.specs.Given.{got_of}
use Rattle.stream.specs.Pump.{MayFollow, all_blocks, StoppedLog, PumpedAs, status_of, status_number}
use Rattle.stream.specs.declared.Ended.{Ended}
use Rattle.stream.specs.declared.How.{How}
use Rattle.stream.specs.declared.How.TheVariants.{On, Stopped, NotRead, NotWritten}
use Rattle.ending.specs.Ending.{digit_of, misused}

-- a pump followed a log to where it stops: the log begins with the parts that came, and is their sum where its end was seen
pub record Followed (printed : List ℕ → List ℕ) (who : Teller records) (first : who.State) (ended : Ended who.State) (log : List ℕ) : Type 0 where
  pub refusal : Option Refusal
  pub how-is : ended.how ≡ Stopped refusal
  pub stopped : StoppedLog printed who first refusal ended
  pub rest : List ℕ
  pub may : MayFollow stopped.last.done rest
  pub log_is : log ≡ joined stopped.last.parts ++ rest

-- the pump says that a read or a write failed, or that more came than its turns can do; whether a call did is no contract's to say (docs/LOOSER.md)
abbrev pub Failed : How → Type 0
Failed how = (how ≡ NotRead) ⊎ ((how ≡ NotWritten) ⊎ (how ≡ On))

-- of a program whose pump has this teller, begins with this state of his and prints this
pub record StatusMeans (printed : List ℕ → List ℕ) (who : Teller records) (first : who.State) : Type 0 where
  -- every pump has failed, or followed a log
  pub each : (ended : Ended who.State) → PumpedAs ended.how printed who first ended → Failed ended.how ⊎ ((log : List ℕ) × Followed printed who first ended log)
  -- what it handed to its writes is, joined, what is printed of that log
  pub text : (ended : Ended who.State) (log : List ℕ) (f : Followed printed who first ended log) → joined (all_blocks f.stopped.last) ≡ printed log
  -- and the follower that it hands back is the one to which the log leads
  pub led : (ended : Ended who.State) (log : List ℕ) → Followed printed who first ended log → ended.follower ≡ led_to who first log
  -- 0 exactly where 0 is due of the log: it ended at a record boundary, and nothing was refused
  pub done : (ended : Ended who.State) (log : List ℕ) → Followed printed who first ended log → (status_number (status_of ended.how) ≡ 0) ↔ DueOfLog log 0
  -- 3 exactly where 7, 8 or 9 is due of it
  pub refused : (ended : Ended who.State) (log : List ℕ) → Followed printed who first ended log
      → (status_number (status_of ended.how) ≡ 3) ↔ (DueOfLog log 7 ⊎ (DueOfLog log 8 ⊎ DueOfLog log 9))
  -- 1 exactly where the pump says that a call failed, or that the input was too long
  pub failed : (how : How) → (status_number (status_of how) ≡ 1) ↔ Failed how
  -- and what goes to descriptor 3 is its digit
  pub digit : (how : How) → digit_of (status_of how) ∷ [] ≡ decimal (status_number (status_of how))

-- ---- Q-8: of a log that the sheet's pump followed
pub record SheetMeans : Type 0 where
  -- the follower that it hands back has the log's sheet
  pub sheet : (ended : Ended Sheeting) (log : List ℕ) → Followed (printed_from sheeter start) sheeter start ended log → sheet_of ended.follower ≡ log_sheet log
  -- and a month takes it as a log is taken, by the number that stops it
  pub added : (m : Month) (ended : Ended Sheeting) (log : List ℕ) → Followed (printed_from sheeter start) sheeter start ended log
      → log_added m ended ≡ added_of (with_log m log)
  -- and nothing was printed
  pub silent : (log : List ℕ) → printed_from sheeter start log ≡ []

-- ---- what is made of the answer of a read into so much room: an error, or how many bytes it moved
pub record ReadMeans : Type 1 where
  -- a read that fails, with whatever error, is no end of the log
  pub failed : {E : Type 0} (error : E) (room : ℕ) → IsErr (got_of (Err error) room).count
  -- and else all that came counts: the end is where nothing did
  pub came : (E : Type 0) (k room : ℕ) → k ≤ room → (got_of {E = E} (Ok k) room).count ≡ Ok k

-- ---- the digit of a program that was not used as it is meant to be is 2. That it is told there alone is required in the programs (tell_misused)
pub record MisuseMeans : Type 0 where
  pub digit : digit_of misused ∷ [] ≡ decimal 2
