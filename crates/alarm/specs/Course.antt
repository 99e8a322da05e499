-- What every detector with an alarm is: a run of something, and the alarm. Whatever clears status, marks and runs begins the run anew, and a
-- clock may lengthen it.
use Rattle.std.specs.Prelude.{ℕ, ◌+◌, ◌≡◌}
use Rattle.alarm.specs.Alarm.{off, cleared, lapse_of}
use Rattle.alarm.specs.declared.Alarm.{Alarm}
use Rattle.alarm.specs.declared.Lapse.{Lapse}
use Rattle.alarm.specs.declared.Lapse.TheVariants.{Stands, Expires}

-- how a detector's run goes: as it begins, and what a clock of so many microseconds makes of it
pub record Course : Type 1 where
  pub Run : Type 0
  pub begun : Run
  pub later : ℕ → Run → Run

-- "Two clock events in a row equal one of their sum", of the run alone
pub record Adds (c : Course) : Type 0 where
  pub none : (r : c.Run) → c.later 0 r ≡ r
  pub sum : (a b : ℕ) (r : c.Run) → c.later b (c.later a r) ≡ c.later (a + b) r

pub record Detector (Run : Type 0) : Type 0 where
  pub run : Run
  pub alarm : Alarm

module _ (c : Course) where
  -- as at power-up
  abbrev pub fresh : Detector c.Run
  fresh = record { run = c.begun; alarm = off }

  -- "clears status, marks and runs"
  abbrev pub begun_anew : Detector c.Run → Detector c.Run
  begun_anew d = record { run = c.begun; alarm = cleared d.alarm }

  -- Q-4: "The status clears, with marks and runs, when the clock since its setting reaches that time"; what of the clock comes after that
  -- goes on, in a run that has begun anew
  abbrev pub lapsed : Lapse → ℕ → Detector c.Run → Detector c.Run
  lapsed (Stands a) us d = record { run = c.later us d.run; alarm = a }
  lapsed (Expires rest) us d = record { run = c.later rest c.begun; alarm = cleared d.alarm }

  unfoldable pub clocked : ℕ → Detector c.Run → Detector c.Run
  clocked us d = lapsed (lapse_of us d.alarm) us d
