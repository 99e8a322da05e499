-- Q-4, of any detector record: "Two clock events in a row equal one of their sum", also where the status expires in one of them and the rest
-- of it goes on: alarm/proofs/Course, of runs that no clock lengthens. Assumes nothing.
use Prim.Native.Nat.{ℕ, ◌+◌, ◌-◌, ◌<◌, ◌≤◌}
use mathlib.Core.Path.{◌≡◌, refl, sym, ap, ◌∙◌}
use Rattle.alarm.specs.Alarm.{waited, lapse_of}
use Rattle.alarm.specs.Course as course
use Rattle.alarm.specs.Course.{Course, Adds, Detector}
use Rattle.alarm.specs.declared.Lapse.{Lapse}
use Rattle.alarm.specs.declared.Lapse.TheVariants.{Stands, Expires}
use Rattle.alarm.proofs.Course as general
use Rattle.slopes.specs.Runs.{no_runs}
use Rattle.slopes.specs.declared.Runs.{Runs}
use Rattle.motion.specs.Detector.{restarted, after_lapse, clocked}
use Rattle.motion.specs.declared.Motion.{Motion}

-- runs of points: they begin with none, and no clock lengthens them
abbrev pub by_points : Course
by_points = record { Run = Runs; begun = no_runs; later = λ us r. r }

adds : Adds by_points
adds = record { none = λ r. refl; sum = λ a b r. refl }

abbrev pub as_detector : Motion → Detector Runs
as_detector m = record { run = m.runs; alarm = m.alarm }

abbrev pub of_detector : Detector Runs → Motion
of_detector d = record { runs = d.run; alarm = d.alarm }

pub clock-as : (us : ℕ) (m : Motion) → as_detector (clocked us m) ≡ course.clocked by_points us (as_detector m)
unfolding clocked restarted course.clocked
clock-as us m = go (lapse_of us m.alarm)
  where
    go : (t : Lapse) → as_detector (after_lapse t m) ≡ course.lapsed by_points t us (as_detector m)
    go (Stands a) = refl
    go (Expires rest) = refl

module _ (m : Motion) where
  -- where no time is running
  pub clocked-idle : (us : ℕ) → m.alarm.remaining ≡ 0 → clocked us m ≡ m
  clocked-idle us h = ap of_detector (clock-as us m ∙ general.clocked-idle by_points (as_detector m) us h)

  -- before the time is reached
  abbrev pub waiting : ℕ → Motion
  waiting us = record { runs = m.runs; alarm = waited us m.alarm }

  pub clocked-stands : (us : ℕ) → us < m.alarm.remaining → clocked us m ≡ waiting us
  clocked-stands us h = ap of_detector (clock-as us m ∙ general.clocked-stands by_points (as_detector m) us h)

  -- "when the clock since its setting reaches that time": "with marks and runs"
  pub clocked-reached : (us : ℕ) → ¬ (m.alarm.remaining ≡ 0) → m.alarm.remaining ≤ us → clocked us m ≡ restarted m
  unfolding restarted
  clocked-reached us h k = ap of_detector (clock-as us m ∙ general.clocked-reached by_points (as_detector m) us h k)

-- a clock of 0 changes nothing
pub clocked-none : (m : Motion) → clocked 0 m ≡ m
clocked-none m = ap of_detector (clock-as 0 m ∙ general.clocked-none by_points adds (as_detector m))

pub clocked-sum : (a b : ℕ) (m : Motion) → clocked b (clocked a m) ≡ clocked (a + b) m
clocked-sum a b m =
    ap of_detector (clock-as b (clocked a m) ∙ rw (clock-as a m) (general.clocked-sum by_points adds a b (as_detector m)) ∙ sym (clock-as (a + b) m))

-- an expiry inside a clock: the detector starts anew, and the rest of the clock goes on
pub goes_on : (us : ℕ) (m : Motion) → ¬ (m.alarm.remaining ≡ 0) → m.alarm.remaining ≤ us → clocked us m ≡ clocked (us - m.alarm.remaining) (restarted m)
unfolding restarted
goes_on us m h k = clocked-reached m us h k ∙ sym (clocked-idle (restarted m) (us - m.alarm.remaining) refl)
