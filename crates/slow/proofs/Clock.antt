-- Q-4, of any record of slow motion and no-motion: "Two clock events in a row equal one of their sum", also where the status expires in one of
-- them and the rest of it is waited: alarm/proofs/Course. Assumes nothing.
use Prim.Native.Nat.{ℕ, ◌+◌}
use mathlib.Core.Bool.{Bool, true, false}
use mathlib.Core.Path.{◌≡◌, refl, sym, ap, ◌∙◌}
use Rattle.laws.specs.Choice.{pick}
use Rattle.alarm.specs.Alarm.{lapse_of}
use Rattle.alarm.specs.Course as course
use Rattle.alarm.specs.Course.{Course, Adds, Detector}
use Rattle.alarm.specs.declared.Lapse.{Lapse}
use Rattle.alarm.specs.declared.Lapse.TheVariants.{Stands, Expires}
use Rattle.alarm.proofs.Course as general
use Rattle.slopes.specs.Runs.{no_runs}
use Rattle.slopes.specs.declared.Runs.{Runs}
use Rattle.motion.specs.Detector as motion
use Rattle.spell.specs.Stopwatch.{started, longer}
use Rattle.spell.specs.Spell as spell
use Rattle.spell.specs.declared.Stopwatch.{Stopwatch}
use Rattle.spell.proofs.Clock.{longer-none, longer-sum}
use Rattle.slow.specs.Slow.{spell_of, restarted, clocked}
use Rattle.slow.specs.declared.Slow.{Slow}

-- slow motion's runs, which no clock lengthens, and no-motion's stopwatch, which starts with the run
abbrev pub points_and_time : Course
points_and_time = record { Run = Runs × Stopwatch; begun = (no_runs, started); later = λ us r. (r.0, longer us r.1) }

adds : Adds points_and_time
adds = record {
  none = λ r. ap (λ (w : Stopwatch). (r.0, w)) (longer-none r.1);
  sum = λ a b r. ap (λ (w : Stopwatch). (r.0, w)) (longer-sum a b r.1);
}

abbrev pub as_detector : Slow → Detector (Runs × Stopwatch)
as_detector s = record { run = (s.motion.runs, s.watch); alarm = s.motion.alarm }

abbrev of_detector : Detector (Runs × Stopwatch) → Slow
of_detector d = record { motion = record { runs = d.run.0; alarm = d.alarm }; watch = d.run.1 }

pub restart-as : (t : Bool) (s : Slow) → as_detector (pick t (restarted s) s) ≡ pick t (course.begun_anew points_and_time (as_detector s)) (as_detector s)
unfolding restarted motion.restarted
restart-as true s = refl
restart-as false s = refl

pub clock-as : (us : ℕ) (s : Slow) → as_detector (clocked us s) ≡ course.clocked points_and_time us (as_detector s)
unfolding clocked motion.clocked motion.restarted spell.clocked course.clocked
clock-as us s = go (lapse_of us s.motion.alarm)
  where
    go : (t : Lapse)
        → as_detector (record { motion = motion.after_lapse t s.motion; watch = (spell.lapsed started t us (spell_of s)).watch })
        ≡ course.lapsed points_and_time t us (as_detector s)
    go (Stands a) = refl
    go (Expires rest) = refl

pub clocked-none : (s : Slow) → clocked 0 s ≡ s
clocked-none s = ap of_detector (clock-as 0 s ∙ general.clocked-none points_and_time adds (as_detector s))

pub clocked-sum : (a b : ℕ) (s : Slow) → clocked b (clocked a s) ≡ clocked (a + b) s
clocked-sum a b s =
    ap of_detector (clock-as b (clocked a s) ∙ rw (clock-as a s) (general.clocked-sum points_and_time adds a b (as_detector s)) ∙ sym (clock-as (a + b) s))
