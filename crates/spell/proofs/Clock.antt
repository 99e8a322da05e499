-- Q-4, of any spell record: "Two clock events in a row equal one of their sum", and a clock of 0 changes nothing. Assumes nothing.
use Prim.Native.Nat.{ℕ, ◌+◌, ◌-◌, min}
use mathlib.Core.Bool.{Bool, true, false}
use mathlib.Core.Path.{◌≡◌, refl, sym, ap, ◌∙◌}
use native.Mathlib.Omega.{arith}
use borrow.Author.Tests.{eqb-false, ne_eqb}
use lib.Dec.{eqb}
use Rattle.laws.specs.Choice.{pick}
use Rattle.alarm.specs.Alarm.{lapse_of}
use Rattle.alarm.specs.Course as course
use Rattle.alarm.specs.Course.{Course, Adds, Detector}
use Rattle.alarm.specs.declared.Lapse.{Lapse}
use Rattle.alarm.specs.declared.Lapse.TheVariants.{Stands, Expires}
use Rattle.alarm.proofs.Course as general
use Rattle.spell.specs.Stopwatch.{most, longer}
use Rattle.spell.specs.Spell.{restarted, lapsed, clocked}
use Rattle.spell.specs.declared.Stopwatch.{Stopwatch}
use Rattle.spell.specs.declared.Spell.{Spell}

-- of every stopwatch, also of one past the most that is counted
pub longer-none : (s : Stopwatch) → longer 0 s ≡ s
unfolding longer
longer-none s = go (eqb s.count 0)
  where
    go : (t : Bool) → pick t s (record { count = s.count + min 0 (most - s.count) }) ≡ s
    go true = refl
    go false = let n : s.count + min 0 (most - s.count) ≡ s.count = omega arith in rw n

pub longer-sum : (a b : ℕ) (s : Stopwatch) → longer b (longer a s) ≡ longer (a + b) s
unfolding longer
longer-sum a b s = go (eqb s.count 0) refl
  where
    go : (t : Bool) → eqb s.count 0 ≡ t → longer b (pick t s (record { count = s.count + min a (most - s.count) })) ≡ pick t s (record { count = s.count + min (a + b) (most - s.count) })
    go true e = rw e
    go false e =
        let u = s.count in
        let p = eqb-false u 0 e in
        let q : eqb (u + min a (most - u)) 0 ≡ false = ne_eqb (u + min a (most - u)) 0 (omega arith) in
        let n : u + min a (most - u) + min b (most - (u + min a (most - u))) ≡ u + min (a + b) (most - u) = omega arith in
        rw (q, n)

abbrev pub as_detector : Spell → Detector Stopwatch
as_detector s = record { run = s.watch; alarm = s.alarm }

abbrev of_detector : Detector Stopwatch → Spell
of_detector d = record { watch = d.run; alarm = d.alarm }

module _ (fresh : Stopwatch) where
  -- runs by time: they begin as the stopwatch that is given, and a clock makes them longer
  abbrev pub by_time : Course
  by_time = record { Run = Stopwatch; begun = fresh; later = longer }

  adds : Adds by_time
  adds = record { none = longer-none; sum = longer-sum }

  pub restart-as : (t : Bool) (s : Spell) → as_detector (pick t (restarted fresh s) s) ≡ pick t (course.begun_anew by_time (as_detector s)) (as_detector s)
  unfolding restarted
  restart-as true s = refl
  restart-as false s = refl

  pub clock-as : (us : ℕ) (s : Spell) → as_detector (clocked fresh us s) ≡ course.clocked by_time us (as_detector s)
  unfolding clocked course.clocked
  clock-as us s = go (lapse_of us s.alarm)
    where
      go : (t : Lapse) → as_detector (lapsed fresh t us s) ≡ course.lapsed by_time t us (as_detector s)
      go (Stands a) = refl
      go (Expires rest) = refl

  pub clocked-none : (s : Spell) → clocked fresh 0 s ≡ s
  clocked-none s = ap of_detector (clock-as 0 s ∙ general.clocked-none by_time adds (as_detector s))

  pub clocked-sum : (a b : ℕ) (s : Spell) → clocked fresh b (clocked fresh a s) ≡ clocked fresh (a + b) s
  clocked-sum a b s =
      ap of_detector (clock-as b (clocked fresh a s) ∙ rw (clock-as a s) (general.clocked-sum by_time adds a b (as_detector s)) ∙ sym (clock-as (a + b) s))
