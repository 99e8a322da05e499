-- A part of the device's detectors that a clock, a write and a sample step by themselves: what each event makes of it, whichever part it is.
-- Assumes nothing.
use Prim.Native.Nat.{ℕ}
use mathlib.Core.Bool.{Bool, true, false}
use mathlib.Core.List.{List, [], ◌∷◌}
use mathlib.Core.Path.{◌≡◌, refl, ap, ◌∙◌}
use lib.IntN.{ℤ}
use Rattle.laws.specs.Choice.{pick, both}
use Rattle.laws.specs.Lists.{is_in}
use Rattle.alarm.specs.Alarm.{raised, cleared}
use Rattle.alarm.specs.Course.{Course, Detector, fresh, begun_anew, clocked}
use Rattle.alarm.specs.declared.Alarm.{Alarm}
use Rattle.registers.specs.Deeds.{judgement}
use Rattle.registers.specs.declared.Deeds.{Deeds}
use Rattle.registers.proofs.Verdicts.{resets-is}
use Rattle.detectors.specs.Detectors.{all_quiet, detectors_sampled, detectors_clocked, detectors_written}
use Rattle.detectors.specs.declared.Detectors.{Detectors}
use Rattle.device.specs.Device as device
use Rattle.events.specs.Event.{Event, power_up, write, read, sample, cycle, clock}
use Rattle.events.specs.Run.{after}
use Rattle.events.specs.Bank.{bank}
use Rattle.events.specs.Parts.{detectors_next}
use Rattle.events.proofs.Parts.{detectors-next}
use Rattle.events.proofs.Runs.{bank-is}
use Rattle.paper.specs.Stored.{starts_anew, is_accepted}
use Rattle.paper.specs.Samples.{Values, all_inside, values_at}
use Rattle.paper.proofs.Samples.{sample-is}
use Rattle.paper.proofs.Offsets.{sample-stored}
use Rattle.lookback.specs.InForce.{begins_anew}
use Rattle.lookback.specs.Sight.{point, passed}
use Rattle.lookback.specs.Watch.{Watch, Sights, Going, going_by, restarts, point_at}
use Rattle.lookback.proofs.InForce.{not-anew}
use Rattle.lookback.proofs.Seen.{is_clock}

-- the alarm after a point p, behind the sights ss
abbrev pub judged_by : (w : Watch) → Going w.Setting → w.Point → Sights w → Alarm → Alarm
judged_by w g p ss a =
    pick (w.sets g.own (point p ∷ ss)) (raised (w.mark p).axis (w.mark p).negative g.time a)
    (pick (both g.non_latched (w.clears g.own (point p ∷ ss))) (cleared a) a)

pub record Part (w : Watch) : Type 1 where
  -- the part, and its run after these sights
  pub course : Course
  pub get : Detectors → Detector course.Run
  pub run_of : Going w.Setting → Sights w → course.Run
  pub begins : (g : Going w.Setting) → run_of g [] ≡ course.begun
  pub passes : (g : Going w.Setting) (us : ℕ) (ss : Sights w) → run_of g (passed us ∷ ss) ≡ course.later us (run_of g ss)
  -- power-up
  pub quiet : get all_quiet ≡ fresh course
  -- a write
  pub deed : Deeds → Bool
  pub deed-at : (es : List Event) (a byte : ℕ) → deed (judgement (bank es) a byte).deeds ≡ both (is_accepted es a byte) (is_in w.clearing a)
  pub written : (d : Deeds) (s : Detectors) → d.resets ≡ false → get (detectors_written d s) ≡ pick (deed d) (begun_anew course (get s)) (get s)
  -- a clock
  pub clocks : (us : ℕ) (s : Detectors) → get (detectors_clocked us s) ≡ clocked course us (get s)
  -- an accepted sample that gives no point, and one that gives a point
  pub idle : (es : List Event) (v : Values) → w.point_of es v ≡ [] → get (detectors_sampled (bank es) v.x v.y v.z (after es).detectors) ≡ get (after es).detectors
  pub judges : (es : List Event) (v : Values) (p : w.Point) → w.point_of es v ≡ p ∷ [] → (ss : Sights w) → (get (after es).detectors).run ≡ run_of (going_by w es) ss
      → get (detectors_sampled (bank es) v.x v.y v.z (after es).detectors)
      ≡ record { run = run_of (going_by w es) (point p ∷ ss); alarm = judged_by w (going_by w es) p ss (get (after es).detectors).alarm }

module _ (w : Watch) (part : Part w) where
  -- what the device holds of it after a history
  abbrev pub held : List Event → Detector part.course.Run
  held es = part.get (after es).detectors

  steps : (es : List Event) (e : Event) → held (e ∷ es) ≡ part.get (detectors_next (bank es) e (after es).detectors)
  unfolding after
  steps es e = ap part.get (detectors-next (after es) e ∙ rw (bank-is es))

  pub held_first : held [] ≡ fresh part.course
  unfolding after device.power_up
  held_first = part.quiet

  pub held-clock : (es : List Event) (us : ℕ) → held (clock us ∷ es) ≡ clocked part.course us (held es)
  held-clock es us = steps es (clock us) ∙ part.clocks us (after es).detectors

  pub held-anew : (es : List Event) (e : Event) → starts_anew e ≡ true → held (e ∷ es) ≡ fresh part.course
  unfolding detectors_written
  held-anew es power_up h = steps es power_up ∙ part.quiet
  held-anew es (write a byte) h =
      let q : detectors_written (judgement (bank es) a byte).deeds (after es).detectors ≡ all_quiet = rw (resets-is (bank es) a byte, h) in
      steps es (write a byte) ∙ ap part.get q ∙ part.quiet
  held-anew es (read a n) h = cc
  held-anew es (sample x y z t) h = cc
  held-anew es cycle h = cc
  held-anew es (clock us) h = cc

  held-written : (es : List Event) (a byte : ℕ) → starts_anew (write a byte) ≡ false
      → held (write a byte ∷ es) ≡ pick (restarts w es (write a byte)) (begun_anew part.course (held es)) (held es)
  unfolding begins_anew
  held-written es a byte old =
      steps es (write a byte)
      ∙ part.written (judgement (bank es) a byte).deeds (after es).detectors (resets-is (bank es) a byte ∙ old)
      ∙ rw (part.deed-at es a byte, old)

  pub held-restarted : (es : List Event) (e : Event) → starts_anew e ≡ false → restarts w es e ≡ true → held (e ∷ es) ≡ begun_anew part.course (held es)
  unfolding begins_anew
  held-restarted es power_up old r = cc
  held-restarted es (write a byte) old r = held-written es a byte old ∙ rw r
  held-restarted es (read a n) old r = cc
  held-restarted es (sample x y z t) old r = cc
  held-restarted es cycle old r = cc
  held-restarted es (clock us) old r = cc

  sampled : (es : List Event) (x y z : ℤ) (t : ℕ) → all_inside x y z ≡ true
      → let v = values_at es (sample x y z t) in
      held (sample x y z t ∷ es) ≡ part.get (detectors_sampled (bank es) v.x v.y v.z (after es).detectors)
  sampled es x y z t f = steps es (sample x y z t) ∙ rw (sample-is x y z, f, sample-stored es x y z)

  pub held-idle : (es : List Event) (e : Event) → is_clock e ≡ false → restarts w es e ≡ false → point_at w es e ≡ [] → held (e ∷ es) ≡ held es
  unfolding point_at begins_anew
  held-idle es power_up c r q = cc
  held-idle es (write a byte) c r q = held-written es a byte (not-anew w.clearing es (write a byte) r) ∙ rw r
  held-idle es (read a m) c r q = steps es (read a m)
  held-idle es (sample x y z t) c r q = go (all_inside x y z) refl
    where
      go : (b : Bool) → all_inside x y z ≡ b → held (sample x y z t ∷ es) ≡ held es
      go true f = sampled es x y z t f ∙ part.idle es (values_at es (sample x y z t)) (rw f at q)
      go false f = steps es (sample x y z t) ∙ rw (sample-is x y z, f)
  held-idle es cycle c r q = steps es cycle
  held-idle es (clock us) c r q = cc

  pub held-judged : (es : List Event) (e : Event) (p : w.Point) → point_at w es e ≡ p ∷ [] → (ss : Sights w) → (held es).run ≡ part.run_of (going_by w es) ss
      → held (e ∷ es) ≡ record { run = part.run_of (going_by w es) (point p ∷ ss); alarm = judged_by w (going_by w es) p ss (held es).alarm }
  unfolding point_at
  held-judged es power_up p q ss h = cc
  held-judged es (write a byte) p q ss h = cc
  held-judged es (read a n) p q ss h = cc
  held-judged es (sample x y z t) p q ss h = go (all_inside x y z) refl
    where
      go : (b : Bool) → all_inside x y z ≡ b
          → held (sample x y z t ∷ es) ≡ record { run = part.run_of (going_by w es) (point p ∷ ss); alarm = judged_by w (going_by w es) p ss (held es).alarm }
      go true f = sampled es x y z t f ∙ part.judges es (values_at es (sample x y z t)) p (rw f at q) ss h
      go false f = let k : [] ≡ p ∷ [] = rw f at q in cc
  held-judged es cycle p q ss h = cc
  held-judged es (clock us) p q ss h = cc
