-- After any history the any-motion detector is the one that looking back tells. Assumes nothing.
use Prim.Native.Nat.{ℕ, ◌-◌, ◌<◌, ◌≤◌}
use mathlib.Core.Bool.{Bool, true, false}
use mathlib.Core.List.{List, [], ◌∷◌, map}
use mathlib.Core.Path.{◌≡◌, refl, ap, ◌∙◌}
use native.Mathlib.Omega.{arith}
use lib.ListN.{get_or}
use Rattle.laws.specs.Choice.{pick, both}
use Rattle.laws.specs.Lists.{is_in}
use Rattle.alarm.specs.Course as course
use Rattle.slopes.specs.Previous.{slopes_to}
use Rattle.slopes.specs.Runs.{runs_after}
use Rattle.motion.specs.Detector.{after_point, after_sample, restarted}
use Rattle.motion.specs.declared.Motion.{Motion}
use Rattle.motion.specs.declared.Settings.{Settings}
use Rattle.motion.proofs.Clock.{by_points, as_detector, of_detector, clock-as}
use Rattle.registers.specs.Deeds.{deeds_of, judgement}
use Rattle.registers.specs.declared.Deeds.{Deeds}
use Rattle.detectors.specs.Detectors.{motion_settings, detectors_sampled, detectors_clocked, detectors_written}
use Rattle.detectors.specs.declared.Detectors.{Detectors}
use Rattle.events.specs.Event.{Event}
use Rattle.events.specs.Run.{after}
use Rattle.events.specs.Bank.{bank}
use Rattle.paper.specs.Stored.{byte_by, is_accepted}
use Rattle.paper.specs.Samples.{Values}
use Rattle.paper.proofs.Stored.{stored_is}
use Rattle.lookback.specs.InForce.{is_non_latched, time_asked}
use Rattle.lookback.specs.Sight.{Sight, point, points_in}
use Rattle.lookback.specs.Watch.{going_by, restarts}
use Rattle.lookback.specs.Seen.{clock_since, marked}
use Rattle.lookback.specs.InRow.{last_are}
use Rattle.lookback.proofs.InForce.{latch-is, hold-is, deed-is, in-force-kept}
use Rattle.lookback.proofs.Seen.{Lawful}
use Rattle.lookback.proofs.Parts.{judged_by, Part}
use Rattle.lookback.proofs.Agrees.{alarm_by, part-is}
use Rattle.lookback.proofs.InRow.{apart}
use Rattle.points.specs.Points.{OverAxes, is_over, is_calm, samples, point_by}
use Rattle.points.proofs.Points.{as_points, point-is, one-or-none}
use Rattle.points.proofs.Previous.{previous-is}
use Rattle.points.proofs.Runs.{point-next}
use Rattle.anymotion.specs.Status.{points_asked, clearing, any_motion, points, is_set}

-- ---- the watch
pub some-asked : (es : List Event) → 1 ≤ points_asked es
some-asked es = omega arith

-- "N over points in a row set it .. N calm points in a row clear it"
module _ (es : List Event) (ss : List (Sight OverAxes)) where
  pub sets-is : any_motion.sets (going_by any_motion es).own ss ≡ last_are is_over (points_asked es) (points_in ss)
  unfolding going_by
  sets-is = refl

  pub clears-is : any_motion.clears (going_by any_motion es).own ss ≡ last_are is_calm (points_asked es) (points_in ss)
  unfolding going_by
  clears-is = refl

not-both : (es : List Event) (p : OverAxes) (ss : List (Sight OverAxes)) → any_motion.clears (points_asked es) (point p ∷ ss) ≡ true
    → any_motion.sets (points_asked es) (point p ∷ ss) ≡ false
unfolding going_by
not-both es = apart any_motion (going_by any_motion es) is_over (points_asked es) (some-asked es) (sets-is es) (clears-is es)

pub lawful : Lawful any_motion
lawful = record {
  one = λ es v. one-or-none (byte_by es 0x16) (byte_by es 0x28) v (samples es);
  latches = refl;
  kept = λ es e r. rw (in-force-kept clearing es e r 0x27 refl);
  apart = not-both;
}

-- ---- the device's detector
pub restarts-is : (es : List Event) (a byte : ℕ) → (judgement (bank es) a byte).deeds.restarts.motion ≡ both (is_accepted es a byte) (is_in clearing a)
unfolding deeds_of
restarts-is = deed-is (λ d. d.restarts.motion) clearing (λ regs r a byte. refl) refl

written : (d : Deeds) (s : Detectors) → d.resets ≡ false
    → as_detector (detectors_written d s).motion ≡ pick d.restarts.motion (course.begun_anew by_points (as_detector s.motion)) (as_detector s.motion)
unfolding detectors_written restarted
written d s r = rw r (go d.restarts.motion)
  where
    go : (t : Bool) → as_detector (pick t (restarted s.motion) s.motion) ≡ pick t (course.begun_anew by_points (as_detector s.motion)) (as_detector s.motion)
    go true = refl
    go false = refl

clocks : (us : ℕ) (s : Detectors) → as_detector (detectors_clocked us s).motion ≡ course.clocked by_points us (as_detector s.motion)
unfolding detectors_clocked
clocks us s = clock-as us s.motion

-- what it goes by, after a history
abbrev settings_by : List Event → Settings
settings_by es = record { axes = byte_by es 0x16; points = byte_by es 0x27; threshold = byte_by es 0x28; unlatched = is_non_latched es; hold = time_asked es }

settings-are : (es : List Event) → motion_settings (bank es) ≡ settings_by es
settings-are es =
    let byte : (a : ℕ) → a < 64 → get_or (bank es) a 0 ≡ byte_by es a = stored_is es in
    rw (byte 0x16 (omega arith), byte 0x27 (omega arith), byte 0x28 (omega arith), byte 0x21 (omega arith), latch-is (byte_by es 0x21), hold-is (byte_by es 0x21))

-- an accepted sample
module _ (es : List Event) (v : Values) where
  abbrev now : Motion
  now = (after es).detectors.motion

  abbrev sampled : Motion
  sampled = (detectors_sampled (bank es) v.x v.y v.z (after es).detectors).motion

  sampled-is : sampled ≡ after_point (settings_by es) (as_points (point_by 0x16 0x28 es v)) now
  unfolding detectors_sampled after_sample
  sampled-is =
      ap (λ (s : Settings). after_sample s (slopes_to v.x v.y v.z (after es).detectors.previous) now) (settings-are es)
      ∙ rw (point-is (byte_by es 0x16) (byte_by es 0x28) v (after es).detectors.previous (samples es) (previous-is es))

  idle : point_by 0x16 0x28 es v ≡ [] → as_detector sampled ≡ as_detector now
  idle n = ap as_detector sampled-is ∙ rw n

  judges : (p : OverAxes) → point_by 0x16 0x28 es v ≡ p ∷ [] → (ss : List (Sight OverAxes)) → now.runs ≡ runs_after (going_by any_motion es).own (map is_over (points_in ss))
      → as_detector sampled
      ≡ record { run = runs_after (going_by any_motion es).own (map is_over (p ∷ points_in ss)); alarm = judged_by any_motion (going_by any_motion es) p ss now.alarm }
  unfolding going_by
  judges p n ss h = ap as_detector sampled-is ∙ rw n (point-next (settings_by es) now (points_in ss) (points_asked es) refl (some-asked es) h p)

part : Part any_motion
part = record {
  course = by_points;
  get = λ d. as_detector d.motion;
  run_of = λ g ss. runs_after g.own (map is_over (points_in ss));
  begins = λ g. refl;
  passes = λ g us ss. refl;
  quiet = refl;
  deed = λ d. d.restarts.motion;
  deed-at = restarts-is;
  written = written;
  clocks = clocks;
  idle = idle;
  judges = judges;
}

abbrev pub motion_after : List Event → Motion
motion_after es = record { runs = runs_after (points_asked es) (map is_over (points es)); alarm = alarm_by (is_set es) (marked any_motion es) (time_asked es - clock_since any_motion es) }

pub detector-is : (es : List Event) → (after es).detectors.motion ≡ motion_after es
unfolding part going_by
detector-is es = ap of_detector (part-is any_motion lawful part es)
