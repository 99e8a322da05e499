-- After any history the device's slow motion and no-motion are what looking back tells, and reads of 0x09 show their status. Assumes nothing.
use Prim.Native.Nat.{ℕ, ◌+◌, ◌-◌, ◌/◌, ◌%◌, ◌<◌, ◌≤◌}
use mathlib.Core.Bool.{Bool, true, false}
use mathlib.Core.List.{List, [], ◌∷◌, map}
use mathlib.Core.Path.{◌≡◌, refl, sym, ap, ◌∙◌}
use native.Mathlib.Omega.{arith}
use lib.Dec.{leb}
use lib.ListN.{get_or}
use Rattle.laws.specs.Bits.{bit}
use Rattle.laws.specs.Choice.{pick, both}
use Rattle.laws.specs.Lists.{is_in}
use Rattle.alarm.specs.Course as course
use Rattle.alarm.specs.Course.{Detector}
use Rattle.alarm.specs.declared.Alarm.{Alarm}
use Rattle.slopes.specs.Previous.{slopes_to}
use Rattle.slopes.specs.Runs.{no_runs, runs_after}
use Rattle.slopes.specs.declared.Point.{Point}
use Rattle.slopes.specs.declared.Runs.{Runs}
use Rattle.motion.specs.Detector.{after_point, after_sample}
use Rattle.motion.specs.declared.Settings.{Settings}
use Rattle.codes.specs.Wait.{wait_of, wait_code}
use Rattle.spell.specs.Stopwatch.{started, longer}
use Rattle.spell.specs.Spell as spell
use Rattle.spell.specs.declared.Stopwatch.{Stopwatch}
use Rattle.spell.proofs.Clock.{longer-none, longer-sum}
use Rattle.slow.specs.Slow as slow
use Rattle.slow.specs.Slow.{spell_of, with_spell, calm_shown}
use Rattle.slow.specs.declared.Slow.{Slow}
use Rattle.slow.proofs.Clock.{points_and_time, as_detector, restart-as, clock-as}
use Rattle.registers.specs.Deeds.{deeds_of, judgement}
use Rattle.registers.specs.declared.Deeds.{Deeds}
use Rattle.detectors.specs.Detectors.{slow_settings, slow_status, detectors_sampled, detectors_clocked, detectors_written}
use Rattle.detectors.specs.declared.Detectors.{Detectors}
use Rattle.events.specs.Event.{Event}
use Rattle.events.specs.Run.{after}
use Rattle.events.specs.Bank.{bank}
use Rattle.paper.specs.Stored.{byte_by, is_accepted}
use Rattle.paper.specs.Samples.{Values}
use Rattle.paper.proofs.Stored.{stored_is}
use Rattle.lookback.specs.InForce.{is_non_latched, time_asked}
use Rattle.lookback.specs.Sight.{Sight, point, passed, points_in, clock_in}
use Rattle.lookback.specs.Watch.{Going, going_by}
use Rattle.lookback.specs.Seen.{is_set}
use Rattle.lookback.specs.InRow.{last_are}
use Rattle.lookback.proofs.InForce.{latch-is, hold-is, deed-is, in-force-kept}
use Rattle.lookback.proofs.Seen.{Lawful}
use Rattle.lookback.proofs.Parts.{judged_by, Part}
use Rattle.lookback.proofs.Agrees.{part-is}
use Rattle.lookback.proofs.InRow.{apart}
use Rattle.lasting.proofs.Runs.{watch_of}
use Rattle.points.specs.Points.{OverAxes, is_over, is_calm, samples, point_by}
use Rattle.points.proofs.Points.{as_point, as_points, point-is, one-or-none}
use Rattle.points.proofs.Previous.{previous-is}
use Rattle.rules.specs.Shown.{bit_seen}
use Rattle.rules.proofs.Reading as rules
use Rattle.slowmotion.specs.Status.{is_no_motion, points_asked, wait_asked, Chosen, chosen, clearing, has_waited, slow_motion}
use Rattle.slowmotion.proofs.Waits.{wait-is, wait-counted, some-wait}
use Rattle.slowmotion.proofs.Steps.{counts, waits-on}

-- ---- the watch
pub some-asked : (es : List Event) → 1 ≤ points_asked es
some-asked es = omega arith

-- slow motion is set and cleared by points in a row
module _ (es : List Event) (counting : is_no_motion es ≡ false) (ss : List (Sight OverAxes)) where
  pub sets-is : slow_motion.sets (going_by slow_motion es).own ss ≡ last_are is_over (points_asked es) (points_in ss)
  unfolding going_by
  sets-is = rw counting

  pub clears-is : slow_motion.clears (going_by slow_motion es).own ss ≡ last_are is_calm (points_asked es) (points_in ss)
  unfolding going_by
  clears-is = rw counting

-- no point is over and calm
not-both : (es : List Event) (p : OverAxes) (ss : List (Sight OverAxes)) → slow_motion.clears (chosen es) (point p ∷ ss) ≡ true → slow_motion.sets (chosen es) (point p ∷ ss) ≡ false
unfolding going_by
not-both es p ss h = go (is_no_motion es) refl
  where
    calm-apart : (p : OverAxes) (t b : Bool) → is_over p ≡ true → both t (both (is_calm p) b) ≡ false
    calm-apart [] t b o = cc
    calm-apart (a ∷ axes) true b o = refl
    calm-apart (a ∷ axes) false b o = refl

    go : (t : Bool) → is_no_motion es ≡ t → slow_motion.sets (chosen es) (point p ∷ ss) ≡ false
    go true e = rw e (calm-apart p (leb 1 (wait_asked es)) _ (rw e at h))
    go false e = apart slow_motion (going_by slow_motion es) is_over (points_asked es) (some-asked es) (sets-is es e) (clears-is es e) p ss h

pub lawful : Lawful slow_motion
lawful = record {
  one = λ es v. one-or-none (byte_by es 0x18) (byte_by es 0x29) v (samples es);
  latches = refl;
  kept = λ es e r. rw (in-force-kept clearing es e r 0x18 refl, in-force-kept clearing es e r 0x27 refl);
  apart = not-both;
}

-- ---- the device's detector
restarts-is : (es : List Event) (a byte : ℕ) → (judgement (bank es) a byte).deeds.restarts.slow ≡ both (is_accepted es a byte) (is_in clearing a)
unfolding deeds_of
restarts-is = deed-is (λ d. d.restarts.slow) clearing (λ regs r a byte. refl) refl

written : (d : Deeds) (s : Detectors) → d.resets ≡ false
    → as_detector (detectors_written d s).slow ≡ pick d.restarts.slow (course.begun_anew points_and_time (as_detector s.slow)) (as_detector s.slow)
unfolding detectors_written
written d s r = rw r (restart-as d.restarts.slow s.slow)

clocks : (us : ℕ) (s : Detectors) → as_detector (detectors_clocked us s).slow ≡ course.clocked points_and_time us (as_detector s.slow)
unfolding detectors_clocked
clocks us s = clock-as us s.slow

-- what it goes by, after a history
abbrev settings_by : List Event → Settings
settings_by es = record { axes = byte_by es 0x18; points = wait_code (byte_by es 0x27); threshold = byte_by es 0x29; unlatched = is_non_latched es; hold = time_asked es }

settings-are : (es : List Event) → slow_settings (bank es) ≡ settings_by es
settings-are es =
    let byte : (a : ℕ) → a < 64 → get_or (bank es) a 0 ≡ byte_by es a = stored_is es in
    rw (byte 0x18 (omega arith), byte 0x27 (omega arith), byte 0x29 (omega arith), byte 0x21 (omega arith), latch-is (byte_by es 0x21), hold-is (byte_by es 0x21))

-- its run after these sights: of slow motion the points count, of no-motion the clock
abbrev run_by : Chosen → List (Sight OverAxes) → Runs × Stopwatch
run_by c ss = pick c.waiting (no_runs, watch_of started is_calm ss) (runs_after c.points (map is_over (points_in ss)), longer (clock_in ss) started)

run-begins : (c : Chosen) → ◌≡◌ {A = Runs × Stopwatch} (run_by c []) (no_runs, started)
run-begins c = go c.waiting
  where
    go : (t : Bool) → ◌≡◌ {A = Runs × Stopwatch} (pick t (no_runs, started) (no_runs, longer 0 started)) (no_runs, started)
    go true = refl
    go false = ap (λ (w : Stopwatch). (no_runs, w)) (longer-none started)

run-passes : (c : Chosen) (us : ℕ) (ss : List (Sight OverAxes)) → run_by c (passed us ∷ ss) ≡ points_and_time.later us (run_by c ss)
run-passes c us ss = go c.waiting
  where
    points : Runs
    points = runs_after c.points (map is_over (points_in ss))

    clocks-on : longer (us + clock_in ss) started ≡ longer us (longer (clock_in ss) started)
    clocks-on = ap (λ (n : ℕ). longer n started) (omega arith) ∙ sym (longer-sum (clock_in ss) us started)

    go : (t : Bool) → ◌≡◌ {A = Runs × Stopwatch} (pick t (no_runs, longer us (watch_of started is_calm ss)) (points, longer (us + clock_in ss) started))
        (points_and_time.later us (pick t (no_runs, watch_of started is_calm ss) (points, longer (clock_in ss) started)))
    go true = refl
    go false = ap (λ (w : Stopwatch). (points, w)) clocks-on

-- an accepted sample
module _ (es : List Event) (v : Values) where
  abbrev now : Slow
  now = (after es).detectors.slow

  abbrev sampled : Slow
  sampled = (detectors_sampled (bank es) v.x v.y v.z (after es).detectors).slow

  -- by the point that it gives
  abbrev waiting : Point → Slow
  waiting p = with_spell (spell.after_sample started (calm_shown p (wait_asked es)) (wait_asked es) (is_non_latched es) (time_asked es) (spell_of now)) now

  abbrev counting : Point → Slow
  counting p = record { motion = after_point (settings_by es) p now.motion; watch = now.watch }

  sampled-is : sampled ≡ pick (is_no_motion es) (waiting (as_points (point_by 0x18 0x29 es v))) (counting (as_points (point_by 0x18 0x29 es v)))
  unfolding detectors_sampled slow.sampled slow.no_motion_sampled after_sample
  sampled-is =
      ap (λ (s : Settings). slow.sampled s (slopes_to v.x v.y v.z (after es).detectors.previous) now) (settings-are es)
      ∙ rw (point-is (byte_by es 0x18) (byte_by es 0x29) v (after es).detectors.previous (samples es) (previous-is es), wait-is es)

  idle : point_by 0x18 0x29 es v ≡ [] → as_detector sampled ≡ as_detector now
  unfolding spell.after_sample
  idle n = ap as_detector (sampled-is ∙ rw n (go (is_no_motion es)))
    where
      go : (t : Bool) → pick t now now ≡ now
      go true = refl
      go false = refl

  needed : wait_code (byte_by es 0x27) % 4 + 1 ≡ points_asked es
  needed = omega arith

  judges : (p : OverAxes) → point_by 0x18 0x29 es v ≡ p ∷ [] → (ss : List (Sight OverAxes)) → (as_detector now).run ≡ run_by (going_by slow_motion es).own ss
      → as_detector sampled
      ≡ record { run = run_by (going_by slow_motion es).own (point p ∷ ss); alarm = judged_by slow_motion (going_by slow_motion es) p ss now.motion.alarm }
  unfolding going_by
  judges p n ss h = ap as_detector (sampled-is ∙ rw n) ∙ go (is_no_motion es) refl
    where
      go : (t : Bool) → is_no_motion es ≡ t → as_detector (pick (is_no_motion es) (waiting (as_point p)) (counting (as_point p)))
          ≡ record { run = run_by (chosen es) (point p ∷ ss); alarm = judged_by slow_motion (going_by slow_motion es) p ss now.motion.alarm }
      go true e =
          let r : (as_detector now).run ≡ (no_runs, watch_of started is_calm ss) = h ∙ rw e in
          rw e
          (waits-on (settings_by es) now ss (wait_asked es) (some-wait es e) (wait-counted es) (ap (λ (q : Runs × Stopwatch). q.1) r) p
          ∙ rw (ap (λ (q : Runs × Stopwatch). q.0) r))
      go false e =
          let r : (as_detector now).run ≡ (runs_after (points_asked es) (map is_over (points_in ss)), longer (clock_in ss) started) = h ∙ rw e in
          rw e
          (counts (settings_by es) now (points_in ss) (points_asked es) needed (some-asked es) (ap (λ (q : Runs × Stopwatch). q.0) r) p
          ∙ rw (ap (λ (q : Runs × Stopwatch). q.1) r))

part : Part slow_motion
part = record {
  course = points_and_time;
  get = λ d. as_detector d.slow;
  run_of = λ g ss. run_by g.own ss;
  begins = λ g. run-begins g.own;
  passes = λ g us ss. run-passes g.own us ss;
  quiet = refl;
  deed = λ d. d.restarts.slow;
  deed-at = restarts-is;
  written = written;
  clocks = clocks;
  idle = idle;
  judges = judges;
}

module _ (es : List Event) where
  pub slow-is : slow_status (after es).detectors ≡ is_set slow_motion es
  unfolding part
  slow-is = ap (λ (d : Detector (Runs × Stopwatch)). d.alarm.status) (part-is slow_motion lawful part es)

  -- "Status and maps are bit 3 of 0x09, 0x19 and 0x1B"
  pub slow-seen : bit_seen es 0x09 3 ≡ is_set slow_motion es
  slow-seen = rules.slow-seen es ∙ slow-is
