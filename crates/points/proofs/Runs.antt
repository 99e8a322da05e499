-- A detector of runs and an alarm, as any-motion's is, after a point: its runs are those of the points, and its alarm is what "N over points in
-- a row set it .. Non-latched, N calm points in a row clear it" makes of it. Assumes nothing.
use Prim.Native.Nat.{ℕ, zero, suc, ◌≤◌}
use mathlib.Core.Bool.{Bool, true, false}
use mathlib.Core.List.{List, [], ◌∷◌, map}
use mathlib.Core.Path.{◌≡◌, refl}
use native.Mathlib.Numerals.{add-one}
use native.Mathlib.Omega.{arith}
use lib.Dec.{leb, leb-zero, leb-suc-zero, leb-suc-suc}
use Rattle.laws.specs.Choice.{pick, both}
use Rattle.alarm.specs.Alarm.{raised, cleared}
use Rattle.alarm.specs.Course.{Detector}
use Rattle.alarm.specs.declared.Alarm.{Alarm}
use Rattle.slopes.specs.Runs.{runs_after, over_run, overs_in_row, calms_in_row}
use Rattle.slopes.specs.declared.Runs.{Runs}
use Rattle.slopes.proofs.InRow.{overs-reached, calms-reached}
use Rattle.motion.specs.Detector.{points_needed, after_over, after_calm, after_point}
use Rattle.motion.specs.declared.Motion.{Motion}
use Rattle.motion.specs.declared.Settings.{Settings}
use Rattle.motion.proofs.Clock.{as_detector}
use Rattle.lookback.specs.InRow.{last_are}
use Rattle.points.specs.Points.{OverAxes, is_over, is_calm, first_marked}
use Rattle.points.proofs.Points.{as_point}

overs-last : (n : ℕ) (ps : List OverAxes) → leb n (overs_in_row (map is_over ps)) ≡ last_are is_over n ps
overs-last zero ps = leb-zero (overs_in_row (map is_over ps))
overs-last (suc n) [] = leb-suc-zero n
overs-last (suc n) ([] ∷ ps) = leb-suc-zero n
overs-last (suc n) ((a ∷ axes) ∷ ps) = rw (add-one (overs_in_row (map is_over ps)), leb-suc-suc n (overs_in_row (map is_over ps))) (overs-last n ps)

calms-last : (n : ℕ) (ps : List OverAxes) → leb n (calms_in_row (map is_over ps)) ≡ last_are is_calm n ps
calms-last zero ps = leb-zero (calms_in_row (map is_over ps))
calms-last (suc n) [] = leb-suc-zero n
calms-last (suc n) ([] ∷ ps) = rw (add-one (calms_in_row (map is_over ps)), leb-suc-suc n (calms_in_row (map is_over ps))) (calms-last n ps)
calms-last (suc n) ((a ∷ axes) ∷ ps) = leb-suc-zero n

module _ (s : Settings) (m : Motion) (ps : List OverAxes) where
  pub point-next : (n : ℕ) → points_needed s ≡ n → 1 ≤ n → m.runs ≡ runs_after n (map is_over ps) → (p : OverAxes)
      → as_detector (after_point s (as_point p) m)
      ≡ record {
        run = runs_after n (map is_over (p ∷ ps));
        alarm =
            pick (last_are is_over n (p ∷ ps)) (raised (first_marked p).axis (first_marked p).negative s.hold m.alarm)
            (pick (both s.unlatched (last_are is_calm n (p ∷ ps))) (cleared m.alarm) m.alarm);
      }
  unfolding after_calm after_over
  point-next zero asked some runs p = absurd (omega arith)
  point-next (suc k) asked some runs [] = rw (asked, runs, calms-reached (suc k) (map is_over ([] ∷ ps)), calms-last (suc k) ([] ∷ ps))
  point-next (suc k) asked some runs (a ∷ axes) =
      rw (asked, runs, overs-reached (suc k) (map is_over ((a ∷ axes) ∷ ps)), overs-last (suc k) ((a ∷ axes) ∷ ps)) (go (last_are is_over k ps) s.unlatched)
    where
      set : Alarm
      set = raised (first_marked (a ∷ axes)).axis (first_marked (a ∷ axes)).negative s.hold m.alarm

      go : (o u : Bool) → ◌≡◌ {A = Detector Runs} (record { run = over_run (suc k) (runs_after (suc k) (map is_over ps)); alarm = pick o set m.alarm })
          (record { run = over_run (suc k) (runs_after (suc k) (map is_over ps)); alarm = pick o set (pick (both u false) (cleared m.alarm) m.alarm) })
      go true u = refl
      go false true = refl
      go false false = refl
