-- What a point makes of slow motion and no-motion, by which of the two it is. Assumes nothing.
use Prim.Native.Nat.{ℕ, zero, suc, ◌<◌, ◌≤◌}
use mathlib.Core.Bool.{Bool, true, false}
use mathlib.Core.List.{List, [], ◌∷◌, map}
use mathlib.Core.Path.{◌≡◌, refl, sym, ap, ◌∙◌}
use native.Mathlib.Omega.{arith}
use borrow.Author.Tests.{ne_eqb, le-leb}
use lib.Dec.{eqb, leb}
use Rattle.laws.specs.Choice.{pick, both}
use Rattle.alarm.specs.Alarm.{raised, cleared}
use Rattle.alarm.specs.Course.{Detector}
use Rattle.slopes.specs.Runs.{runs_after}
use Rattle.slopes.specs.declared.Point.{Point}
use Rattle.slopes.specs.declared.Runs.{Runs}
use Rattle.motion.specs.Detector.{points_needed, after_point}
use Rattle.motion.specs.declared.Settings.{Settings}
use Rattle.spell.specs.Stopwatch.{started, most}
use Rattle.spell.specs.Spell.{after_sample}
use Rattle.spell.specs.declared.Stopwatch.{Stopwatch}
use Rattle.spell.specs.declared.Spell.{Spell}
use Rattle.spell.specs.declared.Shown.{Shown}
use Rattle.spell.proofs.Clock as spell
use Rattle.slow.specs.Slow.{spell_of, with_spell, calm_shown}
use Rattle.slow.specs.declared.Slow.{Slow}
use Rattle.slow.proofs.Clock.{as_detector}
use Rattle.lookback.specs.Sight.{Sight, point, points_in}
use Rattle.lookback.specs.InRow.{last_are}
use Rattle.lasting.specs.Run.{latest_is}
use Rattle.lasting.proofs.Runs.{watch_of}
use Rattle.lasting.proofs.Spells.{shown_at, spell-judges}
use Rattle.points.specs.Points.{OverAxes, is_over, is_calm, first_marked}
use Rattle.points.proofs.Points.{as_point}
use Rattle.points.proofs.Runs.{point-next}
use Rattle.slowmotion.specs.Status.{has_waited}
use Rattle.slowmotion.proofs.Waits.{clock_calm, reached-is}

-- slow motion, which leaves the stopwatch alone
module _ (g : Settings) (s : Slow) (ps : List OverAxes) where
  pub counts : (n : ℕ) → points_needed g ≡ n → 1 ≤ n → s.motion.runs ≡ runs_after n (map is_over ps) → (p : OverAxes)
      → as_detector (record { motion = after_point g (as_point p) s.motion; watch = s.watch })
      ≡ record {
        run = (runs_after n (map is_over (p ∷ ps)), s.watch);
        alarm =
            pick (last_are is_over n (p ∷ ps)) (raised (first_marked p).axis (first_marked p).negative g.hold s.motion.alarm)
            (pick (both g.unlatched (last_are is_calm n (p ∷ ps))) (cleared s.motion.alarm) s.motion.alarm);
      }
  counts n asked some runs p = ap (λ (d : Detector Runs). record { run = (d.run, s.watch); alarm = d.alarm }) (point-next g s.motion ps n asked some runs p)

-- no-motion: a spell of calm, which an over point ends and clears
not_calm : (p : OverAxes) → is_over p ≡ true → is_calm p ≡ false
not_calm [] o = cc
not_calm (a ∷ axes) o = refl

shown-is : (p : OverAxes) (wait : ℕ) → 1 ≤ wait → calm_shown (as_point p) wait ≡ shown_at is_calm is_over first_marked p
shown-is [] wait some = let known : eqb wait 0 ≡ false = ne_eqb wait 0 (omega arith) in rw known
shown-is (a ∷ axes) wait some = refl

module _ (g : Settings) (s : Slow) (ss : List (Sight OverAxes)) (wait : ℕ) (some : 1 ≤ wait) (counted : wait < most) (watch : s.watch ≡ watch_of started is_calm ss) where
  abbrev after : Shown → Spell
  after t = after_sample started t wait g.unlatched g.hold (spell_of s)

  pub waits-on : (p : OverAxes) → as_detector (with_spell (after (calm_shown (as_point p) wait)) s)
      ≡ record {
        run = (s.motion.runs, watch_of started is_calm (point p ∷ ss));
        alarm =
            pick (has_waited wait (point p ∷ ss)) (raised (first_marked p).axis (first_marked p).negative g.hold s.motion.alarm)
            (pick (both g.unlatched (latest_is is_over (point p ∷ ss))) (cleared s.motion.alarm) s.motion.alarm);
      }
  waits-on p =
      ap (λ (t : Shown). as_detector (with_spell (after t) s)) (shown-is p wait some)
      ∙ ap (λ (d : Detector Stopwatch). record { run = (s.motion.runs, d.run); alarm = d.alarm })
      (spell-judges is_calm is_over first_marked started clock_calm not_calm p ss wait g.hold g.unlatched (spell_of s) (λ e. reached-is (point p ∷ ss) wait counted) watch)
      ∙ rw (le-leb 1 wait some)
