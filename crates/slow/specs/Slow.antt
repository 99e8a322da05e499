-- Q-6: slow motion and no-motion are one detector. Slow motion's runs and the alarm of both are as any-motion's; no-motion's clock is a spell
-- whose run begins with a stopwatch that is started: "It fires at a calm point when the clock since the last over point, restart or expiry has
-- reached that".
use Rattle.std.specs.Prelude.{ℕ, Bool, false, eqb, Option}
use Rattle.laws.specs.Bits.{bit}
use Rattle.laws.specs.Choice.{pick}
use Rattle.codes.specs.Wait.{wait_of}
use Rattle.slopes.specs.Point.{point_of}
use Rattle.slopes.specs.declared.Point.{Point}
use Rattle.slopes.specs.declared.Point.TheVariants.{None, Calm, Over}
use Rattle.slopes.specs.declared.Slopes.{Slopes}
use Rattle.motion.specs.Detector as motion
use Rattle.motion.specs.Detector.{with_alarm, after_sample}
use Rattle.motion.specs.declared.Settings.{Settings}
use Rattle.spell.specs.Stopwatch.{started}
use Rattle.spell.specs.Spell as spell
use Rattle.spell.specs.declared.Spell.{Spell}
use Rattle.spell.specs.declared.Shown.{Shown}
use Rattle.spell.specs.declared.Shown.TheVariants.{Nothing, Met, FarFromMet}
use Rattle.slow.specs.declared.Slow.{Slow}

-- as at power-up
abbrev pub quiet : Slow
quiet = record { motion = motion.quiet; watch = started }

-- no-motion's clock with the alarm
abbrev pub spell_of : Slow → Spell
spell_of s = record { watch = s.watch; alarm = s.motion.alarm }

abbrev pub with_spell : Spell → Slow → Slow
with_spell p s = record { motion = with_alarm p.alarm s.motion; watch = p.watch }

-- "restarts it": the waiting starts at the write itself
unfoldable pub restarted : Slow → Slow
restarted s = record { motion = motion.restarted s.motion; watch = started }

-- a clock of us microseconds
unfoldable pub clocked : ℕ → Slow → Slow
clocked us s = record { motion = motion.clocked us s.motion; watch = (spell.clocked started us (spell_of s)).watch }

-- by the byte of 0x18: "bit 3 choosing no-motion"
abbrev pub is_no_motion : ℕ → Bool
is_no_motion axes = bit 3 axes

-- what a point shows of calm, where wait microseconds are waited for, 0 for a code without a meaning: "It fires at a calm point .., and clears
-- at an over point"
abbrev pub calm_shown : Point → ℕ → Shown
calm_shown None wait = Nothing
calm_shown Calm wait = pick (eqb wait 0) Nothing (Met 0 false)
calm_shown (Over axis falling) wait = FarFromMet

-- no-motion at an accepted sample
unfoldable pub no_motion_sampled : Settings → Option Slopes → Slow → Slow
no_motion_sampled g slopes s =
    let wait = wait_of g.points in
    with_spell (spell.after_sample started (calm_shown (point_of g.axes g.threshold slopes) wait) wait g.unlatched g.hold (spell_of s)) s

-- an accepted sample: "Slow motion counts points as any-motion does"
unfoldable pub sampled : Settings → Option Slopes → Slow → Slow
sampled g slopes s = pick (is_no_motion g.axes) (no_motion_sampled g slopes s) (record { motion = after_sample g slopes s.motion; watch = s.watch })
