-- What holds of slow motion and no-motion while no axis is enabled. Assumes nothing.
use Prim.Native.Nat.{ℕ}
use mathlib.Core.Bool.{Bool, true, false}
use mathlib.Core.Path.{◌≡◌, refl}
use Rattle.std.specs.Prelude.{Option}
use Rattle.std.specs.declared.option.Option.TheVariants as option
use Rattle.laws.specs.Choice.{pick}
use Rattle.slopes.specs.Point.{no_axis, point_of}
use Rattle.slopes.specs.declared.Slopes.{Slopes}
use Rattle.slopes.specs.declared.Point.TheVariants.{None}
use Rattle.motion.specs.declared.Settings.{Settings}
use Rattle.motion.proofs.Laws as motion
use Rattle.spell.specs.Spell.{after_sample}
use Rattle.slow.specs.Slow.{is_no_motion, no_motion_sampled, sampled}
use Rattle.slow.specs.declared.Slow.{Slow}

no-point : (axes threshold : ℕ) (slopes : Option Slopes) → no_axis axes ≡ true → point_of axes threshold slopes ≡ None
unfolding point_of
no-point axes threshold option.None h = refl
no-point axes threshold (option.Some slopes) h = rw h refl

-- Q-6, as any-motion: such a sample changes nothing, in whichever mode
pub no-axis : (g : Settings) (slopes : Option Slopes) (s : Slow) → no_axis g.axes ≡ true → sampled g slopes s ≡ s
unfolding sampled no_motion_sampled after_sample
no-axis g slopes s h = rw (motion.no-axis g slopes s.motion h, no-point g.axes g.threshold slopes h) (go (is_no_motion g.axes))
  where
    go : (waits : Bool) → pick waits s s ≡ s
    go true = refl
    go false = refl
