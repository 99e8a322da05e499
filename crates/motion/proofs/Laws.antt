-- What holds of the detector while no axis is enabled. Assumes nothing.
use mathlib.Core.Bool.{true}
use mathlib.Core.Path.{◌≡◌, refl}
use Rattle.std.specs.Prelude.{Option, Some, None}
use Rattle.slopes.specs.Point.{no_axis, point_of}
use Rattle.slopes.specs.declared.Slopes.{Slopes}
use Rattle.motion.specs.Detector.{after_sample}
use Rattle.motion.specs.declared.Motion.{Motion}
use Rattle.motion.specs.declared.Settings.{Settings}

-- "nor does any sample while no axis is enabled" give a point: such a sample changes nothing
pub no-axis : (s : Settings) (slopes : Option Slopes) (m : Motion) → no_axis s.axes ≡ true → after_sample s slopes m ≡ m
unfolding after_sample point_of
no-axis s None m h = refl
no-axis s (Some slopes) m h = rw h refl
