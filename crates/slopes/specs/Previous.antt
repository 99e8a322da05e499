-- 01, "Interrupts and pins", any-motion: of "two signed samples in a row" the first. It belongs to all slope detectors together.
use Rattle.std.specs.Prelude.{true, false, ℤ, pos}
use Rattle.std.specs.Prelude.{Option, Some, None}
use Rattle.laws.specs.Choice.{pick}
use Rattle.slopes.specs.Slope.{slope_of}
use Rattle.slopes.specs.declared.Slopes.{Slopes}
use Rattle.slopes.specs.declared.Previous.{Previous}

-- as at power-up: there is no previous sample
abbrev pub no_previous : Previous
no_previous = record { x = pos 0; y = pos 0; z = pos 0; known = false }

-- the sample x, y, z is the previous one from now on
abbrev pub remembered : ℤ → ℤ → ℤ → Previous
remembered x y z = record { x = x; y = y; z = z; known = true }

-- "0x0F also forgets the previous sample"
abbrev pub forgotten : Previous → Previous
forgotten p = record { x = p.x; y = p.y; z = p.z; known = false }

-- the slopes from the previous sample to the sample x, y, z, if it is known
unfoldable pub slopes_to : ℤ → ℤ → ℤ → Previous → Option Slopes
slopes_to x y z p = pick p.known (Some (record { x = slope_of p.x x; y = slope_of p.y y; z = slope_of p.z z })) None
