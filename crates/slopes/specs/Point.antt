-- 01, "Interrupts and pins", any-motion: the point that a sample gives, by a detector's axes (any-motion's are the byte of 0x16) and its
-- threshold (0x28).
use Rattle.std.specs.Prelude.{ℕ, ◌*◌, ◌%◌, Bool, false, eqb, ltb}
use Rattle.std.specs.declared.option.Option.TheVariants as option
use Rattle.std.specs.Prelude.{Option}
use Rattle.laws.specs.Choice.{pick}
use Rattle.laws.specs.Bits.{bit}
use Rattle.slopes.specs.declared.Slope.{Slope}
use Rattle.slopes.specs.declared.Slopes.{Slopes}
use Rattle.slopes.specs.declared.Point.{Point}
use Rattle.slopes.specs.declared.Point.TheVariants.{None, Calm, Over}

-- of the axis at a place among the axes: "enabled in 0x16 bits 2:0 (z, y, x)", "has slope above 4 times 0x28", the threshold
abbrev pub over_on : ℕ → ℕ → ℕ → Slope → Bool
over_on place axes threshold slope = pick (bit place axes) (ltb (4 * threshold) slope.size) false

-- "while no axis is enabled"
abbrev pub no_axis : ℕ → Bool
no_axis axes = eqb (axes % 8) 0

-- by the axes and the threshold: "A point is over when some axis .., else calm"; the first over axis, "x before y before z", is marked
-- 1, 2 or 4
unfoldable pub first_over : ℕ → ℕ → Slope → Slope → Slope → Point
first_over axes threshold x y z =
    pick (over_on 0 axes threshold x) (Over 1 x.falling)
    (pick (over_on 1 axes threshold y) (Over 2 y.falling)
    (pick (over_on 2 axes threshold z) (Over 4 z.falling)
    Calm))

-- by the axes and the threshold: "The first sample gives no point, nor does any sample while no axis is enabled"
unfoldable pub point_of : ℕ → ℕ → Option Slopes → Point
point_of axes threshold option.None = None
point_of axes threshold (option.Some s) = pick (no_axis axes) None (first_over axes threshold s.x s.y s.z)
