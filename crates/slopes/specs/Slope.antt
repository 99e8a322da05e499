-- 01, "Interrupts and pins", any-motion: "the difference of two signed samples in a row lies between -4095 and 4095; its size is the slope".
use Rattle.std.specs.Prelude.{ℤ, pos, ◌-ℤ◌, nat_abs}
use Rattle.std.specs.Int.Signed.{lt_z}
use Rattle.slopes.specs.declared.Slope.{Slope}

-- the size of the difference, new less old, and whether it is negative
abbrev pub slope_of : ℤ → ℤ → Slope
slope_of old new = record { size = nat_abs (new -ℤ old); falling = lt_z (new -ℤ old) (pos 0) }
