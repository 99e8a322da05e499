-- 01, "the difference of two signed samples in a row lies between -4095 and 4095": so it does for any two samples of -2048..2047, and the
-- ends are reached at the corner, from -2048 to 2047 and back. Assumes nothing.
use Prim.Native.Nat.{◌≤◌, ◌<◌}
use mathlib.Core.Bool.{true, false}
use mathlib.Core.Path.{◌≡◌, refl}
use native.Mathlib.Omega.{arith}
use lib.IntN.{ℤ, pos, negsuc}
use lib.Signed.{mag}
use Rattle.laws.proofs.Ints.{sub-size}
use Rattle.slopes.specs.Slope.{slope_of}

pub difference-bounds : (old new : ℤ) → mag old < 2048 → mag new < 2048 → (slope_of old new).size ≤ 4095
difference-bounds old new p q = omega (arith, sub-size 2048 new old q p)

pub corner : (slope_of (negsuc 2047) (pos 2047) ≡ record { size = 4095; falling = false }) × (slope_of (pos 2047) (negsuc 2047) ≡ record { size = 4095; falling = true })
corner = (refl, refl)
