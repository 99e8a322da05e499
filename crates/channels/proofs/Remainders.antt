-- The low twelve bits of a sample, of its 16. Assumes nothing.
use mathlib.Core.Path.{◌≡◌}
use Prim.Native.Nat.{◌%◌, ◌<◌}
use native.Mathlib.Omega.{arith}
use lib.IntN.{ℤ, pos, negsuc}
use lib.Signed.{mag}
use mir.Syntax.{w16}
use mir.Val.{SFits, of_z}
use Rattle.channels.specs.Codes.{code}

twelve : (z : ℤ) → mag z < 32768 → of_z w16 z % 4096 ≡ code z
unfolding code
twelve (pos n) h = omega arith
twelve (negsuc n) h = omega arith

pub twelve_bits : {z : ℤ} → SFits w16 z → of_z w16 z % 4096 ≡ code z
twelve_bits {z} h = twelve z h.sfits
