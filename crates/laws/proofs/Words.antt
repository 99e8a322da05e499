-- The 16 bits of a signed number, and its two bytes. Assumes nothing.
use Prim.Native.Nat.{ℕ, ◌+◌, ◌*◌, ◌/◌, ◌%◌, ◌<◌}
use mathlib.Core.Path.{◌≡◌}
use native.Mathlib.Omega.{arith}
use lib.IntN.{ℤ}
use mir.Syntax.{w16}
use mir.Val.{to_z, of_z, Fits, SFits}
use mir.Facts.{to_z-of_z, of_z-to_z, sfits_to_z}

-- its two bytes, joined, are the number again
pub joined : {z : ℤ} → SFits w16 z → to_z w16 (of_z w16 z / 256 * 256 + of_z w16 z % 256) ≡ z
joined {z} h =
    let whole : of_z w16 z / 256 * 256 + of_z w16 z % 256 ≡ of_z w16 z = omega arith in
    rw whole (to_z-of_z h)

-- two bytes, the higher and the lower, as one signed number
module _ (a b : ℕ) (ha : a < 256) (hb : b < 256) where
  both-fit : Fits w16 (a * 256 + b)
  both-fit = record { fits = omega arith }

  pub signed-fits : SFits w16 (to_z w16 (a * 256 + b))
  signed-fits = sfits_to_z both-fit

  pub signed_high : of_z w16 (to_z w16 (a * 256 + b)) / 256 ≡ a
  signed_high = rw (of_z-to_z both-fit) (omega arith)

  pub signed_low : of_z w16 (to_z w16 (a * 256 + b)) % 256 ≡ b
  signed_low = rw (of_z-to_z both-fit) (omega arith)
