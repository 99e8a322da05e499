-- A factor of 8 bits times the size of a value of 16 bits fits into 32. Assumes nothing.
use Prim.Native.Nat.{ℕ, ◌*◌, ◌≤◌}
use native.Mathlib.Omega.{arith}
use native.Mathlib.Nat.{mul-le-mul}
use lib.IntN.{ℤ, nat_abs}
use mir.Syntax.{w8, w16, w32}
use mir.Val.{Fits, SFits}
use mir.Facts.{Fits-nat_abs}

pub small : {factor : ℕ} {value : ℤ} → Fits w8 factor → SFits w16 value → Fits w32 (factor * nat_abs value)
small {factor} {value} f v =
    let s : Fits w16 (nat_abs value) = Fits-nat_abs tt v in
    let p : factor ≤ 255 = omega (arith, f.fits) in
    let q : nat_abs value ≤ 65535 = omega (arith, s.fits) in
    let m : factor * nat_abs value ≤ 255 * 65535 = mul-le-mul p q in
    record { fits = omega (arith, m) }
