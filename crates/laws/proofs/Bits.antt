-- What a bit is worth at the most.
-- Assumes nothing.
use Prim.Native.Nat.{ℕ, ◌≤◌}
use mathlib.Core.Bool.{Bool, true, false}
use native.Mathlib.Omega.{arith}
use Rattle.laws.specs.Bits.{worth}

pub worth-most : (weight : ℕ) (b : Bool) → worth weight b ≤ weight
worth-most weight true = omega arith
worth-most weight false = omega arith
