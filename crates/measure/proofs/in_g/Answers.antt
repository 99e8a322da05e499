use mathlib.Core.Bool.{false}
use mathlib.Core.Path.{◌≡◌}
use Prim.Native.Nat.{ℕ, suc, ◌^◌}
use lib.IntN.{ℤ, negsuc}
use lib.Ieee.{fin, binary32, mul, of_int, of_bits}
use mir.Syntax.{w16}
use mir.Val.{SFits, to_z, of_z}
use mir.Facts.{to_z-of_z}
use Rattle.measure.specs.Measure.{divided}
use Rattle.measure.proofs.Exact.{computed}
use Rattle.measure.proofs.in_g.Goals as goal

-- the cast reads the count from its bits
product : {count : ℤ} (k : ℕ) → SFits w16 count → mul binary32 (of_int binary32 (to_z w16 (of_z w16 count))) (fin false 1 (negsuc k)) ≡ divided count (2 ^ suc k)
product {count = count} k f = rw (to_z-of_z f) (computed count k f.sfits)

pub returns-in-G2 : goal.returns-in-G2
unfolding of_bits
returns-in-G2 c = rw c.in-G2.is (product 9 c.ranges.count)

pub returns-in-G4 : goal.returns-in-G4
unfolding of_bits
returns-in-G4 c = rw c.in-G4.is (product 8 c.ranges.count)

pub returns-in-G8 : goal.returns-in-G8
unfolding of_bits
returns-in-G8 c = rw c.in-G8.is (product 7 c.ranges.count)

pub returns-in-G16 : goal.returns-in-G16
unfolding of_bits
returns-in-G16 c = rw c.in-G16.is (product 6 c.ranges.count)
