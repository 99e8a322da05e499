-- Where neither low-g nor high-g is enabled a sample changes nothing. Assumes nothing.
use Prim.Native.Nat.{ℕ, ◌/◌, ◌%◌, ◌^◌}
use mathlib.Core.Bool.{true, false}
use mathlib.Core.List.{List}
use mathlib.Core.Path.{◌≡◌}
use native.Mathlib.Omega.{arith}
use borrow.Author.Tests.{eq-eqb, ne_eqb}
use lib.IntN.{ℤ}
use lib.ListN.{get_or}
use Rattle.laws.specs.Bits.{bit}
use Rattle.codes.specs.Addresses.{enables_at}
use Rattle.slopes.specs.Point.{no_axis}
use Rattle.gravity.specs.Gravity.{low_sampled, high_sampled, both_sampled}
use Rattle.gravity.specs.declared.Gravity.{Gravity}

module _ (enables : ℕ) (none : enables % 16 ≡ 0) where
  not_low : bit 3 enables ≡ false
  unfolding bit
  not_low = ne_eqb (enables / 2 ^ 3 % 2) 1 (omega arith)

  not-high : no_axis enables ≡ true
  not-high = eq-eqb (enables % 8) 0 (omega arith)

pub neither : (regs : List ℕ) (x y z : ℤ) (g : Gravity) → get_or regs enables_at 0 % 16 ≡ 0 → g ≡ both_sampled regs x y z g
unfolding both_sampled low_sampled high_sampled
neither regs x y z g h = rw (not_low (get_or regs enables_at 0) h, not-high (get_or regs enables_at 0) h)
