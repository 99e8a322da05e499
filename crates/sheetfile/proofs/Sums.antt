-- A signed number is 0 exactly where its 64 bits are.
-- Assumes nothing.
use Prim.Native.Nat.{suc, ◌-◌}
use mathlib.Core.Path.{◌≡◌, refl}
use native.Mathlib.Omega.{arith}
use borrow.Author.Tests.{ne_eqb}
use lib.Dec.{eqb}
use lib.IntN.{ℤ, pos, negsuc}
use mir.Syntax.{w64}
use mir.Val.{SFits, of_z}
use Rattle.sheetfile.specs.Whole.{is_zero}

pub zero_bits : (z : ℤ) → SFits w64 z → eqb (of_z w64 z) 0 ≡ is_zero z
zero_bits (pos n) f = refl
zero_bits (negsuc n) f = let no : 18446744073709551616 - suc n ≡ 0 → ⊥ = λ e. omega arith in ne_eqb _ _ no
