-- Past the eighth bit a byte has no more: it is below 2 ^ 8, and so below 2 ^ place.
use Prim.Native.Nat.{◌≤◌, ◌^◌, ◌/◌}
use mathlib.Core.Path.{◌≡◌}
use native.Mathlib.Omega.{arith}
use native.Mathlib.Nat.{div-eq_of_lt}
use lib.Pow.{pow_mono}
use borrow.Author.Rules.{rules}
use borrow.Author.Tests.{le-ltb}
use Rattle.laws.specs.Bits.{bit}
use Rattle.laws.proofs.bit.Goals as goal

pub returns-then-place-lt8 : goal.returns-then-place-lt8
unfolding bit
returns-then-place-lt8 c = search rules

pub returns-else-place-lt8 : goal.returns-else-place-lt8
unfolding bit
returns-else-place-lt8 c =
    let p : 2 ^ 8 ≤ 2 ^ c.args.place = pow_mono {i = 8} {j = c.args.place} (omega arith) in
    let z : c.args.byte / 2 ^ c.args.place ≡ 0 = div-eq_of_lt (omega arith) in
    simp (le-ltb _ _ c.if-place-lt8.false, z)
