-- 01, "while no axis is enabled": by "bits 2:0 (z, y, x)", of any byte, whatever its other bits mean. Assumes nothing.
use Prim.Native.Nat.{ℕ, ◌/◌, ◌%◌, ◌^◌}
use mathlib.Core.Bool.{not}
use mathlib.Core.Path.{◌≡◌, refl}
use native.Mathlib.Omega.{arith}
use lib.Dec.{eqb}
use Rattle.laws.specs.Choice.{either}
use Rattle.laws.specs.Bits.{bit}
use Rattle.laws.proofs.Finite.{alike}
use Rattle.slopes.specs.Point.{no_axis}

-- the three lowest bits
low-0 : (byte : ℕ) → byte / 2 ^ 0 % 2 ≡ byte % 8 / 2 ^ 0 % 2
low-0 byte = omega arith

low-1 : (byte : ℕ) → byte / 2 ^ 1 % 2 ≡ byte % 8 / 2 ^ 1 % 2
low-1 byte = omega arith

low-2 : (byte : ℕ) → byte / 2 ^ 2 % 2 ≡ byte % 8 / 2 ^ 2 % 2
low-2 byte = omega arith

pub none-enabled : (byte : ℕ) → no_axis byte ≡ not (either (bit 0 byte) (either (bit 1 byte) (bit 2 byte)))
unfolding bit
none-enabled byte =
    rw (low-0 byte, low-1 byte, low-2 byte) (alike (λ m. eqb m 0) (λ m. not (either (bit 0 m) (either (bit 1 m) (bit 2 m)))) 8 refl (byte % 8) (omega arith))
