-- What is stored of a sample lies in -2048..2047, whatever is given and whatever bytes the registers hold, also such as no events lead to.
-- Assumes nothing.
use Prim.Native.Nat.{ℕ, ◌<◌}
use mathlib.Core.List.{List}
use native.Mathlib.Omega.{arith}
use lib.Dec.{le→leb}
use lib.IntN.{ℤ, pos, negsuc}
use lib.Signed.{mag, le_z_yes}
use Rattle.offsets.specs.Offsets.{held_inside, stored_by, Inside, AllInside}
use Rattle.offsets.proofs.Signed.{held-mag}

inside : (v : ℤ) → mag v < 2048 → Inside v
inside (pos n) h = (le_z_yes tt, le_z_yes (le→leb n 2047 (omega arith)))
inside (negsuc n) h = (le_z_yes (le→leb n 2047 (omega arith)), le_z_yes tt)

held-inside : (v : ℤ) → Inside (held_inside v)
held-inside v = inside (held_inside v) (held-mag v)

pub all-inside : (regs : List ℕ) (x y z : ℤ) → AllInside (stored_by regs x y z)
unfolding stored_by
all-inside regs x y z = record { x = held-inside _; y = held-inside _; z = held-inside _ }
