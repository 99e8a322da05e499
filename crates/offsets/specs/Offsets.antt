-- Q-7: what is stored of a given sample.
use Rattle.std.specs.Prelude.{ℕ, List, ltb, ℤ, pos, negsuc, ◌+ℤ◌, ◌-ℤ◌, ◌*ℤ◌, get_or, ◌≤ℤ◌}
use Rattle.std.specs.Int.Signed.{lt_z}
use Rattle.laws.specs.Choice.{pick}
use Rattle.codes.specs.Addresses.{range_at, x_offset_at, y_offset_at, z_offset_at}
use Rattle.codes.specs.Range.{range_of}
use Rattle.codes.specs.declared.Range.{Range}
use Rattle.codes.specs.declared.Range.TheVariants.{G2, G4, G8, G16, Reserved}
use Rattle.offsets.specs.declared.Stored.{Stored}

-- "one step is 8, 4, 2 or 1 counts at 2, 4, 8 or 16 g"; in an unknown range no offset is known, and none is added
abbrev pub step_of : Range → ℕ
step_of G2 = 8
step_of G4 = 4
step_of G8 = 2
step_of G16 = 1
step_of Reserved = 0

-- "Registers 0x38 to 0x3A are signed": two's complement, as the chip's other signed numbers are
unfoldable pub signed_byte : ℕ → ℤ
signed_byte byte = pick (ltb byte 128) (pos byte) (pos byte -ℤ pos 256)

-- "held at -2048 or 2047 where it would pass"
unfoldable pub held_inside : ℤ → ℤ
held_inside v = pick (lt_z v (negsuc 2047)) (negsuc 2047) (pick (lt_z (pos 2047) v) (pos 2047) v)

-- "The stored sample is the given one plus that", of an axis, by the counts of a step and the byte of its offset
abbrev pub stored_axis : ℕ → ℕ → ℤ → ℤ
stored_axis step byte given = held_inside (given +ℤ pos step *ℤ signed_byte byte)

-- of a sample x, y, z, by the bytes that the registers hold
unfoldable pub stored_by : List ℕ → ℤ → ℤ → ℤ → Stored
stored_by regs x y z =
    let step = step_of (range_of (get_or regs range_at 0)) in
    record {
      x = stored_axis step (get_or regs x_offset_at 0) x;
      y = stored_axis step (get_or regs y_offset_at 0) y;
      z = stored_axis step (get_or regs z_offset_at 0) z;
    }

-- what is stored lies in -2048..2047
abbrev pub Inside : ℤ → Type 0
Inside v = (negsuc 2047 ≤ℤ v) × (v ≤ℤ pos 2047)

pub record AllInside (s : Stored) : Type 0 where
  pub x : Inside s.x
  pub y : Inside s.y
  pub z : Inside s.z
