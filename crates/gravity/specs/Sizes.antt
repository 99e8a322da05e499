-- Q-5: what low-g and high-g share.
use Rattle.std.specs.Prelude.{ℕ, ◌+◌, ◌*◌, ℤ, pos, nat_abs}
use Rattle.std.specs.Int.Signed.{lt_z}
use Rattle.slopes.specs.declared.Slope.{Slope}

-- "The size of -2048 is 2048"; and whether the value is negative
abbrev pub size_and_sign : ℤ → Slope
size_and_sign v = record { size = nat_abs v; falling = lt_z v (pos 0) }

-- "(0x22 + 1) times 2 ms" and "(0x25 + 1) times 2 ms", of the byte, in microseconds
abbrev pub time_of : ℕ → ℕ
time_of delay = (delay + 1) * 2000
