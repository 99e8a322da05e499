-- 01, "Data channels": a sample as bits.
use Rattle.std.specs.Prelude.{ℕ, ◌+◌, ◌-◌, ◌*◌, ◌/◌, ◌%◌, Bool, false, ℤ, pos, negsuc}
use Rattle.std.specs.Int.Signed.{lt_z}
use Rattle.laws.specs.Choice.{pick}
use Rattle.laws.specs.Bits.{worth}
use Rattle.channels.specs.declared.Codes.{Codes}

-- the samples that are not refused 4: -2048..2047
abbrev pub in_range : ℤ → Bool
in_range z = pick (lt_z z (negsuc 2047)) false (lt_z z (pos 2048))

-- "A sample is 12-bit two's complement"
unfoldable pub code : ℤ → ℕ
code (pos n) = n % 4096
code (negsuc n) = 4095 - n % 4096

abbrev pub codes : ℤ → ℤ → ℤ → Codes
codes x y z = record { x = code x; y = code y; z = code z }

-- "The LSB register holds its low four bits in 7:4, 0 in 3:1 and the new-data bit in 0"
abbrev pub lsb_of : Bool → ℕ → ℕ
lsb_of fresh c = c % 16 * 16 + worth 1 fresh

-- "the MSB register holds the upper eight"
abbrev pub msb_of : ℕ → ℕ
msb_of c = c / 16 % 256
