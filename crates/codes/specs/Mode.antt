-- 01, "Register table", 3E: the FIFO's mode.
use Rattle.std.specs.Prelude.{ℕ, ◌/◌, Bool, true, false, List, [], ◌∷◌}
use Rattle.laws.specs.Keys.{Key, ◌means◌, meaning_of}
use Rattle.codes.specs.declared.Mode.{Mode}
use Rattle.codes.specs.declared.Mode.TheVariants.{Bypass, Fifo, Stream, Reserved}

-- "bits 7:6 are 00 BYPASS, 01 FIFO, 10 STREAM; 11 is refused 2"
abbrev pub modes : List (Key Mode)
modes = 0b00 means Bypass ∷ 0b01 means Fifo ∷ 0b10 means Stream ∷ []

unfoldable pub mode_of : ℕ → Mode
mode_of byte = meaning_of modes Reserved (byte / 64)

abbrev pub is_reserved_mode : Mode → Bool
is_reserved_mode Bypass = false
is_reserved_mode Fifo = false
is_reserved_mode Stream = false
is_reserved_mode Reserved = true
