-- 01, "Register table", 21: the latch mode.
use Rattle.std.specs.Prelude.{ℕ, ◌%◌, Bool, true, false, List, [], ◌∷◌}
use Rattle.laws.specs.Keys.{Key, ◌means◌, meaning_of}
use Rattle.codes.specs.declared.Latch.{Latch}
use Rattle.codes.specs.declared.Latch.TheVariants.{Unlatched, Latched, Timed}

-- "low nibble 0000 and 1000 non-latched, 0111 and 1111 latched", and Q-4: "Codes 0001 to 0110 hold for 250 ms, 500 ms, 1, 2, 4 and 8 s; 1001
-- to 1110 for 250 us, 500 us, 1, 12.5, 25 and 50 ms", in microseconds. 1111 is what the list leaves
abbrev pub latches : List (Key Latch)
latches =
    0b0000 means Unlatched ∷
    0b0001 means Timed 250000 ∷
    0b0010 means Timed 500000 ∷
    0b0011 means Timed 1000000 ∷
    0b0100 means Timed 2000000 ∷
    0b0101 means Timed 4000000 ∷
    0b0110 means Timed 8000000 ∷
    0b0111 means Latched ∷
    0b1000 means Unlatched ∷
    0b1001 means Timed 250 ∷
    0b1010 means Timed 500 ∷
    0b1011 means Timed 1000 ∷
    0b1100 means Timed 12500 ∷
    0b1101 means Timed 25000 ∷
    0b1110 means Timed 50000 ∷
    []

unfoldable pub latch_of : ℕ → Latch
latch_of byte = meaning_of latches Latched (byte % 16)

abbrev pub is_unlatched : Latch → Bool
is_unlatched Unlatched = true
is_unlatched Latched = false
is_unlatched (Timed microseconds) = false

-- how long a status is held, in microseconds; 0 where no time clears it
abbrev pub hold_of : Latch → ℕ
hold_of Unlatched = 0
hold_of Latched = 0
hold_of (Timed microseconds) = microseconds
