-- Q-6: for how long no-motion waits, by 0x27 bits 7:2.
use Rattle.std.specs.Prelude.{ℕ, ◌+◌, ◌-◌, ◌*◌, ◌/◌, ◌%◌, Bool, eqb, ltb}
use Rattle.laws.specs.Choice.{pick}

-- "0x27 bits 7:2", of the byte
abbrev pub wait_code : ℕ → ℕ
wait_code byte = byte / 4 % 64

-- in microseconds
abbrev pub seconds : ℕ → ℕ
seconds n = n * 1000000

-- "codes 0 to 15 code plus 1 s; 16 to 21 are 40 s plus 8 s a step; 32 to 63 are 88 s plus 8 s a step"; 0 for a code without a meaning: "Codes
-- 22 to 31 have no meaning there"
unfoldable pub wait_of : ℕ → ℕ
wait_of code =
    pick (ltb code 16) (seconds (code + 1))
    (pick (ltb code 22) (seconds (40 + 8 * (code - 16)))
    (pick (ltb code 32) 0
    (pick (ltb code 64) (seconds (88 + 8 * (code - 32)))
    0)))

-- of the byte
abbrev pub is_reserved_wait : ℕ → Bool
is_reserved_wait byte = eqb (wait_of (wait_code byte)) 0
