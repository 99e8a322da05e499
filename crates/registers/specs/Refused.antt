-- 01, "Numbers given back" and "Register table": which writes and reads are refused.
use Rattle.std.specs.Prelude.{ℕ, ◌+◌, Bool, false, not, List, [], ◌∷◌, eqb, ltb, get_or, Err}
use Rattle.std.specs.Int.Bits.{bit_and}
use Rattle.laws.specs.Bits.{bit}
use Rattle.laws.specs.Choice.{pick, both, either}
use Rattle.laws.specs.Keys.{Key, ◌means◌, meaning_of}
use Rattle.laws.specs.Refusals.{AnswerRow, row, first}
use Rattle.codes.specs.Addresses.{range_at, power_at, axes_at, slow_at, points_at, control_at, frames_at}
use Rattle.codes.specs.Range.{range_of, is_reserved_range}
use Rattle.codes.specs.Mode.{mode_of, is_reserved_mode}
use Rattle.codes.specs.Wait.{is_reserved_wait}
use Rattle.table.specs.Rows.{row_at}
use Rattle.table.specs.declared.Row as table
use Rattle.registers.specs.Answers.{Answer, done}
use Rattle.registers.specs.declared.Refusal.{Refusal}
use Rattle.registers.specs.declared.Refusal.TheVariants.{NoAddress, ReservedCode, BadLength, PastEnd, NoDetector, NoPowerMode, NoTestOrTrim}

-- the longest read
abbrev pub longest_read : ℕ
longest_read = 192

-- A test of a write sees the registers as they are before it (regs), the address's row of the table where it needs one (r), the
-- address (a) and the byte (b).

-- 2, "write of a code the sheet reserves"
unfoldable pub reserved_code : List ℕ → ℕ → ℕ → Bool
reserved_code regs a b =
    pick (eqb a range_at) (is_reserved_range (range_of b))
    (pick (eqb a control_at) (is_reserved_mode (mode_of b))
    -- Q-6: "2 for the write to 0x18 or 0x27 that would bring no-motion and such a code together"
    (pick (eqb a slow_at) (both (bit 3 b) (is_reserved_wait (get_or regs points_at 0)))
    (pick (eqb a points_at) (both (bit 3 (get_or regs slow_at 0)) (is_reserved_wait b))
    false)))

-- "write of a setting not modelled here": a 1 in a bit that the row names. Of 0x21 no code is among them: Q-4, "14 is gone"
unfoldable pub not_modelled : List ℕ → table.Row → ℕ → ℕ → Bool
not_modelled regs r a b = not (eqb (bit_and b r.2) 0)

-- Q-1, "Tell me which kind of thing the twin lacks .. Split it by register": "11 a detector bit in 0x16 to 0x18; 12 a power mode in
-- 0x11; 13 self-test, memory, calibration or offset in 0x32, 0x33, 0x36, 0x38 to 0x3A"; Q-5: "11 no longer for 0x17"; Q-6: "11 no
-- longer for 0x18"; Q-7: "13 no longer for 0x38 to 0x3A". 13 has the other registers of which something is refused
abbrev pub lacks : List (Key Refusal)
lacks = power_at means NoPowerMode ∷ axes_at means NoDetector ∷ []

unfoldable pub lack_at : ℕ → Refusal
lack_at a = meaning_of lacks NoTestOrTrim a

-- "A write tests 1, 2, 3", and Q-1: "A write touches one register, so all stand in 3's place"
abbrev pub write_rows : List ℕ → table.Row → ℕ → ℕ → List (AnswerRow Answer)
write_rows regs r a b =
    row (Err NoAddress) (ltb frames_at a) ∷
    row (Err ReservedCode) (reserved_code regs a b) ∷
    row (Err (lack_at a)) (not_modelled regs r a b) ∷ []

-- "a read tests 1, 5, 6": of n bytes from the address a
abbrev pub read_rows : ℕ → ℕ → List (AnswerRow Answer)
read_rows a n =
    row (Err NoAddress) (ltb frames_at a) ∷
    row (Err BadLength) (either (eqb n 0) (ltb longest_read n)) ∷
    row (Err PastEnd) (both (ltb a frames_at) (ltb frames_at (a + n))) ∷ []

unfoldable pub answer_at : List ℕ → table.Row → ℕ → ℕ → Answer
answer_at regs r a b = first done (write_rows regs r a b)

abbrev pub write_answer : List ℕ → ℕ → ℕ → Answer
write_answer regs a b = answer_at regs (row_at a) a b

unfoldable pub read_answer : ℕ → ℕ → Answer
read_answer a n = first done (read_rows a n)
