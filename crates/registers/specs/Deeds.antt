-- What an accepted write does: 01, "Register table", "Data channels", "FIFO" and "Interrupts and pins".
use Rattle.std.specs.Prelude.{ℕ, Bool, false, not, List, [], ◌∷◌, eqb}
use Rattle.laws.specs.Choice.{pick, both, either}
use Rattle.laws.specs.Lists.{is_in}
use Rattle.laws.specs.Bits.{bit}
use Rattle.codes.specs.Addresses.{range_at, shadow_at, reset_at, axes_at, enables_at, slow_at, latch_at, low_delay_at, low_threshold_at, hystereses_at, high_delay_at, high_threshold_at, points_at, threshold_at, slow_threshold_at, control_at}
use Rattle.codes.specs.Mode.{mode_of, is_reserved_mode}
use Rattle.table.specs.Rows.{row_at, merged}
use Rattle.table.specs.declared.Row.{Row}
use Rattle.registers.specs.Answers.{accepted}
use Rattle.registers.specs.Refused.{answer_at}
use Rattle.registers.specs.declared.Judged.{Judged}
use Rattle.registers.specs.declared.Deeds.{Deeds}

-- In each definition regs are the registers before the write, r is the address's row of the table, a the address and b the byte.

-- "14: 0xB6 is a soft reset .. Other bytes are ignored"
abbrev pub soft_reset_byte : ℕ
soft_reset_byte = 0xB6

abbrev pub is_reset : ℕ → ℕ → Bool
is_reset a b = both (eqb a reset_at) (eqb b soft_reset_byte)

-- "An accepted write to 0x0F, 0x16, 0x21, 0x27 or 0x28 clears status, marks and runs"
abbrev pub motion_restarting : List ℕ
motion_restarting = range_at ∷ axes_at ∷ latch_at ∷ points_at ∷ threshold_at ∷ []

-- Q-5: "an accepted write to 0x0F, 0x17, 0x21 or 0x22 to 0x26 restarts them: status, marks and runs clear"
abbrev pub gravity_restarting : List ℕ
gravity_restarting =
    range_at ∷ enables_at ∷ latch_at ∷ low_delay_at ∷ low_threshold_at ∷ hystereses_at ∷ high_delay_at ∷ high_threshold_at ∷ []

-- Q-6: "an accepted write to 0x0F, 0x18, 0x21, 0x27 or 0x29 restarts it"
abbrev pub slow_restarting : List ℕ
slow_restarting = range_at ∷ slow_at ∷ latch_at ∷ points_at ∷ slow_threshold_at ∷ []

-- what an accepted write does
unfoldable pub deeds_of : List ℕ → Row → ℕ → ℕ → Deeds
deeds_of regs r a b = record {
  -- "A write changes masked bits only": where there are none, nothing is stored
  stores = not (eqb r.1 0);
  -- "Every accepted write to 0x3E, even of the same byte, empties the FIFO and clears overrun; so does soft reset"
  empties = either (eqb a control_at) (is_reset a b);
  -- "Writing 0x13 with bit 6 at 1 releases all locks"
  releases = both (eqb a shadow_at) (bit 6 b);
  -- "0x0F also forgets the previous sample"
  forgets = eqb a range_at;
  restarts = record { motion = is_in motion_restarting a; gravity = is_in gravity_restarting a; slow = is_in slow_restarting a };
  resets = is_reset a b;
}

-- what a refused write does
abbrev pub no_deeds : Deeds
no_deeds = record { stores = false; empties = false; releases = false; forgets = false; restarts = record { motion = false; gravity = false; slow = false }; resets = false }

abbrev pub deeds_when : Bool → List ℕ → Row → ℕ → ℕ → Deeds
deeds_when ok regs r a b = pick ok (deeds_of regs r a b) no_deeds

-- all that the registers say of a write: its answer, what it does, and the byte that is stored where one is
abbrev pub judgement_at : List ℕ → Row → ℕ → ℕ → Judged
judgement_at regs r a b = record { answer = answer_at regs r a b; deeds = deeds_when (accepted (answer_at regs r a b)) regs r a b; stored = merged r b }

unfoldable pub judgement : List ℕ → ℕ → ℕ → Judged
judgement regs a b = judgement_at regs (row_at a) a b

-- whether a write clears the FIFO, by its address and its byte alone: "Every accepted write to 0x3E .. empties the FIFO and clears overrun; so
-- does soft reset". A write to 0x3E that is refused, which is one of the reserved mode, does not
unfoldable pub clears : ℕ → ℕ → Bool
clears a b = either (both (eqb a control_at) (not (is_reserved_mode (mode_of b)))) (is_reset a b)
