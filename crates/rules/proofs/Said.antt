-- What follows from the rules and is nowhere said apart: the writes to 0x36.
-- Assumes nothing.
use Prim.Native.Nat.{ℕ, ◌<◌}
use mathlib.Core.List.{List, [], ◌∷◌}
use mathlib.Core.Path.{◌≡◌, refl, ◌∙◌}
use Rattle.laws.specs.Choice.{pick}
use Rattle.laws.specs.Lists.{is_in}
use Rattle.laws.proofs.Finite.{alike}
use Rattle.table.specs.Rows.{the_table}
use Rattle.registers.specs.Answers.{number}
use Rattle.registers.specs.Refused.{write_answer, answer_at, reserved_code, not_modelled, lack_at}
use Rattle.events.specs.Event.{Event, write, gives, answer}
use Rattle.events.specs.Run.{after}
use Rattle.events.specs.Bank.{bank}
use Rattle.rules.proofs.Registers.{answered}

-- ---- "Refused 3: a 1 in .. 0x36 bits 7:5 or 2:0", 13 by Q-1: of the bytes written to 0x36 four are answered 0, and all others 13
answers-36 : (regs : List ℕ) (byte : ℕ) → byte < 256 → number (write_answer regs 0x36 byte) ≡ pick (is_in (0x00 ∷ 0x08 ∷ 0x10 ∷ 0x18 ∷ []) byte) 0 13
unfolding answer_at reserved_code not_modelled lack_at the_table
answers-36 regs = alike (λ byte. number (write_answer regs 0x36 byte)) (λ byte. pick (is_in (0x00 ∷ 0x08 ∷ 0x10 ∷ 0x18 ∷ []) byte) 0 13) 256 refl

pub write-36 : (es : List Event) (byte : ℕ) → byte < 256 → gives (after es) (write 0x36 byte) ≡ answer (pick (is_in (0x00 ∷ 0x08 ∷ 0x10 ∷ 0x18 ∷ []) byte) 0 13)
write-36 es byte h = answered es 0x36 byte ∙ rw (answers-36 (bank es) byte h)
