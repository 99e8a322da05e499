-- An accepted write leaves no bit that is refused.
-- Assumes nothing.
use Prim.Native.Nat.{ℕ, ◌<◌}
use mathlib.Core.Bool.{Bool, true, false}
use mathlib.Core.List.{List}
use mathlib.Core.Path.{◌≡◌, refl}
use lib.Dec.{ltb}
use lib.Bits.{bit_and}
use borrow.Author.Tests.{eqb-true, not-false}
use Rattle.laws.specs.Choice.{pick}
use Rattle.laws.proofs.Finite.{alike}
use Rattle.codes.specs.Addresses.{frames_at}
use Rattle.table.specs.Rows.{row_at, the_table}
use Rattle.std.specs.Prelude.{Err}
use Rattle.registers.specs.Answers.{done, accepted}
use Rattle.registers.specs.Refused.{write_answer, answer_at, reserved_code, not_modelled, lack_at}
use Rattle.registers.specs.declared.Refusal.TheVariants.{NoAddress, ReservedCode}
use Rattle.paper.specs.Computed.{the_paper}
use Rattle.paper.specs.Table.{reset_of}

-- ---- "Refused 3: a 1 in ..", 11 to 13 by Q-1
pub first-clear : (a : ℕ) → a < 64 → bit_and (reset_of a) (row_at a).2 ≡ 0
unfolding the_paper the_table
first-clear = alike (λ i. bit_and (reset_of i) (row_at i).2) (λ i. 0) 64 refl

module _ (regs : List ℕ) (a byte : ℕ) (h : accepted (write_answer regs a byte) ≡ true) where
  -- neither 2 nor what stands in 3's place is due
  none-due : (reserved_code regs a byte ≡ false) × (not_modelled regs (row_at a) a byte ≡ false)
  unfolding answer_at
  none-due = go (ltb frames_at a) (reserved_code regs a byte) (not_modelled regs (row_at a) a byte) h
    where
      go : (r s t : Bool) → accepted (pick r (Err NoAddress) (pick s (Err ReservedCode) (pick t (Err (lack_at a)) done))) ≡ true → (s ≡ false) × (t ≡ false)
      go true s t e = (cc, cc)
      go false true t e = (cc, cc)
      go false false true e = (refl, cc)
      go false false false e = (refl, refl)

  pub accepted-clear : bit_and byte (row_at a).2 ≡ 0
  unfolding not_modelled
  accepted-clear = eqb-true _ 0 (not-false _ none-due.1)
