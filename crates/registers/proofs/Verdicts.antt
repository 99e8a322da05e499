-- What holds of the verdict on a write, for any registers: at 0x0F, 0x14 and 0x3E, which do not ask what other registers hold, and of
-- the deeds that a history counts.
-- Assumes nothing.
use Prim.Native.Nat.{ℕ, ◌<◌}
use mathlib.Core.Bool.{Bool, true, false, not}
use mathlib.Core.List.{List, [], ◌∷◌}
use mathlib.Core.Path.{◌≡◌, refl, ◌∙◌}
use native.Mathlib.Omega.{arith}
use lib.Bits.{and_zero_r}
use lib.Dec.{eqb, ltb}
use borrow.Author.Tests.{ltb-false}
use Rattle.laws.specs.Choice.{pick, both, either}
use Rattle.laws.specs.Lists.{is_in}
use Rattle.laws.proofs.Finite.{of-pick, at-any, agree_at}
use Rattle.codes.specs.Addresses.{range_at, reset_at, control_at, frames_at}
use Rattle.codes.specs.Mode.{mode_of, is_reserved_mode}
use Rattle.codes.specs.Range.{range_of, is_reserved_range}
use Rattle.table.specs.Rows.{row_at, writable, the_table}
use Rattle.std.specs.Prelude.{Err}
use Rattle.registers.specs.Answers.{done, accepted}
use Rattle.registers.specs.Deeds.{soft_reset_byte, is_reset, deeds_of, no_deeds, judgement, clears}
use Rattle.registers.specs.Refused.{reserved_code, not_modelled, answer_at, write_answer}
use Rattle.registers.specs.declared.Refusal.TheVariants.{ReservedCode}
use Rattle.registers.specs.declared.Deeds.{Deeds}

-- ---- the verdict at 0x0F, 0x14 and 0x3E
unless : (t : Bool) → accepted (pick t (Err ReservedCode) done) ≡ not t
unless true = refl
unless false = refl

module _ (regs : List ℕ) (b : ℕ) where
  pub range-accepted : accepted (write_answer regs range_at b) ≡ not (is_reserved_range (range_of b))
  unfolding answer_at reserved_code not_modelled the_table
  range-accepted = rw (and_zero_r b) (unless (is_reserved_range (range_of b)))

  pub reset-accepted : accepted (write_answer regs reset_at b) ≡ true
  unfolding answer_at reserved_code not_modelled the_table
  reset-accepted = rw (and_zero_r b)

  pub control-accepted : accepted (write_answer regs control_at b) ≡ not (is_reserved_mode (mode_of b))
  unfolding answer_at reserved_code not_modelled the_table
  control-accepted = rw (and_zero_r b) (unless (is_reserved_mode (mode_of b)))

-- it is the same whatever the registers hold
pub verdict-free : (regs regs' : List ℕ) (a b : ℕ) → is_in (range_at ∷ reset_at ∷ control_at ∷ []) a ≡ true → write_answer regs a b ≡ write_answer regs' a b
unfolding answer_at reserved_code not_modelled
verdict-free regs regs' a b = at-any (λ a. write_answer regs a b ≡ write_answer regs' a b) (range_at ∷ reset_at ∷ control_at ∷ []) (refl, (refl, (refl, tt))) a

-- ---- every write
module _ (regs : List ℕ) (a b : ℕ) where
  abbrev ok : Bool
  ok = accepted (write_answer regs a b)

  pub accepted-below : accepted (write_answer regs a b) ≡ true → a < 64
  unfolding answer_at
  accepted-below h = go (ltb frames_at a) refl
    where
      go : (t : Bool) → ltb frames_at a ≡ t → a < 64
      go true e = let f : false ≡ true = rw e at h in let z : ◌≡◌ {A = ℕ} 0 1 = cc in absurd (omega arith)
      go false e = omega (arith, ltb-false)

  -- at 0x14 every write is accepted, and at 0x3E those of a code that is not reserved
  at-reset : both (eqb a reset_at) ok ≡ both (eqb a reset_at) true
  at-reset = agree_at (λ k. accepted (write_answer regs k b)) (λ k. true) reset_at (reset-accepted regs b) a

  at-control : both (eqb a control_at) ok ≡ both (eqb a control_at) (not (is_reserved_mode (mode_of b)))
  at-control = agree_at (λ k. accepted (write_answer regs k b)) (λ k. not (is_reserved_mode (mode_of b))) control_at (control-accepted regs b) a

  of-deeds : (f : Deeds → Bool) → f (judgement regs a b).deeds ≡ pick ok (f (deeds_of regs (row_at a) a b)) (f no_deeds)
  unfolding judgement
  of-deeds f = of-pick f ok (deeds_of regs (row_at a) a b) no_deeds

  pub stores-is : (judgement regs a b).deeds.stores ≡ both (accepted (write_answer regs a b)) (writable a)
  unfolding deeds_of
  stores-is = of-deeds (λ d. d.stores) ∙ go ok
    where
      go : (t : Bool) → pick t (writable a) false ≡ both t (writable a)
      go true = refl
      go false = refl

  pub resets-is : (judgement regs a b).deeds.resets ≡ is_reset a b
  unfolding deeds_of
  resets-is = of-deeds (λ d. d.resets) ∙ go ok (eqb a reset_at) at-reset
    where
      go : (t s : Bool) → both s t ≡ both s true → pick t (both s (eqb b soft_reset_byte)) false ≡ both s (eqb b soft_reset_byte)
      go true s h = refl
      go false true h = cc
      go false false h = refl

  pub empties-is : (judgement regs a b).deeds.empties ≡ clears a b
  unfolding deeds_of clears
  empties-is = of-deeds (λ d. d.empties) ∙ go ok (eqb a control_at) (not (is_reserved_mode (mode_of b))) (eqb a reset_at) at-control at-reset
    where
      go : (t e m s : Bool) → both e t ≡ both e m → both s t ≡ both s true
          → pick t (either e (both s (eqb b soft_reset_byte))) false ≡ either (both e m) (both s (eqb b soft_reset_byte))
      go true true m s p r = rw (← p)
      go true false m s p r = refl
      go false e m true p r = cc
      go false true m false p r = rw (← p)
      go false false m false p r = refl
