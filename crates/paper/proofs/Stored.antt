-- The registers store what looking back over the events tells.
-- Assumes nothing.
use Prim.Native.Nat.{ℕ, ◌<◌}
use mathlib.Core.Bool.{Bool, true, false, not}
use mathlib.Core.Path.{◌≡◌, refl, sym, ap, ◌∙◌}
use mathlib.Core.List.{List, [], ◌∷◌}
use native.Mathlib.Omega.{arith}
use lib.Dec.{eqb}
use lib.ListN.{get_or}
use borrow.Author.Tests.{eqb-true, eq-eqb, ne_eqb, eqb-false}
use Rattle.laws.specs.Choice.{pick, both}
use Rattle.laws.proofs.Finite.{left}
use Rattle.codes.specs.Addresses.{reset_at}
use Rattle.table.specs.Rows.{row_at, merged, writable, the_table}
use Rattle.registers.specs.Answers.{accepted}
use Rattle.registers.specs.Refused.{write_answer}
use Rattle.registers.specs.Deeds.{soft_reset_byte, is_reset}
use Rattle.registers.proofs.Verdicts.{reset-accepted}
use Rattle.device.specs.Device.{first_bytes, reg}
use Rattle.events.specs.Event.{Event, write, read, sample, cycle, clock}
use Rattle.events.specs.Event as event
use Rattle.events.specs.Run.{after}
use Rattle.events.specs.Bank.{bank, stored}
use Rattle.events.proofs.Runs.{bank-is, bank-length}
use Rattle.paper.specs.Table.{reset_of, masked}
use Rattle.paper.specs.Refused.{is_reserved_write, accepts}
use Rattle.paper.specs.Stored.{is_soft_reset, is_spared, none, last, last_write, byte_left, byte_by, is_accepted}
use Rattle.paper.proofs.Table.{reset-is, reset-small, masked-is, masked_small, masked-none}
use Rattle.paper.proofs.Refused.{accepts-is}
use Rattle.paper.proofs.Writes.{is_stored, byte_written, byte-written}

-- a soft reset's address has no bit that can be written, and a write to it is always accepted
at-reset : (a byte : ℕ) → is_reset a byte ≡ true → (is_spared a ≡ false) × (writable a ≡ false) × ((regs : List ℕ) → accepted (write_answer regs a byte) ≡ true)
unfolding the_table
at-reset a byte r = rw (eqb-true a reset_at (left (eqb a reset_at) (eqb byte soft_reset_byte) r)) (refl, refl, λ regs. reset-accepted regs byte)

-- "14: 0xB6 is a soft reset"
pub soft-reset-is : (a byte : ℕ) → is_reset a byte ≡ is_soft_reset a byte
soft-reset-is a byte = refl

-- what is accepted depends on what the addresses of the table hold
same-accepts : (held held' : ℕ → ℕ) → ((k : ℕ) → k < 64 → held k ≡ held' k) → (a b : ℕ) → accepts held a b ≡ accepts held' a b
unfolding accepts is_reserved_write
same-accepts held held' same a b = rw (same 0x0F (omega arith), same 0x18 (omega arith), same 0x27 (omega arith), same 0x3E (omega arith))

-- what holds of the reset byte, and of what each accepted write to an address leaves there, holds of the byte that it stores
module _ (P : ℕ → Type 0) (a : ℕ) (first : P (reset_of a)) (left_by : (es : List Event) (byte : ℕ) → is_accepted es a byte ≡ true → P (masked a byte)) where
  pub always-stored : (es : List Event) → P (byte_by es a)
  unfolding byte_by
  always-stored [] = first
  always-stored (event.power_up ∷ es) = first
  always-stored (write c byte ∷ es) = go (eqb c a) refl (is_accepted es c byte) refl (both (is_soft_reset c byte) (not (is_spared a))) (always-stored es)
    where
      go : (s : Bool) → eqb c a ≡ s → (t : Bool) → is_accepted es c byte ≡ t → (u : Bool) → P (byte_left a (last_write es a))
          → P (byte_left a (pick (both s t) (last byte) (pick u none (last_write es a))))
      go true e true f u p = left_by es byte (rw (← eqb-true c a e) f)
      go true e false f true p = first
      go true e false f false p = p
      go false e t f true p = first
      go false e t f false p = p
  always-stored (read c n ∷ es) = always-stored es
  always-stored (sample x y z t ∷ es) = always-stored es
  always-stored (cycle ∷ es) = always-stored es
  always-stored (clock us ∷ es) = always-stored es

-- it is a byte
pub byte_small : (es : List Event) (a : ℕ) → a < 64 → byte_by es a < 256
byte_small es a h = always-stored (λ v. v < 256) a (reset-small a h) (λ es byte ok. masked_small a byte) es

-- where no bit can be written, it is the reset byte
pub never-written : (a : ℕ) → a < 64 → writable a ≡ false → (es : List Event) → byte_by es a ≡ reset_of a
never-written a h w = always-stored (λ v. v ≡ reset_of a) a refl (λ es byte ok. masked-none a byte h w)

module _ (es : List Event) (before : (k : ℕ) → k < 64 → stored es k ≡ byte_by es k) where
  accepted-after : (a byte : ℕ) → accepted (write_answer (bank es) a byte) ≡ is_accepted es a byte
  accepted-after a byte = accepts-is (bank es) a byte ∙ same-accepts (stored es) (byte_by es) before a byte

  module _ (a : ℕ) (h : a < 64) where
    -- a write to a itself
    own : (byte : ℕ) → byte_written (bank es) a a byte ≡ byte_by (write a byte ∷ es) a
    unfolding byte_by
    own byte =
        rw (accepted-after a byte, eq-eqb a a refl) (go (is_accepted es a byte) refl (is_reset a byte) refl (writable a) refl)
      where
        go : (t : Bool) → is_accepted es a byte ≡ t → (r : Bool) → is_reset a byte ≡ r → (w : Bool) → writable a ≡ w
            → pick r (pick (is_spared a) (stored es a) (get_or first_bytes a 0)) (pick (both (both t w) true) (merged (row_at a) byte) (stored es a))
            ≡ byte_left a (pick t (last byte) (pick (both r (not (is_spared a))) none (last_write es a)))
        go true p true q w o = let z = at-reset a byte q in rw z.0 (reset-is a h ∙ sym (masked-none a byte h z.1))
        go true p false q true o = masked-is a byte h o
        go true p false q false o = before a h ∙ never-written a h o es ∙ sym (masked-none a byte h o)
        go false p true q w o = cc ((at-reset a byte q).2 (bank es), accepted-after a byte)
        go false p false q w o = before a h

    -- a write to another address
    other : (c byte : ℕ) → eqb a c ≡ false → byte_written (bank es) a c byte ≡ byte_by (write c byte ∷ es) a
    unfolding byte_by
    other c byte n =
        let m : eqb c a ≡ false = ne_eqb c a (λ p. eqb-false a c n (sym p)) in
        rw (n, m) (go (is_reset c byte) (is_spared a) (is_stored (bank es) c byte))
      where
        go : (r s t : Bool) → pick r (pick s (stored es a) (get_or first_bytes a 0)) (pick (both t false) (merged (row_at c) byte) (stored es a)) ≡ byte_left a (pick (both r (not s)) none (last_write es a))
        go true true t = before a h
        go true false t = reset-is a h
        go false s true = before a h
        go false s false = before a h

    written : (c byte : ℕ) → stored (write c byte ∷ es) a ≡ byte_by (write c byte ∷ es) a
    unfolding bank
    written c byte = byte-written (bank es) (bank-length es) a c byte ∙ go (eqb a c) refl
      where
        go : (t : Bool) → eqb a c ≡ t → byte_written (bank es) a c byte ≡ byte_by (write c byte ∷ es) a
        go true f = rw (← eqb-true a c f) (own byte)
        go false f = other c byte f

pub stored_is : (es : List Event) (a : ℕ) → a < 64 → stored es a ≡ byte_by es a
unfolding bank byte_by
stored_is [] a h = reset-is a h
stored_is (event.power_up ∷ es) a h = reset-is a h
stored_is (write c byte ∷ es) a h = written es (stored_is es) a h c byte
stored_is (read c n ∷ es) a h = stored_is es a h
stored_is (sample x y z t ∷ es) a h = stored_is es a h
stored_is (cycle ∷ es) a h = stored_is es a h
stored_is (clock us ∷ es) a h = stored_is es a h

-- and so does the device
pub held-is : (es : List Event) (a : ℕ) → a < 64 → reg (after es) a ≡ byte_by es a
held-is es a h = ap (λ (regs : List ℕ). get_or regs a 0) (bank-is es) ∙ stored_is es a h

-- a write is accepted after the events where the registers accept it
pub accepted-is : (es : List Event) (a byte : ℕ) → accepted (write_answer (bank es) a byte) ≡ is_accepted es a byte
accepted-is es = accepted-after es (stored_is es)
