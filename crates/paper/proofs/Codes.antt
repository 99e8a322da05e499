-- No register stores a code that the sheet reserves.
-- Assumes nothing.
use Prim.Native.Nat.{ℕ, ◌/◌, ◌%◌, ◌<◌}
use mathlib.Core.Bool.{Bool, true, false, not}
use mathlib.Core.List.{List, [], ◌∷◌}
use mathlib.Core.Path.{◌≡◌, refl, sym, ap, ◌∙◌}
use native.Mathlib.Omega.{arith}
use lib.Bits.{bit_and, or_zero_r, and_shr, and_mask}
use borrow.Author.Tests.{eqb-true, not-false}
use lib.Dec.{eqb, leb}
use Rattle.laws.specs.Bits.{bit}
use Rattle.laws.specs.Choice.{pick, both, either}
use Rattle.laws.proofs.Finite.{at-any, right}
use Rattle.codes.specs.Mode.{mode_of, is_reserved_mode}
use Rattle.codes.specs.Range.{range_of, is_reserved_range}
use Rattle.table.specs.Rows.{the_table}
use Rattle.registers.proofs.Verdicts.{range-accepted, control-accepted}
use Rattle.device.specs.Device.{reg}
use Rattle.events.specs.Event.{Event, power_up, write, read, sample, cycle, clock}
use Rattle.events.specs.Run.{after}
use Rattle.events.specs.Bank.{bank}
use Rattle.paper.specs.Computed.{the_paper}
use Rattle.paper.specs.Table.{masked}
use Rattle.paper.specs.Refused.{means_no_wait, is_reserved_write, is_lacking, accepts}
use Rattle.paper.specs.Stored.{is_soft_reset, none, last, last_write, byte_left, byte_by, is_accepted}
use Rattle.paper.proofs.Table.{masked-is, masked-bit}
use Rattle.paper.proofs.Refused.{reserved-mode}
use Rattle.paper.proofs.Stored.{accepted-is, always-stored, held-is}

-- "0F:03/0F" and "3E:00/C3": the bits of the code are stored
pub range-stored : (byte : ℕ) → masked 0x0F byte ≡ byte % 16
unfolding the_table
range-stored byte = sym (masked-is 0x0F byte (omega arith) refl) ∙ or_zero_r (bit_and byte 0x0F) ∙ and_mask byte 4

mode-stored : (byte : ℕ) → masked 0x3E byte / 64 ≡ byte / 64 % 4
unfolding the_table
mode-stored byte =
    ap (λ n. n / 64) (sym (masked-is 0x3E byte (omega arith) refl) ∙ or_zero_r (bit_and byte 0xC3))
    ∙ and_shr byte 0xC3 6 ∙ and_mask (byte / 64) 2

is-not : (t : Bool) → not t ≡ true → t ≡ false
is-not true h = cc
is-not false h = refl

-- ---- the range
range-left : (es : List Event) (byte : ℕ) → is_accepted es 0x0F byte ≡ true → is_reserved_range (range_of (masked 0x0F byte)) ≡ false
unfolding range_of
range-left es byte ok =
    let known = is-not (is_reserved_range (range_of byte)) (sym (range-accepted (bank es) byte) ∙ accepted-is es 0x0F byte ∙ ok) in
    let e : byte % 16 % 16 ≡ byte % 16 = omega arith in
    rw (range-stored byte, e) known

pub range-known : (es : List Event) → is_reserved_range (range_of (byte_by es 0x0F)) ≡ false
unfolding range_of the_paper
range-known = always-stored (λ v. is_reserved_range (range_of v) ≡ false) 0x0F refl range-left

-- ---- the FIFO's mode
known_small : (byte : ℕ) → is_reserved_mode (mode_of byte) ≡ false → byte / 64 < 3
known_small byte known =
    at-any (λ (q : ℕ). q < 3) (0b00 ∷ 0b01 ∷ 0b10 ∷ []) (omega arith, (omega arith, (omega arith, tt))) (byte / 64) (not-false _ (sym (reserved-mode byte) ∙ known))

mode-left : (es : List Event) (byte : ℕ) → is_accepted es 0x3E byte ≡ true → is_reserved_mode (mode_of (masked 0x3E byte)) ≡ false
unfolding mode_of
mode-left es byte ok =
    let known = is-not (is_reserved_mode (mode_of byte)) (sym (control-accepted (bank es) byte) ∙ accepted-is es 0x3E byte ∙ ok) in
    let e : byte / 64 % 4 ≡ byte / 64 = omega (arith, known_small byte known) in
    rw (mode-stored byte, e) known

pub mode-known : (es : List Event) → is_reserved_mode (mode_of (byte_by es 0x3E)) ≡ false
unfolding mode_of the_paper
mode-known = always-stored (λ v. is_reserved_mode (mode_of v) ≡ false) 0x3E refl mode-left

-- ---- Q-6: no-motion and a code that has no meaning for it, which stand in two registers
-- "18:00/0F" and "27:00/FF"
choice-stored : (byte : ℕ) → bit 3 (masked 0x18 byte) ≡ bit 3 byte
unfolding bit the_paper
choice-stored byte = masked-bit 0x18 byte 3 (omega arith) (omega arith)

wait-stored : (byte : ℕ) → means_no_wait (masked 0x27 byte) ≡ means_no_wait byte
unfolding the_table
wait-stored byte =
    let stored : masked 0x27 byte ≡ byte % 256 = sym (masked-is 0x27 byte (omega arith) refl) ∙ or_zero_r (bit_and byte 0xFF) ∙ and_mask byte 8 in
    let code : byte % 256 / 4 % 64 ≡ byte / 4 % 64 = omega arith in
    rw (stored, code)

not-reserved : (es : List Event) (a byte : ℕ) → is_accepted es a byte ≡ true → is_reserved_write (byte_by es) a byte ≡ false
unfolding accepts
not-reserved es a byte ok = go (is_reserved_write (byte_by es) a byte) (is_lacking a byte) (right (leb a 0x3F) _ ok)
  where
    go : (r l : Bool) → not (either r l) ≡ true → r ≡ false
    go true l h = cc
    go false l h = refl

-- whether a byte of 0x18 and one of 0x27 bring them together
abbrev pub together : ℕ → ℕ → Bool
together choice code = both (bit 3 choice) (means_no_wait code)

pub never-together : (es : List Event) → together (byte_by es 0x18) (byte_by es 0x27) ≡ false
unfolding bit byte_by the_paper is_reserved_write
never-together [] = refl
never-together (power_up ∷ es) = refl
never-together (write c byte ∷ es) = go (eqb c 0x18) refl (eqb c 0x27) refl (is_accepted es c byte) refl (is_soft_reset c byte) (never-together es)
  where
    -- what stands at 0x18 and at 0x27 after the write
    choice_left : Bool → Bool → ℕ
    choice_left own reset = byte_left 0x18 (pick own (last byte) (pick (both reset true) none (last_write es 0x18)))

    code_left : Bool → Bool → ℕ
    code_left own reset = byte_left 0x27 (pick own (last byte) (pick (both reset true) none (last_write es 0x27)))

    not-both : (t : Bool) → both t false ≡ false
    not-both true = refl
    not-both false = refl

    go : (s : Bool) → eqb c 0x18 ≡ s → (t : Bool) → eqb c 0x27 ≡ t → (ok : Bool) → is_accepted es c byte ≡ ok → (r : Bool)
        → together (byte_by es 0x18) (byte_by es 0x27) ≡ false → together (choice_left (both s ok) r) (code_left (both t ok) r) ≡ false
    go true e true f ok a r h = let z = eqb-true c 0x18 e in let y = eqb-true c 0x27 f in absurd (omega arith)
    go true e false f true a true h = not-both (bit 3 (masked 0x18 byte))
    go true e false f true a false h = rw (choice-stored byte) (rw (eqb-true c 0x18 e) at (not-reserved es c byte a))
    go true e false f false a true h = refl
    go true e false f false a false h = h
    go false e true f true a true h = refl
    go false e true f true a false h = rw (wait-stored byte) (rw (eqb-true c 0x27 f) at (not-reserved es c byte a))
    go false e true f false a true h = refl
    go false e true f false a false h = h
    go false e false f ok a true h = refl
    go false e false f ok a false h = h
never-together (read a n ∷ es) = never-together es
never-together (sample x y z t ∷ es) = never-together es
never-together (cycle ∷ es) = never-together es
never-together (clock us ∷ es) = never-together es

-- no device that events lead to holds both
pub never-held : (es : List Event) → together (reg (after es) 0x18) (reg (after es) 0x27) ≡ false
never-held es = rw (held-is es 0x18 (omega arith), held-is es 0x27 (omega arith)) (never-together es)
