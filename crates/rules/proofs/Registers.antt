-- 01, "Register table", after any events from power-up on: what is stored at each address, and what one write more does to it.
-- Assumes nothing.
use Prim.Native.Nat.{ℕ, ◌<◌}
use mathlib.Core.Bool.{Bool, true, false, not}
use mathlib.Core.Path.{◌≡◌, refl, sym, ap, ◌∙◌}
use mathlib.Core.List.{List, [], ◌∷◌}
use native.Mathlib.Omega.{arith}
use lib.Dec.{eqb, ltb}
use lib.ListN.{get_or}
use borrow.Author.Tests.{eqb-true, ltb-true, eq-eqb, ne_eqb}
use Rattle.laws.specs.Choice.{both}
use Rattle.laws.specs.Lists.{is_in}
use Rattle.laws.specs.Bits.{bit}
use Rattle.laws.proofs.Finite.{picked, left, right, all, each, at-any}
use Rattle.codes.specs.Addresses.{range_at, control_at, reset_at, enables_at, level_at}
use Rattle.codes.specs.Range.{range_of, is_reserved_range}
use Rattle.codes.specs.Mode.{mode_of, is_reserved_mode}
use Rattle.table.specs.Rows.{reserved_addresses, row_at, writable, the_table}
use Rattle.detectors.specs.Detectors.{detectors_written}
use Rattle.interrupts.specs.Statuses.{statuses_of}
use Rattle.registers.specs.Answers.{number}
use Rattle.registers.specs.Deeds.{soft_reset_byte, judgement, deeds_of}
use Rattle.registers.specs.Refused.{write_answer, answer_at, reserved_code, not_modelled}
use Rattle.registers.proofs.Answers.{zero-accepted}
use Rattle.device.specs.Device.{chip_number, power_up, reg}
use Rattle.device.specs.Show.{shown_byte}
use Rattle.device.specs.Read.{byte_from, single_byte}
use Rattle.device.specs.Write.{write_of, written, regs_reset}
use Rattle.device.specs.declared.Device.{Device}
use Rattle.events.specs.Event.{Event, write, read, answer, bytes, gives}
use Rattle.events.specs.Run.{next, after, all_given}
use Rattle.events.specs.Bank.{bank, stored}
use Rattle.events.proofs.Runs.{bank-is}
use Rattle.rules.specs.Rules.{is_tabled}
use Rattle.paper.proofs.Bits.{bit-clear}
use Rattle.paper.specs.Computed.{the_paper}
use Rattle.paper.specs.Table.{reset_of, mask_of, masked}
use Rattle.paper.specs.Stored.{is_soft_reset, byte_by, is_accepted}
use Rattle.paper.proofs.Table.{masked-bit}
use Rattle.paper.proofs.Stored.{stored_is, held-is, accepted-is, always-stored, never-written}
use Rattle.paper.proofs.Codes as codes
use Rattle.rules.proofs.Codes.{accepted-clear, first-clear}
use Rattle.paper.proofs.Writes.{spared, reset-byte}
use Rattle.rules.proofs.Bursts.{single}
use Rattle.rules.proofs.Shown.{tabled-byte}

-- ---- the stored bytes, from the events alone
pub registers : (es : List Event) (a : ℕ) → reg (after es) a ≡ stored es a
registers es a = ap (λ (regs : List ℕ). get_or regs a 0) (bank-is es)

-- ---- "Register table"
-- of these addresses the byte is that of the last accepted write, since reset, or the reset byte
pub reads-tabled : (es : List Event) (a : ℕ) → a < 0x3F → is_tabled a ≡ true → gives (after es) (read a 1) ≡ bytes (byte_by es a ∷ [])
reads-tabled es a h t = single (after es) a h ∙ rw (tabled-byte (after es) a (omega arith) t, held-is es a (omega arith))

-- the addresses of l read v, whatever happens
abbrev constant : ℕ → ℕ → Bool
constant v a = both (ltb a 0x3F) (both (is_tabled a) (both (not (writable a)) (eqb (reset_of a) v)))

reads-constant : (v : ℕ) (l : List ℕ) → all (constant v) l ≡ true → (es : List Event) (a : ℕ) → is_in l a ≡ true → gives (after es) (read a 1) ≡ bytes (v ∷ [])
reads-constant v l c es a m = go (ltb a 0x3F) refl (is_tabled a) refl (writable a) refl (each (constant v) l c a m)
  where
    go : (h : Bool) → ltb a 0x3F ≡ h → (t : Bool) → is_tabled a ≡ t → (w : Bool) → writable a ≡ w → both h (both t (both (not w) (eqb (reset_of a) v))) ≡ true → gives (after es) (read a 1) ≡ bytes (v ∷ [])
    go true eh true et false ew e =
        let h = ltb-true a 0x3F eh in
        reads-tabled es a h et ∙ rw (never-written a (omega arith) ew es, eqb-true (reset_of a) v e)
    go true eh true et true ew e = cc
    go true eh false et w ew e = cc
    go false eh t et w ew e = cc

module _ (es : List Event) where
  -- "00 (0xFA)"
  pub reads-chip : gives (after es) (read 0x00 1) ≡ bytes (chip_number ∷ [])
  unfolding the_paper the_table
  reads-chip = reads-constant chip_number (0x00 ∷ []) refl es 0x00 refl

  -- "Reserved addresses 01, 0D, 15, 1C, 1D, 1F, 31, 35, 3D read 0xFF"
  pub reads-reserved : (a : ℕ) → is_in reserved_addresses a ≡ true → gives (after es) (read a 1) ≡ bytes (0xFF ∷ [])
  unfolding the_paper the_table
  reads-reserved = reads-constant 0xFF reserved_addresses refl es

  -- "Address 14 reads 0"
  pub reads-14 : gives (after es) (read 0x14 1) ≡ bytes (0 ∷ [])
  unfolding the_paper the_table
  reads-14 = reads-constant 0 (0x14 ∷ []) refl es 0x14 refl

  -- "33:F4/00", "36:10/00"
  pub reads-33 : gives (after es) (read 0x33 1) ≡ bytes (0xF4 ∷ [])
  unfolding the_paper the_table
  reads-33 = reads-constant 0xF4 (0x33 ∷ []) refl es 0x33 refl

  pub reads-36 : gives (after es) (read 0x36 1) ≡ bytes (0x10 ∷ [])
  unfolding the_paper the_table
  reads-36 = reads-constant 0x10 (0x36 ∷ []) refl es 0x36 refl

  -- ---- the settings
  module _ (a : ℕ) (low : a < 64) where
    -- "A write changes masked bits only; other bits keep their reset value"
    pub kept : (k : ℕ) → k < 8 → bit k (mask_of a) ≡ false → bit k (byte_by es a) ≡ bit k (reset_of a)
    kept k h m = always-stored (λ v. bit k v ≡ bit k (reset_of a)) a refl (λ es byte ok. masked-bit a byte k low h ∙ rw m) es

    -- "Refused 3: a 1 in ..", 11 to 13 by Q-1: no such bit is ever stored
    pub unset : (k : ℕ) → k < 8 → bit k (row_at a).2 ≡ true → bit k (byte_by es a) ≡ false
    unset k h m = always-stored (λ v. bit k v ≡ false) a first left_by es
      where
        first : bit k (reset_of a) ≡ false
        first = bit-clear k h _ _ (first-clear a low) m

        left_by : (es : List Event) (byte : ℕ) → is_accepted es a byte ≡ true → bit k (masked a byte) ≡ false
        left_by es byte ok =
            let clear = bit-clear k h byte (row_at a).2 (accepted-clear (bank es) a byte (accepted-is es a byte ∙ ok)) m in
            masked-bit a byte k low h ∙ picked (λ t. t ≡ false) (bit k (mask_of a)) clear first

  -- "every other low nibble is refused 2"
  pub range-known : is_reserved_range (range_of (stored es range_at)) ≡ false
  range-known = rw (stored_is es range_at (omega arith)) (codes.range-known es)

  -- "11 is refused 2"
  pub mode-known : is_reserved_mode (mode_of (stored es control_at)) ≡ false
  mode-known = rw (stored_is es control_at (omega arith)) (codes.mode-known es)

-- ---- one write more
module _ (es : List Event) (a byte : ℕ) where
  pub answered : gives (after es) (write a byte) ≡ answer (number (write_answer (bank es) a byte))
  unfolding write_of judgement
  answered = rw (bank-is es)

  -- an accepted write is answered 0 and reads back under its mask
  pub write-reads : a < 0x3F → is_tabled a ≡ true → is_accepted es a byte ≡ true
      → all_given (after es) (write a byte ∷ read a 1 ∷ []) ≡ answer 0 ∷ bytes (masked a byte ∷ []) ∷ []
  unfolding after byte_by
  write-reads h t ok =
      let done : number (write_answer (bank es) a byte) ≡ 0 =
      eqb-true _ 0 (sym (zero-accepted (write_answer (bank es) a byte)) ∙ accepted-is es a byte ∙ ok) in
      let is : byte_by (write a byte ∷ es) a ≡ masked a byte = rw (eq-eqb a a refl, ok) in
      let back : gives (next (after es) (write a byte)) (read a 1) ≡ bytes (masked a byte ∷ []) = reads-tabled (write a byte ∷ es) a h t ∙ rw is in
      rw (answered, back, done)

  -- a write changes no other register's byte, soft reset excepted
  pub write-others : (c : ℕ) → c < 0x3F → is_tabled c ≡ true → (a ≡ c → ⊥) → is_soft_reset a byte ≡ false
      → gives (after (write a byte ∷ es)) (read c 1) ≡ gives (after es) (read c 1)
  unfolding byte_by
  write-others c h t n r =
      let is : byte_by (write a byte ∷ es) c ≡ byte_by es c = rw (ne_eqb a c n, r) in
      reads-tabled (write a byte ∷ es) c h t ∙ rw is (sym (reads-tabled es c h t))

-- a device with other registers
abbrev with_regs : Device → List ℕ → Device
with_regs d regs = record {
  regs = regs;
  channels = d.channels;
  temperature = d.temperature;
  came = d.came;
  frames = d.frames;
  fifo = d.fifo;
  detectors = d.detectors;
}

-- "14: 0xB6 is a soft reset: everything as at power-up, 0x3B and 0x3C excepted"
abbrev soft_reset : Event
soft_reset = write reset_at soft_reset_byte

reset-is : (d : Device) → next d soft_reset ≡ with_regs power_up (regs_reset d.regs)
unfolding write_of written judgement deeds_of detectors_written answer_at the_table reserved_code not_modelled power_up
reset-is d = refl

reset-shown : (regs : List ℕ) (c : ℕ) → is_in spared c ≡ false → single_byte (with_regs power_up (regs_reset regs)) c ≡ single_byte power_up c
unfolding byte_from shown_byte statuses_of power_up
reset-shown regs c n = rw (reset-byte regs enables_at, reset-byte regs level_at, reset-byte regs control_at, reset-byte regs c, n)

module _ (es : List Event) where
  reset-answered : gives (after es) soft_reset ≡ answer 0
  unfolding answer_at the_table reserved_code not_modelled
  reset-answered = answered es reset_at soft_reset_byte

  pub reset-reads : (c : ℕ) → c < 0x3F → is_in spared c ≡ false → all_given (after es) (soft_reset ∷ read c 1 ∷ []) ≡ answer 0 ∷ gives power_up (read c 1) ∷ []
  reset-reads c h n =
      let d = after es in
      let back : gives (next d soft_reset) (read c 1) ≡ gives power_up (read c 1) =
      rw (reset-is d, single (with_regs power_up (regs_reset d.regs)) c h, single power_up c h, reset-shown d.regs c n) in
      rw (reset-answered, back)

  pub reset-keeps : (c : ℕ) → is_in spared c ≡ true → all_given (after es) (soft_reset ∷ read c 1 ∷ []) ≡ answer 0 ∷ gives (after es) (read c 1) ∷ []
  unfolding after byte_by
  reset-keeps c n =
      let e = each (λ a. both (ltb a 0x3F) (is_tabled a)) spared refl c n in
      let h = ltb-true c 0x3F (left (ltb c 0x3F) (is_tabled c) e) in
      let t = right (ltb c 0x3F) (is_tabled c) e in
      let away : eqb 0x14 c ≡ false = at-any (λ a. eqb 0x14 a ≡ false) spared (refl, (refl, tt)) c n in
      let is : byte_by (soft_reset ∷ es) c ≡ byte_by es c = rw (n, away) in
      let back : gives (next (after es) soft_reset) (read c 1) ≡ gives (after es) (read c 1) =
      reads-tabled (soft_reset ∷ es) c h t ∙ rw is (sym (reads-tabled es c h t)) in
      rw (reset-answered, back)
