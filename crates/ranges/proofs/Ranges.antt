-- Each byte of 0x0F means the range that 01 gives its low nibble, and the range in force is that of the byte that the events leave there.
-- Assumes nothing.
use Prim.Native.Nat.{ℕ, ◌%◌}
use mathlib.Core.Bool.{Bool, true, false, not}
use mathlib.Core.List.{List, ◌∷◌}
use mathlib.Core.Logic.{◌↔◌, ◌≢◌}
use mathlib.Core.Path.{◌≡◌, refl, sym, ap, ◌∙◌}
use native.Mathlib.Omega.{arith}
use lib.Bits.{and_zero_r}
use Rattle.laws.specs.Choice.{pick}
use Rattle.laws.specs.Keys.{meaning_of}
use Rattle.laws.proofs.Finite.{alike}
use Rattle.codes.specs.Addresses.{range_at}
use Rattle.codes.specs.Range as codes
use Rattle.codes.specs.Range.{range_of, is_reserved_range}
use Rattle.codes.specs.declared.Range.{Range}
use Rattle.codes.specs.declared.Range.TheVariants.{G2, G4, G8, G16, Reserved}
use Rattle.table.specs.Rows.{the_table}
use Rattle.std.specs.Prelude.{Err}
use Rattle.registers.specs.Answers.{done, number, accepted}
use Rattle.registers.specs.Refused.{reserved_code, not_modelled, answer_at, write_answer}
use Rattle.registers.specs.declared.Refusal.TheVariants.{ReservedCode}
use Rattle.counts.specs.Counts.{in_g}
use Rattle.device.specs.Device.{reg}
use Rattle.device.specs.Show.{range_in}
use Rattle.events.specs.Bank.{bank}
use Rattle.events.specs.Event.{Event, write, gives}
use Rattle.events.specs.Run.{after}
use Rattle.paper.specs.Ranges.{ranges, g_by, is_known_range}
use Rattle.paper.specs.Table.{masked}
use Rattle.paper.specs.Stored.{byte_by, is_accepted}
use Rattle.paper.proofs.Codes.{range-stored}
use Rattle.paper.proofs.Refused.{reserved-range}
use Rattle.paper.proofs.Stored.{stored_is, accepted-is}
use Rattle.rules.proofs.Registers as registers
use Rattle.ranges.specs.Ranges.{RangeRule}

-- whatever the byte
pub range-means : (byte : ℕ) → in_g (range_of byte) ≡ g_by byte
unfolding range_of
range-means byte = alike (λ c. in_g (meaning_of codes.ranges Reserved c)) (meaning_of ranges 0) 16 refl (byte % 16) (omega arith)

-- ---- the range in force
-- a range that the sheet defines has some g
known_some : (r : Range) → is_reserved_range r ≡ false → in_g r ≢ 0
known_some G2 k h = absurd (omega arith)
known_some G4 k h = absurd (omega arith)
known_some G8 k h = absurd (omega arith)
known_some G16 k h = absurd (omega arith)
known_some Reserved k h = let z : ◌≡◌ {A = ℕ} 0 1 = cc in absurd (omega arith)

module _ (es : List Event) where
  pub range-some : in_g (range_in (after es)) ≢ 0
  range-some = known_some (range_in (after es)) (ap (λ n. is_reserved_range (range_of n)) (registers.registers es range_at) ∙ registers.range-known es)

  pub range-in-force : in_g (range_in (after es)) ≡ g_by (byte_by es 0x0F)
  range-in-force =
      let left : reg (after es) range_at ≡ byte_by es 0x0F = registers.registers es range_at ∙ stored_is es 0x0F (omega arith) in
      range-means (reg (after es) range_at) ∙ ap g_by left

-- ---- a write
answer_at_lem : (regs : List ℕ) (byte : ℕ) → write_answer regs range_at byte ≡ pick (not (is_known_range byte)) (Err ReservedCode) done
unfolding answer_at reserved_code not_modelled the_table
answer_at_lem regs byte = rw (and_zero_r byte, reserved-range byte)

pub range-refused : (es : List Event) (byte : ℕ) → ((gives (after es) (write 0x0F byte)).number ≡ 2) ↔ (is_known_range byte ≡ false)
range-refused es byte =
    let is : (gives (after es) (write 0x0F byte)).number ≡ number (pick (not (is_known_range byte)) (Err ReservedCode) done) =
    ap (λ g. g.number) (registers.answered es range_at byte) ∙ ap number (answer_at_lem (bank es) byte) in
    let when = go (is_known_range byte) in
    (λ h. when.0 (sym is ∙ h), λ h. is ∙ when.1 h)
  where
    go : (t : Bool) → (number (pick (not t) (Err ReservedCode) done) ≡ 2) ↔ (t ≡ false)
    go true = (λ h. absurd (omega arith), λ h. let z : ◌≡◌ {A = ℕ} 0 1 = cc in absurd (omega arith))
    go false = (λ h. refl, λ h. refl)

range-accepted : (es : List Event) (byte : ℕ) → is_known_range byte ≡ true → is_accepted es 0x0F byte ≡ true
range-accepted es byte known = sym (accepted-is es 0x0F byte) ∙ ap accepted (answer_at_lem (bank es) byte) ∙ rw known

pub range-written : (es : List Event) (byte : ℕ) → is_known_range byte ≡ true → in_g (range_in (after (write 0x0F byte ∷ es))) ≡ g_by byte
unfolding byte_by
range-written es byte known =
    let left : byte_by (write 0x0F byte ∷ es) 0x0F ≡ masked 0x0F byte = rw (range-accepted es byte known) in
    let is : byte_by (write 0x0F byte ∷ es) 0x0F % 16 ≡ byte % 16 = omega (arith, left, range-stored byte) in
    range-in-force (write 0x0F byte ∷ es) ∙ ap (meaning_of ranges 0) is

pub range-rule : (es : List Event) → RangeRule es
range-rule es = record {
  in_force = range-in-force es;
  some = range-some es;
  written = range-written es;
  refused = range-refused es;
}
