-- A write to an offset touches nothing else. Assumes nothing.
use Prim.Native.Nat.{ℕ, ◌%◌, ◌<◌}
use mathlib.Core.Bool.{true, false}
use mathlib.Core.List.{List, [], ◌∷◌}
use mathlib.Core.Logic.{◌≢◌}
use mathlib.Core.Path.{◌≡◌, refl, sym, ap, ◌∙◌}
use native.Mathlib.Omega.{arith}
use lib.Bits.{bit_and, bit_or, or_zero_r, and_mask, and_zero_r}
use borrow.Author.Tests.{eq-eqb, ne_eqb}
use Rattle.laws.specs.Lists.{is_in}
use Rattle.laws.proofs.Finite.{at-any}
use Rattle.table.specs.Rows.{row_at, merged, writable, the_table}
use Rattle.detectors.specs.Detectors.{detectors_written}
use Rattle.registers.specs.Answers.{done, number, accepted}
use Rattle.registers.specs.Refused.{reserved_code, not_modelled, answer_at}
use Rattle.registers.specs.Deeds.{deeds_of, judgement}
use Rattle.registers.specs.declared.Deeds.{Deeds}
use Rattle.registers.specs.declared.Judged.{Judged}
use Rattle.device.specs.Device.{flat_of}
use Rattle.device.specs.Write.{written, write_of, regs_written}
use Rattle.device.specs.declared.Device.{Device}
use Rattle.events.specs.Event.{Event, write}
use Rattle.events.specs.Run.{after}
use Rattle.events.specs.Bank.{bank}
use Rattle.paper.specs.Table.{masked}
use Rattle.paper.specs.Stored.{is_soft_reset, byte_by, is_accepted}
use Rattle.paper.specs.OffsetWrites.{offsets, OffsetWrite}
use Rattle.paper.proofs.Table.{masked-is}
use Rattle.paper.proofs.Stored.{accepted-is}

-- what such a write does: its byte is stored
abbrev only_stores : Deeds
only_stores = record { stores = true; empties = false; releases = false; forgets = false; restarts = record { motion = false; gravity = false; slow = false }; resets = false }

abbrev OnlyStored : ℕ → ℕ → List ℕ → Type 0
OnlyStored byte a regs = judgement regs a byte ≡ record { answer = done; deeds = only_stores; stored = merged (row_at a) byte }

only-stored : (regs : List ℕ) (byte a : ℕ) → is_in offsets a ≡ true → OnlyStored byte a regs
unfolding judgement deeds_of answer_at reserved_code not_modelled the_table
only-stored regs byte = at-any (λ a. OnlyStored byte a regs) offsets (rw (and_zero_r byte), (rw (and_zero_r byte), (rw (and_zero_r byte), tt)))

-- the device after it
module _ (d : Device) (a byte : ℕ) (h : is_in offsets a ≡ true) where
  left : write_of d a byte
      ≡ record {
        answer = done;
        device = record {
          regs = regs_written only_stores a (merged (row_at a) byte) d.regs;
          channels = d.channels;
          temperature = d.temperature;
          came = d.came;
          frames = d.frames;
          fifo = d.fifo;
          detectors = d.detectors;
        };
      }
  unfolding write_of written detectors_written
  left = rw (only-stored d.regs byte a h)

-- ---- the registers, from the events alone
-- "38 to 3A:00/FF"
whole-byte : (byte a : ℕ) → is_in offsets a ≡ true → masked a byte ≡ byte % 256
unfolding the_table
whole-byte byte = at-any (λ a. masked a byte ≡ byte % 256) offsets (stored 0x38 (omega arith) refl refl, (stored 0x39 (omega arith) refl refl, (stored 0x3A (omega arith) refl refl, tt)))
  where
    stored : (a : ℕ) → a < 64 → writable a ≡ true → merged (row_at a) byte ≡ bit_or (bit_and byte 0xFF) 0 → masked a byte ≡ byte % 256
    stored a l w m = sym (masked-is a byte l w) ∙ m ∙ or_zero_r (bit_and byte 0xFF) ∙ and_mask byte 8

no-reset : (byte a : ℕ) → is_in offsets a ≡ true → is_soft_reset a byte ≡ false
no-reset byte = at-any (λ a. is_soft_reset a byte ≡ false) offsets (refl, (refl, (refl, tt)))

module _ (es : List Event) (byte a : ℕ) (h : is_in offsets a ≡ true) where
  accepted-here : is_accepted es a byte ≡ true
  unfolding judgement
  accepted-here = sym (accepted-is es a byte) ∙ ap (λ (j : Judged). accepted j.answer) (only-stored (bank es) byte a h)

  own-left : byte_by (write a byte ∷ es) a ≡ byte % 256
  unfolding byte_by
  own-left = rw (accepted-here, eq-eqb a a refl) (whole-byte byte a h)

  others-left : (k : ℕ) → k ≢ a → byte_by (write a byte ∷ es) k ≡ byte_by es k
  unfolding byte_by
  others-left k n = rw (ne_eqb a k (λ e. n (sym e)), no-reset byte a h)

pub offset-write : (es : List Event) (a byte : ℕ) → is_in offsets a ≡ true → OffsetWrite es a byte
unfolding after
offset-write es a byte h =
    let l = left (after es) a byte h in
    record {
      done = λ i. record { number = number (l i).answer; bytes = [] };
      own = own-left es byte a h;
      others = others-left es byte a h;
      channels = λ i. (l i).device.channels;
      frames = λ i. flat_of (l i).device;
      temperature = λ i. (l i).device.temperature;
      came = λ i. (l i).device.came;
      detectors = λ i. (l i).device.detectors;
    }
