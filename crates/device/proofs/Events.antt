-- Each event, from what its parts have become.
-- Assumes nothing.
use Prim.Native.Nat.{ℕ}
use mathlib.Core.Bool.{true, false}
use mathlib.Core.List.{List}
use mathlib.Core.Path.{◌≡◌, sym, ap, ◌∙◌}
use lib.Dec.{eqb}
use lib.IntN.{ℤ}
use lib.ListN.{length}
use Rattle.laws.specs.Choice.{pick}
use Rattle.codes.specs.Addresses.{control_at, frames_at}
use Rattle.codes.specs.Axes.{axes_of}
use Rattle.channels.specs.Channels.{sampled}
use Rattle.channels.specs.declared.Channels.{Channels}
use Rattle.fifo.specs.Flat.{Flat, numbers_of}
use Rattle.fifo.specs.Store.{readout_at}
use Rattle.detectors.specs.Detectors.{detectors_written}
use Rattle.registers.specs.Answers.{Answer, accepted}
use Rattle.registers.specs.Deeds.{judgement}
use Rattle.registers.specs.Refused.{read_answer}
use Rattle.registers.specs.declared.Judged.{Judged}
use Rattle.device.specs.Device.{depth, reg, flat_of, with_channels, with_flat}
use Rattle.device.specs.Show.{inside_of}
use Rattle.device.specs.Write.{write_of, written, regs_written, channels_written, flat_written}
use Rattle.device.specs.Read.{read_of, buffer_after, readout_bytes, locks, channels_read, bytes_from}
use Rattle.device.specs.Sample.{sample_of, sample_answer, after_accepted, flat_sampled, stored_codes, detectors_stored}
use Rattle.device.specs.declared.Device.{Device}
use Rattle.device.specs.declared.Answered.{Answered}
use Rattle.device.proofs.Laws.{after_is}
use Rattle.device.proofs.Burst.{given_is}

-- ---- a write
module _ (d : Device) (a byte : ℕ) (j : Judged) (is : j ≡ judgement d.regs a byte) where
  pub record Written (s : Device) : Type 0 where
    pub regs : s.regs ≡ regs_written j.deeds a j.stored d.regs
    pub channels : s.channels ≡ channels_written j.deeds d.channels
    pub temperature : s.temperature ≡ pick j.deeds.resets 0 d.temperature
    pub came : s.came ≡ pick j.deeds.resets false d.came
    pub flat : flat_of s ≡ flat_written j.deeds (flat_of d)
    pub detectors : s.detectors ≡ detectors_written j.deeds d.detectors

  pub write-is : (s : Device) → Written s → ◌≡◌ {A = Answered} (record { answer = j.answer; device = s }) (write_of d a byte)
  unfolding write_of written
  write-is s w =
      (λ i. record {
        answer = j.answer;
        device = record {
          regs = w.regs i;
          channels = w.channels i;
          temperature = w.temperature i;
          came = w.came i;
          frames = (w.flat i).bytes;
          fifo = numbers_of (w.flat i);
          detectors = w.detectors i;
        };
      })
      ∙ (λ i. record { answer = (is i).answer; device = written (is i).deeds a (is i).stored d })

-- ---- a sample
module _ (d : Device) (x y z : ℤ) (t : ℕ) (answer : Answer) (told : answer ≡ sample_answer x y z) where
  pub record Sampled (s : Device) : Type 0 where
    pub regs : s.regs ≡ d.regs
    pub channels : s.channels ≡ sampled (stored_codes d.regs x y z) d.channels
    pub temperature : s.temperature ≡ t
    pub came : s.came ≡ true
    pub flat : flat_of s ≡ flat_sampled (stored_codes d.regs x y z) d
    pub detectors : s.detectors ≡ detectors_stored d.regs x y z d.detectors

  pub sample-is : accepted answer ≡ true → (s : Device) → Sampled s → ◌≡◌ {A = Answered} (record { answer = answer; device = s }) (sample_of d x y z t)
  unfolding sample_of after_accepted
  sample-is ok s w =
      let e : accepted (sample_answer x y z) ≡ true = ap accepted (sym told) ∙ ok in
      rw e (λ i. record {
        answer = told i;
        device = record {
          regs = w.regs i;
          channels = w.channels i;
          temperature = w.temperature i;
          came = w.came i;
          frames = (w.flat i).bytes;
          fifo = numbers_of (w.flat i);
          detectors = w.detectors i;
        };
      })

  pub sample-refused : accepted answer ≡ false → ◌≡◌ {A = Answered} (record { answer = answer; device = d }) (sample_of d x y z t)
  unfolding sample_of
  sample-refused off =
      let e : accepted (sample_answer x y z) ≡ false = ap accepted (sym told) ∙ off in
      rw e (λ i. record { answer = told i; device = d })

-- ---- a read
module _ (d : Device) (a : ℕ) (buffer : List ℕ) (answer : Answer) (told : answer ≡ read_answer a (length buffer)) where
  -- the answer with the device, and the buffer's last bytes
  abbrev pub Done : Device → List ℕ → Type 0
  Done s bytes = (◌≡◌ {A = Answered} (record { answer = answer; device = s }) (read_of d a (length buffer))) × (bytes ≡ buffer_after d a buffer)

  pub read-refused : accepted answer ≡ false → Done d buffer
  unfolding read_of buffer_after
  read-refused off =
      let e : accepted (read_answer a (length buffer)) ≡ false = ap accepted (sym told) ∙ off in
      (rw e (λ i. record { answer = told i; device = d }), rw e)

  module _ (ok : accepted answer ≡ true) where
    yes : accepted (read_answer a (length buffer)) ≡ true
    yes = ap accepted (sym told) ∙ ok

    pub readout-is : eqb a frames_at ≡ true → (f : Flat) (bytes : List ℕ) → f ≡ readout_at depth (axes_of (reg d control_at)) (length buffer) (flat_of d)
        → bytes ≡ readout_bytes d (length buffer) → Done (with_flat d f) bytes
    unfolding read_of buffer_after
    readout-is l f bytes ef eb = (rw (yes, l) (λ i. record { answer = told i; device = with_flat d (ef i) }), rw (yes, l) eb)

    pub burst-is : eqb a frames_at ≡ false → (c : Channels) (bytes : List ℕ) → c ≡ channels_read (locks d) d.channels a (length buffer)
        → bytes ≡ bytes_from (locks d) d.channels (inside_of d) d.regs a (length buffer) → Done (with_channels d c) bytes
    unfolding read_of buffer_after
    burst-is l c bytes ec eb =
        (rw (yes, l, after_is d a (length buffer)) (λ i. record { answer = told i; device = with_channels d (ec i) }), rw (yes, l, given_is d a (length buffer)) eb)
