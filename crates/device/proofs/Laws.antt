-- What the crates above rest on: the laws of the device that are made for callers. No crate above names another proof of this one by hand.
-- Assumes nothing.
use Prim.Native.Nat.{ℕ, zero, suc, ◌+◌}
use mathlib.Core.Bool.{false}
use mathlib.Core.List.{List}
use mathlib.Core.Path.{◌≡◌, refl}
use lib.IntN.{ℤ}
use lib.ListN.{length}
use Rattle.motion.proofs.Clock as motion
use Rattle.gravity.proofs.Clock as gravity
use Rattle.slow.proofs.Clock as slow
use Rattle.detectors.specs.Detectors.{detectors_written, detectors_clocked}
use Rattle.registers.specs.Answers.{accepted}
use Rattle.registers.specs.Deeds.{judgement}
use Rattle.registers.specs.Refused.{write_answer, read_answer}
use Rattle.device.specs.Device.{with_channels}
use Rattle.device.specs.Write.{write_of, written}
use Rattle.device.specs.Read.{read_of, buffer_after, locks, after_singles, channels_read}
use Rattle.device.specs.Sample.{sample_of, sample_answer}
use Rattle.device.specs.Clock.{clock_of}
use Rattle.device.specs.declared.Device.{Device}

-- ---- a refused event changes nothing: neither the device nor the lent buffer
pub write-refused : (d : Device) (a byte : ℕ) → accepted (write_answer d.regs a byte) ≡ false → (write_of d a byte).device ≡ d
unfolding write_of written judgement detectors_written
write-refused d a byte e = rw e

pub read-refused : (d : Device) (a : ℕ) (buffer : List ℕ) → accepted (read_answer a (length buffer)) ≡ false
    → ((read_of d a (length buffer)).device ≡ d) × (buffer_after d a buffer ≡ buffer)
unfolding read_of buffer_after
read-refused d a buffer e = (rw e, rw e)

pub sample-refused : (d : Device) (x y z : ℤ) (t : ℕ) → accepted (sample_answer x y z) ≡ false → (sample_of d x y z t).device ≡ d
unfolding sample_of
sample-refused d x y z t e = rw e

-- ---- single reads below 0x3F change the channels alone
pub after_is : (d : Device) (a n : ℕ) → after_singles d a n ≡ with_channels d (channels_read (locks d) d.channels a n)
unfolding after_singles channels_read
after_is d a zero = refl
after_is d a (suc n) = rw (after_is d a n)

-- ---- Q-4, of every device record: "Two clock events in a row equal one of their sum", the devices and not only what they answer; and a
-- clock of 0 changes nothing
pub clock-sum : (a b : ℕ) (d : Device) → clock_of (clock_of d a).device b ≡ clock_of d (a + b)
unfolding clock_of detectors_clocked
clock-sum a b d = rw (motion.clocked-sum a b d.detectors.motion, gravity.clocked-sum a b d.detectors.gravity, slow.clocked-sum a b d.detectors.slow)

pub clock-none : (d : Device) → (clock_of d 0).device ≡ d
unfolding clock_of detectors_clocked
clock-none d = rw (motion.clocked-none d.detectors.motion, gravity.clocked-none d.detectors.gravity, slow.clocked-none d.detectors.slow)
