-- A register write.
use Rattle.std.specs.Prelude.{ℕ, false, List, ltb, get_or, set}
use Rattle.laws.specs.Choice.{pick}
use Rattle.codes.specs.Addresses.{first_spare_at, second_spare_at}
use Rattle.fifo.specs.Flat.{Flat, numbers_of}
use Rattle.fifo.specs.Store.{emptied}
use Rattle.channels.specs.Channels.{no_samples, released}
use Rattle.channels.specs.declared.Channels.{Channels}
use Rattle.detectors.specs.Detectors.{detectors_written}
use Rattle.registers.specs.Deeds.{judgement}
use Rattle.registers.specs.declared.Deeds.{Deeds}
use Rattle.device.specs.Device.{first_bytes, flat_of}
use Rattle.device.specs.declared.Device.{Device}
use Rattle.device.specs.declared.Answered.{Answered}

-- a byte is stored in the register of an address
abbrev pub stored_at : List ℕ → ℕ → ℕ → List ℕ
stored_at regs a byte = pick (ltb a 64) (set regs a byte) regs

-- "everything as at power-up, 0x3B and 0x3C excepted"
abbrev pub regs_reset : List ℕ → List ℕ
regs_reset regs = set (set first_bytes first_spare_at (get_or regs first_spare_at 0)) second_spare_at (get_or regs second_spare_at 0)

-- the registers after a write of a byte to an address
abbrev pub regs_written : Deeds → ℕ → ℕ → List ℕ → List ℕ
regs_written e a byte regs = pick e.resets (regs_reset regs) (pick e.stores (stored_at regs a byte) regs)

-- "Writing 0x13 with bit 6 at 1 releases all locks"
abbrev pub channels_written : Deeds → Channels → Channels
channels_written e c = pick e.resets no_samples (pick e.releases (released c) c)

-- "empties the FIFO and clears overrun"
abbrev pub flat_written : Deeds → Flat → Flat
flat_written e f = pick e.empties emptied f

-- what a write of a byte to an address does to the device, part by part
unfoldable pub written : Deeds → ℕ → ℕ → Device → Device
written e a byte d = record {
  regs = regs_written e a byte d.regs;
  channels = channels_written e d.channels;
  temperature = pick e.resets 0 d.temperature;
  came = pick e.resets false d.came;
  frames = (flat_written e (flat_of d)).bytes;
  fifo = numbers_of (flat_written e (flat_of d));
  detectors = detectors_written e d.detectors;
}

unfoldable pub write_of : Device → ℕ → ℕ → Answered
write_of d a byte = let j = judgement d.regs a byte in record { answer = j.answer; device = written j.deeds a j.stored d }
