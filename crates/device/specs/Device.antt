-- 01, "What the twin covers": the device record, and the device after power-up.
use Rattle.std.specs.Prelude.{ℕ, Bool, false, List, get_or, set}
use Rattle.fifo.specs.Flat.{Flat, flat_at, numbers_of}
use Rattle.fifo.specs.Store.{emptied}
use Rattle.channels.specs.declared.Channels.{Channels}
use Rattle.channels.specs.Channels.{no_samples}
use Rattle.detectors.specs.Detectors.{all_quiet}
use Rattle.table.specs.Rows.{reset_bytes}
use Rattle.device.specs.declared.Device.{Device}

-- "The chip number 0xFA and the depth 32 are named once, with the device"
abbrev pub chip_number : ℕ
chip_number = 0xFA

abbrev pub depth : ℕ
depth = 32

-- the register bytes at power-up
unfoldable pub first_bytes : List ℕ
first_bytes = set reset_bytes 0x00 chip_number

unfoldable pub power_up : Device
power_up = record {
  regs = first_bytes;
  channels = no_samples;
  temperature = 0;
  came = false;
  frames = emptied.bytes;
  fifo = numbers_of emptied;
  detectors = all_quiet;
}

-- the byte of a register
abbrev pub reg : Device → ℕ → ℕ
reg d a = get_or d.regs a 0

-- the FIFO, its store and its numbers together
abbrev pub flat_of : Device → Flat
flat_of d = flat_at d.frames d.fifo

-- ---- a device with one part changed
abbrev pub with_channels : Device → Channels → Device
with_channels d c =
    record { regs = d.regs; channels = c; temperature = d.temperature; came = d.came; frames = d.frames; fifo = d.fifo; detectors = d.detectors }

abbrev pub with_came : Device → Bool → Device
with_came d b =
    record { regs = d.regs; channels = d.channels; temperature = d.temperature; came = b; frames = d.frames; fifo = d.fifo; detectors = d.detectors }

abbrev pub with_flat : Device → Flat → Device
with_flat d f =
    record { regs = d.regs; channels = d.channels; temperature = d.temperature; came = d.came; frames = f.bytes; fifo = numbers_of f; detectors = d.detectors }
