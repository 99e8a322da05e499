-- What 0x08 to 0x0E show, and the pins: computed from the device where they are asked for.
use Rattle.std.specs.Prelude.{ℕ, List, eqb, ltb, ℤ, get_or}
use Rattle.laws.specs.Choice.{pick}
use Rattle.codes.specs.Addresses.{range_at, control_at}
use Rattle.codes.specs.Mode.{mode_of}
use Rattle.codes.specs.Range.{range_of}
use Rattle.codes.specs.declared.Mode.{Mode}
use Rattle.codes.specs.declared.Range.{Range}
use Rattle.offsets.specs.Offsets.{stored_by}
use Rattle.offsets.specs.declared.Stored.{Stored}
use Rattle.fifo.specs.Setting.{depth_in}
use Rattle.fifo.specs.Store.{count_at, status_at}
use Rattle.alarm.specs.Alarm.{marks_of}
use Rattle.detectors.specs.Detectors.{alarms_of}
use Rattle.interrupts.specs.Statuses.{statuses_of}
use Rattle.interrupts.specs.Maps.{status_byte}
use Rattle.interrupts.specs.Pins.{pins_at}
use Rattle.interrupts.specs.declared.Sources.{Sources}
use Rattle.interrupts.specs.declared.Statuses.{Statuses}
use Rattle.interrupts.specs.declared.Pins.{Pins}
use Rattle.device.specs.Device.{depth}
use Rattle.device.specs.Parts.{core_of}
use Rattle.device.specs.declared.Device.{Device}
use Rattle.device.specs.declared.parts.Core.{Core}
use Rattle.device.specs.declared.showing.Inside.{Inside}

-- what shows beside registers and channels: neither needs the FIFO's store
abbrev pub inside_in : Core → Inside
inside_in c = record { temperature = c.temperature; came = c.came; fifo = c.fifo; alarms = alarms_of c.detectors }

abbrev pub inside_of : Device → Inside
inside_of d = inside_in (core_of d)

-- what the statuses are made of; "the depth" is that of the mode in 0x3E
abbrev pub sources_of : List ℕ → Inside → Sources
sources_of regs s = record {
  count = count_at depth s.fifo;
  depth = depth_in depth (mode_of (get_or regs control_at 0));
  came = s.came;
  fell = s.alarms.low.status;
  hit = s.alarms.high.status;
  moved = s.alarms.motion.status;
  slow = s.alarms.slow.status;
}

abbrev pub statuses_in : List ℕ → Inside → Statuses
statuses_in regs s = statuses_of regs (sources_of regs s)

-- the byte of an address that is no data register: 0x08 to 0x0C and 0x0E as they are now, the others as stored
unfoldable pub shown_byte : Inside → List ℕ → ℕ → ℕ
shown_byte s regs a =
    -- "A sample sets .. 0x08"
    pick (eqb a 0x08) s.temperature
    (pick (eqb a 0x09) (status_byte 0x09 (statuses_in regs s))
    (pick (eqb a 0x0A) (status_byte 0x0A (statuses_in regs s))
    -- "0x0B bits 2:0 (z, y, x) mark the first over axis .., and bit 3 is 1 for a negative difference"
    (pick (eqb a 0x0B) (marks_of s.alarms.motion)
    -- Q-5: "High marks and the sample's sign sit in 0x0C bits 3:0"
    (pick (eqb a 0x0C) (marks_of s.alarms.high)
    -- "0x0E is overrun in bit 7, frame count in 6:0"
    (pick (eqb a 0x0E) (status_at depth s.fifo)
    (pick (ltb a 64) (get_or regs a 0) 0))))))

-- both pin levels
unfoldable pub pins_of : Device → Pins
pins_of d = pins_at (statuses_in d.regs (inside_of d)) d.regs

-- how many frames the FIFO holds: the frame count of 0x0E
abbrev pub held_in : Device → ℕ
held_in d = count_at depth d.fifo

-- the measuring range, by the byte of 0x0F
abbrev pub range_in : Device → Range
range_in d = range_of (get_or d.regs range_at 0)

-- the FIFO's mode, by the byte of 0x3E
abbrev pub mode_in : Device → Mode
mode_in d = mode_of (get_or d.regs control_at 0)

-- what would be stored of a sample, by the bytes of 0x0F and 0x38 to 0x3A
abbrev pub stored_in : Device → ℤ → ℤ → ℤ → Stored
stored_in d x y z = stored_by d.regs x y z
