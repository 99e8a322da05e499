-- 01, "one thin entry that borrows the harness's own record and updates it for one event".
use Rattle.std.specs.Prelude.{ℕ, ◌+◌, ◌*◌, List, [], ◌∷◌, ℤ}
use Rattle.std.proofs.Math.Option.{Option, some, none}
use denote.Memory.{lone}
use mir.Syntax.{Ty, tcons, tnil, ty_struct, ty_array, ty_int, w8}
use Rattle.laws.specs.Keys.{Key, ◌means◌, meaning_of}
use Rattle.registers.specs.Answers.{number}
use Rattle.interrupts.specs.declared.Level.{Level}
use Rattle.interrupts.specs.declared.Level.TheVariants.{Low, High, Released}
use Rattle.device.specs.Show.{pins_of}
use Rattle.fifo.specs.Store.{room}
use Rattle.device.specs.contracts.parts.Core as core
use Rattle.device.specs.Parts.{whole}
use Rattle.device.specs.declared.Device.{Device}
use Rattle.device.specs.declared.Answered.{Answered}
use Rattle.events.specs.Event.{Event, write, read, sample, cycle, clock, happens, lent_by}
use Rattle.benchlog.specs.Answers.{refusal_number}
use Rattle.benchlog.specs.Format.{write_kind, read_kind, sample_kind, cycle_kind, clock_kind}
use Rattle.benchlog.specs.declared.Refusal.TheVariants.{WrongRecord}
use Rattle.twin.specs.declared.Harness.{Harness}
use Rattle.twin.specs.declared.Stepped.{Stepped}

-- "the harness's own record" is a device in parts: the device that it is
abbrev pub device_in : Harness → Device
device_in h = whole h.core h.regs h.frames

-- how it lies in memory: registers, core and store, one after another
abbrev pub harness_type : Ty
harness_type = ty_struct [] (tcons (ty_array (ty_int w8) 64) (tcons (lone (core.the_row).mir) (tcons (ty_array (ty_int w8) room) tnil)))

-- "1 write (address, byte; ..), 2 read (address, count; ..), 3 sample (x, y, z .., temperature; ..), 4 cycle start", and Q-4: "Add a
-- clock event with a 32-bit count of microseconds to the device, and log kind 5": the event of a kind, an address, a byte, which is
-- the temperature of a sample, x, y, z, the count of bytes to read, and the microseconds. Any other kind has none.
abbrev pub kinds : ℕ → ℕ → ℤ → ℤ → ℤ → ℕ → ℕ → List (Key (Option Event))
kinds address byte x y z count us =
    write_kind means some (write address byte)
    ∷ read_kind means some (read address count)
    ∷ sample_kind means some (sample x y z byte)
    ∷ cycle_kind means some cycle
    ∷ clock_kind means some (clock us)
    ∷ []

unfoldable pub asked : ℕ → ℕ → ℕ → ℤ → ℤ → ℤ → ℕ → ℕ → Option Event
asked kind address byte x y z count us = meaning_of (kinds address byte x y z count us) none kind

-- an event's answer by its number, and the device after it
pub record Numbered : Type 0 where
  pub number : ℕ
  pub device : Device

abbrev pub numbered_of : Answered → Numbered
numbered_of done = record { number = number done.answer; device = done.device }

-- the same of a core after it, with registers and a store
abbrev pub stepped_whole : Stepped → List ℕ → List ℕ → Numbered
stepped_whole r regs frames = record { number = r.number; device = whole r.core regs frames }

-- what is asked for, done; without an event 8, "record length or kind wrong", and the device as it was
abbrev pub step_of : Device → Option Event → Numbered
step_of d (some e) = numbered_of (happens d e)
step_of d none = record { number = refusal_number WrongRecord; device = d }

-- the lent buffer after it
abbrev pub lent_at : Device → Option Event → List ℕ → List ℕ
lent_at d (some e) buffer = lent_by d e buffer
lent_at d none buffer = buffer

-- "A pin is low, high or released"
abbrev pub level_code : Level → ℕ
level_code Low = 0
level_code High = 1
level_code Released = 2

-- both pin levels in one byte
unfoldable pub pins_code : Device → ℕ
pins_code d = level_code (pins_of d).int1 + 4 * level_code (pins_of d).int2
