-- 01, "Register table": what 0x00 to 0x3F store after the events, by the definitions that the contracts of a write cite. In 01's own words, by
-- looking back on the events alone, paper/specs/Stored: byte_by says it, and paper/proofs/Stored: stored-is that both are the same.
use Rattle.std.specs.Prelude.{ℕ, List, [], ◌∷◌, get_or}
use Rattle.registers.specs.Deeds.{judgement}
use Rattle.device.specs.Device.{first_bytes}
use Rattle.device.specs.Write.{regs_written}
use Rattle.events.specs.Event.{Event, power_up, write, read, sample, cycle, clock}

-- the registers after an event, from the registers before it: only power-up and a write touch them
abbrev pub bank_next : List ℕ → Event → List ℕ
bank_next regs power_up = first_bytes
bank_next regs (write a byte) = let j = judgement regs a byte in regs_written j.deeds a j.stored regs
bank_next regs (read a n) = regs
bank_next regs (sample x y z temperature) = regs
bank_next regs cycle = regs
bank_next regs (clock us) = regs

-- the registers after a history, whose latest event stands first
unfoldable pub bank : List Event → List ℕ
bank [] = first_bytes
bank (e ∷ es) = bank_next (bank es) e

-- the byte of one of them
abbrev pub stored : List Event → ℕ → ℕ
stored es a = get_or (bank es) a 0
