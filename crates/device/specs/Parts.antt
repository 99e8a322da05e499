-- The device in parts: its registers, its FIFO's store, and the rest, the core. Whoever keeps a device over many events keeps it so: the
-- core goes by value, and the two others are lent where they lie.
use Rattle.std.specs.Prelude.{ℕ, List}
use Rattle.device.specs.declared.Device.{Device}
use Rattle.device.specs.declared.Answered.{Answered}
use Rattle.device.specs.declared.parts.Core.{Core}
use Rattle.device.specs.declared.parts.CoreAnswered.{CoreAnswered}

abbrev pub core_of : Device → Core
core_of d = record { channels = d.channels; temperature = d.temperature; came = d.came; fifo = d.fifo; detectors = d.detectors }

abbrev pub registers_of : Device → List ℕ
registers_of d = d.regs

abbrev pub frames_of : Device → List ℕ
frames_of d = d.frames

-- the device of a core, registers and a store
abbrev pub whole : Core → List ℕ → List ℕ → Device
whole c regs frames =
    record { regs = regs; channels = c.channels; temperature = c.temperature; came = c.came; frames = frames; fifo = c.fifo; detectors = c.detectors }

-- an event's answer, and the device of the core after it, registers and a store
abbrev pub answered_whole : CoreAnswered → List ℕ → List ℕ → Answered
answered_whole r regs frames = record { answer = r.answer; device = whole r.core regs frames }
