-- Q-4: "Add a clock event with a 32-bit count of microseconds to the device".
use Rattle.std.specs.Prelude.{ℕ}
use Rattle.detectors.specs.Detectors.{detectors_clocked}
use Rattle.registers.specs.Answers.{done}
use Rattle.device.specs.declared.Device.{Device}
use Rattle.device.specs.declared.Answered.{Answered}

-- a clock of us microseconds: it touches the detectors alone, neither the data bit nor the FIFO
abbrev pub clocked : ℕ → Device → Device
clocked us d = record {
  regs = d.regs;
  channels = d.channels;
  temperature = d.temperature;
  came = d.came;
  frames = d.frames;
  fifo = d.fifo;
  detectors = detectors_clocked us d.detectors;
}

unfoldable pub clock_of : Device → ℕ → Answered
clock_of d us = record { answer = done; device = clocked us d }
