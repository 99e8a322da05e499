-- 01, "What the twin covers": the events, and what happens at one.
use Rattle.std.specs.Prelude.{ℕ, List, [], ℤ}
use Rattle.laws.specs.Choice.{pick}
use Rattle.registers.specs.Answers.{done, number, accepted}
use Rattle.registers.specs.Refused.{read_answer}
use Rattle.device.specs.Device as device
use Rattle.device.specs.Write.{write_of}
use Rattle.device.specs.Read.{read_of, burst_bytes, buffer_after}
use Rattle.device.specs.Sample.{sample_of, cycle_of}
use Rattle.device.specs.Clock.{clock_of}
use Rattle.device.specs.declared.Device.{Device}
use Rattle.device.specs.declared.Answered.{Answered}

-- "Five things act on it: power-up, a register write, a burst read into a lent buffer, a sample (x, y, z and temperature) and the
-- start of an acquisition cycle"; and by Q-4 "a clock event with a 32-bit count of microseconds"
pub data Event : Type 0 where
  power_up : Event
  -- an address and a byte
  write : ℕ → ℕ → Event
  -- an address and a length
  read : ℕ → ℕ → Event
  -- x, y, z and the temperature
  sample : ℤ → ℤ → ℤ → ℕ → Event
  cycle : Event
  -- microseconds
  clock : ℕ → Event

-- an event, as the device's contracts have it
abbrev pub happens : Device → Event → Answered
happens d power_up = record { answer = done; device = device.power_up }
happens d (write a byte) = write_of d a byte
happens d (read a n) = read_of d a n
happens d (sample x y z temperature) = sample_of d x y z temperature
happens d cycle = cycle_of d
happens d (clock us) = clock_of d us

-- the bytes of an accepted read
abbrev pub bytes_at : Device → Event → List ℕ
bytes_at d power_up = []
bytes_at d (write a byte) = []
bytes_at d (read a n) = pick (accepted (read_answer a n)) (burst_bytes d a n) []
bytes_at d (sample x y z temperature) = []
bytes_at d cycle = []
bytes_at d (clock us) = []

-- the lent buffer after an event: only a read writes there
abbrev pub lent_by : Device → Event → List ℕ → List ℕ
lent_by d power_up buffer = buffer
lent_by d (write address byte) buffer = buffer
lent_by d (read address count) buffer = buffer_after d address buffer
lent_by d (sample x y z temperature) buffer = buffer
lent_by d cycle buffer = buffer
lent_by d (clock us) buffer = buffer

-- what an event gives: its number, and the bytes of an accepted read
pub record Given : Type 0 where
  pub number : ℕ
  pub bytes : List ℕ

abbrev pub gives : Device → Event → Given
gives d e = record { number = number (happens d e).answer; bytes = bytes_at d e }

-- a number and no bytes, and the bytes of an accepted read
abbrev pub answer : ℕ → Given
answer n = record { number = n; bytes = [] }

abbrev pub bytes : List ℕ → Given
bytes bs = record { number = 0; bytes = bs }
