-- A sample, and the start of an acquisition cycle.
use Rattle.std.specs.Prelude.{ℕ, true, false, not, List, [], ◌∷◌, ℤ, Err}
use Rattle.laws.specs.Choice.{pick, either}
use Rattle.laws.specs.Refusals.{AnswerRow, row, first}
use Rattle.codes.specs.Addresses.{control_at}
use Rattle.codes.specs.Mode.{mode_of}
use Rattle.codes.specs.Axes.{axes_of}
use Rattle.codes.specs.declared.Axes.{Axes}
use Rattle.codes.specs.declared.Axes.TheVariants.{All, X, Y, Z}
use Rattle.channels.specs.Codes.{in_range, codes, lsb_of, msb_of}
use Rattle.channels.specs.Channels.{sampled}
use Rattle.channels.specs.declared.Codes.{Codes}
use Rattle.fifo.specs.Flat.{Flat, numbers_of}
use Rattle.fifo.specs.Store.{pushed_at}
use Rattle.offsets.specs.Offsets.{stored_by}
use Rattle.detectors.specs.Detectors.{detectors_sampled}
use Rattle.detectors.specs.declared.Detectors.{Detectors}
use Rattle.registers.specs.Answers.{Answer, done, accepted}
use Rattle.registers.specs.declared.Refusal.TheVariants.{OutOfRange}
use Rattle.device.specs.Device.{depth, reg, flat_of, with_came}
use Rattle.device.specs.declared.Device.{Device}
use Rattle.device.specs.declared.Answered.{Answered}

-- 4, "x, y or z outside -2048..2047"; Q-7: "4 still tests the given sample"
abbrev pub sample_rows : ℤ → ℤ → ℤ → List (AnswerRow Answer)
sample_rows x y z = row (Err OutOfRange) (either (not (in_range x)) (either (not (in_range y)) (not (in_range z)))) ∷ []

unfoldable pub sample_answer : ℤ → ℤ → ℤ → Answer
sample_answer x y z = first done (sample_rows x y z)

-- "LSB then MSB, new-data bit 1", and zeros behind
abbrev pub one_axis : ℕ → List ℕ
one_axis c = lsb_of true c ∷ msb_of c ∷ 0 ∷ 0 ∷ 0 ∷ 0 ∷ []

abbrev pub all_axes : Codes → List ℕ
all_axes k = lsb_of true k.x ∷ msb_of k.x ∷ lsb_of true k.y ∷ msb_of k.y ∷ lsb_of true k.z ∷ msb_of k.z ∷ []

-- "An accepted sample becomes a frame of the selected axes in x, y, z order"
abbrev pub frame_of : Axes → Codes → List ℕ
frame_of All k = all_axes k
frame_of X k = one_axis k.x
frame_of Y k = one_axis k.y
frame_of Z k = one_axis k.z

-- Q-7: "Channels, FIFO and detectors all see the stored sample". The bits of what is stored of a sample, by the bytes that the registers hold
abbrev pub stored_codes : List ℕ → ℤ → ℤ → ℤ → Codes
stored_codes regs x y z = let s = stored_by regs x y z in codes s.x s.y s.z

-- the detectors after an accepted sample
abbrev pub detectors_stored : List ℕ → ℤ → ℤ → ℤ → Detectors → Detectors
detectors_stored regs x y z d = let s = stored_by regs x y z in detectors_sampled regs s.x s.y s.z d

-- the FIFO after an accepted sample's frame came
abbrev pub flat_sampled : Codes → Device → Flat
flat_sampled k d = let axes = axes_of (reg d control_at) in pushed_at depth (mode_of (reg d control_at)) axes (frame_of axes k) (flat_of d)

-- an accepted sample: "A sample sets all three new-data bits and 0x08"
unfoldable pub after_accepted : ℤ → ℤ → ℤ → ℕ → Device → Device
after_accepted x y z temperature d = record {
  regs = d.regs;
  channels = sampled (stored_codes d.regs x y z) d.channels;
  temperature = temperature;
  came = true;
  frames = (flat_sampled (stored_codes d.regs x y z) d).bytes;
  fifo = numbers_of (flat_sampled (stored_codes d.regs x y z) d);
  detectors = detectors_stored d.regs x y z d.detectors;
}

unfoldable pub sample_of : Device → ℤ → ℤ → ℤ → ℕ → Answered
sample_of d x y z temperature = record {
  answer = sample_answer x y z;
  device = pick (accepted (sample_answer x y z)) (after_accepted x y z temperature d) d;
}

-- "since the last cycle start"
unfoldable pub cycle_of : Device → Answered
cycle_of d = record { answer = done; device = with_came d false }
