-- What an event does to each part of the device: from that part, and from the registers (regs) before the event.
use Rattle.std.specs.Prelude.{ℕ, Bool, true, false, not, List, eqb, get_or}
use Rattle.laws.specs.Choice.{pick, both}
use Rattle.laws.specs.Bits.{bit}
use Rattle.codes.specs.Addresses.{shadow_at, control_at, frames_at}
use Rattle.codes.specs.Mode.{mode_of}
use Rattle.codes.specs.Axes.{axes_of}
use Rattle.channels.specs.Channels.{no_samples, sampled}
use Rattle.channels.specs.declared.Channels.{Channels}
use Rattle.fifo.specs.Flat.{Flat}
use Rattle.fifo.specs.Store.{emptied, pushed_at, readout_at}
use Rattle.detectors.specs.Detectors.{all_quiet, detectors_clocked, detectors_written}
use Rattle.detectors.specs.declared.Detectors.{Detectors}
use Rattle.registers.specs.Answers.{accepted}
use Rattle.registers.specs.Refused.{read_answer}
use Rattle.registers.specs.Deeds.{is_reset, judgement, clears}
use Rattle.device.specs.Device.{depth}
use Rattle.device.specs.Write.{channels_written}
use Rattle.device.specs.Read.{channels_read}
use Rattle.device.specs.Sample.{sample_answer, frame_of, stored_codes, detectors_stored}
use Rattle.events.specs.Event.{Event, power_up, write, read, sample, cycle, clock}

-- an accepted read of data channels, and one of the FIFO's frames
abbrev pub reads_below : ℕ → ℕ → Bool
reads_below a n = both (accepted (read_answer a n)) (not (eqb a frames_at))

abbrev pub reads_frames : ℕ → ℕ → Bool
reads_frames a n = both (accepted (read_answer a n)) (eqb a frames_at)

abbrev pub channels_next : List ℕ → Event → Channels → Channels
channels_next regs power_up c = no_samples
channels_next regs (write a byte) c = channels_written (judgement regs a byte).deeds c
channels_next regs (read a n) c = pick (reads_below a n) (channels_read (not (bit 6 (get_or regs shadow_at 0))) c a n) c
channels_next regs (sample x y z temperature) c = pick (accepted (sample_answer x y z)) (sampled (stored_codes regs x y z) c) c
channels_next regs cycle c = c
channels_next regs (clock us) c = c

abbrev pub temperature_next : Event → ℕ → ℕ
temperature_next power_up t = 0
temperature_next (write a byte) t = pick (is_reset a byte) 0 t
temperature_next (read a n) t = t
temperature_next (sample x y z temperature) t = pick (accepted (sample_answer x y z)) temperature t
temperature_next cycle t = t
temperature_next (clock us) t = t

abbrev pub came_next : Event → Bool → Bool
came_next power_up came = false
came_next (write a byte) came = pick (is_reset a byte) false came
came_next (read a n) came = came
came_next (sample x y z temperature) came = pick (accepted (sample_answer x y z)) true came
came_next cycle came = false
came_next (clock us) came = came

abbrev pub flat_next : List ℕ → Event → Flat → Flat
flat_next regs power_up f = emptied
flat_next regs (write a byte) f = pick (clears a byte) emptied f
flat_next regs (read a n) f = pick (reads_frames a n) (readout_at depth (axes_of (get_or regs control_at 0)) n f) f
flat_next regs (sample x y z temperature) f =
    let axes = axes_of (get_or regs control_at 0) in
    pick (accepted (sample_answer x y z)) (pushed_at depth (mode_of (get_or regs control_at 0)) axes (frame_of axes (stored_codes regs x y z)) f) f
flat_next regs cycle f = f
flat_next regs (clock us) f = f

abbrev pub detectors_next : List ℕ → Event → Detectors → Detectors
detectors_next regs power_up s = all_quiet
detectors_next regs (write a byte) s = detectors_written (judgement regs a byte).deeds s
detectors_next regs (read a n) s = s
detectors_next regs (sample x y z temperature) s = pick (accepted (sample_answer x y z)) (detectors_stored regs x y z s) s
detectors_next regs cycle s = s
detectors_next regs (clock us) s = detectors_clocked us s
