-- An event changes each part of the device by that part and the registers alone, and a refused one changes none.
-- Assumes nothing.
use mathlib.Core.Bool.{Bool, true, false, not}
use mathlib.Core.Path.{◌≡◌, refl, ap}
use lib.Dec.{eqb}
use Rattle.laws.specs.Choice.{pick, both}
use Rattle.codes.specs.Addresses.{frames_at}
use Rattle.fifo.specs.Flat.{numbers_of}
use Rattle.registers.specs.Answers.{accepted}
use Rattle.registers.specs.Refused.{read_answer}
use Rattle.registers.specs.Deeds.{judgement}
use Rattle.registers.proofs.Verdicts.{resets-is, empties-is}
use Rattle.device.specs.Device as device
use Rattle.device.specs.Device.{flat_of, with_channels}
use Rattle.device.specs.Write.{write_of, written}
use Rattle.device.specs.Read.{locks, channels_read, after_readout, read_of}
use Rattle.device.specs.Sample.{sample_answer, sample_of, after_accepted, cycle_of}
use Rattle.device.specs.Clock.{clock_of}
use Rattle.device.specs.declared.Device.{Device}
use Rattle.device.proofs.Laws.{write-refused, after_is}
use Rattle.events.specs.Event.{Event, power_up, write, read, sample, cycle, clock, happens}
use Rattle.events.specs.Run.{next}
use Rattle.events.specs.Bank.{bank_next}
use Rattle.events.specs.Parts.{channels_next, temperature_next, came_next, flat_next, detectors_next}

-- the device after an event, part by part
abbrev pub by_parts : Device → Event → Device
by_parts d e = record {
  regs = bank_next d.regs e;
  channels = channels_next d.regs e d.channels;
  temperature = temperature_next e d.temperature;
  came = came_next e d.came;
  frames = (flat_next d.regs e (flat_of d)).bytes;
  fifo = numbers_of (flat_next d.regs e (flat_of d));
  detectors = detectors_next d.regs e d.detectors;
}

pub by_parts_lem : (d : Device) (e : Event) → next d e ≡ by_parts d e
unfolding device.power_up write_of written read_of sample_of after_accepted cycle_of clock_of
by_parts_lem d power_up = refl
by_parts_lem d (write a byte) = rw (resets-is d.regs a byte, empties-is d.regs a byte)
by_parts_lem d (read a n) = rw after_is (go (accepted (read_answer a n)) (eqb a frames_at))
  where
    go : (t s : Bool)
        → pick t (pick s (after_readout d n) (with_channels d (channels_read (locks d) d.channels a n))) d
        ≡ record {
          regs = d.regs;
          channels = pick (both t (not s)) (channels_read (locks d) d.channels a n) d.channels;
          temperature = d.temperature;
          came = d.came;
          frames = (pick (both t s) (flat_of (after_readout d n)) (flat_of d)).bytes;
          fifo = numbers_of (pick (both t s) (flat_of (after_readout d n)) (flat_of d));
          detectors = d.detectors;
        }
    go true true = refl
    go true false = refl
    go false s = refl
by_parts_lem d (sample x y z t) = go (accepted (sample_answer x y z))
  where
    new : Device
    new = after_accepted x y z t d

    go : (ok : Bool)
        → pick ok new d
        ≡ record {
          regs = d.regs;
          channels = pick ok new.channels d.channels;
          temperature = pick ok t d.temperature;
          came = pick ok true d.came;
          frames = (pick ok (flat_of new) (flat_of d)).bytes;
          fifo = numbers_of (pick ok (flat_of new) (flat_of d));
          detectors = pick ok new.detectors d.detectors;
        }
    go true = refl
    go false = refl
by_parts_lem d cycle = refl
by_parts_lem d (clock us) = refl

module _ (d : Device) (e : Event) where
  pub regs-next : (next d e).regs ≡ bank_next d.regs e
  regs-next = ap (λ (s : Device). s.regs) (by_parts_lem d e)

  pub channels-next : (next d e).channels ≡ channels_next d.regs e d.channels
  channels-next = ap (λ (s : Device). s.channels) (by_parts_lem d e)

  pub flat-next : flat_of (next d e) ≡ flat_next d.regs e (flat_of d)
  flat-next = ap flat_of (by_parts_lem d e)

  pub detectors-next : (next d e).detectors ≡ detectors_next d.regs e d.detectors
  detectors-next = ap (λ (s : Device). s.detectors) (by_parts_lem d e)

-- "None" of 01's column Effect
pub refused : (d : Device) (e : Event) → accepted (happens d e).answer ≡ false → next d e ≡ d
unfolding write_of read_of sample_of judgement cycle_of clock_of
refused d power_up h = cc
refused d (write a byte) h = write-refused d a byte h
refused d (read a n) h = rw h
refused d (sample x y z t) h = rw h
refused d cycle h = cc
refused d (clock us) h = cc
