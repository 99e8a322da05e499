-- The contracts of the entry's functions, as the toolchain reads them from the source, are those that the runs are made of.
-- Assumes nothing.
use mathlib.Core.Path.{◌≡◌, refl}
use contract.Lifetimes.{Lfts}
use denote.Triple.Clauses.{AtExit}
use denote.Triple.Entry.{Args, Res}
use Rattle.laws.specs.Outcome.{SourceClauses, promised}
use Rattle.device.specs.Device as device
use Rattle.twin.specs.Entry.{device_in, pins_code}
use Rattle.twin.specs.contracts.twin_4_proved_event as twin-event
use Rattle.twin.specs.contracts.twin_4_proved_power_up as twin-power-up
use Rattle.twin.specs.contracts.twin_4_proved_pins as twin-pins
use Rattle.calls.specs.Calls.{Handed, Seen, Leaves}

-- the arguments of twin_event beside the record, and what its caller sees at its exit
abbrev pub handed_by : (κs : Lfts 2) → Args twin-event.signature κs → Handed
handed_by κs a = record {
  kind = a.1.0;
  address = a.1.1.0;
  byte = a.1.1.1.0;
  x = a.1.1.1.1.0;
  y = a.1.1.1.1.1.0;
  z = a.1.1.1.1.1.1.0;
  buffer = a.1.1.1.1.1.1.1.0.now;
  microseconds = a.1.1.1.1.1.1.1.1.0;
}

abbrev pub seen_at : (κs : Lfts 2) → Res twin-event.signature κs → AtExit twin-event.ended κs → Seen
seen_at κs r e = record { number = r; buffer = e.1.1.1.1.1.1.1.0.now }

pub event-contract : ◌≡◌ {A = SourceClauses twin-event.ended} (λ M 𝓤. twin-event.clauses)
    (promised twin-event.ended (λ κs a r e. Leaves (device_in a.0.now) (handed_by κs a) (seen_at κs r e) (device_in e.0.now)))
event-contract = refl

pub power-up-contract : ◌≡◌ {A = SourceClauses twin-power-up.ended} (λ M 𝓤. twin-power-up.clauses) (promised twin-power-up.ended (λ κs a r e. device_in e.0.now ≡ device.power_up))
power-up-contract = refl

pub pins-contract : ◌≡◌ {A = SourceClauses twin-pins.ended} (λ M 𝓤. twin-pins.clauses) (promised twin-pins.ended (λ κs a r e. r ≡ pins_code (device_in a.0.now)))
pins-contract = refl
