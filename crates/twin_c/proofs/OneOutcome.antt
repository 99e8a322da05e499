-- Each exported function's contract, as its source states it, asks nothing of a call and leaves one outcome.
-- Assumes nothing.
use mathlib.Core.Path.{refl}
use Rattle.device.specs.declared.Device.{Device}
use Rattle.device.specs.Parts.{core_of, registers_of, frames_of}
use Rattle.twin.specs.declared.Harness.{Harness}
use Rattle.laws.specs.Outcome.{Settled}
use Rattle.laws.proofs.Outcome.{settles, meet}
use Rattle.twin_c.specs.contracts.twin_4_proved_event as twin-4-proved-event
use Rattle.twin_c.specs.contracts.twin_4_proved_power_up as twin-4-proved-power-up
use Rattle.twin_c.specs.contracts.twin_4_proved_pins as twin-4-proved-pins
use Rattle.twin_c.specs.contracts.twin_4_proved_size as twin-4-proved-size
use Rattle.twin_c.specs.contracts.twin_4_proved_alignment as twin-4-proved-alignment

-- the record whose device it is
abbrev parted : Device → Harness
parted d = record { regs = registers_of d; core = core_of d; frames = frames_of d }

pub twin-4-proved-event-settled : Settled twin-4-proved-event.ended (λ M 𝓤. twin-4-proved-event.clauses) (λ M 𝓤. twin-4-proved-event.spec)
twin-4-proved-event-settled = settles (λ κs a r r' s s' p q. (meet p.0 q.0, λ i. (parted (meet p.1 q.1 i), (tt, (tt, (tt, (tt, (tt, (tt, (meet p.2 q.2 i, (tt, tt)))))))))))

pub twin-4-proved-power-up-settled : Settled twin-4-proved-power-up.ended (λ M 𝓤. twin-4-proved-power-up.clauses) (λ M 𝓤. twin-4-proved-power-up.spec)
twin-4-proved-power-up-settled = settles (λ κs a r r' s s' p q. (refl, λ i. (parted (meet p q i), tt)))

pub twin-4-proved-pins-settled : Settled twin-4-proved-pins.ended (λ M 𝓤. twin-4-proved-pins.clauses) (λ M 𝓤. twin-4-proved-pins.spec)
twin-4-proved-pins-settled = settles (λ κs a r r' s s' p q. (meet p q, refl))

pub twin-4-proved-size-settled : Settled twin-4-proved-size.ended (λ M 𝓤. twin-4-proved-size.clauses) (λ M 𝓤. twin-4-proved-size.spec)
twin-4-proved-size-settled = settles (λ κs a r r' s s' p q. (meet p q, refl))

pub twin-4-proved-alignment-settled : Settled twin-4-proved-alignment.ended (λ M 𝓤. twin-4-proved-alignment.clauses) (λ M 𝓤. twin-4-proved-alignment.spec)
twin-4-proved-alignment-settled = settles (λ κs a r r' s s' p q. (meet p q, refl))
