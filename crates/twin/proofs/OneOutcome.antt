-- Each public function's contract, as its source states it, asks nothing of a call and leaves one outcome.
-- Assumes nothing.
use mathlib.Core.List.{[]}
use mathlib.Core.Path.{◌≡◌, refl}
use Rattle.device.specs.declared.Device.{Device}
use Rattle.device.specs.Parts.{core_of, registers_of, frames_of}
use Rattle.twin.specs.declared.Harness.{Harness}
use Rattle.twin.specs.Entry.{stepped_whole}
use Rattle.laws.specs.Outcome.{Settled}
use Rattle.laws.proofs.Outcome.{settles, meet}
use Rattle.twin.specs.contracts.step as step
use Rattle.twin.specs.contracts.pins_code as pins-code
use Rattle.twin.specs.contracts.twin_4_proved_event as twin-4-proved-event
use Rattle.twin.specs.contracts.twin_4_proved_power_up as twin-4-proved-power-up
use Rattle.twin.specs.contracts.twin_4_proved_pins as twin-4-proved-pins
use Rattle.twin.specs.contracts.twin_4_proved_size as twin-4-proved-size
use Rattle.twin.specs.contracts.twin_4_proved_alignment as twin-4-proved-alignment

-- the record whose device it is
abbrev parted : Device → Harness
parted d = record { regs = registers_of d; core = core_of d; frames = frames_of d }

pub step-settled : Settled step.ended (λ M 𝓤. step.clauses) (λ M 𝓤. step.spec)
step-settled = settles (λ κs a r r' s s' p q.
    let e : stepped_whole r s.1.0 s.1.1.0 ≡ stepped_whole r' s'.1.0 s'.1.1.0 = meet p.0 q.0 in (
      λ i. record { number = (e i).number; core = core_of (e i).device },
      λ i. (tt, (registers_of (e i).device, (frames_of (e i).device, (tt, (tt, (tt, (tt, (tt, (tt, (meet p.1 q.1 i, (tt, tt))))))))))),
    ))

pub pins-code-settled : Settled pins-code.ended (λ M 𝓤. pins-code.clauses) (λ M 𝓤. pins-code.spec)
pins-code-settled = settles (λ κs a r r' s s' p q. (meet (p []) (q []), refl))

pub twin-4-proved-event-settled : Settled twin-4-proved-event.ended (λ M 𝓤. twin-4-proved-event.clauses) (λ M 𝓤. twin-4-proved-event.spec)
twin-4-proved-event-settled = settles (λ κs a r r' s s' p q. (meet p.0 q.0, λ i. (parted (meet p.1 q.1 i), (tt, (tt, (tt, (tt, (tt, (tt, (meet p.2 q.2 i, (tt, tt)))))))))))

pub twin-4-proved-power-up-settled : Settled twin-4-proved-power-up.ended (λ M 𝓤. twin-4-proved-power-up.clauses) (λ M 𝓤. twin-4-proved-power-up.spec)
twin-4-proved-power-up-settled = settles (λ κs a r r' s s' p q. (refl, λ i. (parted (meet p q i), tt)))

pub twin-4-proved-pins-settled : Settled twin-4-proved-pins.ended (λ M 𝓤. twin-4-proved-pins.clauses) (λ M 𝓤. twin-4-proved-pins.spec)
twin-4-proved-pins-settled = settles (λ κs a r r' s s' p q. (meet p q, refl))

pub twin-4-proved-size-settled : Settled twin-4-proved-size.ended (λ M 𝓤. twin-4-proved-size.clauses) (λ M 𝓤. twin-4-proved-size.spec)
twin-4-proved-size-settled = settles (λ κs a r r' s s' p q. (meet p q, refl))

pub twin-4-proved-alignment-settled : Settled twin-4-proved-alignment.ended (λ M 𝓤. twin-4-proved-alignment.clauses) (λ M 𝓤. twin-4-proved-alignment.spec)
twin-4-proved-alignment-settled = settles (λ κs a r r' s s' p q. (meet p q, refl))
