-- Each public function of device: its contract, as its source states it, asks nothing of a call and leaves one outcome.
-- Assumes nothing.
use Prim.Native.Nat.{ℕ}
use mathlib.Core.List.{List, []}
use mathlib.Core.Path.{◌≡◌, refl}
use Rattle.laws.specs.Outcome.{Settled}
use Rattle.laws.proofs.Outcome.{settles, meet}
use Rattle.device.specs.Device.{power_up}
use Rattle.device.specs.Parts.{core_of, answered_whole}
use Rattle.device.specs.declared.parts.CoreAnswered.{CoreAnswered}
use Rattle.device.specs.contracts.Device.power_up as power-up
use Rattle.device.specs.contracts.Device.write as write
use Rattle.device.specs.contracts.Device.read as read
use Rattle.device.specs.contracts.Device.sample as sample
use Rattle.device.specs.contracts.Device.start_cycle as start-cycle
use Rattle.device.specs.contracts.Device.clock as clock
use Rattle.device.specs.contracts.Device.pins as pins
use Rattle.device.specs.contracts.Device.held as held
use Rattle.device.specs.contracts.Device.range as range
use Rattle.device.specs.contracts.Device.mode as mode
use Rattle.device.specs.contracts.Device.core as core
use Rattle.device.specs.contracts.Device.registers as registers
use Rattle.device.specs.contracts.Device.frames as frames
use Rattle.device.specs.contracts.Device.of_parts as of_parts
use Rattle.device.specs.contracts.parts.Core.write as core-write
use Rattle.device.specs.contracts.parts.Core.read as core-read
use Rattle.device.specs.contracts.parts.Core.sample as core-sample
use Rattle.device.specs.contracts.parts.Core.start_cycle as core-start-cycle
use Rattle.device.specs.contracts.parts.Core.clock as core-clock
use Rattle.device.specs.contracts.parts.Core.pins as core-pins
use Rattle.device.specs.contracts.parts.Core.held as core-held
use Rattle.device.specs.contracts.parts.range_in as range-in
use Rattle.device.specs.contracts.parts.stored_in as stored-in
use Rattle.device.specs.contracts.parts.mode_in as mode-in
use Rattle.outcomes.proofs.Plain.{plain}

power-up-settled : Settled power-up.ended (λ M 𝓤. power-up.clauses) (λ M 𝓤. power-up.spec)
power-up-settled = plain (λ κs a s s'. refl)

write-settled : Settled write.ended (λ M 𝓤. write.clauses) (λ M 𝓤. write.spec)
write-settled = plain (λ κs a s s'. refl)

read-settled : Settled read.ended (λ M 𝓤. read.clauses) (λ M 𝓤. read.spec)
read-settled = settles (λ κs a r r' s s' p q. (meet p.0 q.0, λ i. (tt, (tt, (meet p.1 q.1 i, tt)))))

sample-settled : Settled sample.ended (λ M 𝓤. sample.clauses) (λ M 𝓤. sample.spec)
sample-settled = plain (λ κs a s s'. refl)

start-cycle-settled : Settled start-cycle.ended (λ M 𝓤. start-cycle.clauses) (λ M 𝓤. start-cycle.spec)
start-cycle-settled = plain (λ κs a s s'. refl)

clock-settled : Settled clock.ended (λ M 𝓤. clock.clauses) (λ M 𝓤. clock.spec)
clock-settled = plain (λ κs a s s'. refl)

pins-settled : Settled pins.ended (λ M 𝓤. pins.clauses) (λ M 𝓤. pins.spec)
pins-settled = plain (λ κs a s s'. refl)

held-settled : Settled held.ended (λ M 𝓤. held.clauses) (λ M 𝓤. held.spec)
held-settled = plain (λ κs a s s'. refl)

range-settled : Settled range.ended (λ M 𝓤. range.clauses) (λ M 𝓤. range.spec)
range-settled = plain (λ κs a s s'. refl)

mode-settled : Settled mode.ended (λ M 𝓤. mode.clauses) (λ M 𝓤. mode.spec)
mode-settled = plain (λ κs a s s'. refl)

core-settled : Settled core.ended (λ M 𝓤. core.clauses) (λ M 𝓤. core.spec)
core-settled = plain (λ κs a s s'. refl)

registers-settled : Settled registers.ended (λ M 𝓤. registers.clauses) (λ M 𝓤. registers.spec)
registers-settled = plain (λ κs a s s'. refl)

frames-settled : Settled frames.ended (λ M 𝓤. frames.clauses) (λ M 𝓤. frames.spec)
frames-settled = plain (λ κs a s s'. refl)

of-parts-settled : Settled of_parts.ended (λ M 𝓤. of_parts.clauses) (λ M 𝓤. of_parts.spec)
of-parts-settled = plain (λ κs a s s'. refl)

-- ---- the device in parts
-- what the answer and the device of the parts are, the answer and the core are
apart : {r r' : CoreAnswered} {regs regs' frames frames' : List ℕ} → answered_whole r regs frames ≡ answered_whole r' regs' frames' → r ≡ r'
apart e = λ i. record { answer = (e i).answer; core = core_of (e i).device }

core-write-settled : Settled core-write.ended (λ M 𝓤. core-write.clauses) (λ M 𝓤. core-write.spec)
core-write-settled = settles (λ κs a r r' s s' p q.
    let e : answered_whole r s.1.0 s.1.1.0 ≡ answered_whole r' s'.1.0 s'.1.1.0 = meet p q in
    (apart e, λ i. (tt, ((e i).device.regs, ((e i).device.frames, (tt, (tt, tt)))))))

core-read-settled : Settled core-read.ended (λ M 𝓤. core-read.clauses) (λ M 𝓤. core-read.spec)
core-read-settled = settles (λ κs a r r' s s' p q.
    let e : answered_whole r a.1.0.now s.1.1.0 ≡ answered_whole r' a.1.0.now s'.1.1.0 = meet p.0 q.0 in
    (apart e, λ i. (tt, (tt, ((e i).device.frames, (tt, (meet p.1 q.1 i, tt)))))))

core-sample-settled : Settled core-sample.ended (λ M 𝓤. core-sample.clauses) (λ M 𝓤. core-sample.spec)
core-sample-settled = settles (λ κs a r r' s s' p q.
    let e : answered_whole r a.1.0.now s.1.1.0 ≡ answered_whole r' a.1.0.now s'.1.1.0 = meet p q in
    (apart e, λ i. (tt, (tt, ((e i).device.frames, (tt, (tt, (tt, (tt, tt)))))))))

core-start-cycle-settled : Settled core-start-cycle.ended (λ M 𝓤. core-start-cycle.clauses) (λ M 𝓤. core-start-cycle.spec)
core-start-cycle-settled = settles (λ κs a r r' s s' p q. (apart (meet (p [] []) (q [] [])), refl))

core-clock-settled : Settled core-clock.ended (λ M 𝓤. core-clock.clauses) (λ M 𝓤. core-clock.spec)
core-clock-settled = settles (λ κs a r r' s s' p q. (apart (meet (p [] []) (q [] [])), refl))

core-pins-settled : Settled core-pins.ended (λ M 𝓤. core-pins.clauses) (λ M 𝓤. core-pins.spec)
core-pins-settled = settles (λ κs a r r' s s' p q. (meet (p []) (q []), refl))

core-held-settled : Settled core-held.ended (λ M 𝓤. core-held.clauses) (λ M 𝓤. core-held.spec)
core-held-settled = settles (λ κs a r r' s s' p q. (meet (p [] []) (q [] []), refl))

stored-in-settled : Settled stored-in.ended (λ M 𝓤. stored-in.clauses) (λ M 𝓤. stored-in.spec)
stored-in-settled = settles (λ κs a r r' s s' p q. (meet (p (core_of power_up) []) (q (core_of power_up) []), refl))

range-in-settled : Settled range-in.ended (λ M 𝓤. range-in.clauses) (λ M 𝓤. range-in.spec)
range-in-settled = settles (λ κs a r r' s s' p q. (meet (p (core_of power_up) []) (q (core_of power_up) []), refl))

mode-in-settled : Settled mode-in.ended (λ M 𝓤. mode-in.clauses) (λ M 𝓤. mode-in.spec)
mode-in-settled = settles (λ κs a r r' s s' p q. (meet (p (core_of power_up) []) (q (core_of power_up) []), refl))
