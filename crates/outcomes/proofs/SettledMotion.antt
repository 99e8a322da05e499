-- Each public function of motion: its contract, as its source states it, asks nothing of a call and leaves one outcome.
-- Assumes nothing.
use mathlib.Core.Path.{refl}
use Rattle.laws.specs.Outcome.{Settled}
use Rattle.motion.specs.contracts.Settings.points_needed as points-needed
use Rattle.motion.specs.contracts.Motion.quiet as quiet
use Rattle.motion.specs.contracts.Motion.alarm as alarm
use Rattle.motion.specs.contracts.Motion.with_alarm as with-alarm
use Rattle.motion.specs.contracts.Motion.restart as restart
use Rattle.motion.specs.contracts.Motion.sample as sample
use Rattle.motion.specs.contracts.Motion.clock as clock
use Rattle.outcomes.proofs.Plain.{plain}

points-needed-settled : Settled points-needed.ended (λ M 𝓤. points-needed.clauses) (λ M 𝓤. points-needed.spec)
points-needed-settled = plain (λ κs a s s'. refl)

quiet-settled : Settled quiet.ended (λ M 𝓤. quiet.clauses) (λ M 𝓤. quiet.spec)
quiet-settled = plain (λ κs a s s'. refl)

alarm-settled : Settled alarm.ended (λ M 𝓤. alarm.clauses) (λ M 𝓤. alarm.spec)
alarm-settled = plain (λ κs a s s'. refl)

with-alarm-settled : Settled with-alarm.ended (λ M 𝓤. with-alarm.clauses) (λ M 𝓤. with-alarm.spec)
with-alarm-settled = plain (λ κs a s s'. refl)

restart-settled : Settled restart.ended (λ M 𝓤. restart.clauses) (λ M 𝓤. restart.spec)
restart-settled = plain (λ κs a s s'. refl)

sample-settled : Settled sample.ended (λ M 𝓤. sample.clauses) (λ M 𝓤. sample.spec)
sample-settled = plain (λ κs a s s'. refl)

clock-settled : Settled clock.ended (λ M 𝓤. clock.clauses) (λ M 𝓤. clock.spec)
clock-settled = plain (λ κs a s s'. refl)
