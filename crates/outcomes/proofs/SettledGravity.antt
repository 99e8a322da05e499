-- Each public function of gravity: its contract, as its source states it, asks nothing of a call and leaves one outcome.
-- Assumes nothing.
use mathlib.Core.Path.{refl}
use Rattle.laws.specs.Outcome.{Settled}
use Rattle.gravity.specs.contracts.Gravity.quiet as quiet
use Rattle.gravity.specs.contracts.Gravity.low_alarm as low-alarm
use Rattle.gravity.specs.contracts.Gravity.high_alarm as high-alarm
use Rattle.gravity.specs.contracts.Gravity.restart as restart
use Rattle.gravity.specs.contracts.Gravity.clock as clock
use Rattle.gravity.specs.contracts.Gravity.sample as sample
use Rattle.outcomes.proofs.Plain.{plain}

quiet-settled : Settled quiet.ended (λ M 𝓤. quiet.clauses) (λ M 𝓤. quiet.spec)
quiet-settled = plain (λ κs a s s'. refl)

low-alarm-settled : Settled low-alarm.ended (λ M 𝓤. low-alarm.clauses) (λ M 𝓤. low-alarm.spec)
low-alarm-settled = plain (λ κs a s s'. refl)

high-alarm-settled : Settled high-alarm.ended (λ M 𝓤. high-alarm.clauses) (λ M 𝓤. high-alarm.spec)
high-alarm-settled = plain (λ κs a s s'. refl)

restart-settled : Settled restart.ended (λ M 𝓤. restart.clauses) (λ M 𝓤. restart.spec)
restart-settled = plain (λ κs a s s'. refl)

clock-settled : Settled clock.ended (λ M 𝓤. clock.clauses) (λ M 𝓤. clock.spec)
clock-settled = plain (λ κs a s s'. refl)

sample-settled : Settled sample.ended (λ M 𝓤. sample.clauses) (λ M 𝓤. sample.spec)
sample-settled = plain (λ κs a s s'. refl)
