-- Each public function of slow: its contract, as its source states it, asks nothing of a call and leaves one outcome.
-- Assumes nothing.
use mathlib.Core.Path.{refl}
use Rattle.laws.specs.Outcome.{Settled}
use Rattle.slow.specs.contracts.Slow.quiet as quiet
use Rattle.slow.specs.contracts.Slow.alarm as alarm
use Rattle.slow.specs.contracts.Slow.restart as restart
use Rattle.slow.specs.contracts.Slow.clock as clock
use Rattle.slow.specs.contracts.Slow.sample as sample
use Rattle.outcomes.proofs.Plain.{plain}

quiet-settled : Settled quiet.ended (λ M 𝓤. quiet.clauses) (λ M 𝓤. quiet.spec)
quiet-settled = plain (λ κs a s s'. refl)

alarm-settled : Settled alarm.ended (λ M 𝓤. alarm.clauses) (λ M 𝓤. alarm.spec)
alarm-settled = plain (λ κs a s s'. refl)

restart-settled : Settled restart.ended (λ M 𝓤. restart.clauses) (λ M 𝓤. restart.spec)
restart-settled = plain (λ κs a s s'. refl)

clock-settled : Settled clock.ended (λ M 𝓤. clock.clauses) (λ M 𝓤. clock.spec)
clock-settled = plain (λ κs a s s'. refl)

sample-settled : Settled sample.ended (λ M 𝓤. sample.clauses) (λ M 𝓤. sample.spec)
sample-settled = plain (λ κs a s s'. refl)
