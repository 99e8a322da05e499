-- Each public function of detectors: its contract, as its source states it, asks nothing of a call and leaves one outcome.
-- Assumes nothing.
use mathlib.Core.Path.{refl}
use Rattle.laws.specs.Outcome.{Settled}
use Rattle.detectors.specs.contracts.Detectors.quiet as quiet
use Rattle.detectors.specs.contracts.Detectors.alarms as alarms
use Rattle.detectors.specs.contracts.Detectors.sample as sample
use Rattle.detectors.specs.contracts.Detectors.clock as clock
use Rattle.detectors.specs.contracts.Detectors.after_write as after_write
use Rattle.outcomes.proofs.Plain.{plain}

quiet-settled : Settled quiet.ended (λ M 𝓤. quiet.clauses) (λ M 𝓤. quiet.spec)
quiet-settled = plain (λ κs a s s'. refl)

alarms-settled : Settled alarms.ended (λ M 𝓤. alarms.clauses) (λ M 𝓤. alarms.spec)
alarms-settled = plain (λ κs a s s'. refl)

sample-settled : Settled sample.ended (λ M 𝓤. sample.clauses) (λ M 𝓤. sample.spec)
sample-settled = plain (λ κs a s s'. refl)

clock-settled : Settled clock.ended (λ M 𝓤. clock.clauses) (λ M 𝓤. clock.spec)
clock-settled = plain (λ κs a s s'. refl)

after-write-settled : Settled after_write.ended (λ M 𝓤. after_write.clauses) (λ M 𝓤. after_write.spec)
after-write-settled = plain (λ κs a s s'. refl)
