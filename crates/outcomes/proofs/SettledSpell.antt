-- Each public function of spell: its contract, as its source states it, asks nothing of a call and leaves one outcome.
-- Assumes nothing.
use mathlib.Core.Path.{refl}
use Rattle.laws.specs.Outcome.{Settled}
use Rattle.spell.specs.contracts.Stopwatch.stopped as stopped
use Rattle.spell.specs.contracts.Stopwatch.started as started
use Rattle.spell.specs.contracts.Stopwatch.clock as stopwatch-clock
use Rattle.spell.specs.contracts.Stopwatch.going_on as going-on
use Rattle.spell.specs.contracts.Stopwatch.has_reached as has-reached
use Rattle.spell.specs.contracts.Spell.quiet as quiet
use Rattle.spell.specs.contracts.Spell.restart as restart
use Rattle.spell.specs.contracts.Spell.clock as clock
use Rattle.spell.specs.contracts.Spell.sample as sample
use Rattle.outcomes.proofs.Plain.{plain}

stopped-settled : Settled stopped.ended (λ M 𝓤. stopped.clauses) (λ M 𝓤. stopped.spec)
stopped-settled = plain (λ κs a s s'. refl)

started-settled : Settled started.ended (λ M 𝓤. started.clauses) (λ M 𝓤. started.spec)
started-settled = plain (λ κs a s s'. refl)

stopwatch-clock-settled : Settled stopwatch-clock.ended (λ M 𝓤. stopwatch-clock.clauses) (λ M 𝓤. stopwatch-clock.spec)
stopwatch-clock-settled = plain (λ κs a s s'. refl)

going-on-settled : Settled going-on.ended (λ M 𝓤. going-on.clauses) (λ M 𝓤. going-on.spec)
going-on-settled = plain (λ κs a s s'. refl)

has-reached-settled : Settled has-reached.ended (λ M 𝓤. has-reached.clauses) (λ M 𝓤. has-reached.spec)
has-reached-settled = plain (λ κs a s s'. refl)

quiet-settled : Settled quiet.ended (λ M 𝓤. quiet.clauses) (λ M 𝓤. quiet.spec)
quiet-settled = plain (λ κs a s s'. refl)

restart-settled : Settled restart.ended (λ M 𝓤. restart.clauses) (λ M 𝓤. restart.spec)
restart-settled = plain (λ κs a s s'. refl)

clock-settled : Settled clock.ended (λ M 𝓤. clock.clauses) (λ M 𝓤. clock.spec)
clock-settled = plain (λ κs a s s'. refl)

sample-settled : Settled sample.ended (λ M 𝓤. sample.clauses) (λ M 𝓤. sample.spec)
sample-settled = plain (λ κs a s s'. refl)
