-- Each public function's contract, as its source states it, asks nothing of a call and leaves one outcome; but refill's (docs/LOOSER.md).
-- Assumes nothing.
use mathlib.Core.Path.{refl}
use Rattle.laws.specs.Outcome.{Settled}
use Rattle.laws.proofs.Outcome.{settles, meet}
use Rattle.window.specs.contracts.Window.start as start
use Rattle.window.specs.contracts.Window.past as past
use Rattle.window.specs.contracts.given.Got.count as count

pub start-settled : Settled start.ended (λ M 𝓤. start.clauses) (λ M 𝓤. start.spec)
start-settled = settles (λ κs a r r' s s' p q. (meet p q, refl))

pub past-settled : Settled past.ended (λ M 𝓤. past.clauses) (λ M 𝓤. past.spec)
past-settled = settles (λ κs a r r' s s' p q. (meet p q, refl))

pub count-settled : Settled count.ended (λ M 𝓤. count.clauses) (λ M 𝓤. count.spec)
count-settled = settles (λ κs a r r' s s' p q. (meet p q, refl))
