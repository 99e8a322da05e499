-- What a write came to is told by exact contracts; what the program's own functions do around the calls is no other crate's to call.
-- Assumes nothing.
use mathlib.Core.Path.{refl}
use Rattle.laws.specs.Outcome.{Settled}
use Rattle.laws.proofs.Outcome.{settles, meet}
use Rattle.sheet.specs.contracts.handed.Printed.gathering as gathering
use Rattle.sheet.specs.contracts.handed.Printed.status as status

pub gathering-settled : Settled gathering.ended (λ M 𝓤. gathering.clauses) (λ M 𝓤. gathering.spec)
gathering-settled = settles (λ κs a r r' s s' p q. (meet p q, refl))

pub status-settled : Settled status.ended (λ M 𝓤. status.clauses) (λ M 𝓤. status.spec)
status-settled = settles (λ κs a r r' s s' p q. (meet p q, refl))
