-- Each public function's contract, as its source states it, asks nothing of a call and leaves one outcome; but the pump's (docs/LOOSER.md).
-- Assumes nothing.
use mathlib.Core.Path.{refl}
use Rattle.laws.specs.Outcome.{Settled}
use Rattle.laws.proofs.Outcome.{settles, meet}
use Rattle.stream.specs.contracts.status_of as status-of
use Rattle.stream.specs.contracts.U8FromStatus.from as status-number
use Rattle.stream.specs.contracts.handed.Delivered.is_whole as is_whole

pub status-of-settled : Settled status-of.ended (λ M 𝓤. status-of.clauses) (λ M 𝓤. status-of.spec)
status-of-settled = settles (λ κs a r r' s s' p q. (meet p q, refl))

pub status-number-settled : Settled status-number.ended (λ M 𝓤. status-number.clauses) (λ M 𝓤. status-number.spec)
status-number-settled = settles (λ κs a r r' s s' p q. (meet p q, refl))

pub is-whole-settled : Settled is_whole.ended (λ M 𝓤. is_whole.clauses) (λ M 𝓤. is_whole.spec)
is-whole-settled = settles (λ κs a r r' s s' p q. (meet p q, refl))
