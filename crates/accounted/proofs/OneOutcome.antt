-- Each public function's contract, as its source states it, asks nothing of a call and leaves one outcome.
-- Assumes nothing.
use mathlib.Core.Path.{refl}
use Rattle.laws.specs.Outcome.{Settled}
use Rattle.laws.proofs.Outcome.{settles, meet}
use Rattle.accounted.specs.contracts.account_behind as account-behind

pub account-behind-settled : Settled account-behind.ended (λ M 𝓤. account-behind.clauses) (λ M 𝓤. account-behind.spec)
account-behind-settled = settles (λ κs a r r' s s' p q. (meet p q, refl))
