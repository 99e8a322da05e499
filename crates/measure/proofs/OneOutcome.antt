-- Each public function's contract, as its source states it, asks nothing of a call and leaves one outcome.
-- Assumes nothing.
use mathlib.Core.Path.{refl}
use Rattle.laws.specs.Outcome.{Settled}
use Rattle.laws.proofs.Outcome.{settles, meet}
use Rattle.measure.specs.contracts.in_g as in_g
use Rattle.measure.specs.contracts.put_g as put-g

pub in-g-settled : Settled in_g.ended (λ M 𝓤. in_g.clauses) (λ M 𝓤. in_g.spec)
in-g-settled = settles (λ κs a r r' s s' p q. (meet p q, refl))

pub put-g-settled : Settled put-g.ended (λ M 𝓤. put-g.clauses) (λ M 𝓤. put-g.spec)
put-g-settled = settles (λ κs a r r' s s' p q. (meet p.0 q.0, λ i. (meet p.1 q.1 i, (tt, (tt, (tt, tt))))))
