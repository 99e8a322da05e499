-- Each public function's contract, as its source states it, asks nothing of a call and leaves one outcome.
-- Assumes nothing.
use Rattle.laws.specs.Outcome.{Settled}
use Rattle.laws.proofs.Outcome.{settles, meet}
use Rattle.sheetlines.specs.contracts.put_month as put-month

pub put-month-settled : Settled put-month.ended (λ M 𝓤. put-month.clauses) (λ M 𝓤. put-month.spec)
put-month-settled = settles (λ κs a r r' s s' p q. (meet p.0 q.0, λ i. (meet p.1 q.1 i, (tt, (tt, tt)))))
