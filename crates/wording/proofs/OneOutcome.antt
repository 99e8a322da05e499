-- Each public function's contract, as its source states it, asks nothing of a call and leaves one outcome.
-- Assumes nothing.
use Rattle.laws.specs.Outcome.{Settled}
use Rattle.laws.proofs.Outcome.{settles, meet}
use Rattle.wording.specs.contracts.put_line as put-line
use Rattle.wording.specs.contracts.put_sample as put-sample

pub put-line-settled : Settled put-line.ended (λ M 𝓤. put-line.clauses) (λ M 𝓤. put-line.spec)
put-line-settled = settles (λ κs a r r' s s' p q. (meet p.0 q.0, λ i. (meet p.1 q.1 i, (tt, (tt, tt)))))

pub put-sample-settled : Settled put-sample.ended (λ M 𝓤. put-sample.clauses) (λ M 𝓤. put-sample.spec)
put-sample-settled = settles (λ κs a r r' s s' p q. (meet p.0 q.0, λ i. (meet p.1 q.1 i, (tt, (tt, (tt, (tt, (tt, (tt, (tt, tt))))))))))
