-- Each public function's contract, as its source states it, asks nothing of a call and leaves one outcome.
-- Assumes nothing.
use mathlib.Core.Path.{refl}
use Rattle.laws.specs.Outcome.{Settled}
use Rattle.laws.proofs.Outcome.{settles, meet}
use Rattle.sheetfile.specs.contracts.read_month as read-month
use Rattle.sheetfile.specs.contracts.write_month as write-month

pub read-month-settled : Settled read-month.ended (λ M 𝓤. read-month.clauses) (λ M 𝓤. read-month.spec)
read-month-settled = settles (λ κs a r r' s s' p q. (meet p q, refl))

pub write-month-settled : Settled write-month.ended (λ M 𝓤. write-month.clauses) (λ M 𝓤. write-month.spec)
write-month-settled = settles (λ κs a r r' s s' p q. (meet p.0 q.0, λ i. (meet p.1 q.1 i, (tt, (tt, tt)))))
