-- Each public function of follow: its contract, as its source states it, asks nothing of a call and leaves one outcome.
-- Assumes nothing.
use mathlib.Core.Path.{refl}
use Rattle.laws.specs.Outcome.{Settled}
use Rattle.laws.proofs.Outcome.{settles, meet}
use Rattle.follow.specs.contracts.HaltFromRefusal.from as halt-of-refusal
use Rattle.follow.specs.contracts.open_log as open-log
use Rattle.follow.specs.contracts.seek as seek
use Rattle.follow.proofs.OneRun.{one-result}
use Rattle.outcomes.proofs.Plain.{plain}

halt-of-refusal-settled : Settled halt-of-refusal.ended (λ M 𝓤. halt-of-refusal.clauses) (λ M 𝓤. halt-of-refusal.spec)
halt-of-refusal-settled = plain (λ κs a s s'. refl)

open-log-settled : Settled open-log.ended (λ M 𝓤. open-log.clauses) (λ M 𝓤. open-log.spec)
open-log-settled = settles (λ κs a r r' s s' p q. (one-result r r' (meet p q), refl))

seek-settled : Settled seek.ended (λ M 𝓤. seek.clauses) (λ M 𝓤. seek.spec)
seek-settled = settles (λ κs a r r' s s' p q. (one-result r r' (meet p q), refl))
