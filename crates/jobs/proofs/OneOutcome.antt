-- What each follower does, as the source states it of all, asks nothing of a call and leaves one outcome.
-- Assumes nothing.
use mathlib.Core.Path.{refl}
use Rattle.laws.specs.Outcome.{Settled}
use Rattle.laws.proofs.Outcome.{settles, meet}
use Rattle.follow.proofs.OneRun.{one-run, one-text}
use Rattle.jobs.specs.contracts.ReplayFollower.run as replay-run
use Rattle.jobs.specs.contracts.ReplayFollower.record_count as replay-count
use Rattle.jobs.specs.contracts.AnsweringFollower.run as answer-run
use Rattle.jobs.specs.contracts.AnsweringFollower.record_count as answer-count
use Rattle.jobs.specs.contracts.SheetingFollower.run as sheet-run
use Rattle.jobs.specs.contracts.SheetingFollower.record_count as sheet-count

pub replay-run-settled : Settled replay-run.ended (λ M 𝓤. replay-run.clauses) (λ M 𝓤. replay-run.spec)
replay-run-settled = settles (λ κs a r r' s s' p q. (one-run p q, λ i. (tt, (tt, (tt, (one-text p q i, tt))))))

pub replay-count-settled : Settled replay-count.ended (λ M 𝓤. replay-count.clauses) (λ M 𝓤. replay-count.spec)
replay-count-settled = settles (λ κs a r r' s s' p q. (meet p q, refl))

pub answer-run-settled : Settled answer-run.ended (λ M 𝓤. answer-run.clauses) (λ M 𝓤. answer-run.spec)
answer-run-settled = settles (λ κs a r r' s s' p q. (one-run p q, λ i. (tt, (tt, (tt, (one-text p q i, tt))))))

pub answer-count-settled : Settled answer-count.ended (λ M 𝓤. answer-count.clauses) (λ M 𝓤. answer-count.spec)
answer-count-settled = settles (λ κs a r r' s s' p q. (meet p q, refl))

pub sheet-run-settled : Settled sheet-run.ended (λ M 𝓤. sheet-run.clauses) (λ M 𝓤. sheet-run.spec)
sheet-run-settled = settles (λ κs a r r' s s' p q. (one-run p q, λ i. (tt, (tt, (tt, (one-text p q i, tt))))))

pub sheet-count-settled : Settled sheet-count.ended (λ M 𝓤. sheet-count.clauses) (λ M 𝓤. sheet-count.spec)
sheet-count-settled = settles (λ κs a r r' s s' p q. (meet p q, refl))
