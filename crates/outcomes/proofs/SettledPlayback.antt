-- Each public function of playback: its contract, as its source states it, asks nothing of a call and leaves one outcome.
-- Assumes nothing.
use mathlib.Core.Path.{refl}
use Rattle.laws.specs.Outcome.{Settled}
use Rattle.laws.proofs.Outcome.{settles}
use Rattle.follow.proofs.OneRun.{one-run, one-text}
use Rattle.playback.specs.contracts.Replay.start as start
use Rattle.playback.specs.contracts.Replay.next_number as next-number
use Rattle.playback.specs.contracts.run as run
use Rattle.outcomes.proofs.Plain.{plain}

start-settled : Settled start.ended (λ M 𝓤. start.clauses) (λ M 𝓤. start.spec)
start-settled = plain (λ κs a s s'. refl)

next-number-settled : Settled next-number.ended (λ M 𝓤. next-number.clauses) (λ M 𝓤. next-number.spec)
next-number-settled = plain (λ κs a s s'. refl)

run_settled : Settled run.ended (λ M 𝓤. run.clauses) (λ M 𝓤. run.spec)
run_settled = settles (λ κs a r r' s s' p q. (one-run p q, λ i. (tt, (tt, (tt, (one-text p q i, tt))))))
