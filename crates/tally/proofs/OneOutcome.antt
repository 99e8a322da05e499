-- Each public function's contract, as its source states it, asks nothing of a call and leaves one outcome.
-- Assumes nothing.
use mathlib.Core.Path.{refl}
use Rattle.laws.specs.Outcome.{Settled}
use Rattle.laws.proofs.Outcome.{settles, meet}
use Rattle.tally.specs.contracts.Sums.none as none
use Rattle.tally.specs.contracts.Sums.so_far as so-far
use Rattle.tally.specs.contracts.Sums.add_clock as add-clock
use Rattle.tally.specs.contracts.Sums.add_sample as add-sample
use Rattle.tally.specs.contracts.Sums.clocked as clocked
use Rattle.tally.specs.contracts.Sums.sampled as sampled

pub none-settled : Settled none.ended (λ M 𝓤. none.clauses) (λ M 𝓤. none.spec)
none-settled = settles (λ κs a r r' s s' p q. (meet p q, refl))

pub so-far-settled : Settled so-far.ended (λ M 𝓤. so-far.clauses) (λ M 𝓤. so-far.spec)
so-far-settled = settles (λ κs a r r' s s' p q. (meet p q, refl))

pub add-clock-settled : Settled add-clock.ended (λ M 𝓤. add-clock.clauses) (λ M 𝓤. add-clock.spec)
add-clock-settled = settles (λ κs a r r' s s' p q. (refl, λ i. (meet p q i, (tt, tt))))

pub add-sample-settled : Settled add-sample.ended (λ M 𝓤. add-sample.clauses) (λ M 𝓤. add-sample.spec)
add-sample-settled = settles (λ κs a r r' s s' p q. (refl, λ i. (meet p q i, (tt, (tt, (tt, (tt, tt)))))))

pub clocked-settled : Settled clocked.ended (λ M 𝓤. clocked.clauses) (λ M 𝓤. clocked.spec)
clocked-settled = settles (λ κs a r r' s s' p q. (meet p q, refl))

pub sampled-settled : Settled sampled.ended (λ M 𝓤. sampled.clauses) (λ M 𝓤. sampled.spec)
sampled-settled = settles (λ κs a r r' s s' p q. (meet p q, refl))
