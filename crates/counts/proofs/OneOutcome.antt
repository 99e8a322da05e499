-- Each public function's contract, as its source states it, asks nothing of a call and leaves one outcome.
-- Assumes nothing.
use Rattle.std.proofs.Common.{refl}
use Rattle.laws.specs.Outcome.{Settled}
use Rattle.laws.proofs.Outcome.{settles, meet}
use Rattle.counts.specs.contracts.ends_stretch as ends-stretch
use Rattle.counts.specs.contracts.Counts.none as none
use Rattle.counts.specs.contracts.Counts.since as since
use Rattle.counts.specs.contracts.Counts.with_left as with-left
use Rattle.counts.specs.contracts.Counts.with_arrived as with-arrived
use Rattle.counts.specs.contracts.Counts.with_readouts as with-readouts
use Rattle.counts.specs.contracts.Doubts.none as no-doubts
use Rattle.counts.specs.contracts.Account.first as first
use Rattle.counts.specs.contracts.Account.moved as moved
use Rattle.counts.specs.contracts.Account.has_range_of as has-range-of
use Rattle.counts.specs.contracts.Account.has_mode_of as has-mode-of
use Rattle.counts.specs.contracts.back_of as back-of

pub ends-stretch-settled : Settled ends-stretch.ended (λ M 𝓤. ends-stretch.clauses) (λ M 𝓤. ends-stretch.spec)
ends-stretch-settled = settles (λ κs a r r' s s' p q. (meet p q, refl))

pub none-settled : Settled none.ended (λ M 𝓤. none.clauses) (λ M 𝓤. none.spec)
none-settled = settles (λ κs a r r' s s' p q. (meet p q, refl))

pub since-settled : Settled since.ended (λ M 𝓤. since.clauses) (λ M 𝓤. since.spec)
since-settled = settles (λ κs a r r' s s' p q. (meet p q, refl))

pub with-left-settled : Settled with-left.ended (λ M 𝓤. with-left.clauses) (λ M 𝓤. with-left.spec)
with-left-settled = settles (λ κs a r r' s s' p q. (meet p q, refl))

pub with-arrived-settled : Settled with-arrived.ended (λ M 𝓤. with-arrived.clauses) (λ M 𝓤. with-arrived.spec)
with-arrived-settled = settles (λ κs a r r' s s' p q. (meet p q, refl))

pub first-settled : Settled first.ended (λ M 𝓤. first.clauses) (λ M 𝓤. first.spec)
first-settled = settles (λ κs a r r' s s' p q. (meet p q, refl))

pub moved-settled : Settled moved.ended (λ M 𝓤. moved.clauses) (λ M 𝓤. moved.spec)
moved-settled = settles (λ κs a r r' s s' p q. (meet p q, refl))

pub with-readouts-settled : Settled with-readouts.ended (λ M 𝓤. with-readouts.clauses) (λ M 𝓤. with-readouts.spec)
with-readouts-settled = settles (λ κs a r r' s s' p q. (meet p q, refl))

pub no-doubts-settled : Settled no-doubts.ended (λ M 𝓤. no-doubts.clauses) (λ M 𝓤. no-doubts.spec)
no-doubts-settled = settles (λ κs a r r' s s' p q. (meet p q, refl))

pub has-range-of-settled : Settled has-range-of.ended (λ M 𝓤. has-range-of.clauses) (λ M 𝓤. has-range-of.spec)
has-range-of-settled = settles (λ κs a r r' s s' p q. (meet p q, refl))

pub has-mode-of-settled : Settled has-mode-of.ended (λ M 𝓤. has-mode-of.clauses) (λ M 𝓤. has-mode-of.spec)
has-mode-of-settled = settles (λ κs a r r' s s' p q. (meet p q, refl))

pub back-of-settled : Settled back-of.ended (λ M 𝓤. back-of.clauses) (λ M 𝓤. back-of.spec)
back-of-settled = settles (λ κs a r r' s s' p q. (meet p q, refl))
