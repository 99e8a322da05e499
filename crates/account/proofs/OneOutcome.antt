-- Each public function's contract, as its source states it, asks nothing of a call and leaves one outcome.
-- Assumes nothing.
use mathlib.Core.Path.{refl}
use Rattle.laws.specs.Outcome.{Settled}
use Rattle.laws.proofs.Outcome.{settles, meet}
use Rattle.account.specs.contracts.why_of_write as why-of-write
use Rattle.account.specs.contracts.why_of_read as why-of-read
use Rattle.account.specs.contracts.after_write as after_write
use Rattle.account.specs.contracts.after_read as after_read
use Rattle.account.specs.contracts.after_sample as after-sample
use Rattle.account.specs.contracts.after_idle as after-idle

pub why-of-write-settled : Settled why-of-write.ended (λ M 𝓤. why-of-write.clauses) (λ M 𝓤. why-of-write.spec)
why-of-write-settled = settles (λ κs a r r' s s' p q. (meet p q, refl))

pub why-of-read-settled : Settled why-of-read.ended (λ M 𝓤. why-of-read.clauses) (λ M 𝓤. why-of-read.spec)
why-of-read-settled = settles (λ κs a r r' s s' p q. (meet p q, refl))

pub after-write-settled : Settled after_write.ended (λ M 𝓤. after_write.clauses) (λ M 𝓤. after_write.spec)
after-write-settled = settles (λ κs a r r' s s' p q. (meet p q, refl))

pub after-read-settled : Settled after_read.ended (λ M 𝓤. after_read.clauses) (λ M 𝓤. after_read.spec)
after-read-settled = settles (λ κs a r r' s s' p q. (meet p q, refl))

pub after-sample-settled : Settled after-sample.ended (λ M 𝓤. after-sample.clauses) (λ M 𝓤. after-sample.spec)
after-sample-settled = settles (λ κs a r r' s s' p q. (meet p q, refl))

pub after-idle-settled : Settled after-idle.ended (λ M 𝓤. after-idle.clauses) (λ M 𝓤. after-idle.spec)
after-idle-settled = settles (λ κs a r r' s s' p q. (meet p q, refl))
