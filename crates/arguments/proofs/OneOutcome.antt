-- Each public function's contract, as its source states it, asks nothing of a call and leaves one outcome.
-- Assumes nothing.
use mathlib.Core.Path.{refl}
use Rattle.laws.specs.Outcome.{Settled}
use Rattle.laws.proofs.Outcome.{settles, meet}
use Rattle.arguments.specs.contracts.number_of as number_of_lem
use Rattle.arguments.specs.contracts.wanted_of as wanted-of
use Rattle.arguments.specs.contracts.pins_of as pins-of
use Rattle.arguments.specs.contracts.sheet_of as sheet-of

pub number-of-settled : Settled number_of_lem.ended (λ M 𝓤. number_of_lem.clauses) (λ M 𝓤. number_of_lem.spec)
number-of-settled = settles (λ κs a r r' s s' p q. (meet p q, refl))

pub wanted-of-settled : Settled wanted-of.ended (λ M 𝓤. wanted-of.clauses) (λ M 𝓤. wanted-of.spec)
wanted-of-settled = settles (λ κs a r r' s s' p q. (meet p q, refl))

pub pins-of-settled : Settled pins-of.ended (λ M 𝓤. pins-of.clauses) (λ M 𝓤. pins-of.spec)
pins-of-settled = settles (λ κs a r r' s s' p q. (meet p q, refl))

pub sheet-of-settled : Settled sheet-of.ended (λ M 𝓤. sheet-of.clauses) (λ M 𝓤. sheet-of.spec)
sheet-of-settled = settles (λ κs a r r' s s' p q. (meet p q, refl))
