-- Each public function of interrupts: its contract, as its source states it, asks nothing of a call and leaves one outcome.
-- Assumes nothing.
use mathlib.Core.Path.{refl}
use Rattle.laws.specs.Outcome.{Settled}
use Rattle.interrupts.specs.contracts.statuses_of as statuses-of
use Rattle.interrupts.specs.contracts.detector_byte as detector-byte
use Rattle.interrupts.specs.contracts.data_byte as data-byte
use Rattle.interrupts.specs.contracts.pin_level as pin_level
use Rattle.outcomes.proofs.Plain.{plain}

statuses-of-settled : Settled statuses-of.ended (λ M 𝓤. statuses-of.clauses) (λ M 𝓤. statuses-of.spec)
statuses-of-settled = plain (λ κs a s s'. refl)

detector-byte-settled : Settled detector-byte.ended (λ M 𝓤. detector-byte.clauses) (λ M 𝓤. detector-byte.spec)
detector-byte-settled = plain (λ κs a s s'. refl)

data-byte-settled : Settled data-byte.ended (λ M 𝓤. data-byte.clauses) (λ M 𝓤. data-byte.spec)
data-byte-settled = plain (λ κs a s s'. refl)

pin-level-settled : Settled pin_level.ended (λ M 𝓤. pin_level.clauses) (λ M 𝓤. pin_level.spec)
pin-level-settled = plain (λ κs a s s'. refl)
