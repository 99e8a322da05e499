-- Each public function of offsets: its contract, as its source states it, asks nothing of a call and leaves one outcome.
-- Assumes nothing.
use mathlib.Core.Path.{refl}
use Rattle.laws.specs.Outcome.{Settled}
use Rattle.offsets.specs.contracts.stored_by as stored-by
use Rattle.outcomes.proofs.Plain.{plain}

stored-by-settled : Settled stored-by.ended (λ M 𝓤. stored-by.clauses) (λ M 𝓤. stored-by.spec)
stored-by-settled = plain (λ κs a s s'. refl)
