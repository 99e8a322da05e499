-- Each public function of table: its contract, as its source states it, asks nothing of a call and leaves one outcome.
-- Assumes nothing.
use mathlib.Core.Path.{refl}
use Rattle.laws.specs.Outcome.{Settled}
use Rattle.table.specs.contracts.row_at as row_at
use Rattle.table.specs.contracts.reset_bytes as reset-bytes
use Rattle.table.specs.contracts.merge as merge
use Rattle.outcomes.proofs.Plain.{plain}

row-at-settled : Settled row_at.ended (λ M 𝓤. row_at.clauses) (λ M 𝓤. row_at.spec)
row-at-settled = plain (λ κs a s s'. refl)

reset-bytes-settled : Settled reset-bytes.ended (λ M 𝓤. reset-bytes.clauses) (λ M 𝓤. reset-bytes.spec)
reset-bytes-settled = plain (λ κs a s s'. refl)

merge-settled : Settled merge.ended (λ M 𝓤. merge.clauses) (λ M 𝓤. merge.spec)
merge-settled = plain (λ κs a s s'. refl)
