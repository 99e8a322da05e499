-- Each public function's contract, as its source states it, asks nothing of a call and leaves one outcome.
-- Assumes nothing.
use mathlib.Core.Path.{refl}
use Rattle.laws.specs.Outcome.{Settled}
use Rattle.laws.proofs.Outcome.{settles, meet}
use Rattle.gathering.specs.contracts.LeftOutFromTooLarge.from as from-too-large
use Rattle.gathering.specs.contracts.LeftOutFromNoSheet.from as from-no-sheet
use Rattle.gathering.specs.contracts.with_log as with-log
use Rattle.gathering.specs.contracts.with_sheet as with-sheet
use Rattle.gathering.specs.contracts.worse as worse
use Rattle.gathering.specs.contracts.status_of as status-of

pub from-too-large-settled : Settled from-too-large.ended (λ M 𝓤. from-too-large.clauses) (λ M 𝓤. from-too-large.spec)
from-too-large-settled = settles (λ κs a r r' s s' p q. (meet p q, refl))

pub from-no-sheet-settled : Settled from-no-sheet.ended (λ M 𝓤. from-no-sheet.clauses) (λ M 𝓤. from-no-sheet.spec)
from-no-sheet-settled = settles (λ κs a r r' s s' p q. (meet p q, refl))

pub with-log-settled : Settled with-log.ended (λ M 𝓤. with-log.clauses) (λ M 𝓤. with-log.spec)
with-log-settled = settles (λ κs a r r' s s' p q. (meet p q, refl))

pub with-sheet-settled : Settled with-sheet.ended (λ M 𝓤. with-sheet.clauses) (λ M 𝓤. with-sheet.spec)
with-sheet-settled = settles (λ κs a r r' s s' p q. (meet p q, refl))

pub worse-settled : Settled worse.ended (λ M 𝓤. worse.clauses) (λ M 𝓤. worse.spec)
worse-settled = settles (λ κs a r r' s s' p q. (meet p q, refl))

pub status-of-settled : Settled status-of.ended (λ M 𝓤. status-of.clauses) (λ M 𝓤. status-of.spec)
status-of-settled = settles (λ κs a r r' s s' p q. (meet p q, refl))
