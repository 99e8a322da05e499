-- Each public function's contract, as its source states it, asks nothing of a call and leaves one outcome.
-- Assumes nothing.
use mathlib.Core.Path.{refl}
use Rattle.laws.specs.Outcome.{Settled}
use Rattle.laws.proofs.Outcome.{settles, meet}
use Rattle.sheets.specs.contracts.U8FromTooLarge.from as number
use Rattle.sheets.specs.contracts.join_number as join-number
use Rattle.sheets.specs.contracts.join_counts as join-counts
use Rattle.sheets.specs.contracts.join_sums as join-sums
use Rattle.sheets.specs.contracts.extremes_over as extremes-over
use Rattle.sheets.specs.contracts.Tally.none as tally-none
use Rattle.sheets.specs.contracts.Tally.joined as tally-joined
use Rattle.sheets.specs.contracts.ByAxis.none as byaxis-none
use Rattle.sheets.specs.contracts.ByAxis.joined as byaxis-joined
use Rattle.sheets.specs.contracts.ByRange.none as byrange-none
use Rattle.sheets.specs.contracts.ByRange.joined as byrange-joined
use Rattle.sheets.specs.contracts.Sheet.empty as sheet-empty
use Rattle.sheets.specs.contracts.Sheet.joined as sheet-joined
use Rattle.sheets.specs.contracts.Month.empty as month-empty
use Rattle.sheets.specs.contracts.Month.joined as month-joined

pub number-settled : Settled number.ended (λ M 𝓤. number.clauses) (λ M 𝓤. number.spec)
number-settled = settles (λ κs a r r' s s' p q. (meet p q, refl))

pub join-number-settled : Settled join-number.ended (λ M 𝓤. join-number.clauses) (λ M 𝓤. join-number.spec)
join-number-settled = settles (λ κs a r r' s s' p q. (meet p q, refl))

pub join-counts-settled : Settled join-counts.ended (λ M 𝓤. join-counts.clauses) (λ M 𝓤. join-counts.spec)
join-counts-settled = settles (λ κs a r r' s s' p q. (meet p q, refl))

pub join-sums-settled : Settled join-sums.ended (λ M 𝓤. join-sums.clauses) (λ M 𝓤. join-sums.spec)
join-sums-settled = settles (λ κs a r r' s s' p q. (meet p q, refl))

pub extremes-over-settled : Settled extremes-over.ended (λ M 𝓤. extremes-over.clauses) (λ M 𝓤. extremes-over.spec)
extremes-over-settled = settles (λ κs a r r' s s' p q. (meet p q, refl))

pub tally-none-settled : Settled tally-none.ended (λ M 𝓤. tally-none.clauses) (λ M 𝓤. tally-none.spec)
tally-none-settled = settles (λ κs a r r' s s' p q. (meet p q, refl))

pub tally-joined-settled : Settled tally-joined.ended (λ M 𝓤. tally-joined.clauses) (λ M 𝓤. tally-joined.spec)
tally-joined-settled = settles (λ κs a r r' s s' p q. (meet p q, refl))

pub byaxis-none-settled : Settled byaxis-none.ended (λ M 𝓤. byaxis-none.clauses) (λ M 𝓤. byaxis-none.spec)
byaxis-none-settled = settles (λ κs a r r' s s' p q. (meet p q, refl))

pub byaxis-joined-settled : Settled byaxis-joined.ended (λ M 𝓤. byaxis-joined.clauses) (λ M 𝓤. byaxis-joined.spec)
byaxis-joined-settled = settles (λ κs a r r' s s' p q. (meet p q, refl))

pub byrange-none-settled : Settled byrange-none.ended (λ M 𝓤. byrange-none.clauses) (λ M 𝓤. byrange-none.spec)
byrange-none-settled = settles (λ κs a r r' s s' p q. (meet p q, refl))

pub byrange-joined-settled : Settled byrange-joined.ended (λ M 𝓤. byrange-joined.clauses) (λ M 𝓤. byrange-joined.spec)
byrange-joined-settled = settles (λ κs a r r' s s' p q. (meet p q, refl))

pub sheet-empty-settled : Settled sheet-empty.ended (λ M 𝓤. sheet-empty.clauses) (λ M 𝓤. sheet-empty.spec)
sheet-empty-settled = settles (λ κs a r r' s s' p q. (meet p q, refl))

pub sheet-joined-settled : Settled sheet-joined.ended (λ M 𝓤. sheet-joined.clauses) (λ M 𝓤. sheet-joined.spec)
sheet-joined-settled = settles (λ κs a r r' s s' p q. (meet p q, refl))

pub month-empty-settled : Settled month-empty.ended (λ M 𝓤. month-empty.clauses) (λ M 𝓤. month-empty.spec)
month-empty-settled = settles (λ κs a r r' s s' p q. (meet p q, refl))

pub month-joined-settled : Settled month-joined.ended (λ M 𝓤. month-joined.clauses) (λ M 𝓤. month-joined.spec)
month-joined-settled = settles (λ κs a r r' s s' p q. (meet p q, refl))
