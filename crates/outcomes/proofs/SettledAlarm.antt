-- Each public function of alarm: its contract, as its source states it, asks nothing of a call and leaves one outcome.
-- Assumes nothing.
use mathlib.Core.Path.{refl}
use Rattle.laws.specs.Outcome.{Settled}
use Rattle.alarm.specs.contracts.Alarm.off as off
use Rattle.alarm.specs.contracts.Alarm.raise as raise
use Rattle.alarm.specs.contracts.Alarm.clear as clear
use Rattle.alarm.specs.contracts.Alarm.clock as clock
use Rattle.alarm.specs.contracts.Alarm.is_set as is_set
use Rattle.alarm.specs.contracts.Alarm.marks as marks
use Rattle.outcomes.proofs.Plain.{plain}

off-settled : Settled off.ended (λ M 𝓤. off.clauses) (λ M 𝓤. off.spec)
off-settled = plain (λ κs a s s'. refl)

raise-settled : Settled raise.ended (λ M 𝓤. raise.clauses) (λ M 𝓤. raise.spec)
raise-settled = plain (λ κs a s s'. refl)

clear-settled : Settled clear.ended (λ M 𝓤. clear.clauses) (λ M 𝓤. clear.spec)
clear-settled = plain (λ κs a s s'. refl)

clock-settled : Settled clock.ended (λ M 𝓤. clock.clauses) (λ M 𝓤. clock.spec)
clock-settled = plain (λ κs a s s'. refl)

is-set-settled : Settled is_set.ended (λ M 𝓤. is_set.clauses) (λ M 𝓤. is_set.spec)
is-set-settled = plain (λ κs a s s'. refl)

marks-settled : Settled marks.ended (λ M 𝓤. marks.clauses) (λ M 𝓤. marks.spec)
marks-settled = plain (λ κs a s s'. refl)
