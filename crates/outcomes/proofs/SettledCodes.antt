-- Each public function of codes: its contract, as its source states it, asks nothing of a call and leaves one outcome.
-- Assumes nothing.
use mathlib.Core.Path.{refl}
use Rattle.laws.specs.Outcome.{Settled}
use Rattle.codes.specs.contracts.range_of as range-of
use Rattle.codes.specs.contracts.is_reserved_range as is-reserved-range
use Rattle.codes.specs.contracts.latch_of as latch-of
use Rattle.codes.specs.contracts.is_unlatched as is-unlatched
use Rattle.codes.specs.contracts.hold_of as hold-of
use Rattle.codes.specs.contracts.mode_of as mode-of
use Rattle.codes.specs.contracts.is_reserved_mode as is-reserved-mode
use Rattle.codes.specs.contracts.axes_of as axes-of
use Rattle.codes.specs.contracts.wait_code as wait-code
use Rattle.codes.specs.contracts.wait_of as wait-of
use Rattle.codes.specs.contracts.is_reserved_wait as is-reserved-wait
use Rattle.outcomes.proofs.Plain.{plain}

range-of-settled : Settled range-of.ended (λ M 𝓤. range-of.clauses) (λ M 𝓤. range-of.spec)
range-of-settled = plain (λ κs a s s'. refl)

is-reserved-range-settled : Settled is-reserved-range.ended (λ M 𝓤. is-reserved-range.clauses) (λ M 𝓤. is-reserved-range.spec)
is-reserved-range-settled = plain (λ κs a s s'. refl)

latch-of-settled : Settled latch-of.ended (λ M 𝓤. latch-of.clauses) (λ M 𝓤. latch-of.spec)
latch-of-settled = plain (λ κs a s s'. refl)

is-unlatched-settled : Settled is-unlatched.ended (λ M 𝓤. is-unlatched.clauses) (λ M 𝓤. is-unlatched.spec)
is-unlatched-settled = plain (λ κs a s s'. refl)

hold-of-settled : Settled hold-of.ended (λ M 𝓤. hold-of.clauses) (λ M 𝓤. hold-of.spec)
hold-of-settled = plain (λ κs a s s'. refl)

mode-of-settled : Settled mode-of.ended (λ M 𝓤. mode-of.clauses) (λ M 𝓤. mode-of.spec)
mode-of-settled = plain (λ κs a s s'. refl)

is-reserved-mode-settled : Settled is-reserved-mode.ended (λ M 𝓤. is-reserved-mode.clauses) (λ M 𝓤. is-reserved-mode.spec)
is-reserved-mode-settled = plain (λ κs a s s'. refl)

axes-of-settled : Settled axes-of.ended (λ M 𝓤. axes-of.clauses) (λ M 𝓤. axes-of.spec)
axes-of-settled = plain (λ κs a s s'. refl)

wait-code-settled : Settled wait-code.ended (λ M 𝓤. wait-code.clauses) (λ M 𝓤. wait-code.spec)
wait-code-settled = plain (λ κs a s s'. refl)

wait-of-settled : Settled wait-of.ended (λ M 𝓤. wait-of.clauses) (λ M 𝓤. wait-of.spec)
wait-of-settled = plain (λ κs a s s'. refl)

is-reserved-wait-settled : Settled is-reserved-wait.ended (λ M 𝓤. is-reserved-wait.clauses) (λ M 𝓤. is-reserved-wait.spec)
is-reserved-wait-settled = plain (λ κs a s s'. refl)
