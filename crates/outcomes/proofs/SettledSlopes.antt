-- Each public function of slopes: its contract, as its source states it, asks nothing of a call and leaves one outcome.
-- Assumes nothing.
use mathlib.Core.Path.{refl}
use Rattle.laws.specs.Outcome.{Settled}
use Rattle.slopes.specs.contracts.slope_between as slope-between
use Rattle.slopes.specs.contracts.Previous.none as previous-none
use Rattle.slopes.specs.contracts.Previous.remember as remember
use Rattle.slopes.specs.contracts.Previous.forget as forget
use Rattle.slopes.specs.contracts.Previous.slopes_to as slopes-to
use Rattle.slopes.specs.contracts.no_axis as no-axis
use Rattle.slopes.specs.contracts.judge as judge
use Rattle.slopes.specs.contracts.Runs.none as runs-none
use Rattle.slopes.specs.contracts.Runs.after_over as after-over
use Rattle.slopes.specs.contracts.Runs.after_calm as after-calm
use Rattle.slopes.specs.contracts.Runs.reached_over as reached-over
use Rattle.slopes.specs.contracts.Runs.reached_calm as reached-calm
use Rattle.outcomes.proofs.Plain.{plain}

slope-between-settled : Settled slope-between.ended (λ M 𝓤. slope-between.clauses) (λ M 𝓤. slope-between.spec)
slope-between-settled = plain (λ κs a s s'. refl)

previous-none-settled : Settled previous-none.ended (λ M 𝓤. previous-none.clauses) (λ M 𝓤. previous-none.spec)
previous-none-settled = plain (λ κs a s s'. refl)

remember-settled : Settled remember.ended (λ M 𝓤. remember.clauses) (λ M 𝓤. remember.spec)
remember-settled = plain (λ κs a s s'. refl)

forget-settled : Settled forget.ended (λ M 𝓤. forget.clauses) (λ M 𝓤. forget.spec)
forget-settled = plain (λ κs a s s'. refl)

slopes-to-settled : Settled slopes-to.ended (λ M 𝓤. slopes-to.clauses) (λ M 𝓤. slopes-to.spec)
slopes-to-settled = plain (λ κs a s s'. refl)

no-axis-settled : Settled no-axis.ended (λ M 𝓤. no-axis.clauses) (λ M 𝓤. no-axis.spec)
no-axis-settled = plain (λ κs a s s'. refl)

judge-settled : Settled judge.ended (λ M 𝓤. judge.clauses) (λ M 𝓤. judge.spec)
judge-settled = plain (λ κs a s s'. refl)

runs-none-settled : Settled runs-none.ended (λ M 𝓤. runs-none.clauses) (λ M 𝓤. runs-none.spec)
runs-none-settled = plain (λ κs a s s'. refl)

after-over-settled : Settled after-over.ended (λ M 𝓤. after-over.clauses) (λ M 𝓤. after-over.spec)
after-over-settled = plain (λ κs a s s'. refl)

after-calm-settled : Settled after-calm.ended (λ M 𝓤. after-calm.clauses) (λ M 𝓤. after-calm.spec)
after-calm-settled = plain (λ κs a s s'. refl)

reached-over-settled : Settled reached-over.ended (λ M 𝓤. reached-over.clauses) (λ M 𝓤. reached-over.spec)
reached-over-settled = plain (λ κs a s s'. refl)

reached-calm-settled : Settled reached-calm.ended (λ M 𝓤. reached-calm.clauses) (λ M 𝓤. reached-calm.spec)
reached-calm-settled = plain (λ κs a s s'. refl)
