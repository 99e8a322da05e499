-- What C calls says what `twin` says, clause for clause, so the theorems on `twin`'s contracts are about the functions that C calls.
-- Assumes nothing.
use mathlib.Core.Path.{◌≡◌, refl}
use Rattle.laws.specs.Outcome.{SourceClauses}
use Rattle.twin.specs.contracts.twin_4_proved_event as event
use Rattle.twin.specs.contracts.twin_4_proved_power_up as power-up
use Rattle.twin.specs.contracts.twin_4_proved_pins as pins
use Rattle.twin.specs.contracts.twin_4_proved_size as size
use Rattle.twin.specs.contracts.twin_4_proved_alignment as alignment
use Rattle.twin_c.specs.contracts.twin_4_proved_event as exported-event
use Rattle.twin_c.specs.contracts.twin_4_proved_power_up as exported-power-up
use Rattle.twin_c.specs.contracts.twin_4_proved_pins as exported-pins
use Rattle.twin_c.specs.contracts.twin_4_proved_size as exported-size
use Rattle.twin_c.specs.contracts.twin_4_proved_alignment as exported-alignment

pub same-event : ◌≡◌ {A = SourceClauses event.ended} (λ M 𝓤. exported-event.clauses) (λ M 𝓤. event.clauses)
same-event = refl

pub same-power-up : ◌≡◌ {A = SourceClauses power-up.ended} (λ M 𝓤. exported-power-up.clauses) (λ M 𝓤. power-up.clauses)
same-power-up = refl

pub same-pins : ◌≡◌ {A = SourceClauses pins.ended} (λ M 𝓤. exported-pins.clauses) (λ M 𝓤. pins.clauses)
same-pins = refl

pub same-size : ◌≡◌ {A = SourceClauses size.ended} (λ M 𝓤. exported-size.clauses) (λ M 𝓤. size.clauses)
same-size = refl

pub same-alignment : ◌≡◌ {A = SourceClauses alignment.ended} (λ M 𝓤. exported-alignment.clauses) (λ M 𝓤. alignment.clauses)
same-alignment = refl
