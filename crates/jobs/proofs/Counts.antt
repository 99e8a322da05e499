-- How many records came to each follower, as the toolchain reads it from the source: of the replay, which has the number of the next record,
-- one less; of the answer and the sheet, those of their account. No follower's own word is taken for it.
-- Assumes nothing.
use Prim.Native.Nat.{◌-◌}
use mathlib.Core.Path.{◌≡◌, refl}
use Rattle.laws.specs.Outcome.{SourceClauses, promised}
use Rattle.jobs.specs.contracts.ReplayFollower.record_count as replay-count
use Rattle.jobs.specs.contracts.AnsweringFollower.record_count as answer-count
use Rattle.jobs.specs.contracts.SheetingFollower.record_count as sheet-count

pub replay-counts : ◌≡◌ {A = SourceClauses replay-count.ended} (λ M 𝓤. replay-count.clauses) (promised replay-count.ended (λ κs a r e. r ≡ a.0.number - 1))
replay-counts = refl

pub answer-counts : ◌≡◌ {A = SourceClauses answer-count.ended} (λ M 𝓤. answer-count.clauses) (promised answer-count.ended (λ κs a r e. r ≡ a.0.account.number))
answer-counts = refl

pub sheet-counts : ◌≡◌ {A = SourceClauses sheet-count.ended} (λ M 𝓤. sheet-count.clauses) (promised sheet-count.ended (λ κs a r e. r ≡ a.0.account.number))
sheet-counts = refl
