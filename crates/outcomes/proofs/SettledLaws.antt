-- Each public function of laws: its contract, as its source states it, asks nothing of a call and leaves one outcome.
-- Assumes nothing.
use mathlib.Core.Path.{refl}
use Rattle.laws.specs.Outcome.{Settled}
use Rattle.laws.proofs.Outcome.{settles, meet}
use Rattle.laws.specs.contracts.bit as bit
use Rattle.laws.specs.contracts.both as both
use Rattle.laws.specs.contracts.least as least
use Rattle.laws.specs.contracts.move_forward as move-forward
use Rattle.laws.specs.contracts.word_of as word_of
use Rattle.outcomes.proofs.Plain.{plain}

bit-settled : Settled bit.ended (λ M 𝓤. bit.clauses) (λ M 𝓤. bit.spec)
bit-settled = plain (λ κs a s s'. refl)

both-settled : Settled both.ended (λ M 𝓤. both.clauses) (λ M 𝓤. both.spec)
both-settled = plain (λ κs a s s'. refl)

least-settled : Settled least.ended (λ M 𝓤. least.clauses) (λ M 𝓤. least.spec)
least-settled = plain (λ κs a s s'. refl)

move-forward-settled : Settled move-forward.ended (λ M 𝓤. move-forward.clauses) (λ M 𝓤. move-forward.spec)
move-forward-settled = settles (λ κs a r r' s s' p q. (meet p.0 q.0, λ i. (meet p.1 q.1 i, (tt, (tt, tt)))))

word-of-settled : Settled word_of.ended (λ M 𝓤. word_of.clauses) (λ M 𝓤. word_of.spec)
word-of-settled = plain (λ κs a s s'. refl)
