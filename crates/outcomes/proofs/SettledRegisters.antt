-- Each public function of registers: its contract, as its source states it, asks nothing of a call and leaves one outcome.
-- Assumes nothing.
use mathlib.Core.Path.{refl}
use Rattle.laws.specs.Outcome.{Settled}
use Rattle.registers.specs.contracts.U8FromRefusal.from as refusal-number
use Rattle.registers.specs.contracts.number_of as number_of_lem
use Rattle.registers.specs.contracts.is_accepted as is-accepted
use Rattle.registers.specs.contracts.read_answer as read_answer
use Rattle.registers.specs.contracts.judge_write as judge-write
use Rattle.outcomes.proofs.Plain.{plain}

refusal-number-settled : Settled refusal-number.ended (λ M 𝓤. refusal-number.clauses) (λ M 𝓤. refusal-number.spec)
refusal-number-settled = plain (λ κs a s s'. refl)

number-of-settled : Settled number_of_lem.ended (λ M 𝓤. number_of_lem.clauses) (λ M 𝓤. number_of_lem.spec)
number-of-settled = plain (λ κs a s s'. refl)

is-accepted-settled : Settled is-accepted.ended (λ M 𝓤. is-accepted.clauses) (λ M 𝓤. is-accepted.spec)
is-accepted-settled = plain (λ κs a s s'. refl)

read-answer-settled : Settled read_answer.ended (λ M 𝓤. read_answer.clauses) (λ M 𝓤. read_answer.spec)
read-answer-settled = plain (λ κs a s s'. refl)

judge-write-settled : Settled judge-write.ended (λ M 𝓤. judge-write.clauses) (λ M 𝓤. judge-write.spec)
judge-write-settled = plain (λ κs a s s'. refl)
