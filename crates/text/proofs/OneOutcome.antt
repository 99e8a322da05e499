-- Each public function's contract, as its source states it, asks nothing of a call and leaves one outcome.
-- Assumes nothing.
use Rattle.laws.specs.Outcome.{Settled}
use Rattle.laws.proofs.Outcome.{settles, meet}
use Rattle.text.specs.contracts.put_line as put-line
use Rattle.text.specs.contracts.put_line_with_pins as put-line-with-pins
use Rattle.text.specs.contracts.put_pins as put-pins
use Rattle.text.specs.contracts.put_number as put-number
use Rattle.text.specs.contracts.put_in_hex as put-in-hex
use Rattle.text.specs.contracts.put_word as put_word

pub put-line-settled : Settled put-line.ended (λ M 𝓤. put-line.clauses) (λ M 𝓤. put-line.spec)
put-line-settled = settles (λ κs a r r' s s' p q. (meet p.0 q.0, λ i. (meet p.1 q.1 i, (tt, (tt, (tt, (tt, tt)))))))

pub put-pins-settled : Settled put-pins.ended (λ M 𝓤. put-pins.clauses) (λ M 𝓤. put-pins.spec)
put-pins-settled = settles (λ κs a r r' s s' p q. (meet p.0 q.0, λ i. (meet p.1 q.1 i, (tt, (tt, tt)))))

pub put-number-settled : Settled put-number.ended (λ M 𝓤. put-number.clauses) (λ M 𝓤. put-number.spec)
put-number-settled = settles (λ κs a r r' s s' p q. (meet p.0 q.0, λ i. (meet p.1 q.1 i, (tt, (tt, tt)))))

pub put-in-hex-settled : Settled put-in-hex.ended (λ M 𝓤. put-in-hex.clauses) (λ M 𝓤. put-in-hex.spec)
put-in-hex-settled = settles (λ κs a r r' s s' p q. (meet p.0 q.0, λ i. (meet p.1 q.1 i, (tt, (tt, tt)))))

pub put-word-settled : Settled put_word.ended (λ M 𝓤. put_word.clauses) (λ M 𝓤. put_word.spec)
put-word-settled = settles (λ κs a r r' s s' p q. (meet p.0 q.0, λ i. (meet p.1 q.1 i, (tt, (tt, tt)))))

pub put-line-with-pins-settled : Settled put-line-with-pins.ended (λ M 𝓤. put-line-with-pins.clauses) (λ M 𝓤. put-line-with-pins.spec)
put-line-with-pins-settled = settles (λ κs a r r' s s' p q. (meet p.0 q.0, λ i. (meet p.1 q.1 i, (tt, (tt, (tt, (tt, (tt, tt))))))))
