-- Each public function of entries: its contract, as its source states it, asks nothing of a call and leaves one outcome.
-- Assumes nothing.
use mathlib.Core.Path.{◌≡◌, refl}
use Rattle.laws.specs.Outcome.{Settled}
use Rattle.laws.proofs.Outcome.{settles, meet}
use Rattle.device.specs.Parts.{core_of, answered_whole}
use Rattle.entries.specs.contracts.no_bytes as no_bytes
use Rattle.entries.specs.contracts.count_of as count_of
use Rattle.entries.specs.contracts.play as play
use Rattle.outcomes.proofs.Plain.{plain}

no-bytes-settled : Settled no_bytes.ended (λ M 𝓤. no_bytes.clauses) (λ M 𝓤. no_bytes.spec)
no-bytes-settled = plain (λ κs a s s'. refl)

count-of-settled : Settled count_of.ended (λ M 𝓤. count_of.clauses) (λ M 𝓤. count_of.spec)
count-of-settled = settles (λ κs a r r' s s' p q. (meet p.0 q.0, refl))

play-settled : Settled play.ended (λ M 𝓤. play.clauses) (λ M 𝓤. play.spec)
play-settled = settles (λ κs a r r' s s' p q.
    let e : answered_whole r s.1.0 s.1.1.0 ≡ answered_whole r' s'.1.0 s'.1.1.0 = meet p.0 q.0 in
    (λ i. record { answer = (e i).answer; core = core_of (e i).device }, λ i. (tt, ((e i).device.regs, ((e i).device.frames, (tt, (meet p.1 q.1 i, tt)))))))
