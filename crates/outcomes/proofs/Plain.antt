-- A contract that fixes the result of a function without a `&mut` leaves one outcome.
-- Assumes nothing.
use mathlib.Core.Path.{◌≡◌}
use contract.Lifetimes.{Lfts}
use denote.Triple.Clauses.{Ended, Lasts}
use denote.Triple.Entry.{Args, Res}
use Rattle.laws.specs.Outcome.{Settled, promised, closed}
use Rattle.laws.proofs.Outcome.{settles, meet}

-- value is the result for the arguments; still says that no last value can differ, since there is none
pub plain : {T : Ended} {value : (κs : Lfts T.signature.lifetimes) → Args T.signature κs → Res T.signature κs}
    → ((κs : Lfts T.signature.lifetimes) (a : Args T.signature κs) (s s' : Lasts T κs a) → s ≡ s')
    → Settled T (promised T (λ κs a r e. r ≡ value κs a)) (closed T (promised T (λ κs a r e. r ≡ value κs a)))
plain still = settles (λ κs a r r' s s' p q. (meet p q, still κs a s s'))
