-- A contract whose one fact leaves one outcome is settled.
-- Assumes nothing.
use mathlib.Core.Path.{◌≡◌, refl, sym, ◌∙◌}
use denote.Triple.Clauses.{Ended}
use Rattle.laws.specs.Outcome.{Settled, Claim, OneOutcome, promised, closed}

pub settles : {T : Ended} {claim : Claim T} → OneOutcome T claim → Settled T (promised T claim) (closed T (promised T claim))
settles {claim = claim} one = record { claim = claim; clauses = refl; contract = refl; one = one }

abbrev pub meet : {X : Type 0} {x y z : X} → x ≡ z → y ≡ z → x ≡ y
meet p q = p ∙ sym q
