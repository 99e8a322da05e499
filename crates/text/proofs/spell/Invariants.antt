use Rattle.text.proofs.Spelled.{Behind}
use Rattle.text.proofs.spell.Given as goal

-- the digits are written from the last to the first
abbrev pub invariant-loop-i : goal.invariant-loop-i
invariant-loop-i l = Behind l.initial.out l.at l.n l.i l.rest l.out
