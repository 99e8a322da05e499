use Prim.Native.Nat.{◌<◌}
use Rattle.measure.proofs.Begun.{Begun}
use Rattle.measure.proofs.put_places.Given as goal

abbrev pub invariant-loop-i : goal.invariant-loop-i
invariant-loop-i l = (l.left < 1024) × Begun l.initial.out l.at l.rest l.i l.left l.out
