-- The bytes before `i` are copied, here zeros.
use Rattle.std.proofs.Common.{◌-◌, ◌≤◌}
use Rattle.laws.specs.Bytes.{zeros}
use Rattle.laws.proofs.Bytes.{Copied}
use Rattle.fifo.proofs.clear.Given as goal

abbrev pub invariant-loop-i : goal.invariant-loop-i
invariant-loop-i l = (l.i ≤ l.n) × Copied l.fn.s l.at (zeros l.n) l.i l.s

abbrev pub decreases-loop-i : goal.decreases-loop-i
decreases-loop-i l = l.n - l.i
