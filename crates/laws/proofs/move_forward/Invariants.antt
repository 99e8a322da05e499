-- A loop that copies: what it reads lies ahead of what it wrote.
use Rattle.std.proofs.Common.{◌-◌, ◌≡◌, length, ◌≤◌}
use Rattle.laws.specs.Bytes.{between}
use Rattle.laws.proofs.Bytes.{Copied}
use Rattle.laws.proofs.move_forward.Given as goal

abbrev pub invariant-loop-i : goal.invariant-loop-i
invariant-loop-i l = (l.i ≤ l.n) × (l.n ≡ length (between l.fn.from l.fn.to l.fn.s)) × Copied l.fn.s 0 (between l.fn.from l.fn.to l.fn.s) l.i l.s

abbrev pub decreases-loop-i : goal.decreases-loop-i
decreases-loop-i l = l.n - l.i
