use Rattle.std.proofs.Common.{◌-◌, ◌≤◌}
use Rattle.laws.proofs.Bytes.{Copied}
use Rattle.table.specs.Rows.{reset_bytes}
use Rattle.table.proofs.reset_bytes.Given as goal

abbrev pub invariant-loop-i : goal.invariant-loop-i
invariant-loop-i l = (l.i ≤ 64) × Copied l.initial.bytes 0 reset_bytes l.i l.bytes

abbrev pub decreases-loop-i : goal.decreases-loop-i
decreases-loop-i l = 64 - l.i
