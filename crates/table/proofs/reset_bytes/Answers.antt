use Prim.Native.Nat.{◌<◌}
use mathlib.Core.Path.{ap, ◌∙◌}
use native.Mathlib.Omega.{arith}
use lib.ListN.{length, replicate}
use Rattle.laws.proofs.Bytes.{copied_more, copied_all, paste-whole}
use Rattle.table.specs.Rows.{reset_bytes}
use Rattle.table.specs.declared.Row.{Row}
use Rattle.table.proofs.Rows.{reset-at, reset-length}
use Rattle.table.proofs.reset_bytes.Goals as goal

pub loop-i-preserved : goal.loop-i-preserved
loop-i-preserved c =
    let l = c.loop-i in
    let h : l.i < 64 = omega arith in
    let g : l.i < length reset_bytes = omega (arith, reset-length) in
    (omega arith, copied_more l.invariant.1 (omega arith) g (omega arith) (ap (λ (r : Row). r.0) c.row_in_table-row.ensures ∙ reset-at l.i h))

pub returns : goal.returns
returns c = let l = c.loop-i in copied_all 64 (omega arith) l.invariant.1 ∙ paste-whole (replicate 64 0) reset_bytes reset-length
