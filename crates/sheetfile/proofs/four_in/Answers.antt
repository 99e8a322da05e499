use native.Mathlib.Omega.{arith}
use Rattle.sheetfile.specs.Reader.{four_in}
use Rattle.sheetfile.proofs.four_in.Goals as goal

pub returns : goal.returns
unfolding four_in
returns c = simp c.from_be_bytes.ensures (omega arith)
