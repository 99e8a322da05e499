use mathlib.Core.Path.{refl, ◌∙◌}
use native.Mathlib.Omega.{arith}
use Rattle.benchlog.specs.Format.{big_endian4}
use Rattle.benchlog.proofs.Places.{put-store}
use Rattle.benchlog.proofs.Fields.{copied_first}
use Rattle.sheetfile.specs.Format.{mark, head_bytes}
use Rattle.sheetfile.proofs.put_head.Goals as goal

pub returns : goal.returns
unfolding head_bytes
returns c =
    let a = c.args in
    (put-store _ (copied_first a.out.now a.at _ (big_endian4 mark) (omega arith) (omega arith) (c.copy_from_slice.ensures.after ∙ c.to_be_bytes.ensures)) (omega arith) refl).is
