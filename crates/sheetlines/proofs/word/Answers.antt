use Rattle.std.proofs.Common.{arith}
use Rattle.text.proofs.Texts.{put-pushed}
use Rattle.sheetlines.proofs.word.Goals as goal

pub returns : goal.returns
returns c =
    record { pushed = put-pushed _ c.requires (omega arith) c.put_word.ensures; short = omega arith }
