use Rattle.std.proofs.Common.{arith}
use Rattle.text.proofs.Texts.{put-pushed}
use Rattle.wording.proofs.in_hex.Goals as goal

pub returns : goal.returns
returns c = record { pushed = put-pushed 2 c.requires (omega arith) c.put_in_hex.ensures; short = omega arith }
