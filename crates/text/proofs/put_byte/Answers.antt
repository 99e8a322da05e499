use mathlib.Core.Path.{refl}
use Rattle.benchlog.proofs.Places.{put_first}
use Rattle.text.proofs.Texts.{pushed}
use Rattle.text.proofs.put_byte.Goals as goal

pub returns : goal.returns
returns c = pushed (put_first c.args.out.now c.args.at c.args.byte c.requires) refl
