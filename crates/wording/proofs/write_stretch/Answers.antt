use Rattle.wording.specs.Wording.{stretch_line}
use Rattle.wording.proofs.Lines.{spelt-two}
use Rattle.wording.proofs.write_stretch.Goals as goal

pub returns : goal.returns
unfolding stretch_line
returns c = (spelt-two c.put_columns-to.ensures c.word.ensures).pushed
