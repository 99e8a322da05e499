use Rattle.arguments.proofs.Digits.{is_same}
use Rattle.arguments.proofs.is_word.Goals as goal

pub returns : goal.returns
returns c = is_same _ _ _ c.same.ensures.0 c.same.ensures.1
