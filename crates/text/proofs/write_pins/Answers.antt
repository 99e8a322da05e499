use Rattle.text.proofs.Texts.{pushed-two}
use Rattle.text.proofs.write_pins.Goals as goal

pub returns : goal.returns
returns c = pushed-two c.copy_word-to.ensures c.write_letters.ensures
