use native.Mathlib.Omega.{arith}
use Rattle.text.specs.Text.{line_with_pins}
use Rattle.text.proofs.Texts.{length_front, pushed-length, pushed-two}
use Rattle.text.proofs.write_line_with_pins.Goals as goal

pub write_letters-requires : goal.write_letters-requires
write_letters-requires c =
    omega (arith, length_front c.args.number c.args.answer c.args.bytes.now, pushed-length c.write_front-to.ensures)

pub returns : goal.returns
unfolding line_with_pins
returns c = pushed-two c.write_front-to.ensures c.write_letters.ensures
