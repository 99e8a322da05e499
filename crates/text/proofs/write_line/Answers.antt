use native.Mathlib.Omega.{arith}
use Rattle.text.specs.Text.{line}
use Rattle.text.proofs.Texts.{length_front, pushed-length, pushed-two}
use Rattle.text.proofs.write_line.Goals as goal

pub put_byte-requires : goal.put_byte-requires
put_byte-requires c =
    omega (arith, length_front c.args.number c.args.answer c.args.bytes.now, pushed-length c.write_front-to.ensures)

pub returns : goal.returns
unfolding line
returns c = pushed-two c.write_front-to.ensures c.put_byte.ensures
