use native.Mathlib.Omega.{arith}
use Rattle.text.proofs.Texts.{length-decimal, pushed-length, pushed-two}
use Rattle.text.proofs.write_front.Goals as goal

pub put_byte-to-requires : goal.put_byte-to-requires
put_byte-to-requires c = omega (arith, length-decimal c.args.number, pushed-length c.put_decimal-to.ensures)

pub put_decimal-to-requires-2 : goal.put_decimal-to-requires-2
put_decimal-to-requires-2 c =
    omega (arith, length-decimal c.args.number, pushed-length c.put_decimal-to.ensures, pushed-length c.put_byte-to.ensures)

pub put_behind_space-requires : goal.put_behind_space-requires
put_behind_space-requires c =
    omega (
      arith,
      length-decimal c.args.number,
      length-decimal c.args.answer,
      pushed-length c.put_decimal-to.ensures,
      pushed-length c.put_byte-to.ensures,
      pushed-length c.put_decimal-to-2.ensures,
    )

pub returns : goal.returns
returns c =
    pushed-two c.put_decimal-to.ensures
    (pushed-two c.put_byte-to.ensures
    (pushed-two c.put_decimal-to-2.ensures c.put_behind_space.ensures))
