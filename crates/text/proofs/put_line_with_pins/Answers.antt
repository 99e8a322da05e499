use mathlib.Core.Path.{refl}
use Rattle.text.specs.Text.{left_in, place_after}
use Rattle.text.proofs.put_line_with_pins.Goals as goal

pub returns-then-lacks_hex_room : goal.returns-then-lacks_hex_room
unfolding left_in place_after
returns-then-lacks_hex_room c = simp (← c.lacks_hex_room.ensures, c.if-lacks_hex_room.true) (refl, refl)

pub returns : goal.returns
unfolding left_in place_after
returns c = let p = c.write_line_with_pins.ensures in simp (← c.lacks_hex_room.ensures, c.if-lacks_hex_room.false) (p.place, p.bytes)
