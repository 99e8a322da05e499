use mathlib.Core.Path.{refl}
use Rattle.text.specs.Text.{left_in, place_after}
use Rattle.text.proofs.put_word.Goals as goal

pub returns-then-lacks_room : goal.returns-then-lacks_room
unfolding left_in place_after
returns-then-lacks_room c = simp (← c.lacks_room.ensures, c.if-lacks_room.true) (refl, refl)

pub returns : goal.returns
unfolding left_in place_after
returns c = let p = c.copy_word.ensures in simp (← c.lacks_room.ensures, c.if-lacks_room.false) (p.place, p.bytes)
