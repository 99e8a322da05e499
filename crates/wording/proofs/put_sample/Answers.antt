use Rattle.std.proofs.Common.{refl, w16}
use Rattle.std.proofs.Math.Facts.{to_z-of_z}
use Rattle.text.specs.Text.{left_in, place_after}
use Rattle.wording.proofs.put_sample.Goals as goal

pub returns-then-lacks_room : goal.returns-then-lacks_room
unfolding left_in place_after
returns-then-lacks_room c = simp (← c.lacks_room.ensures, c.if-lacks_room.true) (refl, refl)

pub returns : goal.returns
unfolding left_in place_after
returns c =
    let f = c.ranges in
    let p = rw (to_z-of_z {w = w16} f.x, to_z-of_z {w = w16} f.y, to_z-of_z {w = w16} f.z) at c.write_sample.ensures in
    simp (← c.lacks_room.ensures, c.if-lacks_room.false) (p.place, p.bytes)
