use Rattle.std.proofs.Common.{refl}
use Rattle.text.specs.Text.{left_in, place_after}
use Rattle.sheetlines.proofs.put_month.Goals as goal

pub returns-then-lacks_room : goal.returns-then-lacks_room
unfolding left_in place_after
returns-then-lacks_room c = simp (← c.lacks_room.ensures, c.if-lacks_room.true) (refl, refl)

pub returns : goal.returns
unfolding left_in place_after
returns c =
    let p = c.write_month.ensures.pushed in
    simp (← c.lacks_room.ensures, c.if-lacks_room.false) (p.place, p.bytes)
