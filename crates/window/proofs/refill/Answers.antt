-- What came stands behind what was not used, as far as there was room.
use borrow.Rule.Slice.PartMut.{put_mid}
use Rattle.std.proofs.Common.{rules, arith, length, ◌-◌, sym, ◌∙◌}
use Rattle.std.proofs.Math.ListN.{length-take, length-drop}
use Rattle.window.specs.Window.{HasRoom, Refilled, Within}
use Rattle.window.proofs.Places.{ends-within, has_room, refilled, came}
use Rattle.window.proofs.refill.Goals as goal

pub slice_bounds-read_into-count : goal.slice_bounds-read_into-count
slice_bounds-read_into-count g c = ends-within c.args.window.now c.args.buffer.now c.move_to_front.ensures.0 c.move_to_front.ensures.1

pub slice_bounds-read_into-start : goal.slice_bounds-read_into-start
slice_bounds-read_into-start g c =
    let end = ends-within c.args.window.now c.args.buffer.now c.move_to_front.ensures.0 c.move_to_front.ensures.1 in
    search (rules, end)

pub returns : goal.returns
returns g c =
    let read = c.read_into-got in
    let moved = c.move_to_front in
    let window = c.args.window.now in
    let buffer = c.args.buffer.now in
    came read.result.count moved.result _ _ (λ w. HasRoom window buffer × Refilled window buffer w (put_mid moved.result.to (length moved.new.buffer - moved.result.to) moved.new.buffer read.new.room) × Within w (length buffer)) (sym c.more_of.ensures ∙ c.in_ok-window.was) read.ensures.0 (λ n p.
    let some = simp (length-take, length-drop) at p.1 in
    let r = refilled window buffer moved.ensures.0 moved.ensures.1 read.new.room n read.auto.room (omega (arith, p.0, read.auto.room)) in
    (has_room window buffer moved.ensures.0 moved.ensures.1 (omega (arith, some)), r.0, r.1))
