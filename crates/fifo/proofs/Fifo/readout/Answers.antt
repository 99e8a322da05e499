-- `fifo::Fifo::readout` meets its contract: the store has room for frames of every size.
use Rattle.std.proofs.Common.{◌≡◌, ◌≤◌, length, arith, rules}
use Rattle.std.proofs.Math.Nat.{mul-le-mul_right}
use Rattle.fifo.specs.Setting.{size_of}
use Rattle.fifo.specs.Flat.{flat_read, bytes_read}
use Rattle.fifo.specs.Store.{read_in, bytes_in, count_in, count_at, fitting, room}
use Rattle.fifo.proofs.Bounds.{size-bounds, fitting-deep, size-space}
use Rattle.fifo.proofs.Fifo.readout.Goals as goal

pub read_frames-left-requires : goal.read_frames-left-requires
unfolding count_in
read_frames-left-requires c =
    let a = c.args in
    let b : length a.frames.now ≡ room = search rules in
    let s = size-bounds a.axes in
    let few : count_at a.depth a.self ≤ fitting room a.depth = omega arith in
    rw (c.size_of-size.ensures, c.count-held.ensures) (omega (arith, mul-le-mul_right (size_of a.axes) few, size-space (fitting-deep room a.depth (omega arith)) a.axes), s.0, s.1)

pub overflow_cast-self : goal.overflow_cast-self
unfolding count_in
overflow_cast-self c = omega (arith, c.read_frames-left.ensures.0.0, c.count-held.ensures)

pub returns : goal.returns
unfolding read_in bytes_in count_in flat_read bytes_read
returns c =
    let e = c.read_frames-left.ensures in
    (rw (← c.size_of-size.ensures, ← c.count-held.ensures, e.0.0, e.0.1), rw (← c.size_of-size.ensures, ← c.count-held.ensures, e.1))
