-- `fifo::Fifo::push` meets its contract: the definition's test is the one that the store's work gives.
use Rattle.fifo.specs.Flat.{flat_pushed}
use Rattle.fifo.specs.Store.{pushed_in}
use Rattle.fifo.proofs.Fifo.push.Goals as goal

pub returns-then-push_frame : goal.returns-then-push_frame
unfolding pushed_in flat_pushed
returns-then-push_frame c =
    let most = c.depth_within-most.ensures in
    let held = c.least-held.ensures in
    let e = rw (c.setting_of-setting.ensures, held, most) at c.push_frame.ensures in
    rw (held, most, ← e.0, e.1, c.if-push_frame.true)

pub returns-else-push_frame : goal.returns-else-push_frame
unfolding pushed_in flat_pushed
returns-else-push_frame c =
    let most = c.depth_within-most.ensures in
    let held = c.least-held.ensures in
    let e = rw (c.setting_of-setting.ensures, held, most) at c.push_frame.ensures in
    rw (held, most, ← e.0, e.1, c.if-push_frame.false)
