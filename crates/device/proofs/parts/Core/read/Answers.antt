use Rattle.std.proofs.Common.{◌∙◌, sym}
use borrow.Author.Tests.{eq-eqb, ne_eqb}
use Rattle.device.specs.Parts.{whole}
use Rattle.device.proofs.Events.{readout-is, burst-is, read-refused}
use Rattle.device.proofs.parts.Core.read.Goals as goal

pub returns-then-address-eq-FRAMES_AT : goal.returns-then-address-eq-FRAMES_AT
returns-then-address-eq-FRAMES_AT c =
    let a = c.args in
    let f = c.readout-self.ensures in
    let e = c.axes_of-axes.ensures in
    readout-is (whole a.self a.regs.now a.frames.now) _ a.buffer.now _ c.read_answer-answer.ensures (sym c.is_accepted.ensures ∙ c.if-is_accepted.true)
    (eq-eqb _ _ c.if-address-eq-FRAMES_AT.true) _ _ (f.0 ∙ rw e) (f.1 ∙ rw e)

pub returns-else-address-eq-FRAMES_AT : goal.returns-else-address-eq-FRAMES_AT
returns-else-address-eq-FRAMES_AT c =
    let a = c.args in
    let f = c.burst-self.ensures in
    let e = c.bit-locks.ensures in
    let s = c.inside.ensures in
    burst-is (whole a.self a.regs.now a.frames.now) _ a.buffer.now _ c.read_answer-answer.ensures (sym c.is_accepted.ensures ∙ c.if-is_accepted.true)
    (ne_eqb _ _ c.if-address-eq-FRAMES_AT.false) _ _ (f.0 ∙ rw e) (f.1 ∙ rw (e, s))

pub returns-else-is_accepted : goal.returns-else-is_accepted
returns-else-is_accepted c =
    let a = c.args in
    read-refused (whole a.self a.regs.now a.frames.now) _ a.buffer.now _ c.read_answer-answer.ensures (sym c.is_accepted.ensures ∙ c.if-is_accepted.false)
