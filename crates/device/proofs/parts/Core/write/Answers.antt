use Rattle.std.proofs.Common.{refl}
use Rattle.device.specs.Parts.{whole}
use Rattle.device.proofs.Events.{write-is}
use Rattle.device.proofs.parts.Core.write.Goals as goal

pub returns-then-deeds : goal.returns-then-deeds
returns-then-deeds c =
    let a = c.args in
    write-is (whole a.self a.regs.now a.frames.now) _ _ _ c.judge_write-judged.ensures _ record {
      regs = c.write_registers.ensures;
      channels = c.write_channels-self.ensures;
      temperature = rw c.if-deeds.true refl;
      came = rw c.if-deeds.true refl;
      flat = c.emptied_when-self.ensures;
      detectors = c.after_write-self.ensures;
    }

pub returns-else-deeds : goal.returns-else-deeds
returns-else-deeds c =
    let a = c.args in
    write-is (whole a.self a.regs.now a.frames.now) _ _ _ c.judge_write-judged.ensures _ record {
      regs = c.write_registers.ensures;
      channels = c.write_channels-self.ensures;
      temperature = rw c.if-deeds.false refl;
      came = rw c.if-deeds.false refl;
      flat = c.emptied_when-self.ensures;
      detectors = c.after_write-self.ensures;
    }
