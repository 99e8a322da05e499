use Rattle.std.proofs.Common.{◌∙◌, ◌+◌, refl, sym, ap, arith}
use Rattle.std.proofs.Math.ListN.{length-set}
use Rattle.channels.specs.Channels.{after_read}
use Rattle.channels.specs.declared.Channels.{Channels}
use Rattle.device.specs.Read.{channels_read, bytes_from}
use Rattle.device.proofs.Burst.{channels-next, bytes_next}
use Rattle.device.proofs.reading.burst.Goals as goal

pub loop-i-init : goal.loop-i-init
unfolding channels_read bytes_from
loop-i-init c = (omega arith, refl, refl, refl)

pub loop-i-preserved : goal.loop-i-preserved
loop-i-preserved c =
    let a = c.args in
    let l = c.loop-i in (
      omega arith,
      length-set l.buffer _ _ ∙ l.invariant.1,
      bytes_next a.locks a.channels a.inside a.regs.now a.address l.buffer l.i _ l.now (omega arith) l.invariant.2 l.invariant.3 c.byte_from.ensures,
      c.after_read-now.ensures ∙ ap (λ (k : Channels). after_read a.locks (a.address + l.i) k) l.invariant.3
          ∙ sym (channels-next a.locks a.channels a.inside a.regs.now a.address l.i),
    )
