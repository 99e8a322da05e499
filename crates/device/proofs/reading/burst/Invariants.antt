use Rattle.std.proofs.Common.{◌≡◌, ◌≤◌, length, take}
use Rattle.device.specs.Read.{channels_read, bytes_from}
use Rattle.device.proofs.reading.burst.Given as goal

abbrev pub invariant-loop-i : goal.invariant-loop-i
invariant-loop-i l =
    (l.i ≤ length l.fn.buffer) × (length l.buffer ≡ length l.fn.buffer)
    × (take l.i l.buffer ≡ bytes_from l.fn.locks l.fn.channels l.fn.inside l.fn.regs l.first l.i)
    × (l.now ≡ channels_read l.fn.locks l.fn.channels l.first l.i)
