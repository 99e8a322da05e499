-- `fifo::no_frames` meets its contract: its array is zeros.
use Rattle.std.proofs.Common.{refl}
use Rattle.laws.specs.Bytes.{zeros}
use Rattle.fifo.specs.Store.{no_frames}
use Rattle.fifo.proofs.no_frames.Goals as goal

pub returns : goal.returns
unfolding no_frames zeros
returns c = refl
