-- `fifo::Fifo::emptied_when` meets its contract: the whole store becomes zeros, or nothing changes.
use Rattle.std.proofs.Common.{ℕ, ◌≡◌, length, rules}
use Rattle.std.proofs.Math.Seq.{paste}
use Rattle.laws.specs.Bytes.{zeros}
use Rattle.laws.proofs.Bytes.{paste-whole, length-zeros}
use Rattle.fifo.specs.Store.{no_frames, room}
use Rattle.fifo.proofs.Fifo.emptied_when.Goals as goal

pub returns-then-empties : goal.returns-then-empties
unfolding no_frames
returns-then-empties c =
    let s = c.args.frames.now in
    let l : length s ≡ room = search rules in
    let z : (n : ℕ) → length s ≡ n → paste s 0 (zeros n) n ≡ zeros n = λ n e. rw (← e) (paste-whole s (zeros (length s)) (length-zeros (length s))) in
    rw (c.if-empties.true, c.clear.ensures, z room l)
