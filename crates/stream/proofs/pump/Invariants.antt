-- So many turns are done, behind which the pump goes on.
use Rattle.std.proofs.Common.{◌≡◌, length, ◌≤◌}
use Rattle.jobs.specs.Follower.{worker}
use Rattle.window.specs.Window.{Within}
use Rattle.stream.specs.Pump.{most_turns}
use Rattle.stream.proofs.Ends.{CameTo}
use Rattle.stream.proofs.pump.Given as goal

abbrev pub invariant-loop : goal.invariant-loop
invariant-loop g l = record {
  within : Within l.state.window (length l.buffer);
  room : 65536 ≡ length l.buffer;
  text : 65536 ≡ length l.text;
  came : CameTo (worker g.F.Follower.following) l.fn.follower l.counter l.state l.buffer;
  few : l.counter ≤ most_turns;
}
