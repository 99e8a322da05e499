-- What the run wrote is handed over whole, and what follows is told by what the write and the read came to.
use Rattle.std.proofs.Common.{length}
use Rattle.jobs.specs.Follower.{worker}
use Rattle.stream.proofs.Turns.{text-handed, turned}
use Rattle.stream.proofs.turn.Goals as goal

pub write_run-delivered-requires : goal.write_run-delivered-requires
write_run-delivered-requires g c =
    text-handed (worker g.F.Follower.following) g.met.F.Follower.lawful c.args.state c.args.buffer.now (length c.args.text.now) c.requires.0 c.run_over-ran.ensures

pub returns : goal.returns
returns g c =
    turned (worker g.F.Follower.following) g.met.F.Follower.lawful c.args.state c.args.buffer.now (length c.args.text.now) c.requires.0 c.run_over-ran.ensures
    c.write_run-delivered.result.whole c.after_write.result.how c.after_write.result.state c.after_write.new.buffer c.requires.1 c.after_write.ensures
