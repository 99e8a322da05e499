-- What the turns did before, and the last of them, come to the end of the pump.
use Rattle.std.proofs.Common.{arith, ◌≡◌, length, [], refl, sym, ◌∙◌}
use Rattle.jobs.specs.Follower.{worker}
use Rattle.stream.specs.Pump.{most_turns, none}
use Rattle.stream.proofs.Turns.{turned_on}
use Rattle.stream.proofs.Ends.{ends, one_on}
use Rattle.stream.proofs.pump.Goals as goal

pub loop-init : goal.loop-init
loop-init g c = record {
  within = rw c.begin-state.ensures (omega arith, omega arith);
  room = c.large_buffer-buffer.ensures;
  text = c.large_buffer-text.ensures;
  came = rw c.begin-state.ensures (record { parts = []; blocks = []; done = none _ });
  few = omega arith;
}

pub returns-then-not-goes_on : goal.returns-then-not-goes_on
returns-then-not-goes_on g c =
    let loop = c.loop in
    let turn = c.turn-turned in
    let off = sym c.goes_on.ensures ∙ c.if-not-goes_on.true in
    rw c.ended_at.ensures
    (ends (worker g.F.Follower.following) g.met.F.Follower.lawful c.args.follower _ loop.state loop.buffer (length loop.text) turn.result.state turn.new.buffer loop.invariant.came turn.result.how off turn.ensures)

pub loop-preserved : goal.loop-preserved
loop-preserved g c =
    let loop = c.loop in
    let turn = c.turn-turned in
    let on = sym c.goes_on.ensures ∙ c.if-not-goes_on.false in
    let b = turn.auto.buffer in
    let t = turn.auto.text in
    let went = turned_on _ turn.result.how loop.state loop.buffer (length loop.text) turn.result.state turn.new.buffer on turn.ensures in
    record {
      within = (went.1.0, omega (arith, went.1.1, b));
      room = loop.invariant.room ∙ sym b;
      text = loop.invariant.text ∙ sym t;
      came = one_on loop.counter (length loop.text) loop.invariant.came went.0;
      few = omega (arith, c.loop-test.true);
    }

pub returns : goal.returns
returns g c =
    let loop = c.loop in
    let over : loop.counter ≡ most_turns = omega (arith, c.loop-test.false, loop.invariant.few) in
    let came = rw over at loop.invariant.came in
    rw c.ended_at-2.ensures
    (record { parts = came.parts; blocks = came.blocks; state = loop.state; held = loop.buffer; done = came.done; ended_is = refl })
