use Rattle.entries.specs.Entries.{event_of}
use Rattle.account.proofs.Idle.{clock-as-cycle}
use Rattle.accounted.proofs.account_behind.Goals as goal

pub returns-in-Clock : goal.returns-in-Clock
unfolding event_of
returns-in-Clock c = simp (c.in-Clock.is, clock-as-cycle) c.after_idle-in-Clock.ensures
