-- The replay that the words ask for.
use Rattle.std.specs.Prelude.{Bool, Option, Some, None}
use Rattle.playback.specs.Replay.{replayer, start, printed}
use Rattle.playback.specs.declared.Replay.{Replay}
use Rattle.stream.specs.Pump.{PumpedAs}
use Rattle.stream.specs.declared.Ended.{Ended}

-- a pump that came to its end so replayed what was asked for: with the pins, or without
abbrev pub ReplayedAs : Option Bool → Ended Replay → Type 0
ReplayedAs None ended = ⊥
ReplayedAs (Some pins) ended = PumpedAs ended.how (printed pins) replayer (start pins) ended
