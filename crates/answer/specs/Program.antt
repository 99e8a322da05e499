-- The answer that the words ask for.
use Rattle.std.specs.Prelude.{Option, Some, None}
use Rattle.answers.specs.Answer.{answerer, start, printed}
use Rattle.answers.specs.declared.Answering.{Answering}
use Rattle.answers.specs.declared.Asked.{Asked}
use Rattle.stream.specs.Pump.{PumpedAs}
use Rattle.stream.specs.declared.Ended.{Ended}

-- a pump that came to its end so answered what was asked for
abbrev pub AnsweredAs : Option Asked → Ended Answering → Type 0
AnsweredAs None ended = ⊥
AnsweredAs (Some asked) ended = PumpedAs ended.how (printed asked) answerer (start asked) ended
