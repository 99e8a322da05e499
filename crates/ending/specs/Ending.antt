-- A program's status, as it is written, and the record up to which its text is whole.
use Rattle.std.specs.Prelude.{ℕ, ◌+◌, ◌%◌}
use Rattle.jobs.specs.Follower.{Following}
use Rattle.stream.specs.Pump.{status_number}
use Rattle.stream.specs.declared.Ended.{Ended}
use Rattle.stream.specs.declared.Status.{Status}
use Rattle.stream.specs.declared.Status.TheVariants.{Misused}

-- its digit in ASCII
abbrev pub digit_of : Status → ℕ
digit_of status = (48 + status_number status) % 256

-- that of a program that was not used as it is meant to be
abbrev pub misused : Status
misused = Misused

-- the record up to which the text is whole: so many came to the follower that the pump handed back
abbrev pub whole_up_to : {S : Type 0} → Following S → Ended S → ℕ
whole_up_to following ended = following.record_count ended.follower
