-- 01's printed case, and logs on either side of what stops a replay and of a latch time: what the replay prints, by computation.
-- Assumes nothing.
use mathlib.Core.List.{map}
use mathlib.Core.Path.{◌≡◌, refl}
use Rattle.device.specs.Computed.{the_device}
use Rattle.benchlog.specs.Format.{length_of_kind}
use Rattle.benchlog.specs.Reader.{entry_of, found_in, read_head, read_version}
use Rattle.benchlog.specs.Walk.{walk_for, walk, walk_log}
use Rattle.text.specs.Text.{last_digits, decimal, line, line_with_pins}
use Rattle.follow.specs.Whole.{said_of, said_from}
use Rattle.entries.specs.Entries.{event_of}
use Rattle.playback.specs.Replay.{start, printed}
use Rattle.outcomes.specs.PrintedCases.{printed_cases}

pub printed-cases : map (λ c. printed c.pins c.log) printed_cases ≡ map (λ c. c.text) printed_cases
unfolding the_device length_of_kind entry_of found_in read_head read_version last_digits decimal line line_with_pins start event_of walk_for walk walk_log said_of said_from
printed-cases = refl
