-- The account of a device's events, one event at a time: by the event, its answer, and the range, the mode and the frames held behind it.
use Rattle.std.specs.Prelude.{ℕ, eqb, Option, None, Some}
use Rattle.laws.specs.Choice.{pick, both}
use Rattle.codes.specs.Addresses.{range_at, frames_at, control_at}
use Rattle.codes.specs.declared.Mode.{Mode}
use Rattle.codes.specs.declared.Range.{Range}
use Rattle.registers.specs.Answers.{Answer, accepted}
use Rattle.registers.specs.Deeds.{is_reset}
use Rattle.events.specs.Event.{Event, power_up, write, read, sample, cycle, clock}
use Rattle.counts.specs.Counts.{sum, less, left, with_readouts, arrived, no_doubts, account_moved}
use Rattle.counts.specs.declared.Account.{Account}
use Rattle.counts.specs.declared.Counts.{Counts}
use Rattle.counts.specs.declared.Doubt.{Doubt}
use Rattle.counts.specs.declared.Doubts.{Doubts}
use Rattle.counts.specs.declared.Why.{Why}
use Rattle.counts.specs.declared.Why.TheVariants as why

-- ---- counts
-- 1 for an event that is refused
abbrev pub refused_by : Answer → ℕ
refused_by a = pick (accepted a) 0 1

-- 1 for a readout: an accepted read at 0x3F
abbrev pub readouts_by : ℕ → Answer → ℕ
readouts_by address a = pick (both (eqb address frames_at) (accepted a)) 1 0

-- one event more, by its answer and the frames held before and behind it. Frames that a read lets go were taken, and those that a
-- write lets go were cleared; an accepted sample makes one frame more, or one was lost; at a cycle start, or Q-4's clock, none comes or
-- goes
unfoldable pub counts_after : Counts → Event → Answer → ℕ → ℕ → Counts
counts_after c power_up a before behind = left c 0 (less before behind) (refused_by a)
counts_after c (write address byte) a before behind = left c 0 (less before behind) (refused_by a)
counts_after c (read address n) a before behind = with_readouts (left c (less before behind) 0 (refused_by a)) (readouts_by address a)
counts_after c (sample x y z temperature) a before behind = pick (accepted a) (arrived c (less (sum before 1) behind)) (left c 0 0 1)
counts_after c cycle a before behind = left c 0 0 (refused_by a)
counts_after c (clock us) a before behind = left c 0 0 (refused_by a)

-- ---- why a stretch ends with an event
unfoldable pub why_of_write : ℕ → ℕ → Answer → Option Why
why_of_write address byte a =
    pick (is_reset address byte) (Some why.Reset)
    (pick (eqb address range_at) (Some (pick (accepted a) why.Range why.Refused)) None)

unfoldable pub why_of_read : ℕ → Answer → Option Why
why_of_read address a = pick (eqb address frames_at) (pick (accepted a) (Some why.Readout) None) None

abbrev pub why_of : Event → Answer → Option Why
why_of power_up a = Some why.Reset
why_of (write address byte) a = why_of_write address byte a
why_of (read address n) a = why_of_read address a
why_of (sample x y z temperature) a = None
why_of cycle a = None
why_of (clock us) a = None

-- ---- doubts
-- of what the register at `about` sets, behind a write that is event number: "a code that the sheet doesn't define gets a numbered
-- refusal", and what the chip did then is not in the sheet; an accepted write to the register, or a soft reset, says it again
unfoldable pub doubt_after : Option Doubt → ℕ → ℕ → ℕ → Answer → ℕ → Option Doubt
doubt_after d about address byte a number =
    pick (is_reset address byte) None
    (pick (eqb address about) (pick (accepted a) None (Some (record { byte = byte; number = number }))) d)

-- of the range, by 0x0F, and of the mode, by 0x3E
abbrev pub doubts_after : Doubts → ℕ → ℕ → Answer → ℕ → Doubts
doubts_after d address byte a number = record {
  range = doubt_after d.range range_at address byte a number;
  mode = doubt_after d.mode control_at address byte a number;
}

abbrev pub doubts_behind : Doubts → Event → Answer → ℕ → Doubts
doubts_behind d power_up a number = no_doubts
doubts_behind d (write address byte) a number = doubts_after d address byte a number
doubts_behind d (read address n) a number = d
doubts_behind d (sample x y z temperature) a number = d
doubts_behind d cycle a number = d
doubts_behind d (clock us) a number = d

-- ---- the account
unfoldable pub account_after : Account → Event → Answer → Range → Mode → ℕ → Account
account_after a e answer range mode held =
    account_moved a (counts_after a.counts e answer a.held held) (doubts_behind a.doubts e answer (sum a.number 1)) range mode held
