-- Q-5: a condition that is met "at each sample for" a time, and its alarm. A run begins with the stopwatch that is given as fresh: low-g's
-- and high-g's is a stopped one.
use Rattle.std.specs.Prelude.{ℕ, Bool, false}
use Rattle.laws.specs.Choice.{pick}
use Rattle.alarm.specs.Alarm.{off, raised, cleared, lapse_of}
use Rattle.alarm.specs.declared.Lapse.{Lapse}
use Rattle.alarm.specs.declared.Lapse.TheVariants.{Stands, Expires}
use Rattle.spell.specs.Stopwatch.{longer, going_on, is_reached}
use Rattle.spell.specs.declared.Stopwatch.{Stopwatch}
use Rattle.spell.specs.declared.Spell.{Spell}
use Rattle.spell.specs.declared.Shown.{Shown}
use Rattle.spell.specs.declared.Shown.TheVariants.{Nothing, Met, Unmet, FarFromMet}

-- as at power-up
abbrev pub quiet : Stopwatch → Spell
quiet fresh = record { watch = fresh; alarm = off }

-- "status, marks and runs clear"
unfoldable pub restarted : Stopwatch → Spell → Spell
restarted fresh s = record { watch = fresh; alarm = cleared s.alarm }

-- Q-4: "The status clears, with marks and runs, when the clock since its setting reaches that time"; what of the clock comes after that goes
-- on, in a run that has begun anew
abbrev pub lapsed : Stopwatch → Lapse → ℕ → Spell → Spell
lapsed fresh (Stands a) us s = record { watch = longer us s.watch; alarm = a }
lapsed fresh (Expires rest) us s = record { watch = longer rest fresh; alarm = cleared s.alarm }

unfoldable pub clocked : Stopwatch → ℕ → Spell → Spell
clocked fresh us s = lapsed fresh (lapse_of us s.alarm) us s

-- at a sample the condition is met, with a mark and a sign: "Both set only at a sample"
unfoldable pub after_met : ℕ → Bool → ℕ → ℕ → Spell → Spell
after_met mark negative time hold s =
    let w = going_on s.watch in
    record { watch = w; alarm = pick (is_reached time w) (raised mark negative hold s.alarm) s.alarm }

-- it is not met: the run ends, and where it clears the status does
unfoldable pub after_unmet : Stopwatch → Bool → Spell → Spell
after_unmet fresh clears s = record { watch = fresh; alarm = pick clears (cleared s.alarm) s.alarm }

-- what a sample shows; far from met it clears a status that is not latched
unfoldable pub after_sample : Stopwatch → Shown → ℕ → Bool → ℕ → Spell → Spell
after_sample fresh Nothing time unlatched hold s = s
after_sample fresh (Met mark negative) time unlatched hold s = after_met mark negative time hold s
after_sample fresh Unmet time unlatched hold s = after_unmet fresh false s
after_sample fresh FarFromMet time unlatched hold s = after_unmet fresh unlatched s
