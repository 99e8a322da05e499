-- 01, "Interrupts and pins": the any-motion detector, which is runs of points and an alarm.
use Rattle.std.specs.Prelude.{ℕ, ◌+◌, ◌%◌, Bool, leb}
use Rattle.std.specs.Prelude.{Option}
use Rattle.laws.specs.Choice.{pick, both}
use Rattle.alarm.specs.Alarm.{off, raised, cleared, lapse_of}
use Rattle.slopes.specs.Point.{point_of}
use Rattle.slopes.specs.Runs.{no_runs, over_run, calm_run}
use Rattle.slopes.specs.declared.Slopes.{Slopes}
use Rattle.slopes.specs.declared.Point.{Point}
use Rattle.slopes.specs.declared.Point.TheVariants.{None, Calm, Over}
use Rattle.alarm.specs.declared.Alarm.{Alarm}
use Rattle.alarm.specs.declared.Lapse.{Lapse}
use Rattle.alarm.specs.declared.Lapse.TheVariants.{Stands, Expires}
use Rattle.motion.specs.declared.Motion.{Motion}
use Rattle.motion.specs.declared.Settings.{Settings}

-- as at power-up
abbrev pub quiet : Motion
quiet = record { runs = no_runs; alarm = off }

-- with another alarm
abbrev pub with_alarm : Alarm → Motion → Motion
with_alarm a m = record { runs = m.runs; alarm = a }

-- "N is 0x27 bits 1:0 plus 1"; of slow motion, by Q-6, "from 0x27 bits 3:2 plus 1"
abbrev pub points_needed : Settings → ℕ
points_needed s = s.points % 4 + 1

-- an over point comes, where n in a row are asked for, with the mark of its axis and its sign: "N over points in a row set it". By Q-4 it is
-- held then, for hold microseconds, or with 0 for no time
unfoldable pub after_over : ℕ → ℕ → Bool → ℕ → Motion → Motion
after_over n axis falling hold m =
    let r = over_run n m.runs in
    record { runs = r; alarm = pick (leb n r.over) (raised axis falling hold m.alarm) m.alarm }

-- a calm point comes: "Non-latched, N calm points in a row clear it"
unfoldable pub after_calm : ℕ → Bool → Motion → Motion
after_calm n unlatched m =
    let r = calm_run n m.runs in
    record { runs = r; alarm = pick (both unlatched (leb n r.calm)) (cleared m.alarm) m.alarm }

abbrev pub after_point : Settings → Point → Motion → Motion
after_point s None m = m
after_point s Calm m = after_calm (points_needed s) s.unlatched m
after_point s (Over axis falling) m = after_over (points_needed s) axis falling s.hold m

-- an accepted sample comes
unfoldable pub after_sample : Settings → Option Slopes → Motion → Motion
after_sample s slopes m = after_point s (point_of s.axes s.threshold slopes) m

-- "An accepted write to 0x0F, 0x16, 0x21, 0x27 or 0x28 clears status, marks and runs"
unfoldable pub restarted : Motion → Motion
restarted m = record { runs = no_runs; alarm = cleared m.alarm }

-- a clock of us microseconds comes. Q-4: "The status clears, with marks and runs, when the clock since its setting reaches that time". Of what
-- comes after an expiry nothing is left to do here: no time is running then
abbrev pub after_lapse : Lapse → Motion → Motion
after_lapse (Stands a) m = record { runs = m.runs; alarm = a }
after_lapse (Expires rest) m = restarted m

unfoldable pub clocked : ℕ → Motion → Motion
clocked us m = after_lapse (lapse_of us m.alarm) m
