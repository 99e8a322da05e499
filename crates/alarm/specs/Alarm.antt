-- 01, "Interrupts and pins", and Q-4: a detector's status, its marks, its sign, and the time for which the status is still held.
use Rattle.std.specs.Prelude.{ℕ, ◌+◌, ◌-◌, ◌%◌, Bool, true, false, ltb, leb}
use Rattle.laws.specs.Choice.{pick, both}
use Rattle.laws.specs.Bits.{worth}
use Rattle.alarm.specs.declared.Alarm.{Alarm}
use Rattle.alarm.specs.declared.Lapse.{Lapse}
use Rattle.alarm.specs.declared.Lapse.TheVariants.{Stands, Expires}

-- as at power-up
abbrev pub off : Alarm
off = record { status = false; mark = 0; negative = false; remaining = 0 }

-- "A status already set is not set again"; "On setting, .. bits 2:0 (z, y, x) mark the first over axis .. at that point, and bit 3 is 1
-- for a negative difference". The time for which it is held, 0 for none, begins then: Q-4, "over points don't extend it"
abbrev pub raised : ℕ → Bool → ℕ → Alarm → Alarm
raised mark negative hold a = pick a.status a (record { status = true; mark = mark; negative = negative; remaining = hold })

-- "The marks clear with the status; bit 3 stays"; no time is running then
abbrev pub cleared : Alarm → Alarm
cleared a = record { status = false; mark = 0; negative = a.negative; remaining = 0 }

-- ---- Q-4, "The device record gains the remaining time": in microseconds, and 0 where none is running
abbrev pub is_running : Alarm → Bool
is_running a = ltb 0 a.remaining

-- a clock of us microseconds comes: "The status clears .. when the clock since its setting reaches that time". What of the clock comes
-- after that is told, since it goes on: "Two clock events in a row equal one of their sum"
abbrev pub expires : ℕ → Alarm → Bool
expires us a = both (is_running a) (leb a.remaining us)

abbrev pub waited : ℕ → Alarm → Alarm
waited us a = record { status = a.status; mark = a.mark; negative = a.negative; remaining = a.remaining - us }

unfoldable pub lapse_of : ℕ → Alarm → Lapse
lapse_of us a = pick (expires us a) (Expires (us - a.remaining)) (Stands (waited us a))

-- the byte that shows them: the mark in bits 2:0, the sign in bit 3
abbrev pub marks_of : Alarm → ℕ
marks_of a = a.mark % 8 + worth 8 a.negative
