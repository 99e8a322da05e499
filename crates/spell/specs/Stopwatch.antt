-- Q-5, "of clock since the first such sample": a stopwatch, and the clock since it was started.
use Rattle.std.specs.Prelude.{ℕ, ◌+◌, ◌-◌, min, Bool, eqb, ltb}
use Rattle.laws.specs.Choice.{pick}
use Rattle.spell.specs.declared.Stopwatch.{Stopwatch}

-- 0 where it is stopped, else one more than the microseconds of clock since it was started
abbrev pub stopped : Stopwatch
stopped = record { count = 0 }

abbrev pub started : Stopwatch
started = record { count = 1 }

-- as far as it is counted. No answer changes by that: every time that is asked for is below it, and one that is reached stays so
-- (lasting/proofs/Runs: reached-is)
abbrev pub most : ℕ
most = 0xFFFFFFFF

-- a clock of us microseconds: as much of it as there is room for
unfoldable pub longer : ℕ → Stopwatch → Stopwatch
longer us s = pick (eqb s.count 0) s (record { count = s.count + min us (most - s.count) })

-- the condition is met: the first such sample starts it
abbrev pub going_on : Stopwatch → Stopwatch
going_on s = pick (eqb s.count 0) started s

-- "for (0x22 + 1) times 2 ms": also where it is just reached
abbrev pub is_reached : ℕ → Stopwatch → Bool
is_reached time s = ltb time s.count
