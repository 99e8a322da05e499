-- Q-5: low-g and high-g together: what a sample, a clock and a restart do to them.
use Rattle.std.specs.Prelude.{ℕ, List, ℤ, get_or}
use Rattle.laws.specs.Choice.{pick}
use Rattle.laws.specs.Bits.{bit}
use Rattle.codes.specs.Addresses.{range_at, enables_at, latch_at, low_delay_at, low_threshold_at, hystereses_at, high_delay_at, high_threshold_at}
use Rattle.codes.specs.Latch.{latch_of, is_unlatched, hold_of}
use Rattle.slopes.specs.Point.{no_axis}
use Rattle.spell.specs.Stopwatch.{stopped}
use Rattle.spell.specs.Spell.{quiet, restarted, clocked, after_sample}
use Rattle.spell.specs.declared.Spell.{Spell}
use Rattle.gravity.specs.Sizes.{time_of}
use Rattle.gravity.specs.Low.{low_shown}
use Rattle.gravity.specs.High.{high_shown}
use Rattle.gravity.specs.declared.Gravity.{Gravity}

-- what is kept of the two, and the two again
abbrev pub of_spells : Spell → Spell → Gravity
of_spells low high = record { watches = record { low = low.watch; high = high.watch }; low = low.alarm; high = high.alarm }

abbrev pub low_spell : Gravity → Spell
low_spell g = record { watch = g.watches.low; alarm = g.low }

abbrev pub high_spell : Gravity → Spell
high_spell g = record { watch = g.watches.high; alarm = g.high }

-- as at power-up
abbrev pub both_quiet : Gravity
both_quiet = of_spells (quiet stopped) (quiet stopped)

-- "restarts them: status, marks and runs clear"
unfoldable pub both_restarted : Gravity → Gravity
both_restarted g = of_spells (restarted stopped (low_spell g)) (restarted stopped (high_spell g))

-- a clock of us microseconds
unfoldable pub both_clocked : ℕ → Gravity → Gravity
both_clocked us g = of_spells (clocked stopped us (low_spell g)) (clocked stopped us (high_spell g))

-- Q-5: "Low is enabled by 0x17 bit 3"; it goes by 0x0F, 0x22, 0x23, 0x24 and the latch mode in 0x21
unfoldable pub low_sampled : List ℕ → ℤ → ℤ → ℤ → Spell → Spell
low_sampled regs x y z s =
    let latch = latch_of (get_or regs latch_at 0) in
    let shown = low_shown (get_or regs range_at 0) (get_or regs low_threshold_at 0) (get_or regs hystereses_at 0) x y z in
    pick (bit 3 (get_or regs enables_at 0)) (after_sample stopped shown (time_of (get_or regs low_delay_at 0)) (is_unlatched latch) (hold_of latch) s) s

-- Q-5: "high by bits 2:0"; it goes by 0x0F, 0x24, 0x25, 0x26 and the latch mode in 0x21
unfoldable pub high_sampled : List ℕ → ℤ → ℤ → ℤ → Spell → Spell
high_sampled regs x y z s =
    let enables = get_or regs enables_at 0 in
    let latch = latch_of (get_or regs latch_at 0) in
    let shown = high_shown enables (get_or regs range_at 0) (get_or regs high_threshold_at 0) (get_or regs hystereses_at 0) x y z in
    pick (no_axis enables) s (after_sample stopped shown (time_of (get_or regs high_delay_at 0)) (is_unlatched latch) (hold_of latch) s)

-- an accepted sample x, y, z
unfoldable pub both_sampled : List ℕ → ℤ → ℤ → ℤ → Gravity → Gravity
both_sampled regs x y z g = of_spells (low_sampled regs x y z (low_spell g)) (high_sampled regs x y z (high_spell g))
