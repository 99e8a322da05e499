-- 01, "Both sides of each edge": the rows P1 to P10, and those of the requests, as one table.
use Rattle.std.specs.Prelude.{ℕ, ◌+◌, ◌-◌, ◌*◌, ◌/◌, ◌%◌, List, [], ◌∷◌, ◌++◌, ℤ, pos, negsuc, neg_ℤ}
use Rattle.laws.specs.Table.{up_from}
use Rattle.events.specs.Event.{Event, write, read, sample, cycle, clock, Given, answer, bytes}

-- a step of a row: an event, and what it gives
pub record Step : Type 0 where
  pub event : Event
  pub given : Given

infix 90 ◌⇒◌
abbrev ◌⇒◌ : Event → Given → Step
e ⇒ g = record { event = e; given = g }

-- a sample of x alone, and n accepted ones: 1, 2, ..
abbrev x : ℤ → Event
x v = sample v (pos 0) (pos 0) 0

abbrev samples : ℕ → List Step
samples n = up_from (λ k. x (pos k) ⇒ answer 0) 1 n

-- writes to one address, what each is answered, and what is read there behind them; two lists of unlike length are no row: no device
-- answers 0 to a read of no bytes
infix 80 ◌at◌give◌leave◌
abbrev ◌at◌give◌leave◌ : List ℕ → ℕ → List ℕ → ℕ → List Step
[] at a give [] leave held = read a 1 ⇒ bytes (held ∷ []) ∷ []
[] at a give (n ∷ ns) leave held = read a 0 ⇒ answer 0 ∷ []
(b ∷ bs) at a give [] leave held = read a 0 ⇒ answer 0 ∷ []
(b ∷ bs) at a give (n ∷ ns) leave held = write a b ⇒ answer n ∷ bs at a give ns leave held

-- each bit alone, from bit 7 down to bit 0
abbrev each_bit : List ℕ
each_bit = 0x80 ∷ 0x40 ∷ 0x20 ∷ 0x10 ∷ 0x08 ∷ 0x04 ∷ 0x02 ∷ 0x01 ∷ []

-- so many answers 0
abbrev all_done : ℕ → List ℕ
all_done n = up_from (λ k. 0) 0 n

-- the watermark on, with a level, in a mode
abbrev level_in : ℕ → ℕ → List Step
level_in level mode = write 0x17 0x40 ⇒ answer 0 ∷ write 0x30 level ⇒ answer 0 ∷ write 0x3E mode ⇒ answer 0 ∷ []

-- what 0x0A reads
abbrev status : ℕ → List Step
status byte = read 0x0A 1 ⇒ bytes (byte ∷ []) ∷ []

-- any-motion on x alone, above 4, with N one more than points, and a code in 0x21
abbrev motion_with : ℕ → ℕ → List Step
motion_with points code = write 0x16 0x01 ⇒ answer 0 ∷ write 0x28 0x01 ⇒ answer 0 ∷ write 0x27 points ⇒ answer 0 ∷ write 0x21 code ⇒ answer 0 ∷ []

-- an event that is answered 0, and what 0x09 reads behind it: any, a sample of x alone, a clock
abbrev shows : Event → ℕ → List Step
shows e byte = e ⇒ answer 0 ∷ read 0x09 1 ⇒ bytes (byte ∷ []) ∷ []

abbrev sampled : ℤ → ℕ → List Step
sampled v byte = shows (x v) byte

abbrev clocked : ℕ → ℕ → List Step
clocked us byte = shows (clock us) byte

-- both sides of a time in microseconds: one less and then at it; at it; one more; and one less and one more in several
abbrev limit : ℕ → ℕ → List Step
limit code time =
    motion_with 0 code ++ sampled (pos 0) 0x00 ++ sampled (pos 5) 0x04 ++ clocked (time - 1) 0x04 ++ clocked 1 0x00
    ++ sampled (pos 0) 0x04 ++ clocked time 0x00
    ++ sampled (pos 5) 0x04 ++ clocked (time + 1) 0x00
    ++ sampled (pos 0) 0x04 ++ clocked 1 0x04 ++ clocked (time - 3) 0x04 ++ clocked 1 0x04 ++ clocked 2 0x00

-- ---- low-g and high-g
-- a negative value, and a sample of y alone and of z alone
abbrev minus : ℕ → ℤ
minus n = neg_ℤ (pos n)

abbrev y : ℤ → Event
y v = sample (pos 0) v (pos 0) 0

abbrev z : ℤ → Event
z v = sample (pos 0) (pos 0) v 0

-- an accepted write, and what 0x0C reads
abbrev written : ℕ → ℕ → List Step
written a byte = write a byte ⇒ answer 0 ∷ []

abbrev marks : ℕ → List Step
marks byte = read 0x0C 1 ⇒ bytes (byte ∷ []) ∷ []

-- low-g alone, and high-g alone on some axes: with a time in 0x22 or 0x25, a threshold in 0x23 or 0x26, a byte in 0x24 and a code in 0x21
abbrev low_with : ℕ → ℕ → ℕ → ℕ → List Step
low_with delay threshold modes code = written 0x17 0x08 ++ written 0x22 delay ++ written 0x23 threshold ++ written 0x24 modes ++ written 0x21 code

abbrev high_with : ℕ → ℕ → ℕ → ℕ → ℕ → List Step
high_with axes delay threshold modes code =
    written 0x17 axes ++ written 0x25 delay ++ written 0x26 threshold ++ written 0x24 modes ++ written 0x21 code

-- .. for 2 ms below 384, or above 1536, with no hysteresis, non-latched
abbrev low : List Step
low = low_with 0x00 0x30 0x00 0x00

abbrev high : ℕ → List Step
high axes = high_with axes 0x00 0xC0 0x00 0x00

-- both, where a sample of x is low and high from a size of 1 to one of 383: with their times, and a code in 0x21
abbrev both_with : ℕ → ℕ → ℕ → List Step
both_with low_delay high_delay code = low_with low_delay 0x30 0x00 code ++ written 0x25 high_delay ++ written 0x26 0x00 ++ written 0x17 0x0F

-- the same sample at both ends of 2 ms: where 0x22 and 0x25 are 0, what 0x09 then reads tells whether it is low, or high. Without hysteresis one that
-- is not clears what another set
abbrev through : Event → ℕ → List Step
through e byte = e ⇒ answer 0 ∷ clock 2000 ⇒ answer 0 ∷ shows e byte

-- both sides of a size, of either sign, on an axis and on each: what 0x09 reads at it, and at one count more
abbrev sides : (ℤ → Event) → ℕ → ℕ → ℕ → List Step
sides axis size within beyond =
    through (axis (pos size)) within ++ through (axis (pos (size + 1))) beyond
    ++ through (axis (minus size)) within ++ through (axis (minus (size + 1))) beyond

abbrev sides_of_each : ℕ → ℕ → ℕ → List Step
sides_of_each size within beyond = sides x size within beyond ++ sides y size within beyond ++ sides z size within beyond

-- both sides of the size at which it clears, of either sign: set by a size, it stays at the next one and clears at the last
abbrev clearing : (ℤ → Event) → ℕ → ℕ → ℕ → ℕ → List Step
clearing axis setting staying cleared byte =
    through (axis (pos setting)) byte ++ shows (axis (pos staying)) byte ++ shows (axis (pos cleared)) 0x00
    ++ through (axis (minus setting)) byte ++ shows (axis (minus staying)) byte ++ shows (axis (minus cleared)) 0x00

-- both sides of a time in microseconds from the first sample that is low, or high, with one that clears behind each setting: one less and then at
-- it; at it; one more; and one less and at it in several
abbrev lasting : ℤ → ℤ → ℕ → ℕ → List Step
lasting met far byte time =
    sampled met 0x00 ++ clocked (time - 1) 0x00 ++ sampled met 0x00 ++ clocked 1 0x00 ++ sampled met byte ++ sampled far 0x00
    ++ sampled met 0x00 ++ clocked time 0x00 ++ sampled met byte ++ sampled far 0x00
    ++ sampled met 0x00 ++ clocked (time + 1) 0x00 ++ sampled met byte ++ sampled far 0x00
    ++ sampled met 0x00 ++ clocked 1 0x00 ++ clocked (time - 3) 0x00 ++ sampled met 0x00 ++ clocked 1 0x00 ++ sampled met 0x00
    ++ clocked 1 0x00 ++ sampled met byte

-- a run of 2 ms that starts here, whatever was before: both sides of its time
abbrev anew : ℤ → ℕ → List Step
anew met byte = sampled met 0x00 ++ clocked 1999 0x00 ++ sampled met 0x00 ++ clocked 1 0x00 ++ sampled met byte

-- a code that knows no time: what is left behind a sample that is far from low, or high
abbrev standing : ℤ → ℤ → ℕ → ℕ → List Step
standing met far byte left = through (x met) byte ++ clocked 4294967295 byte ++ sampled far left

-- both sides of a hold in microseconds, whatever samples come; behind it a whole time sets again, and is held for a whole one. Low-g, then high-g
abbrev holding : ℤ → ℤ → ℕ → ℕ → List Step
holding met far byte time =
    through (x met) byte ++ sampled far byte ++ sampled met byte ++ clocked (time - 1) byte ++ sampled met byte ++ clocked 1 0x00
    ++ anew met byte ++ clocked (time - 1) byte ++ clocked 1 0x00

abbrev each_holding : ℕ → ℕ → List Step
each_holding code time =
    low_with 0x00 0x30 0x00 code ++ holding (pos 0) (pos 384) 0x01 time
    ++ high_with 0x01 0x00 0xC0 0x00 code ++ holding (pos 1537) (pos 1536) 0x02 time

-- with both on: a write that restarts them, in a run and while they are set; and one that does not, answered with a number
abbrev restarted_by : ℕ → ℕ → ℕ → List Step
restarted_by code a byte =
    both_with 0x00 0x00 code ++ sampled (minus 1) 0x00 ++ clocked 2000 0x00 ++ written a byte ++ anew (minus 1) 0x03 ++ marks 0x09
    ++ shows (write a byte) 0x00 ++ marks 0x08 ++ anew (minus 1) 0x03

abbrev kept_by : ℕ → ℕ → ℕ → List Step
kept_by a byte number =
    both_with 0x00 0x00 0x00 ++ sampled (minus 1) 0x00 ++ clocked 1999 0x00 ++ (write a byte ⇒ answer number ∷ clocked 1 0x00)
    ++ sampled (minus 1) 0x03 ++ (write a byte ⇒ answer number ∷ clocked 0 0x03) ++ marks 0x09

-- low-g, high-g and any-motion on x set at one sample, with a code in 0x21
abbrev all_three : ℕ → List Step
all_three code = motion_with 0 code ++ both_with 0x00 0x00 code ++ sampled (pos 1) 0x00 ++ clocked 2000 0x00 ++ sampled (pos 6) 0x07

-- ---- slow motion and no-motion
-- with a byte in 0x27, axes and bit 3 in 0x18, a threshold in 0x29 and a code in 0x21. The last write restarts: behind it no clock has passed
abbrev slow_with : ℕ → ℕ → ℕ → ℕ → List Step
slow_with byte chosen threshold code = written 0x27 byte ++ written 0x18 chosen ++ written 0x29 threshold ++ written 0x21 code

-- of x alone above 4: slow motion with a byte in 0x27, and no-motion with a code of 0x27 bits 7:2; and a code in 0x21
abbrev slow : ℕ → ℕ → List Step
slow byte code = slow_with byte 0x01 0x01 code

abbrev still : ℕ → ℕ → List Step
still wait code = slow_with (4 * wait) 0x09 0x01 code

-- a wait that begins here: one microsecond less and then at it, with calm points; and one of a second
abbrev waited : ℤ → ℕ → List Step
waited v time = clocked (time - 1) 0x00 ++ sampled v 0x00 ++ clocked 1 0x00 ++ sampled v 0x08

abbrev second : ℤ → List Step
second v = waited v 1000000

-- both sides of the wait of a code, from the write and from over points: as above; at it; one more; and one less and at it in several
abbrev waiting : ℕ → ℕ → List Step
waiting wait time =
    still wait 0x00 ++ sampled (pos 0) 0x00 ++ waited (pos 0) time
    ++ sampled (pos 5) 0x00 ++ waited (pos 5) time
    ++ sampled (pos 0) 0x00 ++ clocked time 0x00 ++ sampled (pos 0) 0x08
    ++ sampled (pos 5) 0x00 ++ clocked (time + 1) 0x00 ++ sampled (pos 5) 0x08
    ++ sampled (pos 0) 0x00 ++ clocked 1 0x00 ++ clocked (time - 3) 0x00 ++ sampled (pos 0) 0x00 ++ clocked 1 0x00 ++ sampled (pos 0) 0x00
    ++ clocked 1 0x00 ++ sampled (pos 0) 0x08

-- .. from the write alone
abbrev wait_of : ℕ → ℕ → List Step
wait_of wait seconds = still wait 0x00 ++ sampled (pos 0) 0x00 ++ waited (pos 0) (seconds * 1000000)

-- slow motion with a byte in 0x27: one over point fewer than N and a calm one, N over points, one calm point fewer and an over one, N calm ones
abbrev by_one : ℕ → List Step
by_one byte = slow byte 0x00 ++ sampled (pos 0) 0x00 ++ sampled (pos 0) 0x00 ++ sampled (pos 5) 0x08 ++ sampled (pos 0) 0x08 ++ sampled (pos 0) 0x00

abbrev by_two : ℕ → List Step
by_two byte =
    slow byte 0x00 ++ sampled (pos 0) 0x00 ++ sampled (pos 5) 0x00 ++ sampled (pos 5) 0x00
    ++ sampled (pos 0) 0x00 ++ sampled (pos 5) 0x08
    ++ sampled (pos 5) 0x08 ++ sampled (pos 0) 0x08
    ++ sampled (pos 0) 0x08 ++ sampled (pos 0) 0x00

abbrev by_three : ℕ → List Step
by_three byte =
    slow byte 0x00 ++ sampled (pos 0) 0x00 ++ sampled (pos 5) 0x00 ++ sampled (pos 0) 0x00 ++ sampled (pos 0) 0x00
    ++ sampled (pos 5) 0x00 ++ sampled (pos 0) 0x00 ++ sampled (pos 5) 0x08
    ++ sampled (pos 5) 0x08 ++ sampled (pos 5) 0x08 ++ sampled (pos 0) 0x08
    ++ sampled (pos 0) 0x08 ++ sampled (pos 0) 0x08 ++ sampled (pos 0) 0x00

abbrev by_four : ℕ → List Step
by_four byte =
    slow byte 0x00 ++ sampled (pos 0) 0x00 ++ sampled (pos 5) 0x00 ++ sampled (pos 0) 0x00 ++ sampled (pos 5) 0x00 ++ sampled (pos 5) 0x00
    ++ sampled (pos 0) 0x00 ++ sampled (pos 5) 0x00 ++ sampled (pos 0) 0x00 ++ sampled (pos 5) 0x08
    ++ sampled (pos 5) 0x08 ++ sampled (pos 5) 0x08 ++ sampled (pos 5) 0x08 ++ sampled (pos 0) 0x08
    ++ sampled (pos 0) 0x08 ++ sampled (pos 0) 0x08 ++ sampled (pos 0) 0x08 ++ sampled (pos 0) 0x00

-- a second, and an event behind it: where N is 1 and a wait a second, 0x09 tells slow motion's over points and no-motion's calm ones
abbrev later : Event → ℕ → List Step
later e byte = clock 1000000 ⇒ answer 0 ∷ shows e byte

-- both sides of a slope, up and down, on an axis and on each, from the sample 0 and back: what 0x09 reads at it, and at one count more
abbrev slopes : (ℤ → Event) → ℕ → ℕ → ℕ → List Step
slopes axis size within beyond =
    later (axis (pos size)) within ++ later (axis (pos 0)) within ++ later (axis (pos (size + 1))) beyond ++ later (axis (pos (size + 1))) within
    ++ later (axis (pos 0)) beyond ++ later (axis (pos 0)) within

abbrev slopes_of_each : ℕ → ℕ → ℕ → List Step
slopes_of_each size within beyond = slopes x size within beyond ++ slopes y size within beyond ++ slopes z size within beyond

-- .. of slow motion, and of no-motion, on some axes above a threshold
abbrev slow_slopes : ℕ → ℕ → ℕ → List Step
slow_slopes axes threshold size = slow_with 0x00 axes threshold 0x00 ++ sampled (pos 0) 0x00 ++ slopes_of_each size 0x00 0x08

abbrev still_slopes : ℕ → ℕ → ℕ → List Step
still_slopes axes threshold size = slow_with 0x00 (axes + 8) threshold 0x00 ++ sampled (pos 0) 0x00 ++ slopes_of_each size 0x08 0x00

-- both sides of a hold in microseconds. Slow motion: neither a calm point nor an over one moves its end, and the next one is whole
abbrev slow_held : ℕ → ℕ → List Step
slow_held code time =
    slow 0x00 code ++ sampled (pos 0) 0x00 ++ sampled (pos 5) 0x08 ++ sampled (pos 5) 0x08 ++ clocked (time - 1) 0x08 ++ sampled (pos 0) 0x08
    ++ clocked 1 0x00 ++ sampled (pos 0) 0x00 ++ sampled (pos 5) 0x08 ++ clocked (time - 1) 0x08 ++ clocked 1 0x00
    ++ sampled (pos 0) 0x08 ++ clocked (time + 1) 0x00

-- .. no-motion, for a second: behind it the wait is a whole one, also where the end lies inside a clock, with the rest one short of a second and at it
abbrev still_held : ℕ → ℕ → List Step
still_held code time =
    still 0 code ++ sampled (pos 0) 0x00 ++ second (pos 0) ++ sampled (pos 5) 0x08 ++ clocked (time - 1) 0x08 ++ sampled (pos 5) 0x08
    ++ clocked 1 0x00 ++ second (pos 5)
    ++ clocked (time + 999999) 0x00 ++ sampled (pos 5) 0x00 ++ clocked 1 0x00 ++ sampled (pos 5) 0x08
    ++ clocked (time + 1000000) 0x00 ++ sampled (pos 5) 0x08 ++ clocked (time - 1) 0x08 ++ clocked 1000000 0x00 ++ sampled (pos 5) 0x00
    ++ clocked 1 0x00 ++ sampled (pos 5) 0x08

-- with no-motion, and with slow motion at N 2, on x and a code in 0x21: a write that restarts, in a wait or run and while it is set
abbrev still_restarted_by : ℕ → ℕ → ℕ → List Step
still_restarted_by code a byte =
    still 0 code ++ sampled (pos 0) 0x00 ++ clocked 999999 0x00 ++ written a byte ++ sampled (pos 0) 0x00 ++ second (pos 0)
    ++ shows (write a byte) 0x00 ++ sampled (pos 0) 0x00 ++ second (pos 0)

abbrev slow_restarted_by : ℕ → ℕ → ℕ → List Step
slow_restarted_by code a byte =
    slow 0x04 code ++ sampled (pos 0) 0x00 ++ sampled (pos 5) 0x00 ++ written a byte ++ sampled (pos 0) 0x00 ++ sampled (pos 5) 0x08
    ++ shows (write a byte) 0x00 ++ sampled (pos 0) 0x00 ++ sampled (pos 5) 0x08

-- .. and one that does not, answered with a number
abbrev still_kept_by : ℕ → ℕ → ℕ → List Step
still_kept_by a byte number =
    still 0 0x00 ++ sampled (pos 0) 0x00 ++ clocked 999999 0x00 ++ (write a byte ⇒ answer number ∷ clocked 1 0x00) ++ sampled (pos 0) 0x08
    ++ (write a byte ⇒ answer number ∷ clocked 0 0x08)

abbrev slow_kept_by : ℕ → ℕ → ℕ → List Step
slow_kept_by a byte number =
    slow 0x04 0x00 ++ sampled (pos 0) 0x00 ++ sampled (pos 5) 0x00 ++ (write a byte ⇒ answer number ∷ sampled (pos 0) 0x08)
    ++ (write a byte ⇒ answer number ∷ clocked 0 0x08)

abbrev each_kept_by : ℕ → ℕ → ℕ → List Step
each_kept_by a byte number = still_kept_by a byte number ++ slow_kept_by a byte number

-- any-motion of x with N 2 in place of them, where 0x18 bit 3 is 1
abbrev motion_kept_by : ℕ → ℕ → ℕ → List Step
motion_kept_by a byte number =
    written 0x18 0x08 ++ motion_with 1 0x00 ++ sampled (pos 0) 0x00 ++ sampled (pos 5) 0x00 ++ (write a byte ⇒ answer number ∷ sampled (pos 0) 0x04)
    ++ (write a byte ⇒ answer number ∷ clocked 0 0x04)

-- any-motion of x and no-motion of y, both above 4, N 1 and a second, with a code in 0x21; and a sample of both
abbrev moving_with : ℕ → List Step
moving_with code = written 0x18 0x0A ++ written 0x29 0x01 ++ motion_with 0 code

abbrev xy : ℕ → ℕ → Event
xy v w = sample (pos v) (pos w) (pos 0) 0

-- slow motion, low-g, high-g and any-motion on x set at one sample, with a code in 0x21
abbrev all_four : ℕ → List Step
all_four code =
    written 0x18 0x01 ++ written 0x29 0x01 ++ motion_with 0 code ++ both_with 0x00 0x00 code
    ++ sampled (pos 1) 0x00 ++ clocked 2000 0x00 ++ sampled (pos 6) 0x0F

-- what two registers hold
abbrev held : ℕ → ℕ → List Step
held chosen byte = read 0x18 1 ⇒ bytes (chosen ∷ []) ∷ read 0x27 1 ⇒ bytes (byte ∷ []) ∷ []

-- ---- offsets
-- the two bytes of twelve bits that are stored, new
abbrev stored : ℕ → List ℕ
stored bits = (bits % 16 * 16 + 1) ∷ (bits / 16) ∷ []

-- an axis: a sample of it alone, its offset's address, what selects it in 0x3E, and its LSB's address
pub record OneAxis : Type 0 where
  pub given : ℤ → Event
  pub offset : ℕ
  pub chosen : ℕ
  pub lsb : ℕ

abbrev on_x : OneAxis
on_x = record { given = x; offset = 0x38; chosen = 0x01; lsb = 0x02 }

abbrev on_y : OneAxis
on_y = record { given = y; offset = 0x39; chosen = 0x02; lsb = 0x04 }

abbrev on_z : OneAxis
on_z = record { given = z; offset = 0x3A; chosen = 0x03; lsb = 0x06 }

-- of a sample of one axis, selected in 0x3E: the twelve bits that are stored, as the frame and the channel have them
abbrev stores : OneAxis → ℤ → ℕ → List Step
stores on v bits = on.given v ⇒ answer 0 ∷ read 0x3F 2 ⇒ bytes (stored bits) ∷ read on.lsb 2 ⇒ bytes (stored bits) ∷ []

abbrev outside : OneAxis → ℤ → List Step
outside on v = on.given v ⇒ answer 4 ∷ []

-- both sides of both limits, with an offset of so many counts up, and of so many down; and what is given at both ends, and past them
abbrev limit_up : OneAxis → ℕ → ℕ → List Step
limit_up on byte counts =
    written on.offset byte ++ stores on (pos 0) counts
    ++ stores on (pos (2046 - counts)) 0x7FE ++ stores on (pos (2047 - counts)) 0x7FF ++ stores on (pos (2048 - counts)) 0x7FF
    ++ stores on (pos 2047) 0x7FF ++ outside on (pos 2048) ++ stores on (minus 2048) (0x800 + counts) ++ outside on (minus 2049)

abbrev limit_down : OneAxis → ℕ → ℕ → List Step
limit_down on byte counts =
    written on.offset byte ++ stores on (pos 0) (0x1000 - counts)
    ++ stores on (minus (2047 - counts)) 0x801 ++ stores on (minus (2048 - counts)) 0x800 ++ stores on (minus (2049 - counts)) 0x800
    ++ stores on (minus 2048) 0x800 ++ outside on (minus 2049) ++ stores on (pos 2047) (0x7FF - counts) ++ outside on (pos 2048)

-- in a range, by its code and the counts of a step: one step, and as many as a byte has
abbrev limits_in : ℕ → ℕ → OneAxis → List Step
limits_in code step on =
    written 0x0F code ++ written 0x3E on.chosen
    ++ limit_up on 0x01 step ++ limit_up on 0x7F (127 * step) ++ limit_down on 0xFF step ++ limit_down on 0x80 (128 * step)

-- each row starts at a fresh device
abbrev pub rows : List (List Step)
rows =
    -- P1 "fresh 0x00 reads FA; after writing 12 to it, still FA"
    (read 0x00 1 ⇒ bytes (0xFA ∷ []) ∷ write 0x00 0x12 ⇒ answer 0 ∷ read 0x00 1 ⇒ bytes (0xFA ∷ []) ∷ []) ∷
    -- P2 "0x0F: F5 reads back 05; then 04 gives 2 and 05 remains"
    (write 0x0F 0xF5 ⇒ answer 0 ∷ read 0x0F 1 ⇒ bytes (0x05 ∷ []) ∷ write 0x0F 0x04 ⇒ answer 2 ∷ read 0x0F 1 ⇒ bytes (0x05 ∷ []) ∷ []) ∷
    -- P3 "reads: 0x3E length 1 is 0; length 2 is 6; 0x40 length 0 is 1; 0x3F length 193 is 5"
    (read 0x3E 1 ⇒ bytes (0x00 ∷ []) ∷ read 0x3E 2 ⇒ answer 6 ∷ read 0x40 0 ⇒ answer 1 ∷ read 0x3F 193 ⇒ answer 5 ∷ []) ∷
    -- P4 "x 2047 accepted, 2048 gives 4; -2048 stored as 01 80 in a frame"
    (write 0x3E 0x40 ⇒ answer 0 ∷ x (pos 2047) ⇒ answer 0 ∷ x (pos 2048) ⇒ answer 4 ∷ read 0x3F 6 ⇒ bytes (0xF1 ∷ 0x7F ∷ 0x01 ∷ 0x00 ∷ 0x01 ∷ 0x00 ∷ []) ∷
    x (negsuc 2047) ⇒ answer 0 ∷ read 0x3F 6 ⇒ bytes (0x01 ∷ 0x80 ∷ 0x01 ∷ 0x00 ∷ 0x01 ∷ 0x00 ∷ []) ∷ []) ∷
    -- P5 "FIFO mode, 32 samples: 0x0E is 20; one more: A0, first frame the first sample"
    ((write 0x3E 0x40 ⇒ answer 0 ∷ samples 32) ++ (read 0x0E 1 ⇒ bytes (0x20 ∷ []) ∷
    x (pos 33) ⇒ answer 0 ∷ read 0x0E 1 ⇒ bytes (0xA0 ∷ []) ∷ read 0x3F 6 ⇒ bytes (0x11 ∷ 0x00 ∷ 0x01 ∷ 0x00 ∷ 0x01 ∷ 0x00 ∷ []) ∷ [])) ∷
    -- P6 "STREAM, 33 samples: A0, first frame the second sample"
    ((write 0x3E 0x80 ⇒ answer 0 ∷ samples 33) ++ (read 0x0E 1 ⇒ bytes (0xA0 ∷ []) ∷ read 0x3F 6 ⇒ bytes (0x21 ∷ 0x00 ∷ 0x01 ∷ 0x00 ∷ 0x01 ∷ 0x00 ∷ []) ∷ [])) ∷
    -- P7 "FIFO mode, two xyz frames: reading 1 byte leaves 1"
    ((write 0x3E 0x40 ⇒ answer 0 ∷ samples 2) ++ (read 0x3F 1 ⇒ bytes (0x11 ∷ []) ∷ read 0x0E 1 ⇒ bytes (0x01 ∷ []) ∷ [])) ∷
    -- P7 "reading 7 from two leaves 0"
    ((write 0x3E 0x40 ⇒ answer 0 ∷ samples 2) ++ (read 0x3F 7 ⇒ bytes (0x11 ∷ 0x00 ∷ 0x01 ∷ 0x00 ∷ 0x01 ∷ 0x00 ∷ 0x21 ∷ []) ∷ read 0x0E 1 ⇒ bytes (0x00 ∷ []) ∷ [])) ∷
    -- P8 "x 291, read 0x02: 31; sample x -1; 0x03 gives 12, then FF"
    (x (pos 291) ⇒ answer 0 ∷ read 0x02 1 ⇒ bytes (0x31 ∷ []) ∷ x (negsuc 0) ⇒ answer 0 ∷ read 0x03 1 ⇒ bytes (0x12 ∷ []) ∷ read 0x03 1 ⇒ bytes (0xFF ∷ []) ∷ []) ∷
    -- P9 "0x16=01, 0x28=01, 0x27=00, x 0, 4, 9: set at 9; 0x0B is 01"
    (write 0x16 0x01 ⇒ answer 0 ∷ write 0x28 0x01 ⇒ answer 0 ∷ write 0x27 0x00 ⇒ answer 0 ∷ x (pos 0) ⇒ answer 0 ∷ read 0x09 1 ⇒ bytes (0x00 ∷ []) ∷
    x (pos 4) ⇒ answer 0 ∷ read 0x09 1 ⇒ bytes (0x00 ∷ []) ∷ x (pos 9) ⇒ answer 0 ∷ read 0x09 1 ⇒ bytes (0x04 ∷ []) ∷ read 0x0B 1 ⇒ bytes (0x01 ∷ []) ∷ []) ∷
    -- P9 "Afresh, x 0, -5: 0B is 09"
    (write 0x16 0x01 ⇒ answer 0 ∷ write 0x28 0x01 ⇒ answer 0 ∷ write 0x27 0x00 ⇒ answer 0 ∷ x (pos 0) ⇒ answer 0 ∷ x (negsuc 4) ⇒ answer 0 ∷ read 0x0B 1 ⇒ bytes (0x09 ∷ []) ∷ []) ∷
    -- P10 "0x21=01 gives 3, 07 gives 0", with Q-4: "P10's first write gives 0"
    (write 0x21 0x01 ⇒ answer 0 ∷ write 0x21 0x07 ⇒ answer 0 ∷ []) ∷
    -- Q-1 "11 a detector bit in 0x16 to 0x18"; Q-5 "11 no longer for 0x17", Q-6 "11 no longer for 0x18"
    each_bit at 0x16 give (11 ∷ 11 ∷ 11 ∷ 11 ∷ 0 ∷ 0 ∷ 0 ∷ 0 ∷ []) leave 0x01 ∷
    each_bit at 0x17 give all_done 8 leave 0x01 ∷
    each_bit at 0x18 give all_done 8 leave 0x01 ∷
    -- Q-1 "12 a power mode in 0x11", also two modes or three at once
    each_bit at 0x11 give (12 ∷ 12 ∷ 12 ∷ 0 ∷ 0 ∷ 0 ∷ 0 ∷ 0 ∷ []) leave 0x00 ∷
    (0x1E ∷ 0x60 ∷ 0xA0 ∷ 0xC0 ∷ 0xE0 ∷ 0xFE ∷ []) at 0x11 give (0 ∷ 12 ∷ 12 ∷ 12 ∷ 12 ∷ 12 ∷ []) leave 0x1E ∷
    -- Q-1 "13 self-test, memory, calibration or offset in 0x32, 0x33, 0x36, 0x38 to 0x3A"; 0x37 was never refused; Q-7 "13 no longer for 0x38 to
    -- 0x3A"
    each_bit at 0x32 give (0 ∷ 0 ∷ 0 ∷ 0 ∷ 0 ∷ 0 ∷ 13 ∷ 13 ∷ []) leave 0x04 ∷
    each_bit at 0x33 give (0 ∷ 0 ∷ 0 ∷ 0 ∷ 13 ∷ 0 ∷ 13 ∷ 13 ∷ []) leave 0xF4 ∷
    each_bit at 0x36 give (13 ∷ 13 ∷ 13 ∷ 0 ∷ 0 ∷ 13 ∷ 13 ∷ 13 ∷ []) leave 0x10 ∷
    each_bit at 0x37 give (0 ∷ 0 ∷ 0 ∷ 0 ∷ 0 ∷ 0 ∷ 0 ∷ 0 ∷ []) leave 0x01 ∷
    each_bit at 0x38 give all_done 8 leave 0x01 ∷ each_bit at 0x39 give all_done 8 leave 0x01 ∷ each_bit at 0x3A give all_done 8 leave 0x01 ∷
    (0x00 ∷ 0xFF ∷ []) at 0x38 give all_done 2 leave 0xFF ∷ (0x80 ∷ 0x7F ∷ []) at 0x39 give all_done 2 leave 0x7F ∷
    (0xFF ∷ 0x00 ∷ []) at 0x3A give all_done 2 leave 0x00 ∷
    -- Q-4 "14 is gone": every nibble, and with the command of bit 7
    up_from (λ nibble. nibble) 0x00 16 at 0x21 give all_done 16 leave 0x0F ∷
    up_from (λ nibble. nibble) 0x80 16 at 0x21 give all_done 16 leave 0x0F ∷
    each_bit at 0x21 give all_done 8 leave 0x01 ∷
    -- Q-2 "The watermark case in 01 becomes 0, 1, 1": level 2 with one, two, three frames
    (level_in 2 0x40 ++ samples 1 ++ status 0x00 ++ samples 1 ++ status 0x40 ++ samples 1 ++ status 0x40) ∷
    -- Q-2 "at or above a level from 1 to 32": level 32 with 31, 32 and one sample more, in FIFO and in STREAM mode
    (level_in 32 0x40 ++ samples 31 ++ status 0x00 ++ samples 1 ++ status 0x40 ++ samples 1 ++ status 0x40) ∷
    (level_in 32 0x80 ++ samples 31 ++ status 0x00 ++ samples 1 ++ status 0x40 ++ samples 1 ++ status 0x40) ∷
    -- Q-2 "Level 0 and levels above the depth never fire": level 0 with no frame, one, and 32 of 33 samples; level 33 with 32 frames
    (level_in 0 0x40 ++ status 0x00 ++ samples 1 ++ status 0x00 ++ samples 32 ++ status 0x00) ∷
    (level_in 33 0x40 ++ samples 32 ++ status 0x00 ++ samples 1 ++ status 0x00) ∷
    (level_in 33 0x80 ++ samples 32 ++ status 0x00 ++ samples 1 ++ status 0x00) ∷
    -- .. and in BYPASS, whose depth is 1, level 1 with no frame, one, and one of two samples; level 2
    (level_in 1 0x00 ++ status 0x00 ++ samples 1 ++ status 0x40 ++ samples 1 ++ status 0x40) ∷
    (level_in 2 0x00 ++ samples 1 ++ status 0x00 ++ samples 1 ++ status 0x00) ∷
    -- Q-2: a readout that leaves the level, and one of a single byte that brings the count below it
    (level_in 2 0x40 ++ samples 3 ++ (read 0x3F 6 ⇒ bytes (0x11 ∷ 0x00 ∷ 0x01 ∷ 0x00 ∷ 0x01 ∷ 0x00 ∷ []) ∷ status 0x40)
    ++ (read 0x3F 1 ⇒ bytes (0x21 ∷ []) ∷ status 0x00)) ∷
    -- Q-4 "Codes 0001 to 0110 hold for 250 ms, 500 ms, 1, 2, 4 and 8 s"
    limit 0b0001 250000 ∷ limit 0b0010 500000 ∷ limit 0b0011 1000000 ∷ limit 0b0100 2000000 ∷ limit 0b0101 4000000 ∷ limit 0b0110 8000000 ∷
    -- Q-4 "1001 to 1110 for 250 us, 500 us, 1, 12.5, 25 and 50 ms"
    limit 0b1001 250 ∷ limit 0b1010 500 ∷ limit 0b1011 1000 ∷ limit 0b1100 12500 ∷ limit 0b1101 25000 ∷ limit 0b1110 50000 ∷
    -- the other four codes know no time: latched and non-latched, with N calm points for the latter
    (motion_with 0 0b0111 ++ sampled (pos 0) 0x00 ++ sampled (pos 5) 0x04 ++ clocked 4294967295 0x04 ++ sampled (pos 5) 0x04) ∷
    (motion_with 0 0b1111 ++ sampled (pos 0) 0x00 ++ sampled (pos 5) 0x04 ++ clocked 4294967295 0x04 ++ sampled (pos 5) 0x04) ∷
    (motion_with 0 0b0000 ++ sampled (pos 0) 0x00 ++ sampled (pos 5) 0x04 ++ clocked 4294967295 0x04 ++ sampled (pos 5) 0x00) ∷
    (motion_with 0 0b1000 ++ sampled (pos 0) 0x00 ++ sampled (pos 5) 0x04 ++ clocked 4294967295 0x04 ++ sampled (pos 5) 0x00) ∷
    -- Q-4 "Calm points don't clear it sooner"
    (motion_with 0 0b1001 ++ sampled (pos 0) 0x00 ++ sampled (pos 5) 0x04 ++ sampled (pos 5) 0x04 ++ sampled (pos 5) 0x04 ++ clocked 249 0x04 ++ sampled (pos 5) 0x04 ++ clocked 1 0x00) ∷
    -- Q-4 "over points don't extend it"
    (motion_with 0 0b1001 ++ sampled (pos 0) 0x00 ++ sampled (pos 5) 0x04 ++ clocked 249 0x04 ++ sampled (pos 0) 0x04 ++ clocked 1 0x00) ∷
    -- Q-4 "with marks and runs": with N = 2 the third over point of a row that set it does not count behind the expiry
    (motion_with 1 0b1001 ++ sampled (pos 0) 0x00 ++ sampled (pos 5) 0x00 ++ sampled (pos 0) 0x04 ++ sampled (pos 5) 0x04 ++ clocked 250 0x00
    ++ sampled (pos 0) 0x00 ++ sampled (pos 5) 0x04) ∷
    -- .. and bit 3 of 0x0B stays
    (motion_with 0 0b1001 ++ sampled (pos 5) 0x00 ++ sampled (pos 0) 0x04 ++ (read 0x0B 1 ⇒ bytes (0x09 ∷ []) ∷ clocked 250 0x00) ++ (read 0x0B 1 ⇒ bytes (0x08 ∷ []) ∷ [])) ∷
    -- a write that restarts clears at once, and the time of the next setting is a whole one
    (motion_with 0 0b1001 ++ sampled (pos 0) 0x00 ++ sampled (pos 5) 0x04 ++ clocked 100 0x04 ++ (write 0x28 0x01 ⇒ answer 0 ∷ clocked 0 0x00)
    ++ sampled (pos 0) 0x04 ++ clocked 249 0x04 ++ clocked 0 0x04 ++ clocked 1 0x00) ∷
    -- clock that passed before the setting does not count
    (motion_with 0 0b1001 ++ sampled (pos 0) 0x00 ++ clocked 249 0x00 ++ sampled (pos 5) 0x04 ++ clocked 249 0x04 ++ clocked 1 0x00) ∷
    -- Q-5 "every axis size .. is below 8 times 0x23": 8 times 30 is 384, 8 times 01 is 8, 8 times FF is 2040
    (low ++ sides_of_each 383 0x01 0x00) ∷
    (low ++ through (x (pos 0)) 0x01 ++ through (x (minus 2048)) 0x00 ++ through (y (pos 0)) 0x01 ++ through (y (minus 2048)) 0x00
    ++ through (z (pos 0)) 0x01 ++ through (z (minus 2048)) 0x00) ∷
    (low ++ through (sample (pos 383) (minus 383) (pos 383) 0) 0x01 ++ through (sample (pos 383) (minus 383) (pos 384) 0) 0x00) ∷
    (low_with 0x00 0x01 0x00 0x00 ++ sides x 7 0x01 0x00) ∷
    (low_with 0x00 0xFF 0x00 0x00 ++ sides_of_each 2039 0x01 0x00 ++ through (x (pos 2039)) 0x01 ++ through (x (minus 2048)) 0x00) ∷
    -- Q-5 "in 2 g counts (count times 1, 2, 4, 8 by range)": 384 is 192 at 4 g, 96 at 8 g and 48 at 16 g; below 8 at 16 g is 0 alone
    (low ++ written 0x0F 0x05 ++ sides_of_each 191 0x01 0x00) ∷
    (low ++ written 0x0F 0x08 ++ sides_of_each 95 0x01 0x00) ∷
    (low ++ written 0x0F 0x0C ++ sides_of_each 47 0x01 0x00 ++ written 0x0F 0x03 ++ sides_of_each 383 0x01 0x00) ∷
    (low_with 0x00 0x01 0x00 0x00 ++ written 0x0F 0x0C ++ sides x 0 0x01 0x00) ∷
    -- Q-5 "or in sum mode (0x24 bit 2) their sum": one axis alone, and three of which none is near the threshold, at each range
    (low_with 0x00 0x30 0x04 0x00 ++ sides_of_each 383 0x01 0x00) ∷
    (low_with 0x00 0x30 0x04 0x00 ++ sides (λ v. sample v (pos 128) (minus 128) 0) 127 0x01 0x00) ∷
    (low_with 0x00 0x30 0x04 0x00 ++ written 0x0F 0x05 ++ sides (λ v. sample (pos 64) v (minus 64) 0) 63 0x01 0x00) ∷
    (low_with 0x00 0x30 0x04 0x00 ++ written 0x0F 0x08 ++ sides (λ v. sample (minus 32) (pos 32) v 0) 31 0x01 0x00) ∷
    (low_with 0x00 0x30 0x04 0x00 ++ written 0x0F 0x0C ++ sides (λ v. sample v (pos 16) (minus 16) 0) 15 0x01 0x00) ∷
    -- .. and of 8 times 4096, and the largest there is, 8 times 6144
    (low_with 0x00 0xFF 0x04 0x00 ++ written 0x0F 0x0C ++ through (x (pos 0)) 0x01 ++ through (sample (minus 2048) (minus 2048) (pos 0) 0) 0x00
    ++ through (x (pos 0)) 0x01 ++ through (sample (minus 2048) (minus 2048) (minus 2048) 0) 0x00) ∷
    -- 0x23 = 0: nothing is below 0, with no hysteresis and with the largest, in single mode and in sum mode
    (low_with 0x00 0x00 0x00 0x00 ++ through (x (pos 0)) 0x00 ++ through (x (pos 0)) 0x00) ∷
    (low_with 0x00 0x00 0x07 0x00 ++ through (x (pos 0)) 0x00 ++ through (x (pos 0)) 0x00) ∷
    -- Q-5 "at each sample for (0x22 + 1) times 2 ms of clock since the first such sample", as at power-up, where 0x22 is 09 and 0x25 is 0F, and others;
    -- "Both set only at a sample": behind a clock alone 0x09 is 00
    (written 0x17 0x08 ++ lasting (pos 383) (pos 512) 0x01 20000) ∷
    (low ++ lasting (pos 0) (pos 384) 0x01 2000) ∷
    (low_with 0x01 0x30 0x00 0x00 ++ lasting (pos 0) (pos 384) 0x01 4000) ∷
    (low_with 0xFF 0x30 0x00 0x00 ++ lasting (pos 0) (pos 384) 0x01 512000) ∷
    -- "since the first such sample": it never sets by itself, nor do others that no clock parts from it; clock before it does not count
    (low ++ sampled (pos 0) 0x00 ++ sampled (pos 0) 0x00 ++ clocked 0 0x00 ++ sampled (pos 0) 0x00) ∷
    (low ++ clocked 4294967295 0x00 ++ anew (pos 0) 0x01) ∷
    (low ++ sampled (pos 384) 0x00 ++ clocked 2000 0x00 ++ anew (pos 0) 0x01) ∷
    -- .. and however much comes behind it, as 2 to the 33 microseconds, it is the time and more
    (low ++ sampled (pos 0) 0x00 ++ clocked 4294967295 0x00 ++ clocked 4294967295 0x00 ++ clocked 2 0x00 ++ sampled (pos 0) 0x01) ∷
    -- "at each sample": the time has passed, but the next one is not low, without hysteresis and in its band
    (low ++ sampled (pos 0) 0x00 ++ clocked 2000 0x00 ++ sampled (pos 384) 0x00 ++ anew (pos 0) 0x01) ∷
    (low_with 0x00 0x30 0x01 0x00 ++ sampled (pos 0) 0x00 ++ clocked 2000 0x00 ++ sampled (pos 384) 0x00 ++ anew (pos 0) 0x01) ∷
    (low_with 0x00 0x30 0x01 0x00 ++ sampled (pos 0) 0x00 ++ clocked 2000 0x00 ++ shows (z (minus 511)) 0x00 ++ anew (pos 0) 0x01) ∷
    -- Q-5 "It clears at a sample where some axis .. is at or above that plus 128 times 0x24 bits 1:0": 384, 512, 640, 768. In the band below it stays
    (low_with 0x00 0x30 0xC0 0x00 ++ clearing x 0 383 384 0x01) ∷
    (low_with 0x00 0x30 0xC1 0x00 ++ clearing x 0 511 512 0x01 ++ clearing y 0 384 512 0x01 ++ clearing z 0 511 512 0x01) ∷
    (low_with 0x00 0x30 0xC2 0x00 ++ clearing x 0 639 640 0x01) ∷
    (low_with 0x00 0x30 0x03 0x00 ++ clearing x 0 767 768 0x01) ∷
    -- .. which are 2 g counts too
    (low_with 0x00 0x30 0x01 0x00 ++ written 0x0F 0x05 ++ clearing x 0 255 256 0x01) ∷
    (low_with 0x00 0x30 0x01 0x00 ++ written 0x0F 0x08 ++ clearing y 0 127 128 0x01) ∷
    (low_with 0x00 0x30 0x01 0x00 ++ written 0x0F 0x0C ++ clearing z 0 63 64 0x01) ∷
    -- .. 1920 plus 128 is 2048: "The size of -2048 is 2048"
    (low_with 0x00 0xF0 0x01 0x00 ++ through (x (pos 0)) 0x01 ++ shows (x (minus 2047)) 0x01 ++ shows (x (minus 2048)) 0x00
    ++ through (y (pos 0)) 0x01 ++ shows (y (minus 2047)) 0x01 ++ shows (y (minus 2048)) 0x00
    ++ through (z (pos 0)) 0x01 ++ shows (z (minus 2047)) 0x01 ++ shows (z (minus 2048)) 0x00) ∷
    -- .. "or the sum", by the mode and never both; 2040 plus 384 is out of reach of an axis at 2 g
    (low_with 0x00 0x30 0x01 0x00 ++ through (x (pos 0)) 0x01 ++ shows (sample (pos 511) (minus 511) (pos 511) 0) 0x01) ∷
    (low_with 0x00 0x30 0x05 0x00 ++ clearing (λ v. sample v (pos 171) (minus 170) 0) 0 170 171 0x01) ∷
    (low_with 0x00 0xFF 0x03 0x00 ++ through (x (pos 0)) 0x01 ++ shows (sample (minus 2048) (minus 2048) (minus 2048) 0) 0x01) ∷
    (low_with 0x00 0xFF 0x07 0x00 ++ clearing (λ v. sample v (minus 1024) (pos 1000) 0) 0 399 400 0x01) ∷
    -- Q-5 "Low is enabled by 0x17 bit 3": by no other bit, and samples before that do not count
    (written 0x22 0x00 ++ through (x (pos 0)) 0x00 ++ through (x (pos 0)) 0x00) ∷
    (low ++ written 0x17 0x77 ++ through (x (pos 0)) 0x00 ++ through (x (pos 0)) 0x00) ∷
    (written 0x22 0x00 ++ sampled (pos 0) 0x00 ++ clocked 2000 0x00 ++ written 0x17 0x08 ++ anew (pos 0) 0x01) ∷
    -- Q-5 "some enabled axis is above 8 times 0x26": 8 times C0 is 1536; "high by bits 2:0"
    (high 0x01 ++ sides x 1536 0x00 0x02) ∷
    (high 0x02 ++ sides y 1536 0x00 0x02) ∷
    (high 0x04 ++ sides z 1536 0x00 0x02) ∷
    -- .. "in present counts": at each range
    (high 0x07 ++ sides_of_each 1536 0x00 0x02) ∷
    (high 0x07 ++ written 0x0F 0x05 ++ sides_of_each 1536 0x00 0x02) ∷
    (high 0x07 ++ written 0x0F 0x08 ++ sides_of_each 1536 0x00 0x02) ∷
    (high 0x07 ++ written 0x0F 0x0C ++ sides_of_each 1536 0x00 0x02) ∷
    -- .. the largest threshold, 2040, and the smallest; "The size of -2048 is 2048"
    (high_with 0x07 0x00 0xFF 0x00 0x00 ++ sides_of_each 2040 0x00 0x02 ++ through (x (pos 2040)) 0x00 ++ through (x (minus 2048)) 0x02
    ++ through (y (pos 2040)) 0x00 ++ through (y (minus 2048)) 0x02 ++ through (z (pos 2040)) 0x00 ++ through (z (minus 2048)) 0x02) ∷
    (high_with 0x07 0x00 0x00 0x00 0x00 ++ sides_of_each 0 0x00 0x02) ∷
    -- .. "some": another axis at each sample
    (high 0x07 ++ shows (x (pos 1537)) 0x00 ++ clocked 1000 0x00 ++ shows (y (minus 1537)) 0x00 ++ clocked 1000 0x00 ++ shows (z (pos 1537)) 0x02) ∷
    -- .. "enabled": an axis that is not counts neither for above nor for clearing
    (high 0x01 ++ through (sample (pos 1536) (pos 2047) (minus 2048) 0) 0x00 ++ sampled (pos 1537) 0x00 ++ clocked 2000 0x00
    ++ shows (y (pos 2047)) 0x00 ++ anew (pos 1537) 0x02 ++ shows (sample (pos 1536) (pos 2047) (minus 2048) 0) 0x00) ∷
    (high 0x02 ++ through (sample (pos 2047) (pos 1536) (minus 2048) 0) 0x00 ++ through (y (pos 1537)) 0x02
    ++ shows (sample (pos 2047) (pos 1536) (minus 2048) 0) 0x00) ∷
    (high 0x04 ++ through (sample (pos 2047) (minus 2048) (pos 1536) 0) 0x00 ++ through (z (pos 1537)) 0x02
    ++ shows (sample (pos 2047) (minus 2048) (pos 1536) 0) 0x00) ∷
    (high_with 0x78 0x00 0xC0 0x00 0x00 ++ through (sample (pos 2047) (minus 2048) (pos 2047) 0) 0x00) ∷
    -- Q-5 "for (0x25 + 1) times 2 ms": as at power-up, where 0x25 is 0F and 0x22 is 09; and others
    (written 0x17 0x01 ++ lasting (pos 1537) (pos 1280) 0x02 32000) ∷
    (high 0x01 ++ lasting (pos 1537) (pos 1536) 0x02 2000) ∷
    (high_with 0x01 0x01 0xC0 0x00 0x00 ++ lasting (pos 1537) (pos 1536) 0x02 4000) ∷
    (high_with 0x01 0xFF 0xC0 0x00 0x00 ++ lasting (pos 1537) (pos 1536) 0x02 512000) ∷
    -- the first sample never sets by itself, clock before it does not count, and however much comes behind it is the time and more
    (high 0x01 ++ sampled (pos 2047) 0x00 ++ sampled (pos 2047) 0x00 ++ clocked 0 0x00 ++ sampled (pos 2047) 0x00) ∷
    (high 0x01 ++ clocked 4294967295 0x00 ++ sampled (pos 1536) 0x00 ++ clocked 2000 0x00 ++ anew (pos 2047) 0x02) ∷
    (high 0x01 ++ sampled (pos 2047) 0x00 ++ clocked 4294967295 0x00 ++ clocked 4294967295 0x00 ++ clocked 2 0x00 ++ sampled (pos 2047) 0x02) ∷
    -- "at each sample": the time has passed, but the next one is not high, without hysteresis and in its band
    (high 0x01 ++ sampled (pos 2047) 0x00 ++ clocked 2000 0x00 ++ sampled (pos 1536) 0x00 ++ anew (pos 2047) 0x02) ∷
    (high_with 0x01 0x00 0xC0 0xC0 0x00 ++ sampled (pos 2047) 0x00 ++ clocked 2000 0x00 ++ sampled (minus 1536) 0x00 ++ anew (pos 2047) 0x02) ∷
    -- Q-5 "it clears when all enabled are at or below that less 128 times 0x24 bits 7:6": 1536, 1408, 1280, 1152, at each range
    (high_with 0x07 0x00 0xC0 0x03 0x00 ++ clearing x 1537 1537 1536 0x02) ∷
    (high_with 0x07 0x00 0xC0 0x43 0x00 ++ clearing x 1537 1409 1408 0x02 ++ clearing y 1537 1536 1408 0x02 ++ clearing z 1537 1409 1408 0x02) ∷
    (high_with 0x07 0x00 0xC0 0x81 0x00 ++ written 0x0F 0x05 ++ clearing y 1537 1281 1280 0x02) ∷
    (high_with 0x07 0x00 0xC0 0x81 0x00 ++ written 0x0F 0x08 ++ clearing z 1537 1281 1280 0x02) ∷
    (high_with 0x07 0x00 0xC0 0xC0 0x00 ++ written 0x0F 0x0C ++ clearing x 1537 1153 1152 0x02) ∷
    -- .. "all": one axis that is not keeps it
    (high_with 0x07 0x00 0xC0 0x80 0x00 ++ clearing (λ v. sample (pos 1280) (minus 1280) v 0) 1537 1281 1280 0x02) ∷
    -- .. "never less than 0": 136, 128 and 120 less 128; 128 and 0 less 384
    (high_with 0x07 0x00 0x11 0x40 0x00 ++ clearing x 137 9 8 0x02) ∷
    (high_with 0x07 0x00 0x10 0x40 0x00 ++ clearing x 129 1 0 0x02 ++ clearing y 129 1 0 0x02 ++ clearing z 129 1 0 0x02) ∷
    (high_with 0x07 0x00 0x0F 0x40 0x00 ++ clearing x 121 1 0 0x02 ++ clearing y 121 1 0 0x02 ++ clearing z 121 1 0 0x02) ∷
    (high_with 0x07 0x00 0x10 0xC0 0x00 ++ clearing x 129 1 0 0x02) ∷
    (high_with 0x07 0x00 0x00 0xC0 0x00 ++ clearing x 2047 1 0 0x02) ∷
    -- Q-5 "High marks and the sample's sign sit in 0x0C bits 3:0, kept as any-motion's are": of "the first .. axis (x before y before z) at that point",
    -- the sample that sets and not the first of the run
    (high 0x07 ++ shows (x (pos 1537)) 0x00 ++ marks 0x00 ++ clocked 2000 0x00 ++ marks 0x00
    ++ shows (sample (pos 0) (minus 1537) (pos 1537) 0) 0x02 ++ marks 0x0A) ∷
    (high 0x07 ++ through (sample (pos 1537) (minus 1537) (minus 1537) 0) 0x02 ++ marks 0x01) ∷
    (high 0x07 ++ through (sample (minus 1537) (pos 1537) (pos 1537) 0) 0x02 ++ marks 0x09) ∷
    (high 0x07 ++ through (sample (minus 1536) (pos 1537) (minus 1537) 0) 0x02 ++ marks 0x02) ∷
    (high 0x07 ++ through (sample (minus 1536) (pos 1536) (pos 1537) 0) 0x02 ++ marks 0x04) ∷
    (high 0x07 ++ through (z (minus 2048)) 0x02 ++ marks 0x0C) ∷
    (high 0x06 ++ through (sample (minus 1537) (pos 1537) (pos 1537) 0) 0x02 ++ marks 0x02) ∷
    -- .. "A status already set is not set again"
    (high 0x07 ++ through (x (minus 1537)) 0x02 ++ marks 0x09 ++ shows (y (pos 1537)) 0x02 ++ marks 0x09
    ++ through (y (pos 1537)) 0x02 ++ marks 0x09) ∷
    -- .. "The marks clear with the status; bit 3 stays until the next setting or soft reset"
    (high 0x07 ++ through (x (minus 1537)) 0x02 ++ marks 0x09 ++ sampled (pos 1536) 0x00 ++ marks 0x08
    ++ shows (y (pos 1537)) 0x00 ++ marks 0x08 ++ clocked 2000 0x00 ++ marks 0x08 ++ shows (y (pos 1537)) 0x02 ++ marks 0x02) ∷
    (high 0x07 ++ through (x (minus 1537)) 0x02 ++ marks 0x09 ++ shows (write 0x14 0xB6) 0x00 ++ marks 0x00 ++ through (x (minus 1537)) 0x00) ∷
    -- .. in the band they stay; low-g marks nothing, in 0x0C or in 0x0B, and high-g nothing in 0x0B
    (high_with 0x07 0x00 0xC0 0x80 0x00 ++ through (x (minus 1537)) 0x02 ++ sampled (pos 1281) 0x02 ++ marks 0x09
    ++ sampled (pos 1280) 0x00 ++ marks 0x08) ∷
    (low ++ through (x (minus 383)) 0x01 ++ marks 0x00 ++ (read 0x0B 1 ⇒ bytes (0x00 ∷ []) ∷ [])) ∷
    (high 0x07 ++ through (x (minus 1537)) 0x02 ++ (read 0x0B 1 ⇒ bytes (0x00 ∷ []) ∷ [])) ∷
    -- Q-5 "Both latch as any-motion does": "Non-latched .. clear it; latched, only the writes below or soft reset do"
    (low_with 0x00 0x30 0x01 0b0000 ++ standing (pos 0) (pos 512) 0x01 0x00) ∷
    (low_with 0x00 0x30 0x01 0b1000 ++ standing (pos 0) (pos 512) 0x01 0x00) ∷
    (low_with 0x00 0x30 0x01 0b0111 ++ standing (pos 0) (pos 512) 0x01 0x01 ++ clocked 4294967295 0x01 ++ shows (write 0x21 0b0111) 0x00) ∷
    (low_with 0x00 0x30 0x01 0b1111 ++ standing (pos 0) (pos 512) 0x01 0x01 ++ clocked 4294967295 0x01 ++ shows (write 0x14 0xB6) 0x00) ∷
    (high_with 0x01 0x00 0xC0 0x80 0b0000 ++ standing (minus 2048) (pos 1280) 0x02 0x00 ++ marks 0x08) ∷
    (high_with 0x01 0x00 0xC0 0x80 0b1000 ++ standing (minus 2048) (pos 1280) 0x02 0x00 ++ marks 0x08) ∷
    (high_with 0x01 0x00 0xC0 0x80 0b0111 ++ standing (minus 2048) (pos 1280) 0x02 0x02 ++ marks 0x09 ++ clocked 4294967295 0x02
    ++ shows (write 0x21 0b0111) 0x00 ++ marks 0x08) ∷
    (high_with 0x01 0x00 0xC0 0x80 0b1111 ++ standing (minus 2048) (pos 1280) 0x02 0x02 ++ marks 0x09 ++ clocked 4294967295 0x02
    ++ shows (write 0x14 0xB6) 0x00 ++ marks 0x00) ∷
    -- .. and with Q-4's holds
    each_holding 0b0001 250000 ∷ each_holding 0b0010 500000 ∷ each_holding 0b0011 1000000 ∷ each_holding 0b0100 2000000 ∷ each_holding 0b0101 4000000 ∷
    each_holding 0b0110 8000000 ∷ each_holding 0b1001 250 ∷ each_holding 0b1010 500 ∷ each_holding 0b1011 1000 ∷ each_holding 0b1100 12500 ∷
    each_holding 0b1101 25000 ∷ each_holding 0b1110 50000 ∷
    -- Q-4 "clears, with marks and runs": still falling, the clock behind the expiry counts for nothing, in the same clock or in another
    (low_with 0x00 0x30 0x00 0b1001 ++ through (x (pos 0)) 0x01 ++ clocked 4294967295 0x00 ++ anew (pos 0) 0x01) ∷
    (low_with 0x00 0x30 0x00 0b1100 ++ through (x (pos 0)) 0x01 ++ clocked 12499 0x01 ++ sampled (pos 0) 0x01 ++ clocked 1 0x00
    ++ clocked 2000 0x00 ++ anew (pos 0) 0x01) ∷
    (high_with 0x01 0x00 0xC0 0x00 0b1001 ++ through (x (minus 1537)) 0x02 ++ marks 0x09 ++ clocked 249 0x02 ++ marks 0x09
    ++ clocked 1 0x00 ++ marks 0x08 ++ clocked 4294967295 0x00 ++ anew (pos 1537) 0x02 ++ marks 0x01) ∷
    -- each its own time of 12.5 ms: of any-motion from 0 us, of low-g from 2000 us, of high-g from 4000 us
    (motion_with 0 0b1100 ++ both_with 0x00 0x01 0b1100 ++ sampled (pos 1) 0x00 ++ sampled (pos 6) 0x04 ++ clocked 2000 0x04 ++ sampled (pos 6) 0x05
    ++ clocked 2000 0x05 ++ sampled (pos 6) 0x07 ++ clocked 8499 0x07 ++ clocked 1 0x03 ++ clocked 1999 0x03 ++ clocked 1 0x02
    ++ clocked 1999 0x02 ++ clocked 1 0x00) ∷
    -- Q-5 "low and high are bits 0 and 1 of 0x09": all three at once, and each goes alone: by a calm point, by 384, and by 0
    (all_three 0b0000 ++ marks 0x01 ++ (read 0x0B 1 ⇒ bytes (0x01 ∷ []) ∷ [])
    ++ sampled (pos 6) 0x03 ++ sampled (pos 384) 0x06 ++ sampled (pos 0) 0x04 ++ sampled (pos 0) 0x00) ∷
    -- Q-5 "an accepted write to 0x0F, 0x17, 0x21 or 0x22 to 0x26 restarts them: status, marks and runs clear", also of the same byte
    restarted_by 0x00 0x0F 0x03 ∷ restarted_by 0x00 0x17 0x0F ∷ restarted_by 0x00 0x21 0x00 ∷ restarted_by 0x00 0x22 0x00 ∷
    restarted_by 0x00 0x23 0x30 ∷ restarted_by 0x00 0x24 0x00 ∷ restarted_by 0x00 0x25 0x00 ∷ restarted_by 0x00 0x26 0x00 ∷
    -- .. latched, and held
    restarted_by 0x07 0x0F 0x03 ∷ restarted_by 0x07 0x17 0x0F ∷ restarted_by 0x07 0x21 0x07 ∷ restarted_by 0x07 0x22 0x00 ∷
    restarted_by 0x0E 0x23 0x30 ∷ restarted_by 0x0E 0x24 0x00 ∷ restarted_by 0x0E 0x25 0x00 ∷ restarted_by 0x0E 0x26 0x00 ∷
    -- .. of another byte: another range, of 0x17 bit 6, 5 or 4 alone, the command of 0x21, another threshold, hysteresis and mode
    restarted_by 0x00 0x0F 0x0C ∷ restarted_by 0x00 0x17 0x4F ∷ restarted_by 0x00 0x17 0x2F ∷ restarted_by 0x00 0x17 0x1F ∷
    restarted_by 0x07 0x21 0x87 ∷ restarted_by 0x00 0x21 0x01 ∷ restarted_by 0x00 0x23 0xFF ∷ restarted_by 0x00 0x24 0xC7 ∷
    -- .. and no other write does
    kept_by 0x16 0x07 0 ∷ kept_by 0x27 0x03 0 ∷ kept_by 0x28 0x00 0 ∷ kept_by 0x13 0x40 0 ∷ kept_by 0x3E 0x40 0 ∷
    kept_by 0x19 0x03 0 ∷ kept_by 0x1A 0x01 0 ∷ kept_by 0x1B 0x03 0 ∷ kept_by 0x20 0x0F 0 ∷ kept_by 0x10 0x0F 0 ∷
    kept_by 0x18 0x08 0 ∷ kept_by 0x29 0x00 0 ∷ kept_by 0x30 0x01 0 ∷ kept_by 0x14 0xB5 0 ∷ kept_by 0x0C 0x00 0 ∷
    -- .. nor one that is refused
    kept_by 0x0F 0x04 2 ∷ kept_by 0x3E 0xC0 2 ∷ kept_by 0x16 0x80 11 ∷ kept_by 0x62 0x00 1 ∷
    -- .. nor a sample that is refused, or a cycle start
    (both_with 0x00 0x00 0x00 ++ sampled (pos 1) 0x00 ++ clocked 2000 0x00 ++ (x (pos 2048) ⇒ answer 4 ∷ shows cycle 0x00) ++ sampled (pos 1) 0x03
    ++ (x (pos 2048) ⇒ answer 4 ∷ shows cycle 0x03)) ∷
    -- a write that restarts any-motion alone leaves them, one that restarts them alone leaves it, and 0x0F and 0x21 restart all three
    (all_three 0b0111 ++ shows (write 0x28 0x01) 0x03) ∷
    (all_three 0b0111 ++ shows (write 0x22 0x00) 0x04) ∷
    (all_three 0b0111 ++ shows (write 0x17 0x0F) 0x04) ∷
    (all_three 0b0111 ++ shows (write 0x0F 0x03) 0x00) ∷
    (all_three 0b0111 ++ shows (write 0x21 0b0111) 0x00) ∷
    -- Q-6 "2 for the write to 0x18 or 0x27 that would bring no-motion and such a code together": codes 22 to 31 are the bytes 58 to 7F. With 0x18 bit 3
    -- at 1 and no axis, every byte of 0x27, and with each axis those at both ends; with it at 0 none is refused
    (written 0x18 0x08 ++ (up_from (λ byte. byte) 0x00 256 at 0x27 give all_done 88 ++ up_from (λ k. 2) 0 40 ++ all_done 128 leave 0xFF)) ∷
    (written 0x18 0x0F ++ ((0x54 ∷ 0x57 ∷ 0x58 ∷ 0x5B ∷ 0x7C ∷ 0x7F ∷ []) at 0x27 give (0 ∷ 0 ∷ 2 ∷ 2 ∷ 2 ∷ 2 ∷ []) leave 0x57)
    ++ ((0x80 ∷ 0x7F ∷ 0x83 ∷ 0x58 ∷ []) at 0x27 give (0 ∷ 2 ∷ 0 ∷ 2 ∷ []) leave 0x83)) ∷
    (written 0x18 0x07 ++ (up_from (λ byte. byte) 0x50 52 at 0x27 give all_done 52 leave 0x83)) ∷
    -- .. and with codes 21, 22, 31 and 32 in 0x27, every byte of 0x18 below 20, whose bits 7:4 are ignored
    (written 0x27 0x57 ++ (up_from (λ byte. byte) 0x00 32 at 0x18 give all_done 32 leave 0x0F)) ∷
    (written 0x27 0x58 ++ (up_from (λ byte. byte) 0x00 32 at 0x18 give all_done 8 ++ up_from (λ k. 2) 0 8 ++ all_done 8
    ++ up_from (λ k. 2) 0 8 leave 0x07)) ∷
    (written 0x27 0x7F ++ ((0xF7 ∷ 0xF8 ∷ 0xFF ∷ 0x08 ∷ 0x09 ∷ 0x0F ∷ []) at 0x18 give (0 ∷ 2 ∷ 2 ∷ 2 ∷ 2 ∷ 2 ∷ []) leave 0x07)) ∷
    (written 0x27 0x80 ++ (up_from (λ byte. byte) 0x00 32 at 0x18 give all_done 32 leave 0x0F)) ∷
    -- .. either write may be taken back first; what was refused is not kept, and a soft reset takes both
    (written 0x27 0x58 ++ (write 0x18 0x08 ⇒ answer 2 ∷ held 0x00 0x58) ++ written 0x27 0x54 ++ written 0x18 0x08 ++ held 0x08 0x54) ∷
    (written 0x18 0x08 ++ (write 0x27 0x58 ⇒ answer 2 ∷ held 0x08 0x00) ++ written 0x18 0x00 ++ written 0x27 0x58
    ++ (write 0x18 0x08 ⇒ answer 2 ∷ held 0x00 0x58)) ∷
    (written 0x27 0x7C ++ written 0x14 0xB6 ++ written 0x18 0x08 ++ (write 0x27 0x7C ⇒ answer 2 ∷ held 0x08 0x00)
    ++ written 0x14 0xB6 ++ written 0x27 0x7C ++ held 0x00 0x7C) ∷
    -- Q-6 "by 0x27 bits 7:2: codes 0 to 15 code plus 1 s; 16 to 21 are 40 s plus 8 s a step; 32 to 63 are 88 s plus 8 s a step": each end
    waiting 0 1000000 ∷ waiting 15 16000000 ∷ waiting 16 40000000 ∷ waiting 21 80000000 ∷ waiting 32 88000000 ∷ waiting 63 336000000 ∷
    -- .. bits 1:0 are any-motion's
    (slow_with 0x03 0x09 0x01 0x00 ++ sampled (pos 0) 0x00 ++ second (pos 0)) ∷
    (slow_with 0x57 0x09 0x01 0x00 ++ sampled (pos 0) 0x00 ++ waited (pos 0) 80000000) ∷
    (slow_with 0xFF 0x09 0x01 0x00 ++ sampled (pos 0) 0x00 ++ waited (pos 0) 336000000) ∷
    -- Q-6 "since the last over point, restart or expiry": from the write itself, before any sample: two equal samples right after it and the time
    (still 0 0x00 ++ clocked 1000000 0x00 ++ sampled (pos 7) 0x00 ++ sampled (pos 7) 0x08) ∷
    (still 0 0x00 ++ clocked 999999 0x00 ++ sampled (pos 7) 0x00 ++ sampled (pos 7) 0x00 ++ clocked 1 0x00 ++ sampled (pos 7) 0x08) ∷
    -- .. no clock, no firing; and however much comes, as 2 to the 33 microseconds, it is the time and more
    (still 0 0x00 ++ sampled (pos 0) 0x00 ++ sampled (pos 0) 0x00 ++ clocked 0 0x00 ++ sampled (pos 0) 0x00) ∷
    (still 63 0x00 ++ sampled (pos 0) 0x00 ++ clocked 4294967295 0x00 ++ clocked 4294967295 0x00 ++ clocked 2 0x00 ++ sampled (pos 0) 0x08) ∷
    -- .. "at a calm point": the time has passed, but the next point is over; the wait begins there, as at one in its midst, non-latched, latched and held
    (still 0 0x00 ++ sampled (pos 0) 0x00 ++ clocked 1000000 0x00 ++ sampled (pos 5) 0x00 ++ sampled (pos 5) 0x00 ++ second (pos 5)) ∷
    (still 0 0x00 ++ sampled (pos 0) 0x00 ++ clocked 500000 0x00 ++ sampled (pos 5) 0x00 ++ second (pos 5)) ∷
    (still 0 0b0111 ++ sampled (pos 0) 0x00 ++ clocked 999999 0x00 ++ sampled (pos 5) 0x00 ++ second (pos 5)) ∷
    (still 0 0b0110 ++ sampled (pos 0) 0x00 ++ clocked 999999 0x00 ++ sampled (pos 5) 0x00 ++ second (pos 5)) ∷
    -- Q-6 "clears at an over point": at one, with 0x27 bits 3:2 and 1:0 at 11, where the code is 3 and the time 4 s; no calm point and no time clears it
    (slow_with 0x0F 0x09 0x01 0x00 ++ sampled (pos 0) 0x00 ++ waited (pos 0) 4000000 ++ sampled (pos 0) 0x08 ++ sampled (pos 0) 0x08
    ++ sampled (pos 0) 0x08 ++ sampled (pos 0) 0x08 ++ clocked 4294967295 0x08 ++ sampled (pos 0) 0x08 ++ sampled (pos 5) 0x00
    ++ sampled (pos 0) 0x00 ++ waited (pos 0) 4000000 ++ clocked 4000000 0x08 ++ sampled (pos 5) 0x00 ++ sampled (pos 5) 0x00) ∷
    -- Q-6 "Slow motion counts points as any-motion does, with N from 0x27 bits 3:2 plus 1": 1 to 4, whatever the other bits, and codes 22 to 31 too
    by_one 0x00 ∷ by_one 0x03 ∷ by_one 0x60 ∷ by_one 0xF3 ∷ by_two 0x04 ∷ by_two 0x07 ∷ by_two 0x64 ∷ by_two 0xF4 ∷
    by_three 0x08 ∷ by_three 0x0B ∷ by_three 0x58 ∷ by_three 0xF8 ∷ by_four 0x0C ∷ by_four 0x0F ∷ by_four 0x5C ∷ by_four 0x7F ∷ by_four 0xFC ∷
    -- .. no clock counts, and bit 3 at 0 is no no-motion
    (slow 0x00 0x00 ++ sampled (pos 0) 0x00 ++ clocked 4294967295 0x00 ++ sampled (pos 0) 0x00 ++ sampled (pos 5) 0x08 ++ clocked 4294967295 0x08
    ++ sampled (pos 0) 0x08 ++ sampled (pos 0) 0x00) ∷
    (slow 0x00 0b0111 ++ sampled (pos 0) 0x00 ++ clocked 4294967295 0x00 ++ sampled (pos 0) 0x00 ++ sampled (pos 5) 0x08) ∷
    (slow 0x0C 0x00 ++ sampled (pos 0) 0x00 ++ clocked 4294967295 0x00 ++ sampled (pos 0) 0x00 ++ sampled (pos 5) 0x00) ∷
    -- Q-6 "0x29 as threshold in steps of 4 counts": 80 as at power-up, 0, 4 and 1020; "axes in 0x18 bits 2:0"
    (written 0x18 0x07 ++ sampled (pos 0) 0x00 ++ slopes_of_each 80 0x00 0x08) ∷
    (written 0x18 0x0F ++ sampled (pos 0) 0x00 ++ slopes_of_each 80 0x08 0x00) ∷
    slow_slopes 0x07 0x00 0 ∷ slow_slopes 0x07 0x01 4 ∷ slow_slopes 0x07 0xFF 1020 ∷
    still_slopes 0x07 0x00 0 ∷ still_slopes 0x07 0x01 4 ∷ still_slopes 0x07 0xFF 1020 ∷
    -- .. each axis alone: one that is not enabled is never over
    (slow_with 0x00 0x01 0x01 0x00 ++ sampled (pos 0) 0x00 ++ slopes x 4 0x00 0x08 ++ slopes y 4 0x00 0x00 ++ slopes z 4 0x00 0x00) ∷
    (slow_with 0x00 0x02 0x01 0x00 ++ sampled (pos 0) 0x00 ++ slopes x 4 0x00 0x00 ++ slopes y 4 0x00 0x08 ++ slopes z 4 0x00 0x00) ∷
    (slow_with 0x00 0x04 0x01 0x00 ++ sampled (pos 0) 0x00 ++ slopes x 4 0x00 0x00 ++ slopes y 4 0x00 0x00 ++ slopes z 4 0x00 0x08) ∷
    (slow_with 0x00 0x09 0x01 0x00 ++ sampled (pos 0) 0x00 ++ slopes x 4 0x08 0x00 ++ slopes y 4 0x08 0x08 ++ slopes z 4 0x08 0x08) ∷
    (slow_with 0x00 0x0A 0x01 0x00 ++ sampled (pos 0) 0x00 ++ slopes x 4 0x08 0x08 ++ slopes y 4 0x08 0x00 ++ slopes z 4 0x08 0x08) ∷
    (slow_with 0x00 0x0C 0x01 0x00 ++ sampled (pos 0) 0x00 ++ slopes x 4 0x08 0x08 ++ slopes y 4 0x08 0x08 ++ slopes z 4 0x08 0x00) ∷
    -- .. "some axis": two at the threshold and one above it; another axis at each of N points; and the largest slope
    (slow_with 0x04 0x07 0x01 0x00 ++ sampled (pos 0) 0x00 ++ shows (sample (pos 4) (minus 4) (pos 4) 0) 0x00
    ++ shows (sample (pos 8) (minus 9) (pos 0) 0) 0x00 ++ shows (sample (pos 4) (minus 5) (pos 5) 0) 0x08) ∷
    (slow_with 0x08 0x07 0x01 0x00 ++ sampled (pos 0) 0x00 ++ shows (x (pos 5)) 0x00 ++ shows (sample (pos 5) (minus 5) (pos 0) 0) 0x00
    ++ shows (sample (pos 5) (minus 5) (pos 5) 0) 0x08) ∷
    (slow_with 0x00 0x01 0xFF 0x00 ++ sampled (minus 2048) 0x00 ++ sampled (pos 2047) 0x08 ++ sampled (pos 2047) 0x00 ++ sampled (minus 2048) 0x08
    ++ sampled (minus 1028) 0x00 ++ sampled (minus 7) 0x08) ∷
    (slow_with 0x00 0x09 0xFF 0x00 ++ sampled (minus 2048) 0x00 ++ second (minus 2048) ++ sampled (pos 2047) 0x00 ++ second (pos 2047)) ∷
    -- .. in counts, at each range, and not by 0x28
    (slow_with 0x00 0x07 0x01 0x00 ++ written 0x0F 0x05 ++ sampled (pos 0) 0x00 ++ slopes_of_each 4 0x00 0x08
    ++ written 0x0F 0x08 ++ sampled (pos 0) 0x00 ++ slopes x 4 0x00 0x08 ++ written 0x0F 0x0C ++ sampled (pos 0) 0x00 ++ slopes z 4 0x00 0x08) ∷
    (slow_with 0x00 0x0F 0x01 0x00 ++ written 0x0F 0x0C ++ sampled (pos 0) 0x00 ++ slopes_of_each 4 0x08 0x00) ∷
    (written 0x28 0xFF ++ slow_slopes 0x07 0x01 4) ∷
    (written 0x28 0x00 ++ still_slopes 0x07 0x02 8) ∷
    -- "The first sample gives no point, nor does any sample while no axis is enabled"
    (slow_with 0x00 0x08 0x00 0x00 ++ sampled (pos 0) 0x00 ++ clocked 1000000 0x00 ++ sampled (pos 0) 0x00 ++ sampled (pos 9) 0x00
    ++ clocked 4294967295 0x00 ++ sampled (pos 9) 0x00) ∷
    (slow_with 0x00 0x00 0x00 0x00 ++ sampled (pos 0) 0x00 ++ sampled (pos 9) 0x00 ++ sampled (pos 0) 0x00 ++ clocked 1000000 0x00
    ++ sampled (pos 0) 0x00) ∷
    -- .. but it is the previous one of the next, which is a point where one is enabled by then; and a write that enables none clears
    (slow_with 0x00 0x00 0x01 0x00 ++ sampled (pos 0) 0x00 ++ written 0x18 0x01 ++ sampled (pos 5) 0x08 ++ shows (write 0x18 0x00) 0x00
    ++ sampled (pos 0) 0x00) ∷
    (slow_with 0x00 0x08 0x01 0x00 ++ sampled (pos 0) 0x00 ++ written 0x18 0x09 ++ clocked 1000000 0x00 ++ sampled (pos 0) 0x08
    ++ shows (write 0x18 0x08) 0x00 ++ clocked 1000000 0x00 ++ sampled (pos 0) 0x00) ∷
    -- "bit 3 choosing no-motion": from one to the other, where each begins anew
    (slow 0x00 0x00 ++ sampled (pos 0) 0x00 ++ sampled (pos 5) 0x08 ++ clocked 1000000 0x08 ++ shows (write 0x18 0x09) 0x00
    ++ sampled (pos 5) 0x00 ++ second (pos 5) ++ shows (write 0x18 0x01) 0x00 ++ clocked 1000000 0x00 ++ sampled (pos 5) 0x00
    ++ sampled (pos 0) 0x08) ∷
    -- nothing is marked in 0x0B or 0x0C
    (slow 0x00 0x00 ++ sampled (pos 5) 0x00 ++ sampled (pos 0) 0x08 ++ (read 0x0B 1 ⇒ bytes (0x00 ∷ []) ∷ marks 0x00)) ∷
    (still 0 0x00 ++ sampled (minus 5) 0x00 ++ clocked 1000000 0x00 ++ sampled (minus 6) 0x08 ++ (read 0x0B 1 ⇒ bytes (0x00 ∷ []) ∷ marks 0x00)) ∷
    -- Q-6 "it latches as any-motion does": "Non-latched .. clear it; latched, only the writes below or soft reset do"
    (still 0 0b0000 ++ sampled (pos 0) 0x00 ++ second (pos 0) ++ clocked 4294967295 0x08 ++ sampled (pos 0) 0x08 ++ sampled (pos 5) 0x00) ∷
    (still 0 0b1000 ++ sampled (pos 0) 0x00 ++ second (pos 0) ++ clocked 4294967295 0x08 ++ sampled (pos 0) 0x08 ++ sampled (pos 5) 0x00) ∷
    (still 0 0b0111 ++ sampled (pos 0) 0x00 ++ second (pos 0) ++ sampled (pos 5) 0x08 ++ clocked 4294967295 0x08 ++ sampled (pos 5) 0x08
    ++ shows (write 0x21 0b0111) 0x00 ++ second (pos 5)) ∷
    (still 0 0b1111 ++ sampled (pos 0) 0x00 ++ second (pos 0) ++ sampled (pos 5) 0x08 ++ clocked 4294967295 0x08 ++ sampled (pos 0) 0x08
    ++ shows (write 0x14 0xB6) 0x00) ∷
    (slow 0x00 0b0000 ++ sampled (pos 0) 0x00 ++ sampled (pos 5) 0x08 ++ clocked 4294967295 0x08 ++ sampled (pos 5) 0x00) ∷
    (slow 0x00 0b1000 ++ sampled (pos 0) 0x00 ++ sampled (pos 5) 0x08 ++ clocked 4294967295 0x08 ++ sampled (pos 5) 0x00) ∷
    (slow 0x00 0b0111 ++ sampled (pos 0) 0x00 ++ sampled (pos 5) 0x08 ++ sampled (pos 5) 0x08 ++ clocked 4294967295 0x08 ++ sampled (pos 5) 0x08
    ++ shows (write 0x21 0b0111) 0x00 ++ sampled (pos 5) 0x00 ++ sampled (pos 0) 0x08) ∷
    (slow 0x00 0b1111 ++ sampled (pos 0) 0x00 ++ sampled (pos 5) 0x08 ++ sampled (pos 5) 0x08 ++ clocked 4294967295 0x08 ++ sampled (pos 5) 0x08
    ++ shows (write 0x14 0xB6) 0x00) ∷
    -- .. and with Q-4's holds
    still_held 0b0001 250000 ∷ still_held 0b0010 500000 ∷ still_held 0b0011 1000000 ∷ still_held 0b0100 2000000 ∷ still_held 0b0101 4000000 ∷
    still_held 0b0110 8000000 ∷ still_held 0b1001 250 ∷ still_held 0b1010 500 ∷ still_held 0b1011 1000 ∷ still_held 0b1100 12500 ∷
    still_held 0b1101 25000 ∷ still_held 0b1110 50000 ∷
    slow_held 0b0001 250000 ∷ slow_held 0b0010 500000 ∷ slow_held 0b0011 1000000 ∷ slow_held 0b0100 2000000 ∷ slow_held 0b0101 4000000 ∷
    slow_held 0b0110 8000000 ∷ slow_held 0b1001 250 ∷ slow_held 0b1010 500 ∷ slow_held 0b1011 1000 ∷ slow_held 0b1100 12500 ∷
    slow_held 0b1101 25000 ∷ slow_held 0b1110 50000 ∷
    -- Q-4 "with marks and runs": with N 2 the over points of before the expiry do not count behind it
    (slow 0x04 0b1001 ++ sampled (pos 0) 0x00 ++ sampled (pos 5) 0x00 ++ sampled (pos 0) 0x08 ++ sampled (pos 5) 0x08 ++ clocked 250 0x00
    ++ sampled (pos 0) 0x00 ++ sampled (pos 5) 0x08) ∷
    -- .. a write while it is held: the wait begins there, and the next hold is a whole one
    (still 0 0b1001 ++ sampled (pos 0) 0x00 ++ second (pos 0) ++ clocked 200 0x08 ++ shows (write 0x29 0x01) 0x00 ++ clocked 50 0x00
    ++ waited (pos 0) 999950 ++ clocked 249 0x08 ++ clocked 1 0x00) ∷
    -- .. 88 s from an expiry inside a clock, and the longest clock, of which 336 s and more are left
    (still 32 0b1001 ++ sampled (pos 0) 0x00 ++ waited (pos 0) 88000000 ++ clocked 88000249 0x00 ++ sampled (pos 0) 0x00 ++ clocked 1 0x00
    ++ sampled (pos 0) 0x08 ++ clocked 88000250 0x00 ++ sampled (pos 0) 0x08) ∷
    (still 63 0b0110 ++ sampled (pos 0) 0x00 ++ waited (pos 0) 336000000 ++ sampled (pos 5) 0x08 ++ clocked 4294967295 0x00 ++ sampled (pos 5) 0x08) ∷
    -- Q-6 "an accepted write to 0x0F, 0x18, 0x21, 0x27 or 0x29 restarts it", also of the same byte; non-latched, latched and held
    still_restarted_by 0x00 0x0F 0x03 ∷ still_restarted_by 0x00 0x18 0x09 ∷ still_restarted_by 0x00 0x21 0x00 ∷ still_restarted_by 0x00 0x27 0x00 ∷
    still_restarted_by 0x00 0x29 0x01 ∷ still_restarted_by 0x07 0x0F 0x03 ∷ still_restarted_by 0x07 0x18 0x09 ∷ still_restarted_by 0x07 0x21 0x07 ∷
    still_restarted_by 0x07 0x27 0x00 ∷ still_restarted_by 0x07 0x29 0x01 ∷ still_restarted_by 0x0E 0x0F 0x03 ∷ still_restarted_by 0x0E 0x18 0x09 ∷
    slow_restarted_by 0x00 0x18 0x01 ∷ slow_restarted_by 0x00 0x21 0x00 ∷ slow_restarted_by 0x00 0x27 0x04 ∷ slow_restarted_by 0x00 0x29 0x01 ∷
    slow_restarted_by 0x07 0x18 0x01 ∷ slow_restarted_by 0x07 0x21 0x07 ∷ slow_restarted_by 0x0E 0x27 0x04 ∷ slow_restarted_by 0x0E 0x29 0x01 ∷
    -- .. of another byte: another range and axis, the ignored bits of 0x18 and those of 0x27 that another detector goes by, the command of 0x21
    still_restarted_by 0x00 0x0F 0x0C ∷ still_restarted_by 0x00 0x18 0x0D ∷ still_restarted_by 0x00 0x18 0xF9 ∷ still_restarted_by 0x07 0x21 0x87 ∷
    still_restarted_by 0x00 0x21 0x07 ∷ still_restarted_by 0x00 0x27 0x03 ∷ still_restarted_by 0x00 0x29 0xFF ∷ slow_restarted_by 0x00 0x18 0x05 ∷
    slow_restarted_by 0x00 0x21 0x80 ∷ slow_restarted_by 0x00 0x27 0x07 ∷ slow_restarted_by 0x00 0x27 0x64 ∷ slow_restarted_by 0x00 0x29 0x00 ∷
    -- .. "0x0F also forgets the previous sample": the next one is no point, the one after it may fire; after another of these writes the next one may
    (still 0 0x00 ++ sampled (pos 0) 0x00 ++ written 0x0F 0x03 ++ clocked 1000000 0x00 ++ sampled (pos 0) 0x00 ++ sampled (pos 0) 0x08) ∷
    (still 0 0x00 ++ sampled (pos 0) 0x00 ++ written 0x18 0x09 ++ clocked 1000000 0x00 ++ sampled (pos 0) 0x08 ++ written 0x21 0x00
    ++ clocked 1000000 0x00 ++ sampled (pos 0) 0x08 ++ written 0x27 0x00 ++ clocked 1000000 0x00 ++ sampled (pos 0) 0x08 ++ written 0x29 0x01
    ++ clocked 1000000 0x00 ++ sampled (pos 0) 0x08) ∷
    (slow 0x04 0x00 ++ sampled (pos 0) 0x00 ++ sampled (pos 5) 0x00 ++ written 0x0F 0x03 ++ sampled (pos 0) 0x00 ++ sampled (pos 5) 0x00
    ++ sampled (pos 0) 0x08 ++ shows (write 0x0F 0x05) 0x00 ++ sampled (pos 5) 0x00 ++ sampled (pos 0) 0x00 ++ sampled (pos 5) 0x08) ∷
    -- .. and a soft reset takes all
    (still 0 0x00 ++ sampled (pos 0) 0x00 ++ clocked 999999 0x00 ++ written 0x14 0xB6 ++ held 0x00 0x00 ++ clocked 1 0x00 ++ sampled (pos 0) 0x00
    ++ written 0x14 0xB6 ++ still 0 0x00 ++ clocked 1000000 0x00 ++ sampled (pos 0) 0x00 ++ sampled (pos 0) 0x08 ++ shows (write 0x14 0xB6) 0x00) ∷
    -- .. no other write does, as those of any-motion, low-g and high-g
    each_kept_by 0x16 0x00 0 ∷ each_kept_by 0x28 0x00 0 ∷ each_kept_by 0x17 0x08 0 ∷ each_kept_by 0x22 0x00 0 ∷ each_kept_by 0x23 0x00 0 ∷
    each_kept_by 0x24 0x00 0 ∷ each_kept_by 0x25 0x00 0 ∷ each_kept_by 0x26 0x00 0 ∷ each_kept_by 0x10 0x0F 0 ∷ each_kept_by 0x13 0x40 0 ∷
    each_kept_by 0x19 0x08 0 ∷ each_kept_by 0x1A 0x01 0 ∷ each_kept_by 0x1B 0x08 0 ∷ each_kept_by 0x20 0x0F 0 ∷ each_kept_by 0x2A 0x00 0 ∷
    each_kept_by 0x30 0x01 0 ∷ each_kept_by 0x3E 0x40 0 ∷ each_kept_by 0x14 0xB5 0 ∷ each_kept_by 0x09 0x00 0 ∷
    -- .. nor one that is refused: it keeps the bytes, the wait, the run and the status
    each_kept_by 0x0F 0x04 2 ∷ each_kept_by 0x3E 0xC0 2 ∷ each_kept_by 0x16 0x80 11 ∷ each_kept_by 0x58 0x00 1 ∷ each_kept_by 0x67 0x00 1 ∷
    (still_kept_by 0x27 0x58 2 ++ held 0x09 0x00 ++ sampled (pos 0) 0x08) ∷
    (still_kept_by 0x27 0x7F 2 ++ held 0x09 0x00 ++ sampled (pos 5) 0x00 ++ second (pos 5)) ∷
    (slow 0x64 0x00 ++ sampled (pos 0) 0x00 ++ sampled (pos 5) 0x00 ++ (write 0x18 0x09 ⇒ answer 2 ∷ sampled (pos 0) 0x08)
    ++ (write 0x18 0x08 ⇒ answer 2 ∷ clocked 1000000 0x08) ++ held 0x01 0x64 ++ sampled (pos 0) 0x08 ++ sampled (pos 0) 0x00) ∷
    -- .. nor a sample that is refused, or a cycle start: neither is a point
    (still 0 0x00 ++ sampled (pos 0) 0x00 ++ clocked 999999 0x00 ++ (x (pos 2048) ⇒ answer 4 ∷ shows cycle 0x00) ++ clocked 1 0x00
    ++ (x (pos 2048) ⇒ answer 4 ∷ shows cycle 0x00) ++ sampled (pos 0) 0x08 ++ (x (pos 2048) ⇒ answer 4 ∷ shows cycle 0x08)) ∷
    (slow 0x04 0x00 ++ sampled (pos 0) 0x00 ++ sampled (pos 5) 0x00 ++ (x (pos 2048) ⇒ answer 4 ∷ shows cycle 0x00) ++ sampled (pos 0) 0x08
    ++ sampled (pos 0) 0x08 ++ (x (minus 2049) ⇒ answer 4 ∷ shows cycle 0x08) ++ sampled (pos 0) 0x00) ∷
    -- 0x18 and 0x29 do not restart any-motion, nor does a write to 0x18 or 0x27 that is refused
    motion_kept_by 0x18 0x08 0 ∷ motion_kept_by 0x18 0x0F 0 ∷ motion_kept_by 0x18 0x00 0 ∷ motion_kept_by 0x29 0x00 0 ∷ motion_kept_by 0x27 0x59 2 ∷
    (motion_with 0x59 0x00 ++ sampled (pos 0) 0x00 ++ sampled (pos 5) 0x00 ++ (write 0x18 0x08 ⇒ answer 2 ∷ sampled (pos 0) 0x04)
    ++ (write 0x18 0x08 ⇒ answer 2 ∷ clocked 0 0x04)) ∷
    -- the points are counted apart: 0x28 and 0x29 by themselves, each N, and each axis
    (written 0x18 0x01 ++ written 0x29 0x10 ++ motion_with 0 0x00 ++ sampled (pos 0) 0x00 ++ sampled (pos 64) 0x04 ++ sampled (pos 64) 0x00
    ++ sampled (minus 1) 0x0C ++ sampled (minus 6) 0x04 ++ sampled (minus 6) 0x00) ∷
    (written 0x18 0x01 ++ written 0x29 0x01 ++ motion_with 1 0x00 ++ written 0x28 0x10 ++ sampled (pos 0) 0x00 ++ sampled (pos 5) 0x08
    ++ sampled (pos 70) 0x08 ++ sampled (pos 0) 0x0C ++ sampled (pos 0) 0x04 ++ sampled (pos 0) 0x00) ∷
    (moving_with 0x00 ++ sampled (pos 0) 0x00 ++ clocked 1000000 0x00 ++ shows (xy 5 0) 0x0C ++ shows (xy 5 5) 0x00 ++ clocked 999999 0x00
    ++ shows (xy 0 5) 0x04 ++ clocked 1 0x04 ++ shows (xy 5 5) 0x0C ++ shows (xy 5 5) 0x08 ++ shows (xy 5 0) 0x00) ∷
    -- each its own hold of 12.5 ms: any-motion's from 994000 us, no-motion's from 1000000 us; the end of the one is no expiry of the other
    (moving_with 0b1100 ++ sampled (pos 0) 0x00 ++ clocked 994000 0x00 ++ shows (xy 5 0) 0x04 ++ clocked 6000 0x04 ++ shows (xy 5 0) 0x0C
    ++ clocked 6499 0x0C ++ clocked 1 0x08 ++ clocked 5999 0x08 ++ clocked 1 0x00) ∷
    (moving_with 0b1100 ++ sampled (pos 0) 0x00 ++ clocked 500000 0x00 ++ shows (xy 5 0) 0x04 ++ clocked 12499 0x04 ++ clocked 487500 0x00
    ++ shows (xy 5 0) 0x00 ++ clocked 1 0x00 ++ shows (xy 5 0) 0x08) ∷
    (still 0 0b1001 ++ low_with 0x00 0x30 0x00 0b1001 ++ sampled (pos 0) 0x00 ++ clocked 2000 0x00 ++ sampled (pos 0) 0x01 ++ clocked 250 0x00
    ++ clocked 997749 0x00 ++ sampled (pos 0) 0x00 ++ clocked 1 0x00 ++ sampled (pos 0) 0x08) ∷
    -- Q-6 "Status .. bit 3 of 0x09": all four at once, and each goes alone: slow motion and any-motion by a calm point, low-g by 384, and high-g by 0
    (all_four 0b0000 ++ marks 0x01 ++ (read 0x0B 1 ⇒ bytes (0x01 ∷ []) ∷ [])
    ++ sampled (pos 6) 0x03 ++ sampled (pos 384) 0x0E ++ sampled (pos 0) 0x0C ++ sampled (pos 0) 0x00) ∷
    -- a write that restarts one of them leaves the others; 0x27 restarts any-motion and this, 0x0F and 0x21 all four
    (all_four 0b0111 ++ shows (write 0x18 0x01) 0x07 ++ marks 0x01 ++ (read 0x0B 1 ⇒ bytes (0x01 ∷ []) ∷ [])) ∷
    (all_four 0b0111 ++ shows (write 0x29 0x01) 0x07) ∷
    (all_four 0b0111 ++ shows (write 0x16 0x01) 0x0B) ∷
    (all_four 0b0111 ++ shows (write 0x28 0x01) 0x0B) ∷
    (all_four 0b0111 ++ shows (write 0x17 0x0F) 0x0C) ∷
    (all_four 0b0111 ++ shows (write 0x22 0x00) 0x0C) ∷
    (all_four 0b0111 ++ shows (write 0x26 0x00) 0x0C) ∷
    (all_four 0b0111 ++ shows (write 0x27 0x00) 0x03) ∷
    (all_four 0b0111 ++ shows (write 0x27 0x58) 0x03 ++ (write 0x18 0x09 ⇒ answer 2 ∷ clocked 0 0x03)) ∷
    (all_four 0b0111 ++ shows (write 0x0F 0x03) 0x00) ∷
    (all_four 0b0111 ++ shows (write 0x21 0b0111) 0x00) ∷
    (all_four 0b0111 ++ shows (write 0x14 0xB6) 0x00) ∷
    -- Q-7 "one step is 8, 4, 2 or 1 counts at 2, 4, 8 or 16 g .. held at -2048 or 2047 where it would pass", "4 still tests the given sample"
    limits_in 0x03 8 on_x ∷ limits_in 0x03 8 on_y ∷ limits_in 0x03 8 on_z ∷ limits_in 0x05 4 on_x ∷ limits_in 0x05 4 on_y ∷ limits_in 0x05 4 on_z ∷
    limits_in 0x08 2 on_x ∷ limits_in 0x08 2 on_y ∷ limits_in 0x08 2 on_z ∷ limits_in 0x0C 1 on_x ∷ limits_in 0x0C 1 on_y ∷ limits_in 0x0C 1 on_z ∷
    -- .. 127 steps and -128 are neighbours as bytes: 7F and 80
    (written 0x3E 0x01 ++ written 0x38 0x7F ++ stores on_x (pos 0) 0x3F8 ++ written 0x38 0x80 ++ stores on_x (pos 0) 0xC00) ∷
    -- .. each axis has its own: x, y and z of one frame, and of the channels
    (written 0x38 0x01 ++ written 0x39 0x02 ++ written 0x3A 0xFF ++ (sample (pos 16) (pos 16) (pos 16) 0 ⇒ answer 0 ∷
    read 0x3F 6 ⇒ bytes (stored 0x018 ++ stored 0x020 ++ stored 0x008) ∷ read 0x02 6 ⇒ bytes (stored 0x018 ++ stored 0x020 ++ stored 0x008) ∷ [])) ∷
    -- .. the range at the sample: of the same sample with the same offset
    (written 0x3E 0x01 ++ written 0x38 0x05 ++ stores on_x (pos 0) 0x028 ++ written 0x0F 0x05 ++ stores on_x (pos 0) 0x014 ++ written 0x0F 0x08
    ++ stores on_x (pos 0) 0x00A ++ written 0x0F 0x0C ++ stores on_x (pos 0) 0x005 ++ (write 0x0F 0x04 ⇒ answer 2 ∷ stores on_x (pos 0) 0x005)
    ++ written 0x0F 0x03 ++ stores on_x (pos 0) 0x028) ∷
    -- .. what is stored stays: frames and channels of before, whatever offset or range is written
    (written 0x3E 0x41 ++ written 0x38 0x01 ++ (x (pos 0) ⇒ answer 0 ∷ written 0x38 0x02) ++ (x (pos 0) ⇒ answer 0 ∷ written 0x0F 0x0C)
    ++ (x (pos 0) ⇒ answer 0 ∷ written 0x38 0xFF) ++ (read 0x02 2 ⇒ bytes (stored 0x002) ∷
    read 0x3F 6 ⇒ bytes (stored 0x008 ++ stored 0x010 ++ stored 0x002) ∷ read 0x0E 1 ⇒ bytes (0x00 ∷ []) ∷ [])) ∷
    -- .. a refused sample stores nothing, and 0x36 bit 7 stays refused and resets no offset; a soft reset does
    (written 0x3E 0x01 ++ written 0x38 0xFF ++ stores on_x (pos 8) 0x000 ++ outside on_x (pos 2048) ++ (read 0x02 2 ⇒ bytes (0x00 ∷ 0x00 ∷ []) ∷
    read 0x0E 1 ⇒ bytes (0x00 ∷ []) ∷ write 0x36 0x80 ⇒ answer 13 ∷ stores on_x (pos 8) 0x000)) ∷
    (written 0x38 0x7F ++ written 0x39 0x80 ++ written 0x3A 0xFF ++ written 0x14 0xB6 ++ (read 0x38 3 ⇒ bytes (0x00 ∷ 0x00 ∷ 0x00 ∷ []) ∷
    sample (pos 1) (pos 2) (pos 3) 0 ⇒ answer 0 ∷ read 0x3F 6 ⇒ bytes (stored 0x001 ++ stored 0x002 ++ stored 0x003) ∷ [])) ∷
    -- .. "detectors all see the stored sample": any-motion on the jump of an offset, up and down; 4 counts are no slope above 4, 5 are
    (motion_with 0 0x00 ++ sampled (pos 0) 0x00 ++ written 0x38 0x01 ++ sampled (pos 0) 0x04 ++ (read 0x0B 1 ⇒ bytes (0x01 ∷ []) ∷ sampled (pos 0) 0x00)
    ++ written 0x38 0xFF ++ sampled (pos 0) 0x04 ++ (read 0x0B 1 ⇒ bytes (0x09 ∷ []) ∷ sampled (pos 0) 0x00)) ∷
    (written 0x0F 0x0C ++ motion_with 0 0x00 ++ sampled (pos 0) 0x00 ++ written 0x38 0x04 ++ sampled (pos 0) 0x00 ++ written 0x38 0x09
    ++ sampled (pos 0) 0x04) ∷
    -- .. the previous sample is what was stored: the same again by another way is no slope
    (motion_with 0 0x00 ++ written 0x38 0x01 ++ sampled (pos 0) 0x00 ++ written 0x38 0x00 ++ sampled (pos 8) 0x00 ++ sampled (pos 13) 0x04) ∷
    -- .. held at the limit, two samples are alike though they were given 1000 apart
    (motion_with 0 0x00 ++ written 0x38 0x7F ++ sampled (pos 2047) 0x00 ++ sampled (pos 1047) 0x00 ++ sampled (pos 1026) 0x04) ∷
    -- .. slow motion on it too; and no-motion, for which it is an over point, also where nothing moves
    (slow 0x00 0x00 ++ sampled (pos 0) 0x00 ++ written 0x38 0x01 ++ sampled (pos 0) 0x08 ++ sampled (pos 0) 0x00) ∷
    (still 0 0x00 ++ sampled (pos 0) 0x00 ++ clocked 1000000 0x00 ++ written 0x38 0x01 ++ sampled (pos 0) 0x00 ++ second (pos 0)
    ++ written 0x38 0x00 ++ sampled (pos 0) 0x00) ∷
    -- .. low-g below 384 of what is stored, in 2 g counts, and high-g above 1536
    (written 0x38 0x01 ++ low ++ through (x (pos 375)) 0x01 ++ through (x (pos 376)) 0x00) ∷
    (written 0x0F 0x0C ++ written 0x38 0xFE ++ low ++ through (x (pos 49)) 0x01 ++ through (x (pos 50)) 0x00) ∷
    (written 0x38 0x01 ++ high 0x01 ++ through (x (pos 1529)) 0x02 ++ through (x (pos 1528)) 0x00) ∷
    (written 0x39 0xFF ++ high 0x02 ++ through (y (minus 1529)) 0x02 ++ marks 0x0A ++ through (y (minus 1528)) 0x00) ∷
    -- .. "The size of -2048 is 2048", also of what is held there: above 2040
    (written 0x38 0x80 ++ high_with 0x01 0x00 0xFF 0x00 0x00 ++ through (x (minus 1500)) 0x02 ++ marks 0x09) ∷
    -- .. a write to 0x38 to 0x3A restarts nothing: neither a status nor a run, and no sample is forgotten
    (all_four 0b0111 ++ shows (write 0x38 0x01) 0x0F ++ shows (write 0x39 0x7F) 0x0F ++ shows (write 0x3A 0x80) 0x0F) ∷
    kept_by 0x38 0x00 0 ∷ kept_by 0x39 0x01 0 ∷ kept_by 0x3A 0xFF 0 ∷ each_kept_by 0x38 0x00 0 ∷ each_kept_by 0x39 0x7F 0 ∷ each_kept_by 0x3A 0x80 0 ∷
    motion_kept_by 0x38 0x00 0 ∷ motion_kept_by 0x39 0x80 0 ∷ motion_kept_by 0x3A 0x01 0 ∷
    -- .. but what the offset brings does count: the jump is the second of two over points in a row
    (motion_with 1 0x00 ++ sampled (pos 0) 0x00 ++ sampled (pos 5) 0x00 ++ written 0x38 0x01 ++ sampled (pos 5) 0x04) ∷
    -- the wait of each code
    (up_from (λ code. wait_of code (code + 1)) 0 16 ++ up_from (λ step. wait_of (16 + step) (40 + 8 * step)) 0 6
    ++ up_from (λ step. wait_of (32 + step) (88 + 8 * step)) 0 32)
