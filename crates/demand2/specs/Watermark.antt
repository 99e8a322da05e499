-- Q-2: "Watermark means reached. A recorder that was late by one sample never woke .. The bit is 1 when the count is at or above a level
-- from 1 to 32. Level 0 and levels above the depth never fire." After any events from power-up, from the events alone; only `watermark_bit` asks
-- a device. The latest event of a history stands first.
use Rattle.std.specs.Prelude.{ℕ, ◌+◌, ◌-◌, ◌/◌, ◌≤◌, Bool, true, false, not, List, [], ◌∷◌, ◌++◌, ◌↔◌, ◌≡◌, length}
use Rattle.laws.specs.Bits.{bit, worth}
use Rattle.laws.specs.Choice.{pick, both, either}
use Rattle.laws.specs.Lists.{is_in}
use Rattle.fifo.specs.Ledger.{held_of}
use Rattle.events.specs.Event.{Event, read}
use Rattle.events.specs.Views.{is_power_up, at_write, at_read}
use Rattle.demand3.specs.Counts.{begun}
use Rattle.demand3.specs.Demand.{fates}
use Rattle.history.specs.History.{accelerometer, setting}
use Rattle.rules.specs.Shown.{bit_seen}
use Rattle.rules.specs.Rules.{depth_by}
use Rattle.paper.specs.Stored.{byte_by}
use Rattle.paper.specs.Samples.{is_sample}
use Rattle.paper.specs.Readouts.{reads_out}

-- ---- after a history
-- what a recorder sees: "watermark (0x0A bit 6)"
abbrev pub watermark_bit : List Event → Bool
watermark_bit es = bit_seen es 0x0A 6

-- "the level in 0x30"
abbrev pub level : List Event → ℕ
level es = byte_by es 0x30

-- "the frame count is the number still held"
abbrev pub frame_count : List Event → ℕ
frame_count es = length (held_of (fates accelerometer es))

-- the bytes of a frame
abbrev pub frame_size : List Event → ℕ
frame_size es = (setting es).size

-- "0x17 bit 6 is 1", and so many frames are "at or above a level from 1 to" most
abbrev pub Reaches : List Event → ℕ → ℕ → Type 0
Reaches es most many = (bit 6 (byte_by es 0x17) ≡ true) × (1 ≤ level es) × (level es ≤ most) × (level es ≤ many)

-- ---- what comes later
-- where a write may set up the watermark or the FIFO anew: soft reset, the enables, the level, the mode
abbrev pub set_up_at : List ℕ
set_up_at = 0x14 ∷ 0x17 ∷ 0x30 ∷ 0x3E ∷ []

-- the recorder leaves them as they are: no power-up, and no such write
abbrev pub goes_on : Event → Bool
goes_on e = not (either (is_power_up e) (at_write false (λ a byte. is_in set_up_at a) e))

abbrev pub go_on : List Event → Bool
go_on [] = true
go_on (e ∷ es) = both (goes_on e) (go_on es)

-- how many samples were accepted
abbrev pub arrived : List Event → ℕ
arrived [] = 0
arrived (e ∷ es) = worth 1 (is_sample e) + arrived es

-- how many frames of size bytes a readout asks for: "A frame counts as taken once its first byte is read"
abbrev pub frames_asked_by : ℕ → Event → ℕ
frames_asked_by size e = at_read 0 (λ a n. pick (reads_out a n) (begun size n) 0) e

abbrev pub frames_asked : ℕ → List Event → ℕ
frames_asked size [] = 0
frames_asked size (e ∷ es) = frames_asked_by size e + frames_asked size es

-- ---- after any history
pub record Watermark (es : List Event) : Type 0 where
  -- "The bit is 1 when the count is at or above a level from 1 to 32"
  pub reached : (watermark_bit es ≡ true) ↔ Reaches es 32 (frame_count es)
  -- "Level 0 and levels above the depth never fire": the depth is 1 in BYPASS, and 32 else
  pub level-0 : level es ≡ 0 → watermark_bit es ≡ false
  pub above-1 : byte_by es 0x3E / 64 ≡ 0b00 → 2 ≤ level es → watermark_bit es ≡ false
  pub above-32 : 33 ≤ level es → watermark_bit es ≡ false
  -- "A recorder that was late by one sample never woke": late by any number of samples, and by whatever else it did meanwhile but
  -- reading frames, it sees the bit once so many samples have arrived, and from then on
  pub late : (later : List Event) → go_on later ≡ true → frames_asked (frame_size es) later ≡ 0
      → (watermark_bit (later ++ es) ≡ true) ↔ Reaches es (depth_by es) (frame_count es + arrived later)
  -- it sees the bit until it reads enough: while what its readouts asked for leaves the level, whatever arrives
  pub lasts : (later : List Event) → go_on later ≡ true → level es + frames_asked (frame_size es) later ≤ frame_count es
      → watermark_bit es ≡ true → watermark_bit (later ++ es) ≡ true
  -- and no longer: a readout leaves what it does not take
  pub ends : (n : ℕ) → 1 ≤ n → n ≤ 192 → (watermark_bit (read 0x3F n ∷ es) ≡ true) ↔ Reaches es 32 (frame_count es - begun (frame_size es) n)
