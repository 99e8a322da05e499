-- Demand 2: "Register bytes, FIFO bytes, interrupt bits and pin levels equal the rules of 01 after every event." After any events from
-- power-up, every accepted read of any length gives what the rules say, and so do the pins; and no rule asks a device.
use Rattle.std.specs.Prelude.{ℕ, ◌≤◌, true, List, [], ◌∷◌, ◌≡◌, ltb, length}
use Rattle.laws.specs.Bits.{bit}
use Rattle.laws.specs.Keys.{◌means◌}
use Rattle.laws.specs.Bytes.{first_or_zeros}
use Rattle.fifo.specs.Flat.{flat}
use Rattle.fifo.specs.Ledger.{held_of, lost_of}
use Rattle.device.specs.Show.{pins_of}
use Rattle.events.specs.Event.{Event, read, bytes, gives}
use Rattle.events.specs.Run.{after}
use Rattle.demand3.specs.Demand.{fates}
use Rattle.history.specs.History.{accelerometer}
use Rattle.lookback.specs.Seen.{is_set}
use Rattle.lowhigh.specs.Low.{low_g}
use Rattle.lowhigh.specs.High.{high_g, high_marks_byte}
use Rattle.slowmotion.specs.Status.{slow_motion}
use Rattle.anymotion.specs.Status.{any_motion}
use Rattle.anymotion.specs.Marks.{marks_byte}
use Rattle.rules.specs.Bursts.{is_burst}
use Rattle.rules.specs.Rules.{status, Elsewhere, ruled, ruled_from, maps, is_one, some_mapped, Leveled}

-- what the FIFO and the detectors show at the end of a history, from its events alone: the held and the lost are demand 3's, statuses and
-- marks are told by looking back on the points
unfoldable pub elsewhere : List Event → Elsewhere
elsewhere es = record {
  -- "the frame count is the number still held"
  count = length (held_of (fates accelerometer es));
  -- "The overrun bit is 1 exactly when some sample is lost"
  overrun = ltb 0 (length (lost_of (fates accelerometer es)));
  statuses =
      -- Q-5: "low and high are bits 0 and 1 of 0x09"
      status 0x09 0 (is_set low_g es) ∷
      status 0x09 1 (is_set high_g es) ∷
      -- "any-motion (0x09 bit 2)"
      status 0x09 2 (is_set any_motion es) ∷
      -- Q-6: "Status and maps are bit 3 of 0x09, 0x19 and 0x1B"
      status 0x09 3 (is_set slow_motion es) ∷ [];
  marks =
      -- "0x0B bits 2:0 (z, y, x) mark the first over axis .., and bit 3 is 1 for a negative difference"
      0x0B means marks_byte es ∷
      -- Q-5: "High marks and the sample's sign sit in 0x0C bits 3:0"
      0x0C means high_marks_byte es ∷ [];
}

-- the byte that an address below 0x3F reads, after a history
abbrev pub byte_read : List Event → ℕ → ℕ
byte_read es a = ruled (elsewhere es) es a

-- after any history
pub record Demand2 (es : List Event) : Type 0 where
  -- below 0x3F, one byte or a burst
  pub below : (a n : ℕ) → is_burst a n ≡ true → gives (after es) (read a n) ≡ bytes (ruled_from (elsewhere es) es a n)
  -- "A read at 0x3F stays there and gives frames oldest first .. Past the last frame it gives zeros"
  pub frames : (n : ℕ) → 1 ≤ n → n ≤ 192 → gives (after es) (read 0x3F n) ≡ bytes (first_or_zeros n (flat (held_of (fates accelerometer es))))
  -- "0x20 bits 0 and 2 give the active level of INT1 and INT2; bits 1 and 3 choose open-drive"
  pub int1 : Leveled (some_mapped (is_one (byte_read es)) (λ m. m.int1) maps) (bit 0 (byte_read es 0x20)) (bit 1 (byte_read es 0x20)) (pins_of (after es)).int1
  pub int2 : Leveled (some_mapped (is_one (byte_read es)) (λ m. m.int2) maps) (bit 2 (byte_read es 0x20)) (bit 3 (byte_read es 0x20)) (pins_of (after es)).int2
