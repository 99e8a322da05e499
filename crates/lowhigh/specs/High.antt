-- Q-5, high-g: what a sample is held against, its status and its marks.
use Rattle.std.specs.Prelude.{ℕ, ◌+◌, ◌-◌, ◌*◌, ◌/◌, ◌^◌, Bool, true, false, not, List, [], ◌∷◌, leb, ltb, ℤ, pos, nat_abs}
use Rattle.std.specs.Int.Signed.{lt_z}
use Rattle.laws.specs.Choice.{pick, both, either}
use Rattle.laws.specs.Bits.{bit, worth}
use Rattle.events.specs.Event.{Event}
use Rattle.paper.specs.Ranges.{is_known_range}
use Rattle.paper.specs.Stored.{byte_by}
use Rattle.paper.specs.Samples.{Values}
use Rattle.lookback.specs.Watch.{Mark, no_mark, Watch}
use Rattle.lookback.specs.Marks.{mark_shown, sign_shown}
use Rattle.lasting.specs.Lasting.{Lasting, watch}

-- an axis of a sample: its bit among the enables of 0x17 and the marks of 0x0C, and its value in present counts
pub record Axis : Type 0 where
  pub place : ℕ
  pub value : ℤ

abbrev axis : ℕ → ℤ → Axis
axis place value = record { place = place; value = value }

-- those that 0x17 enables: "high by bits 2:0"
abbrev pub enabled_among : ℕ → List Axis → List Axis
enabled_among enables [] = []
enabled_among enables (a ∷ axes) = pick (bit a.place enables) (a ∷ enabled_among enables axes) (enabled_among enables axes)

abbrev pub enabled_axes : ℕ → Values → List Axis
enabled_axes enables v = enabled_among enables (axis 0 v.x ∷ axis 1 v.y ∷ axis 2 v.z ∷ [])

-- what a sample is held against: its enabled axes, the threshold, and the hysteresis
pub record Measured : Type 0 where
  pub axes : List Axis
  pub threshold : ℕ
  pub hysteresis : ℕ

-- the axes above a limit, in their order; the size of -2048 is 2048
abbrev pub above : ℕ → List Axis → List Axis
above limit [] = []
above limit (a ∷ axes) = pick (ltb limit (nat_abs a.value)) (a ∷ above limit axes) (above limit axes)

abbrev pub is_some : List Axis → Bool
is_some [] = false
is_some (a ∷ axes) = true

-- "some enabled axis is above 8 times 0x26 in present counts"
abbrev pub is_high : Measured → Bool
is_high m = is_some (above m.threshold m.axes)

-- "all enabled are at or below that less 128 times 0x24 bits 7:6, never less than 0"
abbrev pub all_within : ℕ → List Axis → Bool
all_within limit [] = true
all_within limit (a ∷ axes) = both (leb (nat_abs a.value) limit) (all_within limit axes)

abbrev pub is_far : Measured → Bool
is_far m = all_within (m.threshold - m.hysteresis) m.axes

-- "High marks and the sample's sign", of the first axis above: "x before y before z"
abbrev pub first_marked : List Axis → Mark
first_marked [] = no_mark
first_marked (a ∷ axes) = record { axis = 2 ^ a.place; negative = lt_z a.value (pos 0) }

abbrev pub mark_of : Measured → Mark
mark_of m = first_marked (above m.threshold m.axes)

-- by the bytes of 0x17, 0x0F, 0x26 and 0x24, where an axis is enabled and the range is known
abbrev pub point_by : ℕ → ℕ → ℕ → ℕ → Values → List Measured
point_by enables code threshold modes v =
    pick (both (is_some (enabled_axes enables v)) (is_known_range code))
    (record { axes = enabled_axes enables v; threshold = 8 * threshold; hysteresis = 128 * (modes / 64) } ∷ []) []

-- "at each sample some enabled axis is above .., for (0x25 + 1) times 2 ms"
abbrev pub high_lasting : Lasting
high_lasting = record {
  Point = Measured;
  point_of = λ es v. point_by (byte_by es 0x17) (byte_by es 0x0F) (byte_by es 0x26) (byte_by es 0x24) v;
  is_met = is_high;
  is_far = is_far;
  mark = mark_of;
  delay_at = 0x25;
}

abbrev pub high_g : Watch
high_g = watch high_lasting

-- "High marks and the sample's sign sit in 0x0C bits 3:0, kept as any-motion's are"
unfoldable pub high_marks_byte : List Event → ℕ
high_marks_byte es = mark_shown high_g es + worth 8 (sign_shown high_g es)
