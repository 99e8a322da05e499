-- 01, "Interrupts and pins": the points of a slope detector, as any-motion is, from the events of a history alone.
use Rattle.std.specs.Prelude.{ℕ, ◌*◌, ◌^◌, Bool, true, false, not, List, [], ◌∷◌, ◌++◌, ltb, ℤ, pos, ◌-ℤ◌, nat_abs}
use Rattle.std.specs.Int.Signed.{lt_z}
use Rattle.laws.specs.Choice.{pick, both, either}
use Rattle.laws.specs.Bits.{bit}
use Rattle.events.specs.Event.{Event}
use Rattle.paper.specs.Stored.{byte_by}
use Rattle.paper.specs.Samples.{Values, brings}
use Rattle.lookback.specs.InForce.{begins_anew}
use Rattle.lookback.specs.Watch.{Mark, no_mark}

-- "0x0F also forgets the previous sample"
abbrev pub forgetting : List ℕ
forgetting = 0x0F ∷ []

abbrev pub forgets : List Event → Event → Bool
forgets es e = begins_anew forgetting es e

-- the accepted samples since power-up, soft reset or an accepted write to 0x0F, the latest first: of a next
-- sample the first of them is the previous one
unfoldable pub samples : List Event → List Values
samples [] = []
samples (e ∷ es) = pick (forgets es e) [] (brings es e ++ samples es)

-- an axis between two samples in a row: its bit among the axes and the marks, "bits 2:0 (z, y, x)", and the difference
pub record AxisDifference : Type 0 where
  pub place : ℕ
  pub difference : ℤ

abbrev axis : ℕ → ℤ → AxisDifference
axis place difference = record { place = place; difference = difference }

-- "the difference of two signed samples in a row", of the earlier and the later; "x before y before z"
abbrev pub axes_between : Values → Values → List AxisDifference
axes_between old new = axis 0 (new.x -ℤ old.x) ∷ axis 1 (new.y -ℤ old.y) ∷ axis 2 (new.z -ℤ old.z) ∷ []

-- by the byte of the axes and that of the threshold, any-motion's 0x16 and 0x28: "some axis enabled in 0x16 bits 2:0 (z, y, x) has slope above
-- 4 times 0x28"; the difference's "size is the slope"
abbrev pub is_above : ℕ → ℕ → AxisDifference → Bool
is_above enabled threshold a = both (bit a.place enabled) (ltb (4 * threshold) (nat_abs a.difference))

-- those among axes
abbrev pub above_among : ℕ → ℕ → List AxisDifference → List AxisDifference
above_among enabled threshold [] = []
above_among enabled threshold (a ∷ axes) = pick (is_above enabled threshold a) (a ∷ above_among enabled threshold axes) (above_among enabled threshold axes)

-- a point: the axes that are over at it, in their order
abbrev pub OverAxes : Type 0
OverAxes = List AxisDifference

-- "A point is over when some axis .., else calm"
abbrev pub is_over : OverAxes → Bool
is_over [] = false
is_over (a ∷ axes) = true

abbrev pub is_calm : OverAxes → Bool
is_calm p = not (is_over p)

-- "mark the first over axis (x before y before z) at that point, and bit 3 is 1 for a negative difference"
abbrev pub first_marked : OverAxes → Mark
first_marked [] = no_mark
first_marked (a ∷ axes) = record { axis = 2 ^ a.place; negative = lt_z a.difference (pos 0) }

-- of the byte of the axes: not "no axis is enabled"
abbrev pub any_enabled : ℕ → Bool
any_enabled enabled = either (bit 0 enabled) (either (bit 1 enabled) (bit 2 enabled))

-- the point, if any, of a later sample and the earlier ones: "The first sample gives no point, nor does any sample while no axis is enabled"
abbrev pub point_of_two : ℕ → ℕ → Values → List Values → List OverAxes
point_of_two enabled threshold new [] = []
point_of_two enabled threshold new (old ∷ olds) = pick (any_enabled enabled) (above_among enabled threshold (axes_between old new) ∷ []) []

-- the point, if any, of an accepted sample after a history, by what is in force then at the addresses of the axes and of the threshold
abbrev pub point_by : ℕ → ℕ → List Event → Values → List OverAxes
point_by axes_at threshold_at es new = point_of_two (byte_by es axes_at) (byte_by es threshold_at) new (samples es)
