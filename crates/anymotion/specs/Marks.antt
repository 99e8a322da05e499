-- 01, "Interrupts and pins", any-motion: the marks and the sign, of the points that set the status.
use Rattle.std.specs.Prelude.{ℕ, ◌+◌, List}
use Rattle.laws.specs.Bits.{worth}
use Rattle.events.specs.Event.{Event}
use Rattle.lookback.specs.InForce.{is_non_latched}
use Rattle.lookback.specs.Marks.{mark_shown, sign_shown}
use Rattle.lookback.specs.InRow.{SetInRow}
use Rattle.points.specs.Points.{OverAxes, is_over, first_marked}
use Rattle.anymotion.specs.Status.{points_asked, any_motion, points}

-- the byte of 0x0B: "0x0B bits 2:0 (z, y, x) mark the first over axis .., and bit 3 is 1 for a negative difference. The marks clear with the
-- status; bit 3 stays until the next setting or soft reset"
unfoldable pub marks_byte : List Event → ℕ
marks_byte es = mark_shown any_motion es + worth 8 (sign_shown any_motion es)

-- the point that set a status which is set, among the points since the last restart or expiry
abbrev pub SetAt : List Event → Type 0
SetAt es = SetInRow is_over (points_asked es) (is_non_latched es) (points es)

-- the byte that marks it
abbrev pub marks_byte_at : OverAxes → ℕ
marks_byte_at point = (first_marked point).axis + worth 8 (first_marked point).negative
