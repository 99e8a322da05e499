-- 01, "Interrupts and pins", any-motion: what it goes by, what sets and what clears it, and its status.
use Rattle.std.specs.Prelude.{ℕ, ◌+◌, ◌%◌, Bool, List, [], ◌∷◌}
use Rattle.events.specs.Event.{Event}
use Rattle.paper.specs.Stored.{byte_by}
use Rattle.lookback.specs.InForce.{is_non_latched}
use Rattle.lookback.specs.Sight.{points_in}
use Rattle.lookback.specs.Watch.{Watch}
use Rattle.lookback.specs.Seen as lookback
use Rattle.lookback.specs.InRow.{last_are, CameInRow}
use Rattle.points.specs.Points.{OverAxes, is_over, is_calm, first_marked, point_by}

-- "N is 0x27 bits 1:0 plus 1"
abbrev pub points_asked : List Event → ℕ
points_asked es = byte_by es 0x27 % 4 + 1

-- "An accepted write to 0x0F, 0x16, 0x21, 0x27 or 0x28 clears status, marks and runs"
abbrev pub clearing : List ℕ
clearing = 0x0F ∷ 0x16 ∷ 0x21 ∷ 0x27 ∷ 0x28 ∷ []

-- by "some axis enabled in 0x16 bits 2:0 (z, y, x) has slope above 4 times 0x28": "N over points in a row set it .. Non-latched, N calm points in
-- a row clear it"
abbrev pub any_motion : Watch
any_motion = record {
  Point = OverAxes;
  point_of = point_by 0x16 0x28;
  Setting = ℕ;
  setting = points_asked;
  clearing = clearing;
  sets = λ n ss. last_are is_over n (points_in ss);
  clears = λ n ss. last_are is_calm n (points_in ss);
  mark = first_marked;
}

-- the points since the last restart or expiry, the latest first
abbrev pub points : List Event → List OverAxes
points es = points_in (lookback.seen any_motion es)

abbrev pub is_set : List Event → Bool
is_set es = lookback.is_set any_motion es

-- the same in one sentence: since the last restart or expiry N over points in a row came and, non-latched, no N calm points in a row after them
abbrev pub Came : List Event → Type 0
Came es = CameInRow is_over (points_asked es) (is_non_latched es) (points es)
