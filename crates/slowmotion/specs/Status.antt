-- Q-6, slow motion and no-motion: what they go by, what sets and what clears their status.
use Rattle.std.specs.Prelude.{ℕ, ◌+◌, ◌*◌, ◌/◌, ◌%◌, Bool, List, [], ◌∷◌, leb, get_or}
use Rattle.laws.specs.Choice.{pick, both}
use Rattle.laws.specs.Bits.{bit}
use Rattle.events.specs.Event.{Event}
use Rattle.paper.specs.Stored.{byte_by}
use Rattle.lookback.specs.Sight.{Sight, points_in, clock_in}
use Rattle.lookback.specs.Watch.{Watch}
use Rattle.lookback.specs.InRow.{last_are}
use Rattle.lasting.specs.Run.{latest_is, run}
use Rattle.points.specs.Points.{OverAxes, is_over, is_calm, first_marked, point_by}

-- "No-motion waits, by 0x27 bits 7:2: codes 0 to 15 code plus 1 s; 16 to 21 are 40 s plus 8 s a step; 32 to 63 are 88 s plus 8 s a step": of
-- each code the seconds, and 0 for "Codes 22 to 31 have no meaning there"
abbrev pub waits : List ℕ
waits =
    1 ∷ 2 ∷ 3 ∷ 4 ∷ 5 ∷ 6 ∷ 7 ∷ 8 ∷ 9 ∷ 10 ∷ 11 ∷ 12 ∷ 13 ∷ 14 ∷ 15 ∷ 16 ∷
    40 ∷ 48 ∷ 56 ∷ 64 ∷ 72 ∷ 80 ∷
    0 ∷ 0 ∷ 0 ∷ 0 ∷ 0 ∷ 0 ∷ 0 ∷ 0 ∷ 0 ∷ 0 ∷
    88 ∷ 96 ∷ 104 ∷ 112 ∷ 120 ∷ 128 ∷ 136 ∷ 144 ∷ 152 ∷ 160 ∷ 168 ∷ 176 ∷ 184 ∷ 192 ∷ 200 ∷ 208 ∷
    216 ∷ 224 ∷ 232 ∷ 240 ∷ 248 ∷ 256 ∷ 264 ∷ 272 ∷ 280 ∷ 288 ∷ 296 ∷ 304 ∷ 312 ∷ 320 ∷ 328 ∷ 336 ∷ []

-- ---- what they go by after a history
-- "bit 3 choosing no-motion"
abbrev pub is_no_motion : List Event → Bool
is_no_motion es = bit 3 (byte_by es 0x18)

-- slow motion: "N from 0x27 bits 3:2 plus 1"
abbrev pub points_asked : List Event → ℕ
points_asked es = byte_by es 0x27 / 4 % 4 + 1

-- no-motion: in microseconds, 0 where the code has no meaning
abbrev pub wait_asked : List Event → ℕ
wait_asked es = get_or waits (byte_by es 0x27 / 4 % 64) 0 * 1000000

pub record Chosen : Type 0 where
  pub waiting : Bool
  pub points : ℕ
  pub wait : ℕ

abbrev pub chosen : List Event → Chosen
chosen es = record { waiting = is_no_motion es; points = points_asked es; wait = wait_asked es }

-- "an accepted write to 0x0F, 0x18, 0x21, 0x27 or 0x29 restarts it"
abbrev pub clearing : List ℕ
clearing = 0x0F ∷ 0x18 ∷ 0x21 ∷ 0x27 ∷ 0x29 ∷ []

-- no-motion "fires at a calm point when the clock since the last over point, restart or expiry has reached that": of what was seen since the last
-- restart or expiry, the latest first
abbrev pub has_waited : ℕ → List (Sight OverAxes) → Bool
has_waited wait ss = both (leb 1 wait) (both (latest_is is_calm ss) (leb wait (clock_in (run is_calm ss))))

-- by "0x29 as threshold in steps of 4 counts, axes in 0x18 bits 2:0": "Slow motion counts points as any-motion does"; no-motion "clears at an over
-- point". Nothing shows what is marked
abbrev pub slow_motion : Watch
slow_motion = record {
  Point = OverAxes;
  point_of = point_by 0x18 0x29;
  Setting = Chosen;
  setting = chosen;
  clearing = clearing;
  sets = λ c ss. pick c.waiting (has_waited c.wait ss) (last_are is_over c.points (points_in ss));
  clears = λ c ss. pick c.waiting (latest_is is_over ss) (last_are is_calm c.points (points_in ss));
  mark = first_marked;
}
