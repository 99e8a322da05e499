-- A detector with an alarm, as the events tell of it.
use Rattle.std.specs.Prelude.{ℕ, Bool, false, List, [], ◌∷◌}
use Rattle.events.specs.Event.{Event}
use Rattle.paper.specs.Samples.{Values, brings}
use Rattle.lookback.specs.InForce.{is_non_latched, time_asked, begins_anew}
use Rattle.lookback.specs.Sight.{Sight}

-- what is marked when the status is set: an axis, as the byte of marks shows it, and whether the value is negative there
pub record Mark : Type 0 where
  pub axis : ℕ
  pub negative : Bool

abbrev pub no_mark : Mark
no_mark = record { axis = 0; negative = false }

pub record Watch : Type 1 where
  -- what an accepted sample may give it: the point, if any, of a sample after a history
  pub Point : Type 0
  pub point_of : List Event → Values → List Point
  -- what it goes by from one restart to the next, beside 0x21, and what that is after a history
  pub Setting : Type 0
  pub setting : List Event → Setting
  -- the addresses of "An accepted write to .. clears status, marks and runs"
  pub clearing : List ℕ
  -- whether the latest of these sights since the last restart or expiry, which is a point, sets the status; and whether, non-latched, it
  -- clears it
  pub sets : Setting → List (Sight Point) → Bool
  pub clears : Setting → List (Sight Point) → Bool
  -- what is marked where a point sets the status
  pub mark : Point → Mark

-- what it has seen, the latest first
abbrev pub Sights : Watch → Type 0
Sights w = List (Sight w.Point)

-- its own settings, and 0x21: whether it is non-latched, and for how long a status is held, 0 for no time
pub record Going (Setting : Type 0) : Type 0 where
  pub own : Setting
  pub non_latched : Bool
  pub time : ℕ

module _ (w : Watch) where
  unfoldable pub going_by : List Event → Going w.Setting
  going_by es = record { own = w.setting es; non_latched = is_non_latched es; time = time_asked es }

  -- power-up, soft reset, and the writes that clear status, marks and runs
  abbrev pub restarts : List Event → Event → Bool
  restarts es e = begins_anew w.clearing es e

  -- the point, if any, of an accepted sample, where one came
  abbrev pub point_among : List Event → List Values → List w.Point
  point_among es [] = []
  point_among es (v ∷ vs) = w.point_of es v

  -- the point, if any, that an event gives
  unfoldable pub point_at : List Event → Event → List w.Point
  point_at es e = point_among es (brings es e)
