-- Q-6 in the request's words, apart from what is counted: when slow motion's and when no-motion's status is 1.
use Rattle.std.specs.Prelude.{ℕ, ◌≤◌, Bool, true, false, List, [], ◌∷◌, ◌++◌, ◌≡◌}
use Rattle.events.specs.Event.{Event}
use Rattle.lookback.specs.InForce.{is_non_latched}
use Rattle.lookback.specs.Sight.{Sight, point, passed, points_in, clock_in}
use Rattle.lookback.specs.Seen.{seen}
use Rattle.lookback.specs.InRow.{CameInRow}
use Rattle.lasting.specs.Words.{AllAre, NoneIs}
use Rattle.points.specs.Points.{OverAxes, is_over, is_calm}
use Rattle.slowmotion.specs.Status.{points_asked, wait_asked, slow_motion}

-- "Slow motion counts points as any-motion does": since the last restart or expiry N over points in a row came and, non-latched, no N calm points
-- in a row after them
abbrev pub CameOver : List Event → Type 0
CameOver es = CameInRow is_over (points_asked es) (is_non_latched es) (points_in (seen slow_motion es))

-- the latest of these is an over point, or there is none: the last restart or expiry stands there
abbrev pub EndsWaiting : List (Sight OverAxes) → Type 0
EndsWaiting [] = Unit {0}
EndsWaiting (point p ∷ ss) = is_over p ≡ true
EndsWaiting (passed us ∷ ss) = ⊥

-- "fires at a calm point when the clock since the last over point, restart or expiry has reached that"
pub record CalmFor (wait : ℕ) (ss : List (Sight OverAxes)) : Type 0 where
  pub calm : OverAxes
  pub waited : List (Sight OverAxes)
  pub earlier : List (Sight OverAxes)
  pub split : ss ≡ point calm ∷ (waited ++ earlier)
  pub at-calm : is_calm calm ≡ true
  pub no-over : AllAre is_calm waited
  pub since : EndsWaiting earlier
  pub some : 1 ≤ wait
  pub reached : wait ≤ clock_in waited

-- since the last restart or expiry it fired so and, non-latched, no over point came later: it "clears at an over point"
pub record CameCalm (es : List Event) : Type 0 where
  pub later : List (Sight OverAxes)
  pub fired : List (Sight OverAxes)
  pub split : seen slow_motion es ≡ later ++ fired
  pub calm-for : CalmFor (wait_asked es) fired
  pub since : is_non_latched es ≡ true → NoneIs is_over later
