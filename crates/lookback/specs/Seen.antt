-- 01, "Interrupts and pins", and Q-4: the status of any detector with an alarm, looking back on what it saw since the last restart or expiry.
use Rattle.std.specs.Prelude.{ℕ, ◌+◌, ◌-◌, Bool, true, false, not, List, [], ◌∷◌, ◌++◌, map, leb}
use Rattle.laws.specs.Choice.{pick, both}
use Rattle.events.specs.Event.{Event}
use Rattle.events.specs.Views.{at_clock}
use Rattle.paper.specs.Stored.{starts_anew}
use Rattle.paper.specs.Samples.{microseconds_at}
use Rattle.lookback.specs.Sight.{point, passed}
use Rattle.lookback.specs.Watch.{Mark, no_mark, Watch, Sights, Going, going_by, restarts, point_at}

module _ (w : Watch) where
  -- what came last decides: a point that sets, or a point that, non-latched, clears. No clock sets it
  unfoldable pub is_set_by : Going w.Setting → Sights w → Bool
  is_set_by g [] = false
  is_set_by g (point p ∷ ss) =
      pick (w.sets g.own (point p ∷ ss)) true
      (pick (both g.non_latched (w.clears g.own (point p ∷ ss))) false
      (is_set_by g ss))
  is_set_by g (passed us ∷ ss) = is_set_by g ss

  -- "the clock since its setting", in microseconds, of the status that was set last: it begins anew at the point that sets, and no other
  -- point touches it: "Calm points don't clear it sooner; over points don't extend it"
  unfoldable pub since_by : Going w.Setting → Sights w → ℕ
  since_by g [] = 0
  since_by g (point p ∷ ss) = pick (both (not (is_set_by g ss)) (is_set_by g (point p ∷ ss))) 0 (since_by g ss)
  since_by g (passed us ∷ ss) = since_by g ss + us

  -- Q-4: "when the clock since its setting reaches that time", of a status that is held for a time, where us more pass
  abbrev pub reached_by : Going w.Setting → Sights w → ℕ → Bool
  reached_by g ss us = both (is_set_by g ss) (both (leb 1 g.time) (leb g.time (since_by g ss + us)))

  -- what an event lets it see
  abbrev pub sights_at : List Event → Event → Sights w
  sights_at es e = at_clock (map point (point_at w es e)) (λ us. passed us ∷ []) e

  -- what it has seen since the last restart or expiry: "An accepted write .. clears status, marks and runs"; "The status clears, with marks
  -- and runs". Of a clock in which the time is reached, what comes after that is seen
  unfoldable pub seen : List Event → Sights w
  seen [] = []
  seen (e ∷ es) =
      pick (restarts w es e) []
      (pick (reached_by (going_by w es) (seen es) (microseconds_at e)) (passed (since_by (going_by w es) (seen es) + microseconds_at e - (going_by w es).time) ∷ [])
      (sights_at es e ++ seen es))

  abbrev pub is_set : List Event → Bool
  is_set es = is_set_by (going_by w es) (seen es)

  abbrev pub clock_since : List Event → ℕ
  clock_since es = since_by (going_by w es) (seen es)

  -- at the event e the status expires
  unfoldable pub expires : List Event → Event → Bool
  expires es e = reached_by (going_by w es) (seen es) (microseconds_at e)

  -- the event e sets the status; "A status already set is not set again"
  unfoldable pub sets_at : List Event → Event → Bool
  sets_at es e = both (not (is_set es)) (is_set (e ∷ es))

  -- what a point marks, where there is one
  abbrev pub mark_of : List w.Point → Mark
  mark_of [] = no_mark
  mark_of (p ∷ ps) = w.mark p

  -- what was marked on the last setting since power-up or soft reset
  unfoldable pub marked : List Event → Mark
  marked [] = no_mark
  marked (e ∷ es) = pick (starts_anew e) no_mark (pick (sets_at es e) (mark_of (point_at w es e)) (marked es))
