-- The status of any detector with an alarm in one sentence: since the last restart or expiry a point set it and, non-latched, no point after
-- it cleared it.
use Rattle.std.specs.Prelude.{true, false, List, [], ◌∷◌, ◌++◌, ◌≡◌}
use Rattle.events.specs.Event.{Event}
use Rattle.lookback.specs.Sight.{point, passed}
use Rattle.lookback.specs.Watch.{Watch, Sights, Going, going_by}
use Rattle.lookback.specs.Seen.{seen}

module _ (w : Watch) (g : Going w.Setting) where
  -- none of the later points, which come behind these sights, clears it
  abbrev pub NoneClears : Sights w → Sights w → Type 0
  NoneClears ss [] = Unit {0}
  NoneClears ss (point p ∷ later) = (w.clears g.own (point p ∷ (later ++ ss)) ≡ false) × NoneClears ss later
  NoneClears ss (passed us ∷ later) = NoneClears ss later

  pub record CameSet (ss : Sights w) : Type 0 where
    pub later : Sights w
    pub setter : w.Point
    pub earlier : Sights w
    pub split : ss ≡ later ++ (point setter ∷ earlier)
    pub sets : w.sets g.own (point setter ∷ earlier) ≡ true
    pub since : g.non_latched ≡ true → NoneClears (point setter ∷ earlier) later

abbrev pub Came : (w : Watch) → List Event → Type 0
Came w es = CameSet w (going_by w es) (seen w es)
