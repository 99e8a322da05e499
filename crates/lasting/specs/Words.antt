-- Q-5, in the request's words: "at each sample for .. of clock since the first such sample". Apart from the run that is_met_for counts.
use Rattle.std.specs.Prelude.{ℕ, ◌≤◌, Bool, true, false, List, [], ◌∷◌, ◌++◌, ◌≡◌}
use Rattle.events.specs.Event.{Event}
use Rattle.lookback.specs.InForce.{is_non_latched}
use Rattle.lookback.specs.Sight.{Sight, point, passed, clock_in}
use Rattle.lookback.specs.Seen.{seen}
use Rattle.lasting.specs.Lasting.{Lasting, delay_asked, watch}

module _ {P : Type 0} where
  -- every point among these sights is so, and none is
  abbrev pub AllAre : (P → Bool) → List (Sight P) → Type 0
  AllAre so [] = Unit {0}
  AllAre so (point p ∷ ss) = (so p ≡ true) × AllAre so ss
  AllAre so (passed us ∷ ss) = AllAre so ss

  abbrev pub NoneIs : (P → Bool) → List (Sight P) → Type 0
  NoneIs so [] = Unit {0}
  NoneIs so (point p ∷ ss) = (so p ≡ false) × NoneIs so ss
  NoneIs so (passed us ∷ ss) = NoneIs so ss

  -- a first sample and the latest one, at both of which the condition is met, as it is at each sample between them; and the clock between them
  -- has reached the time
  pub record MetThrough (is_met : P → Bool) (time : ℕ) (ss : List (Sight P)) : Type 0 where
    pub latest : P
    pub between : List (Sight P)
    pub first : P
    pub earlier : List (Sight P)
    pub split : ss ≡ point latest ∷ (between ++ (point first ∷ earlier))
    pub at-latest : is_met latest ≡ true
    pub at_first : is_met first ≡ true
    pub at_each : AllAre is_met between
    pub reached : time ≤ clock_in between

  -- it was met so and, non-latched, no later sample cleared the status
  pub record CameMet (is_met is_far : P → Bool) (time : ℕ) (non_latched : Bool) (ss : List (Sight P)) : Type 0 where
    pub later : List (Sight P)
    pub met : List (Sight P)
    pub split : ss ≡ later ++ met
    pub through : MetThrough is_met time met
    pub since : non_latched ≡ true → NoneIs is_far later

-- since the last restart or expiry
abbrev pub Came : Lasting → List Event → Type 0
Came l es = CameMet l.is_met l.is_far (delay_asked l es) (is_non_latched es) (seen (watch l) es)
