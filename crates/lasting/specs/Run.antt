-- Q-5: "at each sample for .. of clock since the first such sample", of what a detector saw since the last restart or expiry. The latest stands
-- first.
use Rattle.std.specs.Prelude.{ℕ, Bool, true, false, List, [], ◌∷◌, leb}
use Rattle.laws.specs.Choice.{pick, both}
use Rattle.lookback.specs.Sight.{Sight, point, passed, clock_in}

module _ {P : Type 0} where
  abbrev pub has_point : List (Sight P) → Bool
  has_point [] = false
  has_point (point p ∷ ss) = true
  has_point (passed us ∷ ss) = has_point ss

  -- what was seen since the first point
  abbrev pub since_first : List (Sight P) → List (Sight P)
  since_first [] = []
  since_first (point p ∷ ss) = point p ∷ since_first ss
  since_first (passed us ∷ ss) = pick (has_point ss) (passed us ∷ since_first ss) []

  -- whether the latest is a point that is so
  abbrev pub latest_is : (P → Bool) → List (Sight P) → Bool
  latest_is so [] = false
  latest_is so (point p ∷ ss) = so p
  latest_is so (passed us ∷ ss) = false

  module _ (is_met : P → Bool) where
    -- the run: what was seen since the last point at which the condition was not met
    abbrev pub run : List (Sight P) → List (Sight P)
    run [] = []
    run (point p ∷ ss) = pick (is_met p) (point p ∷ run ss) []
    run (passed us ∷ ss) = passed us ∷ run ss

    -- its time: "of clock since the first such sample"
    abbrev pub lasted : List (Sight P) → ℕ
    lasted ss = clock_in (since_first (run ss))

    -- the latest is a point at which the condition is met, as it was "at each sample for" a time. "Both set only at a sample"
    abbrev pub is_met_for : ℕ → List (Sight P) → Bool
    is_met_for time ss = both (latest_is is_met ss) (leb time (lasted ss))
