-- What a detector sees of a history: points, and time that passes. The latest stands first.
use Rattle.std.specs.Prelude.{ℕ, ◌+◌, List, [], ◌∷◌}

pub data Sight (P : Type 0) : Type 0 where
  point : P → Sight P
  -- microseconds
  passed : ℕ → Sight P

-- the points alone
abbrev pub points_in : {P : Type 0} → List (Sight P) → List P
points_in [] = []
points_in (point p ∷ ss) = p ∷ points_in ss
points_in (passed us ∷ ss) = points_in ss

-- the clock that passed, in microseconds
abbrev pub clock_in : {P : Type 0} → List (Sight P) → ℕ
clock_in [] = 0
clock_in (point p ∷ ss) = clock_in ss
clock_in (passed us ∷ ss) = us + clock_in ss
