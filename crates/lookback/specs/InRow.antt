-- 01, "Interrupts and pins", of the points that a detector saw, the latest first: so many in a row.
use Rattle.std.specs.Prelude.{ℕ, zero, suc, Bool, true, false, not, List, [], ◌∷◌, ◌++◌, ◌≡◌, length}
use Rattle.laws.specs.Choice.{both}

module _ {P : Type 0} where
  -- whether all points are so
  abbrev pub every : (P → Bool) → List P → Bool
  every so [] = true
  every so (p ∷ ps) = both (so p) (every so ps)

  -- whether the last n points are all so
  abbrev pub last_are : (P → Bool) → ℕ → List P → Bool
  last_are so zero ps = true
  last_are so (suc n) [] = false
  last_are so (suc n) (p ∷ ps) = both (so p) (last_are so n ps)

  -- among the points there are n in a row that are all so, with these later and these earlier than they
  pub record InRow (so : P → Bool) (n : ℕ) (ps : List P) : Type 0 where
    pub later : List P
    pub row : List P
    pub earlier : List P
    pub split : ps ≡ later ++ (row ++ earlier)
    pub many : length row ≡ n
    pub all : every so row ≡ true

  module _ (is_over : P → Bool) (n : ℕ) (non_latched : Bool) where
    -- "A point is over when .., else calm"
    abbrev is_calm : P → Bool
    is_calm p = not (is_over p)

    -- N over points in a row came and, non-latched, no N calm points in a row after them
    pub record CameInRow (ps : List P) : Type 0 where
      pub came : InRow is_over n ps
      pub since : non_latched ≡ true → ¬ InRow is_calm n came.later

    -- the point that set a status which is set: "N over points in a row" end with it, the status was not set before it, and, non-latched, no N
    -- calm points in a row came after it
    pub record SetInRow (ps : List P) : Type 0 where
      pub later : List P
      pub point : P
      pub earlier : List P
      pub split : ps ≡ later ++ (point ∷ earlier)
      pub row : last_are is_over n (point ∷ earlier) ≡ true
      pub before : ¬ CameInRow earlier
      pub since : non_latched ≡ true → ¬ InRow is_calm n later
