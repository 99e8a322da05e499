-- A number in a list.
use Rattle.std.specs.Prelude.{ℕ, Bool, false, List, [], ◌∷◌, eqb}
use Rattle.laws.specs.Choice.{either}

-- whether the number n is in the list
abbrev pub is_in : List ℕ → ℕ → Bool
is_in [] n = false
is_in (m ∷ ms) n = either (eqb n m) (is_in ms n)
