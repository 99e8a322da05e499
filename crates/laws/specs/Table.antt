-- A table that a rule makes: f at each number from i, n of them.
use Rattle.std.specs.Prelude.{ℕ, zero, suc, List, [], ◌∷◌}

abbrev pub up_from : {A : Type 0} → (ℕ → A) → ℕ → ℕ → List A
up_from f i zero = []
up_from f i (suc n) = f i ∷ up_from f (suc i) n
