-- 01, "Numbers given back": a refusal is a row of a table, and the tests of an event are rows in an order.
use Rattle.std.specs.Prelude.{ℕ, Bool, not, List, [], ◌∷◌, eqb}
use Rattle.laws.specs.Choice.{pick, both, either}

-- an answer, and whether it is called for
pub record AnswerRow (A : Type 0) : Type 0 where
  pub answer : A
  pub holds : Bool

abbrev pub row : {A : Type 0} → A → Bool → AnswerRow A
row x t = record { answer = x; holds = t }

-- the answer of the first row that is called for; done where none is
abbrev pub first : {A : Type 0} → A → List (AnswerRow A) → A
first done [] = done
first done (r ∷ rs) = pick r.holds r.answer (first done rs)

-- whether the row of number n is called for and no earlier one is; for 0, whether none is
abbrev pub due : {A : Type 0} → (A → ℕ) → List (AnswerRow A) → ℕ → Bool
due number [] n = eqb n 0
due number (r ∷ rs) n = pick (eqb n (number r.answer)) r.holds (both (not r.holds) (due number rs n))

-- among rows of which several may have one number: whether a row of number n is called for and no earlier row of another number
-- is; for 0, also where no row is called for
abbrev pub due_among : {A : Type 0} → (A → ℕ) → List (AnswerRow A) → ℕ → Bool
due_among number [] n = eqb n 0
due_among number (r ∷ rs) n = pick (eqb n (number r.answer)) (either r.holds (due_among number rs n)) (both (not r.holds) (due_among number rs n))
