-- What numbers mean, as a list of numbers and their meanings.
use Rattle.std.specs.Prelude.{ℕ, List, [], ◌∷◌, eqb}
use Rattle.laws.specs.Choice.{pick}

-- a number, and what it means
pub record Key (A : Type 0) : Type 0 where
  pub code : ℕ
  pub meaning : A

infix 90 ◌means◌
abbrev pub ◌means◌ : {A : Type 0} → ℕ → A → Key A
n means x = record { code = n; meaning = x }

-- what the number n means by the list; other where it has no n
abbrev pub meaning_of : {A : Type 0} → List (Key A) → A → ℕ → A
meaning_of [] other n = other
meaning_of (k ∷ ks) other n = pick (eqb n k.code) k.meaning (meaning_of ks other n)
