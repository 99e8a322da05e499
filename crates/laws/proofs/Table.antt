-- A table whose entries a rule makes: the rule at each place. A table of the code is compared with the rule's once, by computation.
-- Assumes nothing.
use mathlib.Core.Path.{◌≡◌, ◌∙◌}
use Prim.Native.Nat.{ℕ, zero, suc, ◌+◌, ◌<◌}
use native.Mathlib.Nat.{add-zero, zero-add, add-suc, suc-add, le_of_suc-le-suc, not-suc-le-zero}
use lib.ListN.{get_or}
use Rattle.laws.specs.Table.{up_from}

module _ {A : Type 0} (f : ℕ → A) (z : A) where
  from : (n i k : ℕ) → k < n → get_or (up_from f i n) k z ≡ f (i + k)
  from zero i k h = absurd (not-suc-le-zero h)
  from (suc n) i zero h = rw add-zero
  from (suc n) i (suc k) h = from n (suc i) k (le_of_suc-le-suc h) ∙ rw (suc-add, add-suc)

  pub entry : (n k : ℕ) → k < n → get_or (up_from f 0 n) k z ≡ f k
  entry n k h = from n 0 k h ∙ rw zero-add
