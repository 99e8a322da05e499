-- A number, digit by digit: what was read of it, and what is left.
-- Assumes nothing.
use Prim.Native.Nat.{ℕ, ◌+◌, ◌-◌, ◌*◌, ◌≤◌, ◌<◌}
use mathlib.Core.Bool.{Bool, true, false}
use mathlib.Core.List.{List, [], ◌∷◌}
use mathlib.Core.Path.{◌≡◌, refl, sym, ap}
use native.Mathlib.Omega.{arith}
use borrow.Author.Tests.{ltb-true, ltb-false, lt-ltb, le-ltb, eq-eqb, eqb-true, ne_eqb}
use lib.Dec.{eqb, ltb}
use lib.ListN.{length}
use Rattle.std.specs.Prelude.{Option, Some, None}
use Rattle.laws.specs.Choice.{pick, both}
use Rattle.text.specs.Text.{value_on}
use Rattle.arguments.specs.Words.{is_digit, are_digits, limit, number_of, with_digit, same_word}

-- the number of digits that are left, behind the digits of n
abbrev pub number_left : ℕ → List ℕ → Option ℕ
number_left n cs = pick (both (are_digits cs) (ltb (value_on n cs) limit)) (Some (value_on n cs)) None

pub number-whole : (w : List ℕ) → (length w ≡ 0 → ⊥) → number_of w ≡ number_left 0 w
unfolding number_of
number-whole w h = rw (ne_eqb (length w) 0 h)

pub number-done : (n : ℕ) → n < limit → number_left n [] ≡ Some n
number-done n h = rw (lt-ltb n limit h)

-- digits make a number no smaller
value-above : (cs : List ℕ) (n : ℕ) → n ≤ value_on n cs
value-above [] n = omega arith
value-above (c ∷ cs) n = omega (arith, value-above cs (n * 10 + (c - 48)))

both_false : (b : Bool) → both b false ≡ false
both_false true = refl
both_false false = refl

module _ (n c : ℕ) (cs : List ℕ) where
  abbrev more : ℕ
  more = n * 10 + (c - 48)

  -- one digit more
  pub digit-more : {m : ℕ} → with_digit n c ≡ Some m → (number_left n (c ∷ cs) ≡ number_left m cs) × (m < limit)
  unfolding with_digit
  digit-more {m} = go (is_digit c) (ltb more limit) refl
    where
      go : (d b : Bool) → ltb more limit ≡ b → pick (both d b) (Some more) None ≡ Some m
          → (pick (both (both d (are_digits cs)) (ltb (value_on more cs) limit)) (Some (value_on more cs)) None ≡ number_left m cs) × (m < limit)
      go true true e q = let s : more ≡ m = cc in (ap (λ (k : ℕ). number_left k cs) s, omega (arith, ltb-true more limit e, s))
      go true false e q = let z : ◌≡◌ {A = ℕ} 0 1 = cc in absurd (omega arith)
      go false b e q = let z : ◌≡◌ {A = ℕ} 0 1 = cc in absurd (omega arith)

  -- or none
  pub digit-none : with_digit n c ≡ None → number_left n (c ∷ cs) ≡ None
  unfolding with_digit
  digit-none = go (is_digit c) (ltb more limit) refl
    where
      go : (d b : Bool) → ltb more limit ≡ b → pick (both d b) (Some more) None ≡ None → pick (both (both d (are_digits cs)) (ltb (value_on more cs) limit)) (Some (value_on more cs)) None ≡ None
      go true true e q = let z : ◌≡◌ {A = ℕ} 0 1 = cc in absurd (omega arith)
      go true false e q = rw (le-ltb (value_on more cs) limit (omega (arith, ltb-false more limit e, value-above cs more)), both_false (are_digits cs))
      go false b e q = refl

-- ---- the same word
pub same_word_lem : (v w : List ℕ) → same_word v w ≡ true → v ≡ w
unfolding same_word
same_word_lem [] [] e = refl
same_word_lem [] (b ∷ w) e = let z : ◌≡◌ {A = ℕ} 0 1 = cc in absurd (omega arith)
same_word_lem (a ∷ v) [] e = let z : ◌≡◌ {A = ℕ} 0 1 = cc in absurd (omega arith)
same_word_lem (a ∷ v) (b ∷ w) e = go (eqb a b) refl (same_word_lem v w) e
  where
    go : (t : Bool) → eqb a b ≡ t → (same_word v w ≡ true → v ≡ w) → both t (same_word v w) ≡ true → a ∷ v ≡ b ∷ w
    go true e later q = rw (eqb-true a b e, later q)
    go false e later q = let z : ◌≡◌ {A = ℕ} 0 1 = cc in absurd (omega arith)

word_same : (w : List ℕ) → same_word w w ≡ true
unfolding same_word
word_same [] = refl
word_same (a ∷ w) = rw (eq-eqb a a refl) (word_same w)

-- a test that holds exactly where the words are equal
pub is_same : (v w : List ℕ) (r : Bool) → (r ≡ true → v ≡ w) → (v ≡ w → r ≡ true) → r ≡ same_word v w
is_same v w true f g = sym (rw (f refl) (word_same w))
is_same v w false f g = go (same_word v w) refl
  where
    go : (t : Bool) → same_word v w ≡ t → false ≡ t
    go true e = g (same_word_lem v w e)
    go false e = refl
