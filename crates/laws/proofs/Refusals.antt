-- A refusal is given exactly when its row says, and nothing is that no row has.
-- Assumes nothing.
use mathlib.Core.Path.{◌≡◌, refl, sym, ap, ◌∙◌}
use mathlib.Core.Bool.{Bool, true, false, not}
use mathlib.Core.List.{List, [], ◌∷◌}
use Prim.Native.Nat.{ℕ}
use lib.Dec.{eqb}
use borrow.Author.Tests.{not-true, eqb-true, eq-eqb}
use Rattle.laws.specs.Choice.{pick, both, either}
use Rattle.laws.specs.Lists.{is_in}
use Rattle.laws.proofs.Finite.{left, right}
use Rattle.laws.specs.Refusals.{AnswerRow, first, due, due_among}

both_false : (b : Bool) → both b false ≡ false
both_false true = refl
both_false false = refl

picked : (b : Bool) → pick b true false ≡ b
picked true = refl
picked false = refl

same : (b c : Bool) → pick b c c ≡ c
same true c = refl
same false c = refl

module _ {A : Type 0} (number : A → ℕ) where
  -- the number m is neither 0 nor a row's
  abbrev fresh : ℕ → List (AnswerRow A) → Bool
  fresh m [] = not (eqb m 0)
  fresh m (r ∷ rs) = both (not (eqb m (number r.answer))) (fresh m rs)

  -- the numbers of the rows differ, and none is 0
  abbrev pub apart : List (AnswerRow A) → Bool
  apart [] = true
  apart (r ∷ rs) = both (fresh (number r.answer) rs) (apart rs)

  not-due : (rs : List (AnswerRow A)) (m : ℕ) → fresh m rs ≡ true → due number rs m ≡ false
  not-due [] m h = not-true (eqb m 0) h
  not-due (r ∷ rs) m h =
      let t = not (eqb m (number r.answer)) in
      simp (not-true (eqb m (number r.answer)) (left t (fresh m rs) h), not-due rs m (right t (fresh m rs) h), both_false)

  later : (e : Bool) (m n : ℕ) (rs : List (AnswerRow A)) → eqb n m ≡ e → fresh m rs ≡ true → due number rs n ≡ pick e false (due number rs n)
  later true m n rs e f = rw (eqb-true n m e) (not-due rs m f)
  later false m n rs e f = refl

  one : (b : Bool) (x done : A) (n : ℕ) (rs : List (AnswerRow A)) → fresh (number x) rs ≡ true → eqb n (number (first done rs)) ≡ due number rs n
      → eqb n (number (pick b x (first done rs))) ≡ pick (eqb n (number x)) b (both (not b) (due number rs n))
  one true x done n rs f h = sym (picked (eqb n (number x)))
  one false x done n rs f h = h ∙ later (eqb n (number x)) (number x) n rs refl f

  -- where the numbers of the rows are apart, n is given exactly when n is due
  pub exact : (done : A) → number done ≡ 0 → (rs : List (AnswerRow A)) (n : ℕ) → apart rs ≡ true → eqb n (number (first done rs)) ≡ due number rs n
  exact done z [] n h = ap (λ (k : ℕ). eqb n k) z
  exact done z (r ∷ rs) n h =
      let f = fresh (number r.answer) rs in
      one r.holds r.answer done n rs (left f (apart rs) h) (exact done z rs n (right f (apart rs) h))

  -- ---- rows of which several may have one number
  among : (t : Bool) (x rest : A) (n : ℕ) (d : Bool) → eqb n (number rest) ≡ d → eqb n (number (pick t x rest)) ≡ pick (eqb n (number x)) (either t d) (both (not t) d)
  among true x rest n d h = sym (picked (eqb n (number x)))
  among false x rest n d h = h ∙ sym (same (eqb n (number x)) d)

  pub exact-among : (done : A) → number done ≡ 0 → (rs : List (AnswerRow A)) (n : ℕ) → eqb n (number (first done rs)) ≡ due_among number rs n
  exact-among done z [] n = ap (λ (k : ℕ). eqb n k) z
  exact-among done z (r ∷ rs) n = among r.holds r.answer (first done rs) n (due_among number rs n) (exact-among done z rs n)

  -- ---- nothing else
  module _ (ms : List ℕ) (done : A) (done-in : is_in ms (number done) ≡ true) where
    -- the rows' numbers are in the list
    abbrev pub all_in : List (AnswerRow A) → Bool
    all_in [] = true
    all_in (r ∷ rs) = both (is_in ms (number r.answer)) (all_in rs)

    either-in : (t : Bool) (x rest : A) → is_in ms (number x) ≡ true → is_in ms (number rest) ≡ true → is_in ms (number (pick t x rest)) ≡ true
    either-in true x rest p q = p
    either-in false x rest p q = q

    -- the answer's number is in a list that has those of all rows
    pub first-in : (rs : List (AnswerRow A)) → all_in rs ≡ true → is_in ms (number (first done rs)) ≡ true
    first-in [] h = done-in
    first-in (r ∷ rs) h =
        let i = is_in ms (number r.answer) in
        either-in r.holds r.answer (first done rs) (left i (all_in rs) h) (first-in rs (right i (all_in rs) h))

-- as an equivalence
pub ways : {n m : ℕ} {b : Bool} → eqb n m ≡ b → (m ≡ n → b ≡ true) × (b ≡ true → m ≡ n)
ways {n} {m} e = (λ p. sym e ∙ eq-eqb n m (sym p), λ t. sym (eqb-true n m (e ∙ t)))
