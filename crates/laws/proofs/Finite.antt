-- Two tables that are found alike by computation are alike at each place; a test that is computed for each member of a list
-- holds for any of them.
-- Assumes nothing.
use Prim.Native.Nat.{ℕ, ◌<◌}
use mathlib.Core.Bool.{Bool, true, false}
use mathlib.Core.Path.{◌≡◌, refl, sym, ap, ◌∙◌}
use mathlib.Core.List.{List, [], ◌∷◌}
use native.Mathlib.Omega.{arith}
use lib.Dec.{eqb}
use lib.ListN.{get_or}
use borrow.Author.Tests.{eqb-true}
use Rattle.laws.specs.Choice.{pick, both, either}
use Rattle.laws.specs.Lists.{is_in}
use Rattle.laws.specs.Table.{up_from}
use Rattle.laws.proofs.Table.{entry}

-- what holds of both sides of a choice holds of the choice
pub picked : {A : Type 0} (P : A → Type 0) (b : Bool) {x y : A} → P x → P y → P (pick b x y)
picked P true p q = p
picked P false p q = q

pub of-pick : {A B : Type 0} (f : A → B) (b : Bool) (x y : A) → f (pick b x y) ≡ pick b (f x) (f y)
of-pick f true x y = refl
of-pick f false x y = refl

pub alike : {A : Type 0} (f g : ℕ → A) (n : ℕ) → up_from f 0 n ≡ up_from g 0 n → (a : ℕ) → a < n → f a ≡ g a
alike {A} f g n e a h = sym (entry f (f 0) n a h) ∙ ap (λ (l : List A). get_or l a (f 0)) e ∙ entry g (f 0) n a h

-- both parts of a test
pub left : (b c : Bool) → both b c ≡ true → b ≡ true
left true c h = cc
left false c h = h

pub right : (b c : Bool) → both b c ≡ true → c ≡ true
right true c h = h
right false c h = cc

pub either-false : (b : Bool) → either b false ≡ b
either-false true = refl
either-false false = refl

-- what holds at each number of a list holds at any number that is in it
abbrev pub AtEach : (ℕ → Type 0) → List ℕ → Type 0
AtEach P [] = Unit {0}
AtEach P (b ∷ l) = P b × AtEach P l

pub at-any : (P : ℕ → Type 0) (l : List ℕ) → AtEach P l → (a : ℕ) → is_in l a ≡ true → P a
at-any P [] ps a h = let z : ◌≡◌ {A = ℕ} 0 1 = cc in absurd (omega arith)
at-any P (b ∷ l) ps a h = go (at-any P l ps.1 a) (eqb a b) refl
  where
    go : (is_in l a ≡ true → P a) → (t : Bool) → eqb a b ≡ t → P a
    go later true f = rw (eqb-true a b f) ps.0
    go later false f = later (rw f at h)

-- the same of a test that is computed at each
abbrev pub all : (ℕ → Bool) → List ℕ → Bool
all p [] = true
all p (b ∷ l) = both (p b) (all p l)

at_each : (p : ℕ → Bool) (l : List ℕ) → all p l ≡ true → AtEach (λ k. p k ≡ true) l
at_each p [] e = tt
at_each p (b ∷ l) e = (left (p b) (all p l) e, at_each p l (right (p b) (all p l) e))

pub each : (p : ℕ → Bool) (l : List ℕ) → all p l ≡ true → (a : ℕ) → is_in l a ≡ true → p a ≡ true
each p l e = at-any (λ k. p k ≡ true) l (at_each p l e)

-- two tests that agree at one number agree wherever that number is tested for too
pub agree_at : (f g : ℕ → Bool) (k : ℕ) → f k ≡ g k → (a : ℕ) → both (eqb a k) (f a) ≡ both (eqb a k) (g a)
agree_at f g k e a = go (eqb a k) refl
  where
    go : (t : Bool) → eqb a k ≡ t → both t (f a) ≡ both t (g a)
    go true h = rw (eqb-true a k h) e
    go false h = refl
