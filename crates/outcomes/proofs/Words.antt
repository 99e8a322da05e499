-- Tests that compute, and what they mean in words.
-- Assumes nothing.
use Prim.Native.Nat.{ℕ, ◌<◌}
use mathlib.Core.Bool.{Bool, true, false, not}
use mathlib.Core.Logic.{◌↔◌, ◌⊎◌, inl, inr, ⊎_elim}
use mathlib.Core.Path.{◌≡◌, refl, sym, ◌∙◌}
use native.Mathlib.Omega.{arith}
use borrow.Author.Tests.{ltb-true, lt-ltb, eqb-true, eq-eqb}
use lib.Dec.{eqb, ltb}
use lib.IntN.{ℤ}
use Rattle.laws.specs.Choice.{pick, both, either}
use Rattle.laws.proofs.Refusals.{ways}
use Rattle.channels.specs.Codes.{in_range}
use Rattle.paper.specs.Samples.{is_inside, all_inside}
use Rattle.paper.proofs.Samples.{inside_is}

pub no : {X : Type 0} → false ≡ true → X
no e = let z : ◌≡◌ {A = ℕ} 0 1 = cc in absurd (omega arith)

-- ---- a test that is true exactly when P holds
abbrev pub Means : Bool → Type 0 → Type 0
Means b P = (b ≡ true) ↔ P

pub when : {n m : ℕ} {b : Bool} {P : Type 0} → eqb n m ≡ b → Means b P → (m ≡ n) ↔ P
when e w = let u = ways e in (λ p. w.0 (u.0 p), λ p. u.1 (w.1 p))

-- b is the same test as c
pub same_test : {b c : Bool} → b ≡ c → Means b (c ≡ true)
same_test e = (λ p. sym e ∙ p, λ p. e ∙ p)

pub isnt : {b : Bool} {P : Type 0} → Means b P → Means (not b) (¬ P)
isnt {b = true} w = (no, λ h. absurd (h (w.0 refl)))
isnt {b = false} w = (λ e p. no (w.1 p), λ h. refl)

pub never : Means false ⊥
never = (no, absurd)

pub always : Means true (Unit {0})
always = (λ e. tt, λ h. refl)

-- a test that says no, before others
pub passed : {b c : Bool} {P : Type 0} → b ≡ false → Means c P → Means (both (not b) c) P
passed e w = rw e w

pub skipped : {b c : Bool} {P : Type 0} → b ≡ false → Means c P → Means (either b c) P
skipped e w = rw e w

-- another test of the same outcome
pub likewise : {b c : Bool} {P : Type 0} → b ≡ c → Means c P → Means b P
likewise e w = rw e w

pub twice : {b : Bool} {P : Type 0} → Means b P → Means (not (not b)) P
twice {b = true} w = w
twice {b = false} w = w

-- the tests behind it do not matter
pub alone : {b : Bool} {P : Type 0} → Means b P → (c : Bool) → Means (either b (both c false)) P
alone {b = true} w c = w
alone {b = false} w true = w
alone {b = false} w false = w

-- no test is left
pub only : {b : Bool} {P : Type 0} → Means b P → Means (either b false) P
only {b = true} w = w
only {b = false} w = w

pub last : {b : Bool} {P : Type 0} → Means b P → Means (both b true) P
last {b = true} w = w
last {b = false} w = w

pub less : (a b : ℕ) → Means (ltb a b) (a < b)
less a b = (ltb-true a b, lt-ltb a b)

pub equal : (a b : ℕ) → Means (eqb a b) (a ≡ b)
equal a b = (eqb-true a b, eq-eqb a b)

pub and : {b c : Bool} {P Q : Type 0} → Means b P → (P → Means c Q) → Means (both b c) (P × Q)
and {b = true} w v = (λ e. (w.0 refl, (v (w.0 refl)).0 e), λ h. (v h.0).1 h.1)
and {b = false} w v = (no, λ h. w.1 h.0)

-- the second test matters only where the first says no
pub otherwise : {b c : Bool} {P Q : Type 0} → Means b P → (¬ P → Means c Q) → Means (either b c) (P ⊎ Q)
otherwise {b = true} p q = (λ e. inl (p.0 refl), λ h. refl)
otherwise {b = false} p q = let v = q (λ x. no (p.1 x)) in (λ e. inr (v.0 e), ⊎_elim (λ x. no (p.1 x)) v.1)

pub or : {b c : Bool} {P Q : Type 0} → Means b P → Means c Q → Means (either b c) (P ⊎ Q)
or p q = otherwise p (λ _. q)

-- a last row of another number than 0, which has the number n where e says so
pub last_row : (e t : Bool) → pick e t (both (not t) false) ≡ both e t
last_row true t = refl
last_row false true = refl
last_row false false = refl

-- ---- 4
pub is_false : (t : Bool) → Means (not t) (t ≡ false)
is_false true = (λ e. sym e, λ e. no (sym e))
is_false false = (λ e. refl, λ e. refl)

pub some-outside : (x y z : ℤ) → either (not (in_range x)) (either (not (in_range y)) (not (in_range z))) ≡ not (all_inside x y z)
some-outside x y z = rw (inside_is x, inside_is y, inside_is z) (go (is_inside x) (is_inside y) (is_inside z))
  where
    go : (p q r : Bool) → either (not p) (either (not q) (not r)) ≡ not (both p (both q r))
    go true true r = refl
    go true false r = refl
    go false q r = refl
