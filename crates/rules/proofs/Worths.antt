-- A byte that is what the statuses shown at it are worth has bit k exactly where the status shown there is 1, and 0 where none is.
-- Assumes nothing.
use Prim.Native.Nat.{ℕ, zero, suc, ◌+◌, ◌/◌, ◌%◌, ◌^◌}
use mathlib.Core.Bool.{Bool, true, false, not}
use mathlib.Core.Path.{◌≡◌, refl, sym, ap, ◌∙◌}
use mathlib.Core.List.{List, [], ◌∷◌}
use native.Mathlib.Omega.{arith}
use native.Mathlib.Nat.{zero-add, pow-succ', div-div-eq-div-mul}
use lib.Dec.{eqb, eqb-zero-suc, eqb-suc-zero, eqb-suc-suc}
use borrow.Author.Tests.{eqb-true, eqb-false, eq-eqb, not-true}
use Rattle.laws.specs.Choice.{pick, both, either}
use Rattle.laws.specs.Bits.{bit, worth}
use Rattle.laws.proofs.Finite.{left, right}
use Rattle.rules.specs.Rules.{Status, worths_at}

-- ---- a power of two more
first_bit : (v : ℕ) → bit 0 v ≡ eqb (v % 2) 1
unfolding bit
first_bit v = let e : v / 2 ^ 0 % 2 ≡ v % 2 = omega arith in rw e

next_bit : (k v : ℕ) → bit (suc k) v ≡ bit k (v / 2)
unfolding bit
next_bit k v = ap (λ n. eqb (n % 2) 1) (ap (λ n. v / n) (pow-succ' 2 k) ∙ sym (div-div-eq-div-mul v 2 (2 ^ k)))

no-bit : (k : ℕ) → bit k 0 ≡ false
no-bit zero = first_bit 0
no-bit (suc k) = next_bit k 0 ∙ no-bit k

-- it sets its own bit, where that is 0, and no other
added : (n k v : ℕ) → bit n v ≡ false → bit k (2 ^ n + v) ≡ either (eqb n k) (bit k v)
added zero zero v h =
    let z = eqb-false (v % 2) 1 (sym (first_bit v) ∙ h) in
    first_bit (2 ^ 0 + v) ∙ eq-eqb ((2 ^ 0 + v) % 2) 1 (omega (arith, z))
added zero (suc k) v h =
    let z = eqb-false (v % 2) 1 (sym (first_bit v) ∙ h) in
    let e : (2 ^ 0 + v) / 2 ≡ v / 2 = omega (arith, z) in
    rw (eqb-zero-suc k) (next_bit k (2 ^ 0 + v) ∙ ap (bit k) e ∙ sym (next_bit k v))
added (suc n) zero v h =
    let e : (2 ^ suc n + v) % 2 ≡ v % 2 = omega (arith, pow-succ' 2 n) in
    rw (eqb-suc-zero n) (first_bit (2 ^ suc n + v) ∙ ap (λ m. eqb m 1) e ∙ sym (first_bit v))
added (suc n) (suc k) v h =
    let e : (2 ^ suc n + v) / 2 ≡ 2 ^ n + v / 2 = omega (arith, pow-succ' 2 n) in
    rw (eqb-suc-suc n k) (next_bit k (2 ^ suc n + v) ∙ ap (bit k) e ∙ added n k (v / 2) (sym (next_bit n v) ∙ h) ∙ ap (either (eqb n k)) (sym (next_bit k v)))

-- ---- statuses
-- whether a status shows at bit k of address a
abbrev is_at : ℕ → ℕ → Status → Bool
is_at a k s = both (eqb s.shown.address a) (eqb s.shown.number k)

-- whether one among them does, and whether it is 1
abbrev is_shown : ℕ → ℕ → List Status → Bool
is_shown a k [] = false
is_shown a k (s ∷ ss) = either (is_at a k s) (is_shown a k ss)

abbrev pub holds_at : ℕ → ℕ → List Status → Bool
holds_at a k [] = false
holds_at a k (s ∷ ss) = pick (is_at a k s) s.holds (holds_at a k ss)

-- no two show at one place
abbrev pub are_apart : List Status → Bool
are_apart [] = true
are_apart (s ∷ ss) = both (not (is_shown s.shown.address s.shown.number ss)) (are_apart ss)

not-shown : (a k : ℕ) (ss : List Status) → is_shown a k ss ≡ false → holds_at a k ss ≡ false
not-shown a k [] n = refl
not-shown a k (s ∷ ss) n = go (not-shown a k ss) (is_at a k s) n
  where
    go : (is_shown a k ss ≡ false → holds_at a k ss ≡ false) → (t : Bool) → either t (is_shown a k ss) ≡ false → pick t s.holds (holds_at a k ss) ≡ false
    go later true n = cc
    go later false n = later n

-- one more
module _ (a : ℕ) (s : Status) (ss : List Status) (alone : is_shown s.shown.address s.shown.number ss ≡ false)
    (rest : (k : ℕ) → bit k (worths_at a ss) ≡ holds_at a k ss) where
  free : eqb s.shown.address a ≡ true → holds_at a s.shown.number ss ≡ false
  free e = not-shown a s.shown.number ss (rw (eqb-true s.shown.address a e) at alone)

  shown-here : eqb s.shown.address a ≡ true → (t : Bool) (k : ℕ) → bit k (worth (2 ^ s.shown.number) t + worths_at a ss) ≡ pick (eqb s.shown.number k) t (holds_at a k ss)
  shown-here e true k = added s.shown.number k (worths_at a ss) (rest s.shown.number ∙ free e) ∙ go (eqb s.shown.number k)
    where
      go : (i : Bool) → either i (bit k (worths_at a ss)) ≡ pick i true (holds_at a k ss)
      go true = refl
      go false = rest k
  shown-here e false k = rw zero-add (rest k ∙ go (eqb s.shown.number k) refl)
    where
      go : (i : Bool) → eqb s.shown.number k ≡ i → holds_at a k ss ≡ pick i false (holds_at a k ss)
      go true f = rw (← eqb-true s.shown.number k f) (free e)
      go false f = refl

  one_more : (k : ℕ) → bit k (worths_at a (s ∷ ss)) ≡ holds_at a k (s ∷ ss)
  unfolding worths_at
  one_more k = go (eqb s.shown.address a) refl
    where
      go : (i : Bool) → eqb s.shown.address a ≡ i
          → bit k (pick i (worth (2 ^ s.shown.number) s.holds + worths_at a ss) (worths_at a ss)) ≡ pick (both i (eqb s.shown.number k)) s.holds (holds_at a k ss)
      go true e = shown-here e s.holds k
      go false e = rest k

pub bit_is : (a : ℕ) (ss : List Status) → are_apart ss ≡ true → (k : ℕ) → bit k (worths_at a ss) ≡ holds_at a k ss
unfolding worths_at
bit_is a [] d k = no-bit k
bit_is a (s ∷ ss) d k =
    let alone = left (not (is_shown s.shown.address s.shown.number ss)) (are_apart ss) d in
    one_more a s ss (not-true (is_shown s.shown.address s.shown.number ss) alone) (bit_is a ss (right (not (is_shown s.shown.address s.shown.number ss)) (are_apart ss) d)) k
