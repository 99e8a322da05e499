-- "A write changes masked bits only; other bits keep their reset value", bit by bit.
-- Assumes nothing.
use Prim.Native.Nat.{ℕ, zero, suc, ◌/◌, ◌%◌, ◌^◌, ◌<◌, min, max}
use mathlib.Core.Bool.{Bool, true, false, not}
use mathlib.Core.List.{[], ◌∷◌}
use mathlib.Core.Path.{◌≡◌, refl, sym, ap, ◌∙◌}
use native.Mathlib.Omega.{arith}
use lib.Dec.{eqb}
use lib.Bits.{bit_and, bit_or, bit_xor, differ, and_step, or_step, xor_step, and_shr, or_shr, xor_shr, and_le_r}
use Rattle.laws.specs.Choice.{pick, both, either}
use Rattle.laws.specs.Bits.{bit}
use Rattle.laws.proofs.Finite.{alike}
use Rattle.table.specs.Rows.{merged}
use Rattle.table.specs.declared.Row.{Row}
use Rattle.paper.specs.Refused.{one_in}

-- what holds of 0 and 1 holds of two numbers' last digits
digits : (P : ℕ → ℕ → Type 0) → P 0 0 → P 0 1 → P 1 0 → P 1 1 → (x y : ℕ) → P (x % 2) (y % 2)
digits P p q r s x y = go (x % 2) (y % 2) (omega arith) (omega arith)
  where
    go : (a b : ℕ) → a < 2 → b < 2 → P a b
    go zero zero h g = p
    go zero (suc zero) h g = q
    go (suc zero) zero h g = r
    go (suc zero) (suc zero) h g = s
    go zero (suc (suc b)) h g = absurd (omega arith)
    go (suc zero) (suc (suc b)) h g = absurd (omega arith)
    go (suc (suc a)) b h g = absurd (omega arith)

module _ (k a b : ℕ) where
  pub bit-and : bit k (bit_and a b) ≡ both (bit k a) (bit k b)
  unfolding bit
  bit-and =
      let x = a / 2 ^ k in
      let y = b / 2 ^ k in
      let e : bit_and x y % 2 ≡ min (x % 2) (y % 2) = omega (arith, and_step x y) in
      rw (and_shr a b k, e) (digits (λ (i j : ℕ). eqb (min i j) 1 ≡ both (eqb i 1) (eqb j 1)) refl refl refl refl x y)

  pub bit-or : bit k (bit_or a b) ≡ either (bit k a) (bit k b)
  unfolding bit
  bit-or =
      let x = a / 2 ^ k in
      let y = b / 2 ^ k in
      let e : bit_or x y % 2 ≡ max (x % 2) (y % 2) = omega (arith, or_step x y) in
      rw (or_shr a b k, e) (digits (λ (i j : ℕ). eqb (max i j) 1 ≡ either (eqb i 1) (eqb j 1)) refl refl refl refl x y)

  pub bit-xor : bit k (bit_xor a b) ≡ pick (bit k a) (not (bit k b)) (bit k b)
  unfolding bit
  bit-xor =
      let x = a / 2 ^ k in
      let y = b / 2 ^ k in
      let l : differ (x % 2) (y % 2) < 2 = digits (λ (i j : ℕ). differ i j < 2) (omega arith) (omega arith) (omega arith) (omega arith) x y in
      let e : bit_xor x y % 2 ≡ differ (x % 2) (y % 2) = omega (arith, xor_step x y) in
      rw (xor_shr a b k, e) (digits (λ (i j : ℕ). eqb (differ i j) 1 ≡ pick (eqb i 1) (not (eqb j 1)) (eqb j 1)) refl refl refl refl x y)

chosen : (m b r : Bool) → either (both b m) (both r (pick m (not true) true)) ≡ pick m b r
chosen true true true = refl
chosen true true false = refl
chosen true false true = refl
chosen true false false = refl
chosen false true true = refl
chosen false true false = refl
chosen false false true = refl
chosen false false false = refl

-- a bit of a byte that is written: in the mask it is the byte's, else the reset byte's
pub bit-merged : (row : Row) (byte k : ℕ) → k < 8 → bit k (merged row byte) ≡ pick (bit k row.1) (bit k byte) (bit k row.0)
bit-merged row byte k h =
    let ones : bit k 0xFF ≡ true = alike (λ i. bit i 0xFF) (λ i. true) 8 (unfold bit in refl) k h in
    simp (bit-or, bit-and, bit-xor, ones) (chosen (bit k row.1) (bit k byte) (bit k row.0))

-- where a byte has no bit in common with r, a bit of r is not set
pub bit-clear : (k : ℕ) → k < 8 → (v r : ℕ) → bit_and v r ≡ 0 → bit k r ≡ true → bit k v ≡ false
bit-clear k h v r e m = go (bit k v) (sym (bit-and k v r) ∙ ap (λ (n : ℕ). bit k n) e ∙ alike (λ i. bit i 0) (λ i. false) 8 (unfold bit in refl) k h)
  where
    go : (t : Bool) → both t (bit k r) ≡ false → t ≡ false
    go true f = cc
    go false f = refl

-- ---- whether two numbers have a 1 at the same of the eight places
abbrev pub share_one : ℕ → ℕ → Bool
share_one m b =
    either (both (bit 7 m) (bit 7 b)) (either (both (bit 6 m) (bit 6 b)) (either (both (bit 5 m) (bit 5 b)) (either (both (bit 4 m) (bit 4 b))
    (either (both (bit 3 m) (bit 3 b)) (either (both (bit 2 m) (bit 2 b)) (either (both (bit 1 m) (bit 1 b)) (either (both (bit 0 m) (bit 0 b)) false)))))))

some_one : (v : ℕ) → v < 256 → not (eqb v 0) ≡ one_in (7 ∷ 6 ∷ 5 ∷ 4 ∷ 3 ∷ 2 ∷ 1 ∷ 0 ∷ []) v
unfolding bit
some_one = alike (λ v. not (eqb v 0)) (one_in (7 ∷ 6 ∷ 5 ∷ 4 ∷ 3 ∷ 2 ∷ 1 ∷ 0 ∷ [])) 256 refl

both-swapped : (s t : Bool) → both s t ≡ both t s
both-swapped true true = refl
both-swapped true false = refl
both-swapped false true = refl
both-swapped false false = refl

pub share-one : (m b : ℕ) → m < 256 → not (eqb (bit_and b m) 0) ≡ share_one m b
share-one m b h =
    let at : (k : ℕ) → bit k (bit_and b m) ≡ both (bit k m) (bit k b) = λ k. bit-and k b m ∙ both-swapped (bit k b) (bit k m) in
    some_one (bit_and b m) (omega (arith, and_le_r b m)) ∙ rw (at 7, at 6, at 5, at 4, at 3, at 2, at 1, at 0)
