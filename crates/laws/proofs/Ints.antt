-- Signed differences, sums and products: their size, over any bound; and what two's complement of 32 bits holds of numbers of 16.
-- Assumes nothing.
use mathlib.Core.Path.{◌≡◌, refl}
use mathlib.Core.Bool.{Bool, true, false, cond}
use Prim.Native.Nat.{ℕ, zero, suc, ◌+◌, ◌-◌, ◌*◌, ◌^◌, ◌<◌, ◌≤◌}
use native.Mathlib.Omega.{arith}
use native.Mathlib.Nat.{lt_trans}
use borrow.Author.Tests.{ltb-true}
use lib.Dec.{T, ltb, lit<}
use lib.IntN.{ℤ, pos, negsuc, neg_ℤ, nat_abs, ◌+ℤ◌, ◌-ℤ◌, ◌*ℤ◌, +ℤ_idl}
use lib.Signed.{mag, lt_z, non_neg}
use mir.Syntax.{Width, w16, w32}
use mir.Val.{hbits, SFits, Fits, to_z, of_z}
use mir.Facts.{to_z-of_z, sfits_widen}

either-size : (t : Bool) (x y : ℤ) (m : ℕ) → nat_abs x < m → nat_abs y < m → nat_abs (cond t x y) < m
either-size true x y m p q = p
either-size false x y m p q = q

-- of two numbers from -m to m - 1 the difference lies between -(2m - 1) and 2m - 1
pub sub-size : (m : ℕ) (a b : ℤ) → mag a < m → mag b < m → nat_abs (a -ℤ b) < m + m
sub-size m (pos a) (pos zero) p q = omega arith
sub-size m (pos a) (pos (suc b)) p q = either-size (ltb a (suc b)) _ _ (m + m) (omega arith) (omega arith)
sub-size m (pos a) (negsuc b) p q = omega arith
sub-size m (negsuc a) (pos zero) p q = either-size (ltb 0 (suc a)) _ _ (m + m) (omega arith) (omega arith)
sub-size m (negsuc a) (pos (suc b)) p q = omega arith
sub-size m (negsuc a) (negsuc b) p q = either-size (ltb (suc b) (suc a)) _ _ (m + m) (omega arith) (omega arith)

-- a sum is no larger than its two numbers together
pub sum-size : (a b : ℤ) → nat_abs (a +ℤ b) ≤ nat_abs a + nat_abs b
sum-size (pos a) (pos b) = omega arith
sum-size (pos a) (negsuc b) = let h = either-size (ltb a (suc b)) (negsuc (suc b - suc a)) (pos (a - suc b)) (suc (a + suc b)) (omega arith) (omega arith) in omega (arith, h)
sum-size (negsuc a) (pos b) = let h = either-size (ltb b (suc a)) (negsuc (suc a - suc b)) (pos (b - suc a)) (suc (suc a + b)) (omega arith) (omega arith) in omega (arith, h)
sum-size (negsuc a) (negsuc b) = omega arith

neg-abs : (z : ℤ) → nat_abs (neg_ℤ z) ≡ nat_abs z
neg-abs (pos zero) = refl
neg-abs (pos (suc n)) = refl
neg-abs (negsuc n) = refl

pub neg-size : (z : ℤ) → nat_abs (pos 0 -ℤ z) ≡ nat_abs z
neg-size z = rw (+ℤ_idl (neg_ℤ z)) (neg-abs z)

-- a product with a number that is not negative
pub product-size : (k : ℕ) (z : ℤ) → nat_abs (pos k *ℤ z) ≡ k * nat_abs z
product-size k (pos n) = refl
product-size k (negsuc n) = neg-abs (pos (k * suc n))

-- what is small has so many bits
pub small-fits : {w : Width} (z : ℤ) → nat_abs z < 2 ^ hbits w → SFits w z
small-fits (pos n) h = record { sfits = h }
small-fits (negsuc n) h = record { sfits = lt_trans (omega arith) h }

neg-above : (z : ℤ) → lt_z z (pos 0) ≡ true → T (non_neg (neg_ℤ z))
neg-above (pos n) e = let h = ltb-true n 0 e in absurd (omega arith)
neg-above (negsuc n) e = tt

above : (z : ℤ) → lt_z z (pos 0) ≡ true → T (non_neg (pos 0 -ℤ z))
above z e = rw (+ℤ_idl (neg_ℤ z)) (neg-above z e)

not-below : (z : ℤ) → lt_z z (pos 0) ≡ false → T (non_neg z)
not-below (pos n) e = tt
not-below (negsuc n) e = let z : ◌≡◌ {A = ℕ} 0 1 = cc in absurd (omega arith)

-- a number of 16 bits that a field holds
pub same-in-16-bits : (z : ℤ) → mag z < 32768 → to_z w16 (of_z w16 z) ≡ z
same-in-16-bits z h = to_z-of_z {w = w16} (record { sfits = h })

-- a number of 16 bits, taken to 32
pub wide : {z : ℤ} → SFits w16 z → to_z w32 (of_z w32 (to_z w16 (of_z w16 z))) ≡ z
wide h = rw (to_z-of_z {w = w16} h) (to_z-of_z {w = w32} (sfits_widen {w = w16} {w' = w32} tt h))

-- the difference of two numbers of 16 bits, in 32, and what is left of it when it is turned
module _ {a b : ℤ} (ha : SFits w16 a) (hb : SFits w16 b) where
  near : nat_abs (a -ℤ b) < 65536
  near = sub-size 32768 a b ha.sfits hb.sfits

  pub diff-fits : SFits w32 (a -ℤ b)
  diff-fits = small-fits (a -ℤ b) (lt_trans near (lit< tt))

  pub turn-fits : SFits w32 (pos 0 -ℤ (a -ℤ b))
  turn-fits = small-fits (pos 0 -ℤ (a -ℤ b)) (rw neg-size (lt_trans near (lit< tt)))

  size_fits : Fits w32 (nat_abs (a -ℤ b))
  size_fits = record { fits = let h = near in omega arith }

  -- the cast to an unsigned number: of a negative difference that is turned, and of one that is not negative
  pub turned-cast : lt_z (a -ℤ b) (pos 0) ≡ true → T (non_neg (pos 0 -ℤ (a -ℤ b))) × Fits w32 (nat_abs (pos 0 -ℤ (a -ℤ b)))
  turned-cast e = (above (a -ℤ b) e, rw neg-size size_fits)

  pub diff-cast : lt_z (a -ℤ b) (pos 0) ≡ false → T (non_neg (a -ℤ b)) × Fits w32 (nat_abs (a -ℤ b))
  diff-cast e = (not-below (a -ℤ b) e, size_fits)

  pub diff : to_z w32 (of_z w32 (to_z w32 (of_z w32 (to_z w16 (of_z w16 a))) -ℤ to_z w32 (of_z w32 (to_z w16 (of_z w16 b))))) ≡ a -ℤ b
  diff = rw (wide ha, wide hb) (to_z-of_z diff-fits)

  pub turn : to_z w32 (of_z w32 (pos 0 -ℤ (a -ℤ b))) ≡ pos 0 -ℤ (a -ℤ b)
  turn = to_z-of_z turn-fits
