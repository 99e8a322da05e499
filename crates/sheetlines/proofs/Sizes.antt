-- What 64 bits hold of a number of 16, and of how far a number of 64 is from 0.
-- Assumes nothing.
use Prim.Native.Nat.{ℕ, zero, suc, ◌+◌, ◌≤◌}
use mathlib.Core.Bool.{true, false}
use mathlib.Core.Path.{◌≡◌, ◌∙◌}
use native.Mathlib.Omega.{arith}
use borrow.Author.Tests.{ltb-true}
use lib.Dec.{T}
use lib.IntN.{ℤ, pos, negsuc, neg_ℤ, nat_abs, ◌+ℤ◌, ◌-ℤ◌, +ℤ_idl, +ℤ_one, neg_ℤ-neg_ℤ}
use lib.Signed.{mag, lt_z, non_neg}
use mir.Syntax.{w16, w64}
use mir.Val.{SFits, Fits, to_z, of_z}
use mir.Facts.{to_z-of_z, sfits_widen}

-- ---- a number of 16 bits, taken to 64
pub wide : {z : ℤ} → SFits w16 z → to_z w64 (of_z w64 (to_z w16 (of_z w16 z))) ≡ z
wide h = rw (to_z-of_z {w = w16} h) (to_z-of_z {w = w64} (sfits_widen {w = w16} {w' = w64} tt h))

-- ---- the size of a number of 64 bits: one nearer to 0 it can be turned, the least of all too
nearer : (k : ℕ) → negsuc k +ℤ pos 1 ≡ neg_ℤ (pos k)
nearer zero = +ℤ_one (negsuc 0)
nearer (suc k) = +ℤ_one (negsuc (suc k))

nearer-mag : (k : ℕ) → mag (neg_ℤ (pos k)) ≤ k
nearer-mag zero = omega arith
nearer-mag (suc k) = omega arith

pub nearer-fits : {z : ℤ} → SFits w64 z → lt_z z (pos 0) ≡ true → SFits w64 (z +ℤ pos 1)
nearer-fits {z = pos n} h e = let less = ltb-true n 0 e in absurd (omega arith)
nearer-fits {z = negsuc k} h e = rw (nearer k) (record { sfits = omega (arith, h.sfits, nearer-mag k) })

turned : (z : ℤ) → lt_z z (pos 0) ≡ true → pos 0 -ℤ (z +ℤ pos 1) ≡ pos (mag z)
turned (pos n) e = let less = ltb-true n 0 e in absurd (omega arith)
turned (negsuc k) e = rw (nearer k) (+ℤ_idl (neg_ℤ (neg_ℤ (pos k))) ∙ neg_ℤ-neg_ℤ (pos k))

module _ {z : ℤ} (h : SFits w64 z) (e : lt_z z (pos 0) ≡ true) where
  pub turned-fits : SFits w64 (pos 0 -ℤ (z +ℤ pos 1))
  turned-fits = rw (turned z e) (record { sfits = h.sfits })

  pub turned-is : to_z w64 (of_z w64 (pos 0 -ℤ to_z w64 (of_z w64 (to_z w64 (of_z w64 z) +ℤ pos 1)))) ≡ pos (mag z)
  turned-is = rw (to_z-of_z h, to_z-of_z (nearer-fits h e)) (to_z-of_z turned-fits ∙ turned z e)

pub one_further : (z : ℤ) → lt_z z (pos 0) ≡ true → mag z + 1 ≡ nat_abs z
one_further (pos n) e = let less = ltb-true n 0 e in absurd (omega arith)
one_further (negsuc k) e = omega arith

pub plain-cast : {z : ℤ} → SFits w64 z → lt_z z (pos 0) ≡ false → T (non_neg z) × Fits w64 (nat_abs z)
plain-cast {z = pos n} h e = (tt, record { fits = omega (arith, h.sfits) })
plain-cast {z = negsuc n} h e = let z : ◌≡◌ {A = ℕ} 0 1 = cc in absurd (omega arith)
