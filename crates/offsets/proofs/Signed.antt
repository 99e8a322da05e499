-- What the sizes of an offset and of a sum leave: nothing wraps, and what is held lies inside.
-- Assumes nothing.
use Prim.Native.Nat.{ℕ, ◌<◌, ◌≤◌}
use mathlib.Core.Bool.{Bool, true, false}
use mathlib.Core.Path.{◌≡◌, refl}
use native.Mathlib.Omega.{arith}
use native.Mathlib.Nat.{mul-le-mul}
use borrow.Author.Tests.{lt-ltb, ltb-true, ltb-false}
use lib.Dec.{ltb}
use lib.IntN.{ℤ, pos, negsuc, nat_abs, ◌+ℤ◌, ◌-ℤ◌, ◌*ℤ◌}
use lib.Signed.{lt_z, mag, nat_abs-le}
use mir.Syntax.{w16, w32}
use mir.Val.{SFits, to_z, of_z}
use Rattle.laws.specs.Choice.{pick}
use Rattle.laws.proofs.Ints.{sum-size, product-size, small-fits, same-in-16-bits}
use Rattle.offsets.specs.Offsets.{signed_byte, held_inside}

-- ---- the steps of a byte lie between -128 and 127
less-256 : (byte : ℕ) → byte < 256 → ltb byte 128 ≡ false → nat_abs (pos byte -ℤ pos 256) ≤ 128
less-256 byte h low = let l = ltb-false byte 128 low in rw (lt-ltb byte 256 h) (omega arith)

pub signed-size : (byte : ℕ) → byte < 256 → nat_abs (signed_byte byte) ≤ 128
unfolding signed_byte
signed-size byte h = go (ltb byte 128) refl
  where
    go : (t : Bool) → ltb byte 128 ≡ t → nat_abs (pick t (pos byte) (pos byte -ℤ pos 256)) ≤ 128
    go true e = let l = ltb-true byte 128 e in omega arith
    go false e = less-256 byte h e

pub signed-fits : (byte : ℕ) → byte < 256 → ltb byte 128 ≡ false → SFits w16 (pos byte -ℤ pos 256)
signed-fits byte h e = small-fits (pos byte -ℤ pos 256) (let l = less-256 byte h e in omega arith)

pub steps-fit : (byte : ℕ) → byte < 256 → SFits w16 (signed_byte byte)
steps-fit byte h = small-fits (signed_byte byte) (let l = signed-size byte h in omega arith)

-- ---- an offset in counts, and a sample with it
module _ (step byte : ℕ) (hs : step < 256) (hb : byte < 256) where
  counts-size : nat_abs (pos step *ℤ signed_byte byte) ≤ 32640
  counts-size = rw (product-size step (signed_byte byte)) (let l : step ≤ 255 = omega arith in mul-le-mul l (signed-size byte hb))

  pub counts-fit : SFits w32 (pos step *ℤ signed_byte byte)
  counts-fit = small-fits _ (let l = counts-size in omega arith)

  pub sum_fits : {given : ℤ} → SFits w16 given → SFits w32 (given +ℤ pos step *ℤ signed_byte byte)
  sum_fits {given} h =
      let g : nat_abs given ≤ 32768 = nat_abs-le given h.sfits in
      small-fits _ (let s = sum-size given (pos step *ℤ signed_byte byte) in let l = counts-size in omega arith)

-- ---- what is neither below -2048 nor above 2047 has 16 bits
pub inside-mag : (z : ℤ) → lt_z z (negsuc 2047) ≡ false → lt_z (pos 2047) z ≡ false → mag z < 2048
inside-mag (pos n) p q = let h = ltb-false 2047 n q in omega arith
inside-mag (negsuc n) p q = let h = ltb-false 2047 n p in omega arith

pub inside-fits : (z : ℤ) → lt_z z (negsuc 2047) ≡ false → lt_z (pos 2047) z ≡ false → SFits w16 z
inside-fits z p q = record { sfits = let h = inside-mag z p q in omega arith }

-- and what is held lies there
pub held-mag : (v : ℤ) → mag (held_inside v) < 2048
unfolding held_inside
held-mag v = go (lt_z v (negsuc 2047)) refl (lt_z (pos 2047) v) refl
  where
    go : (t : Bool) → lt_z v (negsuc 2047) ≡ t → (s : Bool) → lt_z (pos 2047) v ≡ s → mag (pick t (negsuc 2047) (pick s (pos 2047) v)) < 2048
    go true e s f = omega arith
    go false e true f = omega arith
    go false e false f = inside-mag v e f

pub held_same : (v : ℤ) → to_z w16 (of_z w16 (held_inside v)) ≡ held_inside v
held_same v = same-in-16-bits (held_inside v) (let h = held-mag v in omega arith)
