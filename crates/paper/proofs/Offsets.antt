-- What the device stores of a sample is what Q-7 says, and it lies inside, whatever is given.
-- Assumes nothing.
use Prim.Native.Nat.{ℕ, ◌%◌, ◌<◌}
use mathlib.Core.Bool.{Bool, true, false}
use mathlib.Core.List.{List}
use mathlib.Core.Path.{◌≡◌, refl}
use native.Mathlib.Omega.{arith}
use borrow.Author.Tests.{lt-ltb, le-ltb, leb-true, leb-false}
use lib.Dec.{leb, ltb}
use lib.IntN.{ℤ, pos, negsuc, ◌+ℤ◌, ◌*ℤ◌}
use lib.Signed.{lt_z}
use Rattle.laws.specs.Choice.{pick, both}
use Rattle.laws.specs.Bits.{bit}
use Rattle.laws.specs.Keys.{meaning_of}
use Rattle.laws.proofs.Finite.{alike, picked}
use Rattle.codes.specs.Range as range
use Rattle.codes.specs.Range.{range_of}
use Rattle.codes.specs.declared.Range.TheVariants.{Reserved}
use Rattle.offsets.specs.Offsets.{step_of, signed_byte, held_inside, stored_axis, stored_by}
use Rattle.events.specs.Event.{Event}
use Rattle.events.specs.Bank.{bank, stored}
use Rattle.events.specs.Run.{after}
use Rattle.events.proofs.Runs.{bank-is}
use Rattle.paper.specs.Ranges.{ranges}
use Rattle.paper.specs.Samples.{is_inside, signed, steps, step_in, held_at_limits, stored_behind}
use Rattle.paper.specs.Stored.{byte_by}
use Rattle.paper.proofs.Stored.{stored_is, byte_small}

signed_is : (byte : ℕ) → byte < 256 → signed_byte byte ≡ signed byte
unfolding signed_byte bit
signed_is = alike signed_byte signed 256 refl

step_is : (code : ℕ) → step_of (range_of code) ≡ step_in code
unfolding range_of
step_is code = alike (λ c. step_of (meaning_of range.ranges Reserved c)) (λ c. meaning_of steps 0 (meaning_of ranges 0 c)) 16 refl (code % 16) (omega arith)

-- ---- the limits
held-is : (v : ℤ) → held_inside v ≡ held_at_limits v
unfolding held_inside
held-is (pos n) = go (leb n 2047) refl
  where
    go : (t : Bool) → leb n 2047 ≡ t → pick (ltb 2047 n) (pos 2047) (pos n) ≡ pick t (pos n) (pick (ltb n 0) (negsuc 2047) (pos 2047))
    go true e = rw (le-ltb 2047 n (leb-true n 2047 e))
    go false e = rw (lt-ltb 2047 n (leb-false n 2047 e), le-ltb n 0 (omega arith))
held-is (negsuc n) = go (leb n 2047) refl
  where
    go : (t : Bool) → leb n 2047 ≡ t → pick (ltb 2047 n) (negsuc 2047) (negsuc n) ≡ pick (both t true) (negsuc n) (negsuc 2047)
    go true e = rw (le-ltb 2047 n (leb-true n 2047 e))
    go false e = rw (lt-ltb 2047 n (leb-false n 2047 e))

inside : (v : ℤ) → is_inside (held_at_limits v) ≡ true
inside v = go (is_inside v) refl
  where
    go : (t : Bool) → is_inside v ≡ t → is_inside (pick t v (pick (lt_z v (pos 0)) (negsuc 2047) (pos 2047))) ≡ true
    go true e = e
    go false e = picked (λ (w : ℤ). is_inside w ≡ true) (lt_z v (pos 0)) refl refl

-- what is stored of an axis behind a history lies inside
pub stored-inside : (es : List Event) (offset : ℕ) (given : ℤ) → is_inside (stored_behind es offset given) ≡ true
unfolding stored_behind
stored-inside es offset given = inside (given +ℤ pos (step_in (byte_by es 0x0F)) *ℤ signed (byte_by es offset))

-- ---- a sample behind a history
module _ (es : List Event) where
  axis-is : (offset : ℕ) → offset < 64 → (given : ℤ) → stored_axis (step_of (range_of (stored es 0x0F))) (stored es offset) given ≡ stored_behind es offset given
  unfolding stored_behind
  axis-is offset h given =
      rw (stored_is es 0x0F (omega arith), stored_is es offset h, step_is (byte_by es 0x0F), signed_is (byte_by es offset) (byte_small es offset h)) (held-is _)

  pub sample-stored : (x y z : ℤ) → stored_by (bank es) x y z ≡ record { x = stored_behind es 0x38 x; y = stored_behind es 0x39 y; z = stored_behind es 0x3A z }
  unfolding stored_by
  sample-stored x y z = rw (axis-is 0x38 (omega arith) x, axis-is 0x39 (omega arith) y, axis-is 0x3A (omega arith) z)

  -- and so by the registers of the device
  pub stored-after : (x y z : ℤ) → stored_by (after es).regs x y z ≡ record { x = stored_behind es 0x38 x; y = stored_behind es 0x39 y; z = stored_behind es 0x3A z }
  stored-after x y z = rw (bank-is es) (sample-stored x y z)
