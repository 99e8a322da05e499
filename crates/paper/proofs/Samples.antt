-- The samples that the device accepts are those that lie inside, and it keeps their bits.
-- Assumes nothing.
use Prim.Native.Nat.{suc, ◌/◌, ◌%◌}
use mathlib.Core.Bool.{Bool, true, false, not}
use mathlib.Core.Path.{◌≡◌, refl}
use native.Mathlib.Omega.{arith}
use borrow.Author.Tests.{leb-true, leb-false, lt-ltb, le-ltb}
use lib.Dec.{leb, ltb}
use lib.IntN.{ℤ, pos, negsuc}
use Rattle.laws.specs.Choice.{pick, both, either}
use Rattle.laws.proofs.Finite.{left}
use Rattle.channels.specs.Codes.{in_range, code}
use Rattle.std.specs.Prelude.{Err}
use Rattle.registers.specs.Answers.{done, accepted}
use Rattle.registers.specs.declared.Refusal.TheVariants.{OutOfRange}
use Rattle.device.specs.Sample.{sample_answer}
use Rattle.paper.specs.Samples.{is_inside, all_inside, twelve_bits, msb_byte}

pub inside_is : (v : ℤ) → in_range v ≡ is_inside v
inside_is (pos n) = go (leb n 2047) refl
  where
    go : (t : Bool) → leb n 2047 ≡ t → ltb n 2048 ≡ t
    go true e = lt-ltb n 2048 (omega (arith, leb-true))
    go false e = le-ltb n 2048 (omega (arith, leb-false))
inside_is (negsuc n) = go (leb n 2047) refl
  where
    go : (t : Bool) → leb n 2047 ≡ t → pick (ltb 2047 n) false true ≡ both t true
    go true e = rw (le-ltb 2047 n (leb-true n 2047 e))
    go false e = rw (lt-ltb 2047 n (leb-false n 2047 e))

pub sample-is : (x y z : ℤ) → accepted (sample_answer x y z) ≡ all_inside x y z
unfolding sample_answer
sample-is x y z = rw (inside_is x, inside_is y, inside_is z) (go (is_inside x) (is_inside y) (is_inside z))
  where
    go : (p q r : Bool) → accepted (pick (either (not p) (either (not q) (not r))) (Err OutOfRange) done) ≡ both p (both q r)
    go true true true = refl
    go true true false = refl
    go true false r = refl
    go false q r = refl

-- ---- the bits of an accepted sample, and the byte of the upper eight
pub code_is : (v : ℤ) → is_inside v ≡ true → code v ≡ twelve_bits v
unfolding code
code_is (pos n) h = omega arith
code_is (negsuc n) h =
    let l = leb-true n 2047 (left (leb n 2047) true h) in
    rw (le-ltb 4096 (suc n) (omega arith)) (omega arith)

pub upper_is : (v : ℤ) → twelve_bits v / 16 % 256 ≡ msb_byte (twelve_bits v)
upper_is v = omega arith
