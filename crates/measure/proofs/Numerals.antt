-- The digits of a number below 1000, and those behind the point.
-- Assumes nothing.
use Prim.Native.Nat.{ℕ, zero, suc, ◌+◌, ◌*◌, ◌/◌, ◌%◌, ◌≤◌, ◌<◌}
use mathlib.Core.Bool.{Bool, true, false}
use mathlib.Core.List.{List, [], ◌∷◌, ◌++◌}
use mathlib.Core.Path.{◌≡◌, refl, ◌∙◌}
use native.Mathlib.Omega.{arith}
use borrow.Author.Tests.{ltb-true, ltb-false, eqb-true, eqb-false, lt-ltb, le-ltb, eq-eqb, ne_eqb}
use lib.Dec.{ltb, eqb}
use lib.IntN.{ℤ, pos, nat_abs}
use lib.ListN.{length, length-append}
use lib.Signed.{mag, lt_z}
use Rattle.laws.specs.Choice.{pick}
use Rattle.codes.specs.declared.Range.{Range}
use Rattle.text.specs.Text.{ascii, digit, last_digits, decimal}
use Rattle.measure.specs.Measure.{in1024ths, most_places, places, fraction_text, unsigned_text, signed_text, g_text, longest_g}
use Rattle.measure.proofs.Exact.{in-1024ths-size}

-- ---- before the point
last_one : (k n : ℕ) → n < 10 → last_digits (suc k) n ≡ digit n ∷ []
unfolding last_digits
last_one k n h = rw (lt-ltb n 10 h)

last_more : (k n : ℕ) → 10 ≤ n → last_digits (suc k) n ≡ last_digits k (n / 10) ++ (digit (n % 10) ∷ [])
unfolding last_digits
last_more k n h = rw (le-ltb n 10 h)

pub one-digit : (n : ℕ) → n < 10 → decimal n ≡ digit n ∷ []
unfolding decimal
one-digit n h = last_one 19 n h

pub two_digits : (n : ℕ) → 10 ≤ n → n < 100 → decimal n ≡ digit (n / 10) ∷ digit (n % 10) ∷ []
unfolding decimal
two_digits n h l = last_more 19 n h ∙ rw (last_one 18 (n / 10) (omega arith))

pub three-digits : (n : ℕ) → 100 ≤ n → n < 1000 → decimal n ≡ digit (n / 100) ∷ digit (n / 10 % 10) ∷ digit (n % 10) ∷ []
unfolding decimal
three-digits n h l =
    let e : n / 10 / 10 ≡ n / 100 = omega arith in
    last_more 19 n (omega arith) ∙ rw (last_more 18 (n / 10) (omega arith), e, last_one 17 (n / 100) (omega arith))

-- ---- behind the point
pub no-places : (k rest : ℕ) → rest ≡ 0 → places k rest ≡ []
unfolding places
no-places zero rest h = refl
no-places (suc k) rest h = rw (eq-eqb rest 0 h)

pub places-end : (rest : ℕ) → places 0 rest ≡ []
unfolding places
places-end rest = refl

pub more-places : (k rest : ℕ) → (rest ≡ 0 → ⊥) → places (suc k) rest ≡ digit (rest * 10 / 1024) ∷ places k (rest * 10 % 1024)
unfolding places
more-places k rest h = rw (ne_eqb rest 0 h)

-- ---- how many
pub length_whole : (n : ℕ) → n < 1000 → length (decimal n) ≤ 3
length_whole n h = go (ltb n 10) refl (ltb n 100) refl
  where
    go : (s : Bool) → ltb n 10 ≡ s → (t : Bool) → ltb n 100 ≡ t → length (decimal n) ≤ 3
    go true e t f = rw (one-digit n (ltb-true n 10 e)) (omega arith)
    go false e true f = rw (two_digits n (ltb-false n 10 e) (ltb-true n 100 f)) (omega arith)
    go false e false f = rw (three-digits n (ltb-false n 100 f) h) (omega arith)

pub length-places : (k rest : ℕ) → length (places k rest) ≤ k
length-places zero rest = rw (places-end rest) (omega arith)
length-places (suc k) rest = go (eqb rest 0) refl (length-places k (rest * 10 % 1024))
  where
    go : (t : Bool) → eqb rest 0 ≡ t → length (places k (rest * 10 % 1024)) ≤ k → length (places (suc k) rest) ≤ suc k
    go true e h = rw (no-places (suc k) rest (eqb-true rest 0 e)) (omega arith)
    go false e h = rw (more-places k rest (eqb-false rest 0 e)) (omega arith)

either-length : (t : Bool) (a b : List ℕ) (most : ℕ) → length a ≤ most → length b ≤ most → length (pick t a b) ≤ most
either-length true a b most p q = p
either-length false a b most p q = q

length-fraction : (rest : ℕ) → length (fraction_text rest) ≤ 1 + most_places
unfolding fraction_text
length-fraction rest = either-length (eqb rest 0) [] _ (1 + most_places) (omega arith) (omega (arith, length-places most_places rest))

length-unsigned : (n : ℕ) → n < 1000 * 1024 → length (unsigned_text n) ≤ 4 + most_places
unfolding unsigned_text
length-unsigned n h = simp length-append (omega (arith, length_whole (n / 1024) (omega arith), length-fraction (n % 1024)))

length-signed : (z : ℤ) → nat_abs z < 1000 * 1024 → length (signed_text z) ≤ longest_g
unfolding signed_text
length-signed z h =
    let sign = either-length (lt_z z (pos 0)) (ascii "-") [] 1 (omega arith) (omega arith) in
    simp length-append (omega (arith, length-unsigned (nat_abs z) h))

-- no count of 16 bits has a longer text
pub length-g : (count : ℤ) (range : Range) → mag count < 32768 → length (g_text count range) ≤ longest_g
unfolding g_text
length-g count range h = length-signed (in1024ths count range) (omega (arith, in-1024ths-size count h range))
