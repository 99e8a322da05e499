-- A count of 16 bits in g loses nothing, as a 32-bit float, and the float times 1024 is a whole number.
-- Assumes nothing.
use Prim.Native.Nat.{ℕ, zero, suc, ◌+◌, ◌-◌, ◌*◌, ◌^◌, ◌≤◌, ◌<◌}
use mathlib.Core.Bool.{Bool, true, false}
use mathlib.Core.Path.{◌≡◌, refl, sym, ap, ◌∙◌}
use native.Mathlib.Nat.{mul_assoc, mul_comm, mul_right_comm, mul-one, one-mul, mul-pos, lt_of_lt_of_le}
use native.Mathlib.Omega.{arith}
use lib.Dec.{T, le→leb, lt→ltb}
use lib.IntN.{ℤ, pos, negsuc, neg_ℤ, nat_abs, ◌*ℤ◌}
use lib.Pow.{pow-add, pow_pos, pow_mono, shl_lt}
use lib.Signed.{mag}
use lib.Ieee.{Float, nan, inf, fin, binary32, up, down, unlike, round, mul, of_int, low, in_float, in_signed, to_signed}
use lib.Ieee.Exact.{HasValue, round_exact}
use lib.Ieee.Back.{round_whole, positive_back, negative_back}
use lib.Ieee.Fits.{down_pos}
use lib.Ieee.Scale.{round_same}
use Rattle.codes.specs.declared.Range.{Range}
use Rattle.codes.specs.declared.Range.TheVariants.{G2, G4, G8, G16, Reserved}
use Rattle.laws.proofs.Ints.{product-size}
use Rattle.measure.specs.Measure.{negative, divided, in_g, times1024, whole1024ths, in1024ths}

same_sign : (t : Bool) → unlike t false ≡ t
same_sign true = refl
same_sign false = refl

-- ---- what the code computes is what the definition says
-- a float that is the whole number n, times 1 / 2 ^ (k + 1), is rounded from n / 2 ^ (k + 1)
parts : (s : Bool) (n k : ℕ) (x : Float) → HasValue x s n 1 → mul binary32 x (fin false 1 (negsuc k)) ≡ round binary32 s n (2 ^ suc k)
unfolding mul
parts s n k nan v = absurd v
parts s n k (inf t) v = absurd v
parts s n k (fin t m e) v =
    let whole : m * up e ≡ n * down e = sym (mul-one (m * up e)) ∙ v.1 in
    let cross : m * up e * (1 * 1) * 2 ^ suc k ≡ n * (down e * 2 ^ suc k) = ap (λ (x : ℕ). x * 2 ^ suc k) (mul-one (m * up e) ∙ whole) ∙ mul_assoc n (down e) (2 ^ suc k) in
    ap (λ (b : Bool). round binary32 b (m * up e * (1 * 1)) (down e * 2 ^ suc k)) (same_sign t ∙ v.0)
    ∙ round_same binary32 s (m * up e * (1 * 1)) (down e * 2 ^ suc k) n (2 ^ suc k) (mul-pos (down_pos e) (pow_pos (suc k))) (pow_pos (suc k)) cross

pub computed : (count : ℤ) (k : ℕ) → mag count < 32768 → mul binary32 (of_int binary32 count) (fin false 1 (negsuc k)) ≡ divided count (2 ^ suc k)
unfolding of_int divided
computed (pos n) k h = parts false n k (round binary32 false n 1) (round_whole binary32 false n (omega arith))
computed (negsuc n) k h = parts true (suc n) k (round binary32 true (suc n) 1) (round_whole binary32 true (suc n) (omega arith))

-- ---- "which loses nothing": the float is the count divided by 2 ^ k, exactly
size : (count : ℤ) → mag count < 32768 → nat_abs count ≤ 32768
size (pos n) h = omega arith
size (negsuc n) h = omega arith

pub exactly : (count : ℤ) (k : ℕ) → mag count < 32768 → k ≤ 10 → HasValue (divided count (2 ^ k)) (negative count) (nat_abs count) (2 ^ k)
unfolding divided
exactly count k h few =
    let n = nat_abs count in
    let j = low binary32 - k in
    let small : n < 2 ^ 16 = omega (arith, size count h) in
    let whole : 2 ^ j * 2 ^ k ≡ 2 ^ low binary32 = sym (pow-add 2 j k) ∙ ap (λ (x : ℕ). 2 ^ x) (let e : j + k ≡ 149 = omega arith in e) in
    round_exact binary32 (negative count) n (2 ^ k) n j (pow_pos k) (omega arith)
    (lt_of_lt_of_le (shl_lt 16 j small) (pow_mono (let e : 16 + j ≤ 277 = omega arith in e)))
    (ap (λ (x : ℕ). n * x) (sym whole) ∙ sym (mul_assoc n (2 ^ j) (2 ^ k)))

-- ---- the float is so many 1/1024 g, and its cast gives that number
-- a float that is n / d, times 1024, is the whole number n * k, where d * k is 1024
whole : (s : Bool) (n d k : ℕ) (x : Float) → d * k ≡ 1024 → HasValue x s n d → times1024 x ≡ round binary32 s (n * k) 1
unfolding mul
whole s n d k nan w v = absurd v
whole s n d k (inf t) w v = absurd v
whole s n d k (fin t m e) w v =
    let cross : m * up e * (1 * 1024) * 1 ≡ n * k * (down e * 1) =
    mul-one (m * up e * 1024) ∙ ap (λ (x : ℕ). m * up e * x) (sym w) ∙ sym (mul_assoc (m * up e) d k) ∙ ap (λ (x : ℕ). x * k) v.1 ∙ mul_right_comm n (down e) k
    ∙ ap (λ (x : ℕ). n * k * x) (sym (mul-one (down e))) in
    ap (λ (b : Bool). round binary32 b (m * up e * (1 * 1024)) (down e * 1)) (same_sign t ∙ v.0)
    ∙ round_same binary32 s (m * up e * (1 * 1024)) (down e * 1) (n * k) 1 (mul-pos (down_pos e) (omega arith)) (omega arith) cross

of_negative : (n : ℕ) → 0 < n → of_int binary32 (neg_ℤ (pos n)) ≡ round binary32 true n 1
unfolding of_int
of_negative zero h = absurd (omega arith)
of_negative (suc n) h = refl

product : (count : ℤ) (k : ℕ) → 0 < k → round binary32 (negative count) (nat_abs count * k) 1 ≡ of_int binary32 (pos k *ℤ count)
unfolding of_int
product (pos n) k h = ap (λ (x : ℕ). round binary32 false x 1) (mul_comm n k)
product (negsuc n) k h = ap (λ (x : ℕ). round binary32 true x 1) (mul_comm (suc n) k) ∙ sym (of_negative (k * suc n) (mul-pos h (omega arith)))

once : (count : ℤ) → pos 1 *ℤ count ≡ count
once (pos n) = ap pos (one-mul n)
once (negsuc n) = ap (λ (x : ℕ). neg_ℤ (pos x)) (one-mul (suc n))

module _ (count : ℤ) (h : mag count < 32768) where
  scaled : (d k : ℕ) → d * k ≡ 1024 → 0 < k → HasValue (divided count d) (negative count) (nat_abs count) d → times1024 (divided count d) ≡ of_int binary32 (pos k *ℤ count)
  scaled d k w p v = whole (negative count) (nat_abs count) d k (divided count d) w v ∙ product count k p

  pub in-1024ths : (range : Range) → times1024 (in_g count range) ≡ of_int binary32 (in1024ths count range)
  unfolding mul of_int
  in-1024ths G2 = scaled 1024 1 refl (omega arith) (exactly count 10 h (omega arith)) ∙ ap (of_int binary32) (once count)
  in-1024ths G4 = scaled 512 2 refl (omega arith) (exactly count 9 h (omega arith))
  in-1024ths G8 = scaled 256 4 refl (omega arith) (exactly count 8 h (omega arith))
  in-1024ths G16 = scaled 128 8 refl (omega arith) (exactly count 7 h (omega arith))
  in-1024ths Reserved = refl

  -- at most 256 g
  pub in-1024ths-size : (range : Range) → nat_abs (in1024ths count range) ≤ 262144
  in-1024ths-size G2 = omega (arith, size count h)
  in-1024ths-size G4 = omega (arith, size count h, product-size 2 count)
  in-1024ths-size G8 = omega (arith, size count h, product-size 4 count)
  in-1024ths-size G16 = omega (arith, size count h, product-size 8 count)
  in-1024ths-size Reserved = omega arith

whole_back : (z : ℤ) → nat_abs z ≤ 262144 → T (in_signed binary32 31 (of_int binary32 z)) × (to_signed 31 (of_int binary32 z) ≡ z)
unfolding in_float
whole_back (pos n) h = positive_back binary32 31 n (le→leb n (2 ^ 24) (omega arith)) (omega arith)
whole_back (negsuc n) h = negative_back binary32 31 n (lt→ltb n (2 ^ 24) (omega arith)) (omega arith)

module _ (count : ℤ) (h : mag count < 32768) (range : Range) where
  back : T (in_signed binary32 31 (times1024 (in_g count range))) × (whole1024ths (in_g count range) ≡ in1024ths count range)
  back = rw (in-1024ths count h range) (whole_back (in1024ths count range) (in-1024ths-size count h range))

  pub casts : T (in_signed binary32 31 (times1024 (in_g count range)))
  casts = back.0

  pub cast-back : whole1024ths (in_g count range) ≡ in1024ths count range
  cast-back = back.1
