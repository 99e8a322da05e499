-- Q-8's promise of a count in g: its float and its text lose nothing.
-- Assumes nothing.
use Prim.Native.Nat.{ℕ, zero, suc, ◌*◌, ◌<◌}
use mathlib.Core.Bool.{Bool, true}
use mathlib.Core.List.{List}
use mathlib.Core.Path.{◌≡◌, refl, sym, ap, ◌∙◌}
use native.Mathlib.Nat.{mul_assoc, mul_comm, mul_right_comm, mul-pos, eq_of_mul-eq-mul_right}
use native.Mathlib.Omega.{arith}
use lib.IntN.{ℤ, pos, negsuc, neg_ℤ, nat_abs, ◌*ℤ◌}
use lib.Ieee.{Float, nan, inf, fin, up, down}
use lib.Ieee.Exact.{HasValue}
use lib.ListN.{length}
use lib.Signed.{mag}
use Rattle.laws.proofs.Ints.{product-size}
use Rattle.codes.specs.declared.Range.{Range}
use Rattle.codes.specs.declared.Range.TheVariants.{G2, G4, G8, G16, Reserved}
use Rattle.measure.specs.Measure.{negative, in_g, in1024ths, whole1024ths, signed_text, g_text}
use Rattle.measure.specs.Promise.{LosesNothing, read_decimal, numerator, denominator, Plain, Says, Exactly, ExactText}
use Rattle.measure.proofs.Exact.{exactly, in-1024ths-size, cast-back}
use Rattle.measure.proofs.Reading.{ten-pos, says, plain}
use Rattle.measure.proofs.Only.{one-text}

-- ---- the float
pub exact : (count : ℤ) → mag count < 32768 → LosesNothing count
exact count h = record {
  at2g = exactly count 10 h (omega arith);
  at4g = exactly count 9 h (omega arith);
  at8g = exactly count 8 h (omega arith);
  at16g = exactly count 7 h (omega arith);
}

-- ---- a product keeps the sign
turned : (n : ℕ) → 0 < n → negative (neg_ℤ (pos n)) ≡ true
turned zero h = absurd (omega arith)
turned (suc n) h = refl

keeps-sign : (k : ℕ) (count : ℤ) → 0 < k → negative (pos k *ℤ count) ≡ negative count
keeps-sign k (pos n) h = refl
keeps-sign k (negsuc n) h = turned (k * suc n) (mul-pos h (omega arith))

-- ---- from 1/1024 g to counts, where d counts are a g and each is k of them
module _ {text : List ℕ} (count : ℤ) (d k : ℕ) (all : d * k ≡ 1024) (p : 0 < k) where
  in-counts : Says text (pos k *ℤ count) 1024 → Says text count d
  in-counts s =
      let r = read_decimal text in
      let n = nat_abs count in
      let e : numerator r * 1024 ≡ k * n * denominator r = s.value ∙ ap (λ (x : ℕ). x * denominator r) (product-size k count) in
      let f : numerator r * d * k ≡ n * denominator r * k =
      mul_assoc (numerator r) d k ∙ ap (λ (x : ℕ). numerator r * x) all ∙ e ∙ mul_assoc k n (denominator r) ∙ mul_comm k (n * denominator r) in
      record { sign = s.sign ∙ keeps-sign k count p; value = eq_of_mul-eq-mul_right k p (numerator r * d) (n * denominator r) f }

-- ---- from one fraction to another of the same size
same_size : (x : Float) (s : Bool) (n d a b : ℕ) → 0 < d → a * d ≡ n * b → HasValue x s n d → HasValue x s a b
same_size nan s n d a b p h v = v
same_size (inf t) s n d a b p h v = v
same_size (fin t m e) s n d a b p h v = (
  v.0,
  eq_of_mul-eq-mul_right d p (m * up e * b) (a * down e)
      (mul_right_comm (m * up e) b d
      ∙ ap (λ (x : ℕ). x * b) v.1
      ∙ mul_right_comm n (down e) b
      ∙ ap (λ (x : ℕ). x * down e) (sym h)
      ∙ mul_right_comm a d (down e)),
)

module _ (count : ℤ) (h : mag count < 32768) where
  -- the float in 1/1024 g
  times : (k d : ℕ) (x : Float) → d * k ≡ 1024 → 0 < k → 0 < d → HasValue x (negative count) (nat_abs count) d → HasValue x (negative (pos k *ℤ count)) (nat_abs (pos k *ℤ count)) 1024
  times k d x all p q v =
      rw (keeps-sign k count p, product-size k count)
      (same_size x (negative count) (nat_abs count) d (k * nat_abs count) 1024 q
      (mul_comm (k * nat_abs count) d ∙ sym (mul_assoc d k (nat_abs count)) ∙ ap (λ (x : ℕ). x * nat_abs count) all ∙ mul_comm 1024 (nat_abs count)) v)

  float-1024ths : (range : Range) → HasValue (in_g count range) (negative (in1024ths count range)) (nat_abs (in1024ths count range)) 1024
  float-1024ths G2 = (exact count h).at2g
  float-1024ths G4 = times 2 512 (in_g count G4) refl (omega arith) (omega arith) (exact count h).at4g
  float-1024ths G8 = times 4 256 (in_g count G8) refl (omega arith) (omega arith) (exact count h).at8g
  float-1024ths G16 = times 8 128 (in_g count G16) refl (omega arith) (omega arith) (exact count h).at16g
  float-1024ths Reserved = (refl, refl)

  text_says : (range : Range) → Says (g_text count range) (in1024ths count range) 1024
  unfolding g_text
  text_says range = says (in1024ths count range) (in-1024ths-size count h range)

  text-plain : (range : Range) → Plain (g_text count range)
  unfolding g_text
  text-plain range = plain (in1024ths count range) (in-1024ths-size count h range)

  exactly-says : (range : Range) (per_g : ℕ) → 0 < per_g → Says (g_text count range) count per_g → Exactly (g_text count range) count per_g
  exactly-says range per_g p s = record { says = s; only = λ other q t. one-text q (text-plain range) p t s }

  text-from : (range : Range) → g_text count range ≡ signed_text (whole1024ths (in_g count range))
  unfolding g_text
  text-from range = ap signed_text (sym (cast-back count h range))

  pub exact-text : ExactText count
  exact-text = record {
    at2g = exactly-says G2 1024 (omega arith) (text_says G2);
    at4g = exactly-says G4 512 (omega arith) (in-counts count 512 2 refl (omega arith) (text_says G4));
    at8g = exactly-says G8 256 (omega arith) (in-counts count 256 4 refl (omega arith) (text_says G8));
    at16g = exactly-says G16 128 (omega arith) (in-counts count 128 8 refl (omega arith) (text_says G16));
    plain = text-plain;
    float = λ range.
        let d = read_decimal (g_text count range) in
        let s = text_says range in
        let z = in1024ths count range in
        rw s.sign (same_size (in_g count range) (negative z) (nat_abs z) 1024 (numerator d) (denominator d) (omega arith) s.value (float-1024ths range));
    from = text-from;
  }

-- ---- a text says one count
same_count : (a b : ℤ) → negative a ≡ negative b → nat_abs a ≡ nat_abs b → a ≡ b
same_count (pos m) (pos n) s e = ap pos e
same_count (pos m) (negsuc n) s e = let z : ◌≡◌ {A = ℕ} 0 1 = cc in absurd (omega arith)
same_count (negsuc m) (pos n) s e = let z : ◌≡◌ {A = ℕ} 0 1 = cc in absurd (omega arith)
same_count (negsuc m) (negsuc n) s e = let f : m ≡ n = omega arith in ap negsuc f

pub one-count : {text : List ℕ} {a b : ℤ} {per_g : ℕ} → Says text a per_g → Says text b per_g → a ≡ b
one-count {text = text} {a = a} {b = b} s t =
    let d = read_decimal text in
    same_count a b (sym s.sign ∙ t.sign)
    (eq_of_mul-eq-mul_right (denominator d) (ten-pos (length d.fraction)) (nat_abs a) (nat_abs b) (sym s.value ∙ t.value))
