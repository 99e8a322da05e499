-- Of a number, with its sign, there is one plain text.
-- Assumes nothing.
use Prim.Native.Nat.{ℕ, suc, ◌+◌, ◌-◌, ◌*◌, ◌^◌, ◌≤◌, ◌<◌}
use mathlib.Core.Bool.{Bool, true, false}
use mathlib.Core.List.{List, [], ◌∷◌, ◌++◌}
use mathlib.Core.Logic.{◌≢◌}
use mathlib.Core.Path.{◌≡◌, refl, sym, ap, ◌∙◌}
use native.Mathlib.Nat.{mul_assoc, mul_right_comm, pow-suc, pow-succ', pow-le-pow_right, le_trans, lt_of_lt_of_le, mul-le-mul_right, eq_of_mul-eq-mul_right}
use native.Mathlib.Omega.{arith}
use borrow.Author.Tests.{ltb-true, ltb-false, eqb-true, eqb-false}
use lib.Dec.{eqb, ltb}
use lib.IntN.{ℤ, nat_abs}
use lib.ListN.{length}
use lib.Pow.{pow-add}
use Rattle.text.specs.Text.{digit, value, value_on}
use Rattle.measure.specs.Promise.{read_decimal, numerator, denominator, written, Digits, Plain, Says}
use Rattle.measure.proofs.Reading.{value-append, ten-pos}

-- ---- digits of one length
-- two rows of as many digits, behind m and n, that stand for the same number are the same row
same_digits : (a b : List ℕ) (m n : ℕ) → Digits a → Digits b → length a ≡ length b → value_on m a ≡ value_on n b → (m ≡ n) × (a ≡ b)
same_digits [] [] m n p q l e = (e, refl)
same_digits [] (d ∷ b) m n p q l e = absurd (omega arith)
same_digits (c ∷ a) [] m n p q l e = absurd (omega arith)
same_digits (c ∷ a) (d ∷ b) m n p q l e =
    let k : length a ≡ length b = omega arith in
    let r = same_digits a b (m * 10 + (c - 48)) (n * 10 + (d - 48)) p.2 q.2 k e in
    let h = r.0 in
    let s : c ≡ d = omega arith in
    (omega arith, λ i. s i ∷ r.1 i)

-- ---- the digits before the point
ten-more : (x k : ℕ) → x * 10 ^ suc k ≡ x * 10 * 10 ^ k
ten-more x k = ap (λ (y : ℕ). x * y) (pow-succ' 10 k) ∙ sym (mul_assoc x 10 (10 ^ k))

most : (a : List ℕ) (m : ℕ) → Digits a → value_on m a < suc m * 10 ^ length a
most [] m p = omega arith
most (c ∷ a) m p =
    let h : suc (m * 10 + (c - 48)) ≤ suc m * 10 = omega arith in
    rw (ten-more (suc m) (length a)) (lt_of_lt_of_le (most a (m * 10 + (c - 48)) p.2) (mul-le-mul_right (10 ^ length a) h))

least : (a : List ℕ) (m : ℕ) → m * 10 ^ length a ≤ value_on m a
least [] m = omega arith
least (c ∷ a) m =
    let h : m * 10 ≤ m * 10 + (c - 48) = omega arith in
    rw (ten-more m (length a)) (le_trans (mul-le-mul_right (10 ^ length a) h) (least a (m * 10 + (c - 48))))

-- digits with no zero in front, but where it is the only one, stand for more than fewer digits do
shorter : (w v : List ℕ) → Digits w → Digits v → w ≢ [] → ((rest : List ℕ) → v ≡ digit 0 ∷ rest → rest ≡ []) → value w ≡ value v → length w < length v → ⊥
shorter w [] p q some first e h = omega arith
shorter [] (d ∷ v) p q some first e h = some refl
shorter (c ∷ w) (d ∷ v) p q some first e h = go (eqb d 48) refl
  where
    go : (t : Bool) → eqb d 48 ≡ t → ⊥
    go true f = let g = eqb-true d 48 f in let n = ap length (first v (ap (λ (x : ℕ). x ∷ v) g)) in omega arith
    go false f =
        let g = eqb-false d 48 f in
        let one : 1 ≤ 0 * 10 + (d - 48) = omega arith in
        let low : 1 * 10 ^ length v ≤ (0 * 10 + (d - 48)) * 10 ^ length v = mul-le-mul_right (10 ^ length v) one in
        let high : 10 ^ length (c ∷ w) ≤ 10 ^ length v = pow-le-pow_right (omega arith) (omega arith) in
        omega (arith, most (c ∷ w) 0 p, least v (0 * 10 + (d - 48)))

-- ---- the digits behind the point: their last
record Ends (l : List ℕ) : Type 0 where
  front : List ℕ
  end : ℕ
  is : l ≡ front ++ (end ∷ [])
  low : digit 0 ≤ end
  high : end ≤ digit 9

ends : (c : ℕ) (l : List ℕ) → Digits (c ∷ l) → Ends (c ∷ l)
ends c [] p = record { front = []; end = c; is = refl; low = p.0; high = p.1 }
ends c (d ∷ l) p = let r = ends d l p.2 in record { front = c ∷ r.front; end = r.end; is = ap (λ (x : List ℕ). c ∷ x) r.is; low = r.low; high = r.high }

-- with more places behind the point it would be a zero
longer : (x lf : ℕ) (v g : List ℕ) → Digits g → ((front : List ℕ) → g ≢ front ++ (digit 0 ∷ [])) → x * 10 ^ length g ≡ value (v ++ g) * 10 ^ lf → lf < length g → ⊥
longer x lf v [] p last e h = omega arith
longer x lf v (c ∷ g) p last e h =
    let r = ends c g p in
    let j = length g - lf in
    let k : length (c ∷ g) ≡ suc j + lf = omega arith in
    let y = value (v ++ (c ∷ g)) in
    let s : x * 10 ^ suc j * 10 ^ lf ≡ y * 10 ^ lf = mul_assoc x (10 ^ suc j) (10 ^ lf) ∙ ap (λ (z : ℕ). x * z) (sym (pow-add 10 (suc j) lf) ∙ ap (λ (z : ℕ). 10 ^ z) (sym k)) ∙ e in
    let t : x * 10 ^ j * 10 ≡ y = mul_assoc x (10 ^ j) 10 ∙ ap (λ (z : ℕ). x * z) (sym (pow-suc 10 j)) ∙ eq_of_mul-eq-mul_right (10 ^ lf) (ten-pos lf) (x * 10 ^ suc j) y s in
    let u : y ≡ value_on (value v) r.front * 10 + (r.end - 48) = value-append 0 v (c ∷ g) ∙ ap (value_on (value v)) r.is ∙ value-append (value v) r.front (r.end ∷ []) in
    let zero : r.end ≡ 48 = omega (arith, r.low, r.high) in
    last r.front (r.is ∙ ap (λ (z : ℕ). r.front ++ (z ∷ [])) zero)

-- ---- two plain texts that stand for one number
equal : (a b : ℕ) → (a < b → ⊥) → (b < a → ⊥) → a ≡ b
equal a b p q = go (ltb a b) refl (ltb b a) refl
  where
    go : (s : Bool) → ltb a b ≡ s → (t : Bool) → ltb b a ≡ t → a ≡ b
    go true e t f = absurd (p (ltb-true a b e))
    go false e true f = absurd (q (ltb-true b a f))
    go false e false f = omega (arith, ltb-false a b e, ltb-false b a f)

module _ {t u : List ℕ} (p : Plain t) (q : Plain u) where
  same_parts : let a = read_decimal t in let b = read_decimal u in a.minus ≡ b.minus → numerator a * denominator b ≡ numerator b * denominator a → a ≡ b
  same_parts sign e =
      let a = read_decimal t in
      let b = read_decimal u in
      let places : length a.fraction ≡ length b.fraction =
      equal (length a.fraction) (length b.fraction)
      (longer (numerator a) (length a.fraction) b.whole b.fraction q.fraction q.no_zero_last e)
      (longer (numerator b) (length b.fraction) a.whole a.fraction p.fraction p.no_zero_last (sym e)) in
      let f : numerator a ≡ numerator b =
      eq_of_mul-eq-mul_right (denominator b) (ten-pos (length b.fraction)) (numerator a) (numerator b) (e ∙ ap (λ (k : ℕ). numerator b * 10 ^ k) places) in
      let r = same_digits a.fraction b.fraction (value a.whole) (value b.whole) p.fraction q.fraction places
      (sym (value-append 0 a.whole a.fraction) ∙ f ∙ value-append 0 b.whole b.fraction) in
      let w : length a.whole ≡ length b.whole =
      equal (length a.whole) (length b.whole)
      (shorter a.whole b.whole p.whole q.whole p.not_empty q.no_zero_first r.0)
      (shorter b.whole a.whole q.whole p.whole q.not_empty p.no_zero_first (sym r.0)) in
      let s = same_digits a.whole b.whole 0 0 p.whole q.whole w r.0 in
      λ i. record { minus = sign i; whole = s.1 i; fraction = r.1 i }

  pub one-text : {count : ℤ} {per_g : ℕ} → 0 < per_g → Says t count per_g → Says u count per_g → t ≡ u
  one-text {count = count} {per_g = d} h s v =
      let a = read_decimal t in
      let b = read_decimal u in
      let n = nat_abs count in
      let e : numerator a * denominator b * d ≡ numerator b * denominator a * d =
      mul_right_comm (numerator a) (denominator b) d ∙ ap (λ (x : ℕ). x * denominator b) s.value ∙ mul_right_comm n (denominator a) (denominator b)
      ∙ ap (λ (x : ℕ). x * denominator a) (sym v.value) ∙ mul_right_comm (numerator b) d (denominator a) in
      p.parts
      ∙ ap written (same_parts (s.sign ∙ sym v.sign) (eq_of_mul-eq-mul_right d h (numerator a * denominator b) (numerator b * denominator a) e))
      ∙ sym q.parts
