-- What a reader makes of the text of so many 1/1024 g.
-- Assumes nothing.
use Prim.Native.Nat.{ℕ, zero, suc, ◌+◌, ◌-◌, ◌*◌, ◌/◌, ◌%◌, ◌^◌, ◌≤◌, ◌<◌}
use mathlib.Core.Bool.{Bool, true, false}
use mathlib.Core.List.{List, [], ◌∷◌, ◌++◌}
use mathlib.Core.Logic.{◌≢◌}
use mathlib.Core.Path.{◌≡◌, refl, sym, ap, ◌∙◌}
use native.Mathlib.Nat.{add-mul, mul-pos, mul_assoc, mul_comm, mul_right_comm, div-add-mod', pow-suc, one-le-pow}
use native.Mathlib.Omega.{arith}
use borrow.Author.Tests.{eqb-true, eqb-false, ne_eqb, le-ltb}
use lib.Dec.{eqb}
use lib.IntN.{ℤ, pos, negsuc, nat_abs}
use lib.ListN.{length, get_or}
use lib.Signed.{lt_z}
use Rattle.laws.specs.Choice.{pick}
use Rattle.text.specs.Text.{ascii, digit, most_digits, decimal, value_on}
use Rattle.text.proofs.Texts.{by_digits}
use Rattle.text.proofs.Numerals.{value-decimal, decimal-zero, no-zero-first}
use Rattle.measure.specs.Measure.{negative, places, most_places, fraction_text, unsigned_text, signed_text}
use Rattle.measure.specs.Promise.{Decimal, before_point, behind_point, read_decimal, numerator, denominator, pointed, written, Digits, Plain, Says}
use Rattle.measure.proofs.Numerals.{no-places, places-end, more-places}

-- ---- long division
-- what is left of rest after k digits
abbrev left : ℕ → ℕ → ℕ
left zero rest = rest
left (suc k) rest = left k (rest * 10 % 1024)

-- each digit takes a 2 out of what is left
step : (f p q d r : ℕ) → d * 1024 + r ≡ f * 10 → f * (p * 2) ≡ q * 1024 → r * p ≡ (5 * q - d * p) * 1024
step f p q d r e h =
    let whole : d * 1024 * p + r * p ≡ f * 10 * p = sym (add-mul (d * 1024) r p) ∙ ap (λ (x : ℕ). x * p) e in
    omega (arith, mul_right_comm d 1024 p, mul_right_comm f 10 p, mul_assoc f p 2)

gone : (k rest q : ℕ) → rest < 1024 → rest * 2 ^ k ≡ q * 1024 → left k rest ≡ 0
gone zero rest q h e = omega arith
gone (suc k) rest q h e =
    gone k (rest * 10 % 1024) (5 * q - rest * 10 / 1024 * 2 ^ k) (omega arith)
    (step rest (2 ^ k) q (rest * 10 / 1024) (rest * 10 % 1024) (div-add-mod' (rest * 10) 1024) (ap (λ (x : ℕ). rest * x) (sym (pow-suc 2 k)) ∙ e))

-- after ten nothing is left
all-gone : (rest : ℕ) → rest < 1024 → left most_places rest ≡ 0
all-gone rest h = gone most_places rest rest h refl

-- what holds of no digits, where nothing is left, and of one digit more in front of those of what it leaves, holds of them all
by-places : (P : ℕ → List ℕ → Type 0) → P 0 [] → ((rest : ℕ) (l : List ℕ) → rest < 1024 → rest ≢ 0 → P (rest * 10 % 1024) l → P rest (digit (rest * 10 / 1024) ∷ l))
    → (k rest : ℕ) → rest < 1024 → left k rest ≡ 0 → P rest (places k rest)
by-places P none more zero rest h e = rw (places-end rest, e) none
by-places P none more (suc k) rest h e = go (eqb rest 0) refl (by-places P none more k (rest * 10 % 1024) (omega arith) e)
  where
    go : (t : Bool) → eqb rest 0 ≡ t → P (rest * 10 % 1024) (places k (rest * 10 % 1024)) → P rest (places (suc k) rest)
    go true f p = rw (no-places (suc k) rest (eqb-true rest 0 f), eqb-true rest 0 f) none
    go false f p = rw (more-places k rest (eqb-false rest 0 f)) (more rest (places k (rest * 10 % 1024)) h (eqb-false rest 0 f) p)

-- ---- no zero at the end: of none, and of one digit more in front
nothing : (front : List ℕ) → [] ≢ front ++ (digit 0 ∷ [])
nothing [] e = let z : ◌≡◌ {A = ℕ} 0 1 = cc in omega arith
nothing (c ∷ front) e = let z : ◌≡◌ {A = ℕ} 0 1 = cc in omega arith

one_more : (d : ℕ) (l : List ℕ) → (l ≡ [] → 0 < d) → ((front : List ℕ) → l ≢ front ++ (digit 0 ∷ [])) → (front : List ℕ) → digit d ∷ l ≢ front ++ (digit 0 ∷ [])
one_more d l some p [] e =
    let none : l ≡ [] = cc in
    let same : digit d ≡ digit 0 = cc in
    let h = some none in
    omega arith
one_more d l some p (c ∷ front) e = p front (cc)

-- ---- the digits behind the point, of a rest below 1024
module _ (rest : ℕ) (h : rest < 1024) where
  all-places : (P : ℕ → List ℕ → Type 0) → P 0 [] → ((rest : ℕ) (l : List ℕ) → rest < 1024 → rest ≢ 0 → P (rest * 10 % 1024) l → P rest (digit (rest * 10 / 1024) ∷ l)) → P rest (places most_places rest)
  all-places P none more = by-places P none more most_places rest h (all-gone rest h)

  places-value : (w : ℕ) → value_on w (places most_places rest) * 1024 ≡ (w * 1024 + rest) * 10 ^ length (places most_places rest)
  places-value = all-places (λ rest l. (w : ℕ) → value_on w l * 1024 ≡ (w * 1024 + rest) * 10 ^ length l)
      (λ w. omega arith)
      (λ rest l h some p w.
      let d = rest * 10 / 1024 in
      let e : (w * 10 + d) * 1024 + rest * 10 % 1024 ≡ (w * 1024 + rest) * 10 = omega arith in
      let t : 48 + d - 48 ≡ d = omega arith in
      rw t (p (w * 10 + d) ∙ rw (e, pow-suc) (mul_assoc (w * 1024 + rest) 10 (10 ^ length l) ∙ ap (λ (x : ℕ). (w * 1024 + rest) * x) (mul_comm 10 (10 ^ length l)))))

  places-digits : Digits (places most_places rest)
  places-digits = all-places (λ rest l. Digits l) tt (λ rest l h some p. (omega arith, omega arith, p))

  ends : (places most_places rest ≡ [] → rest ≡ 0) × ((front : List ℕ) → places most_places rest ≢ front ++ (digit 0 ∷ []))
  ends = all-places (λ rest l. (l ≡ [] → rest ≡ 0) × ((front : List ℕ) → l ≢ front ++ (digit 0 ∷ [])))
      (λ e. refl, nothing)
      (λ rest l h some p. (
        λ e. let z : ◌≡◌ {A = ℕ} 0 1 = cc in absurd (omega arith),
        one_more (rest * 10 / 1024) l (λ e. let z = p.0 e in omega arith) p.1,
      ))

  -- no zero at the end
  places-last : (front : List ℕ) → places most_places rest ≢ front ++ (digit 0 ∷ [])
  places-last = ends.1

-- ---- what is written is read back
before : (w f : List ℕ) → Digits w → before_point (w ++ pointed f) ≡ w
before [] [] d = refl
before [] (c ∷ f) d = refl
before (c ∷ w) f d = rw (ne_eqb c 46 (omega arith)) (ap (λ (l : List ℕ). c ∷ l) (before w f d.2))

behind : (w f : List ℕ) → Digits w → behind_point (w ++ pointed f) ≡ f
behind [] [] d = refl
behind [] (c ∷ f) d = refl
behind (c ∷ w) f d = rw (ne_eqb c 46 (omega arith)) (behind w f d.2)

abbrev made : Bool → List ℕ → List ℕ → Decimal
made minus w f = record { minus = minus; whole = w; fraction = f }

read-written : (minus : Bool) (w f : List ℕ) → Digits w → w ≢ [] → read_decimal (written (made minus w f)) ≡ made minus w f
read-written true w f d some = λ i. made true (before w f d i) (behind w f d i)
read-written false [] f d some = absurd (some refl)
read-written false (c ∷ w) f d some = rw (ne_eqb c 45 (omega arith)) (λ i. made false (before (c ∷ w) f d i) (behind (c ∷ w) f d i))

-- ---- the digits before the point
digits_more : (l : List ℕ) (d : ℕ) → d < 10 → Digits l → Digits (l ++ (digit d ∷ []))
digits_more [] d h p = (omega arith, omega arith, tt)
digits_more (c ∷ l) d h p = (p.0, p.1, digits_more l d h p.2)

decimal-digits : (n : ℕ) → Digits (decimal n)
unfolding decimal
decimal-digits n = by_digits (λ k n l. Digits l) (λ n. tt) (λ k n h. (omega arith, omega arith, tt)) (λ k n l h p. digits_more l (n % 10) (omega arith) p) most_digits n

module _ (n : ℕ) (h : n < 10 ^ most_digits) where
  decimal-some : decimal n ≢ []
  decimal-some e = go (eqb n 0) refl
    where
      go : (t : Bool) → eqb n 0 ≡ t → ⊥
      go true f = let z : ◌≡◌ {A = ℕ} 0 1 = cc (ap decimal (eqb-true n 0 f), decimal-zero) in omega arith
      go false f = let ne = eqb-false n 0 f in omega (arith, no-zero-first n h (omega arith), ap (λ (l : List ℕ). get_or l 0 0) e)

  decimal-first : (rest : List ℕ) → decimal n ≡ digit 0 ∷ rest → rest ≡ []
  decimal-first rest e = go (eqb n 0) refl
    where
      go : (t : Bool) → eqb n 0 ≡ t → rest ≡ []
      go true f = cc (ap decimal (eqb-true n 0 f), decimal-zero)
      go false f = let ne = eqb-false n 0 f in absurd (omega (arith, no-zero-first n h (omega arith), ap (λ (l : List ℕ). get_or l 0 0) e))

-- ---- the text
point-where-digits : (rest : ℕ) → fraction_text rest ≡ pointed (places most_places rest)
unfolding fraction_text
point-where-digits rest = go (eqb rest 0) refl
  where
    go : (t : Bool) → eqb rest 0 ≡ t → pick t [] (ascii "." ++ places most_places rest) ≡ pointed (places most_places rest)
    go true e = rw (no-places most_places rest (eqb-true rest 0 e))
    go false e = rw (more-places 9 rest (eqb-false rest 0 e))

below-zero : (z : ℤ) → lt_z z (pos 0) ≡ negative z
below-zero (pos n) = le-ltb n 0 (omega arith)
below-zero (negsuc n) = refl

abbrev decimal_of : ℤ → Decimal
decimal_of z = made (negative z) (decimal (nat_abs z / 1024)) (places most_places (nat_abs z % 1024))

text-is : (z : ℤ) → signed_text z ≡ written (decimal_of z)
unfolding signed_text unsigned_text
text-is z = rw (below-zero z, point-where-digits (nat_abs z % 1024))

pub value-append : (n : ℕ) (a b : List ℕ) → value_on n (a ++ b) ≡ value_on (value_on n a) b
value-append n [] b = refl
value-append n (c ∷ a) b = value-append (n * 10 + (c - 48)) a b

pub ten-pos : (k : ℕ) → 0 < 10 ^ k
ten-pos k = one-le-pow k 10 (omega arith)

-- of at most 256 g
module _ (z : ℤ) (few : nat_abs z ≤ 262144) where
  small : nat_abs z / 1024 < 10 ^ most_digits
  small = omega arith

  rest_below : nat_abs z % 1024 < 1024
  rest_below = omega arith

  read : read_decimal (signed_text z) ≡ decimal_of z
  read = ap read_decimal (text-is z) ∙ read-written (negative z) _ _ (decimal-digits (nat_abs z / 1024)) (decimal-some (nat_abs z / 1024) small)

  of-1024 : numerator (decimal_of z) * 1024 ≡ nat_abs z * denominator (decimal_of z)
  of-1024 =
      let w = nat_abs z / 1024 in
      let r = nat_abs z % 1024 in
      let whole : w * 1024 + r ≡ nat_abs z = omega arith in
      rw (value-append 0 (decimal w) (places most_places r), value-decimal w small) (places-value r rest_below w ∙ ap (λ (x : ℕ). x * 10 ^ length (places most_places r)) whole)

  pub says : Says (signed_text z) z 1024
  says = record { sign = ap (λ (d : Decimal). d.minus) read; value = rw read of-1024 }

  no-minus-zero : negative z ≡ true → 0 < numerator (decimal_of z)
  no-minus-zero m = go z m (numerator (decimal_of z)) of-1024
    where
      go : (z : ℤ) → negative z ≡ true → (p : ℕ) → p * 1024 ≡ nat_abs z * denominator (decimal_of z) → 0 < p
      go (pos n) m p e = let z : ◌≡◌ {A = ℕ} 0 1 = cc in absurd (omega arith)
      go (negsuc n) m zero e = absurd (omega (arith, mul-pos {m = suc n} (omega arith) (ten-pos (length (places most_places (suc n % 1024))))))
      go (negsuc n) m (suc p) e = omega arith

  pub plain : Plain (signed_text z)
  plain = record {
    parts = text-is z ∙ sym (ap written read);
    whole = rw read (decimal-digits (nat_abs z / 1024));
    fraction = rw read (places-digits (nat_abs z % 1024) rest_below);
    not_empty = rw read (decimal-some (nat_abs z / 1024) small);
    no_zero_first = rw read (decimal-first (nat_abs z / 1024) small);
    no_zero_last = rw read (places-last (nat_abs z % 1024) rest_below);
    no_minus_zero = rw read no-minus-zero;
  }
