-- The numerals mean what they say: a reader of decimal digits gets the number back, and one of capital hex the bytes.
-- A number's numeral has nothing but digits, and a zero in front for 0 alone; bytes in hex are digits and capital letters and nothing else.
-- Assumes nothing.
use Prim.Native.Nat.{ℕ, zero, suc, ◌+◌, ◌-◌, ◌*◌, ◌/◌, ◌%◌, ◌^◌, ◌≤◌, ◌<◌}
use mathlib.Core.Bool.{Bool, true, false}
use mathlib.Core.List.Memᴰ
use mathlib.Core.List.{List, [], ◌∷◌, ◌++◌, Memᴰ}
use mathlib.Core.Logic.{◌⊎◌, inl, inr, ⊎_elim}
use mathlib.Core.Path.{◌≡◌, refl, ◌∙◌}
use native.Mathlib.Omega.{arith}
use native.Mathlib.Nat.{pow-suc}
use lib.ListN.{length, get_or}
use lib.Dec.{ltb}
use borrow.Author.Tests.{ltb-true, ltb-false, lt-ltb, le-ltb}
use Rattle.laws.specs.Choice.{pick}
use Rattle.benchlog.specs.Whole.{Bytes}
use Rattle.text.specs.Text.{digit, hex_digit, last_digits, most_digits, decimal, hex, value, value_on, hex_value, unhex}
use Rattle.text.proofs.Texts.{by_digits}

value-more : (n : ℕ) (cs : List ℕ) (d : ℕ) → value_on n (cs ++ (digit d ∷ [])) ≡ value_on n cs * 10 + d
value-more n [] d = omega arith
value-more n (c ∷ cs) d = value-more (n * 10 + (c - 48)) cs d

-- every number of 64 bits is such a number
pub wide_enough : 2 ^ 64 < 10 ^ most_digits
wide_enough = omega arith

pub value-decimal : (n : ℕ) → n < 10 ^ most_digits → value (decimal n) ≡ n
unfolding decimal
value-decimal n = by_digits (λ k n l. n < 10 ^ k → value l ≡ n)
    (λ n h. omega arith)
    (λ k n h _. omega arith)
    (λ k n l h m w. value-more 0 l (n % 10) ∙ rw (m (omega (arith, pow-suc 10 k))) (omega arith))
    most_digits n

pub digits-only : (n c : ℕ) → Memᴰ c (decimal n) → (digit 0 ≤ c) × (c ≤ digit 9)
unfolding decimal
digits-only n c = by_digits (λ k n l. Memᴰ c l → (digit 0 ≤ c) × (c ≤ digit 9))
    (λ n m. absurd (Memᴰ.not-nil m))
    (λ k n h m. let e = Memᴰ.eq_of_singleton m in (omega arith, omega arith))
    (λ k n l h d m. ⊎_elim d (λ w. let e = Memᴰ.eq_of_singleton w in (omega arith, omega arith)) (Memᴰ.append_cases l m))
    most_digits n

-- the numeral of 0 is a zero; that of any other number starts with another digit
pub decimal-zero : decimal 0 ≡ digit 0 ∷ []
unfolding decimal last_digits
decimal-zero = refl

pub no-zero-first : (n : ℕ) → n < 10 ^ most_digits → 0 < n → digit 0 < get_or (decimal n) 0 0
unfolding decimal
no-zero-first n = by_digits (λ k n l. n < 10 ^ k → 0 < n → digit 0 < get_or l 0 0)
    (λ n h p. absurd (omega arith))
    (λ k n h _ p. omega arith)
    (λ k n l h m w p. starts l (n % 10) (m (omega (arith, pow-suc 10 k)) (omega arith)))
    most_digits n
  where
    starts : (l : List ℕ) (d : ℕ) → digit 0 < get_or l 0 0 → digit 0 < get_or (l ++ (digit d ∷ [])) 0 0
    starts [] d h = absurd (omega arith)
    starts (c ∷ l) d h = h

-- ---- hex
hex-value : (d : ℕ) → hex_value (hex_digit d) ≡ d
hex-value d = go (ltb d 10) refl
  where
    go : (t : Bool) → ltb d 10 ≡ t → hex_value (pick t (digit d) (55 + d)) ≡ d
    go true e = let h = ltb-true d 10 e in rw (lt-ltb (48 + d) 58 (omega arith)) (omega arith)
    go false e = let h = ltb-false d 10 e in rw (le-ltb (55 + d) 58 (omega arith)) (omega arith)

pub unhex-hex : (bs : List ℕ) → unhex (hex bs) ≡ bs
unhex-hex [] = refl
unhex-hex (b ∷ bs) =
    let whole : b / 16 * 16 + b % 16 ≡ b = omega arith in
    rw (hex-value (b / 16), hex-value (b % 16), whole, unhex-hex bs)

-- "capital hex": the characters 0 to 9 and A to F
abbrev pub CapitalHex : ℕ → Type 0
CapitalHex c = ((48 ≤ c) × (c ≤ 57)) ⊎ ((65 ≤ c) × (c ≤ 70))

capital-digit : (d : ℕ) → d < 16 → CapitalHex (hex_digit d)
capital-digit d small = go (ltb d 10) refl
  where
    go : (t : Bool) → ltb d 10 ≡ t → CapitalHex (pick t (digit d) (55 + d))
    go true e = let h = ltb-true d 10 e in inl (omega arith, omega arith)
    go false e = let h = ltb-false d 10 e in inr (omega arith, omega arith)

-- every character of bytes in hex is one of these, two for each byte
pub capital-hex : (bs : List ℕ) → Bytes bs → (i : ℕ) → i < length (hex bs) → CapitalHex (get_or (hex bs) i 0)
capital-hex [] are i h = absurd (omega arith)
capital-hex (b ∷ bs) are zero h = capital-digit (b / 16) (omega (arith, are 0))
capital-hex (b ∷ bs) are (suc zero) h = capital-digit (b % 16) (omega arith)
capital-hex (b ∷ bs) are (suc (suc i)) h = capital-hex bs (λ j. are (suc j)) i (omega arith)
