-- Q-8: what is promised of a count in g, apart from the code: of its float, and of its text as a reader takes it apart. No contract cites
-- these.
use Rattle.std.specs.Prelude.{ℕ, ◌*◌, ◌^◌, ◌≤◌, ◌<◌, Bool, true, false, List, [], ◌∷◌, ◌++◌, ◌≢◌, ◌≡◌, eqb, ℤ, nat_abs, length}
use Rattle.std.specs.Float.Ieee.Exact.{HasValue}
use Rattle.laws.specs.Choice.{pick}
use Rattle.codes.specs.declared.Range.{Range}
use Rattle.codes.specs.declared.Range.TheVariants.{G2, G4, G8, G16}
use Rattle.text.specs.Text.{ascii, digit, value}
use Rattle.measure.specs.Measure.{negative, in_g, whole1024ths, signed_text, g_text}

-- ---- the float
-- "the count times 1/1024, 1/512, 1/256 or 1/128 by range, which loses nothing": the float is that number, with the count's sign
pub record LosesNothing (count : ℤ) : Type 0 where
  pub at2g : HasValue (in_g count G2) (negative count) (nat_abs count) 1024
  pub at4g : HasValue (in_g count G4) (negative count) (nat_abs count) 512
  pub at8g : HasValue (in_g count G8) (negative count) (nat_abs count) 256
  pub at16g : HasValue (in_g count G16) (negative count) (nat_abs count) 128

-- ---- a decimal number: whether a minus is in front, what is before the point, and what is behind it
pub record Decimal : Type 0 where
  pub minus : Bool
  pub whole : List ℕ
  pub fraction : List ℕ

abbrev pub is_minus : ℕ → Bool
is_minus c = eqb c 45

abbrev pub is_point : ℕ → Bool
is_point c = eqb c 46

abbrev pub before_point : List ℕ → List ℕ
before_point [] = []
before_point (c ∷ cs) = pick (is_point c) [] (c ∷ before_point cs)

abbrev pub behind_point : List ℕ → List ℕ
behind_point [] = []
behind_point (c ∷ cs) = pick (is_point c) cs (behind_point cs)

abbrev pub signed : Bool → List ℕ → Decimal
signed minus text = record { minus = minus; whole = before_point text; fraction = behind_point text }

abbrev pub read_decimal : List ℕ → Decimal
read_decimal [] = signed false []
read_decimal (c ∷ cs) = pick (is_minus c) (signed true cs) (signed false (c ∷ cs))

-- it stands for numerator / denominator
abbrev pub numerator : Decimal → ℕ
numerator d = value (d.whole ++ d.fraction)

abbrev pub denominator : Decimal → ℕ
denominator d = 10 ^ length d.fraction

-- and is written with a point only where something is behind it
abbrev pub pointed : List ℕ → List ℕ
pointed [] = []
pointed (c ∷ cs) = ascii "." ++ (c ∷ cs)

abbrev pub written : Decimal → List ℕ
written d = pick d.minus (ascii "-") [] ++ (d.whole ++ pointed d.fraction)

-- nothing but digits
abbrev pub Digits : List ℕ → Type 0
Digits [] = Unit {0}
Digits (c ∷ cs) = (digit 0 ≤ c) × (c ≤ digit 9) × Digits cs

-- "the exact decimal (`-2`, `0.2841796875`: no zeros at the end, no exponent)"
pub record Plain (text : List ℕ) : Type 0 where
  -- a minus or none, digits, and a point with digits behind it or none: nothing else, and so no exponent
  pub parts : text ≡ written (read_decimal text)
  pub whole : Digits (read_decimal text).whole
  pub fraction : Digits (read_decimal text).fraction
  -- a digit before the point, and a zero in front only where it is the only one
  pub not_empty : (read_decimal text).whole ≢ []
  pub no_zero_first : (rest : List ℕ) → (read_decimal text).whole ≡ ascii "0" ++ rest → rest ≡ []
  pub no_zero_last : (front : List ℕ) → (read_decimal text).fraction ≢ front ++ ascii "0"
  pub no_minus_zero : (read_decimal text).minus ≡ true → 0 < numerator (read_decimal text)

-- ---- the text
-- where a g is so many counts: it stands for the count divided by them, and has a minus exactly where the count is negative
pub record Says (text : List ℕ) (count : ℤ) (per_g : ℕ) : Type 0 where
  pub sign : (read_decimal text).minus ≡ negative count
  pub value : numerator (read_decimal text) * per_g ≡ nat_abs count * denominator (read_decimal text)

-- it says so, and no other plain text does
pub record Exactly (text : List ℕ) (count : ℤ) (per_g : ℕ) : Type 0 where
  pub says : Says text count per_g
  pub only : (other : List ℕ) → Plain other → Says other count per_g → other ≡ text

pub record ExactText (count : ℤ) : Type 0 where
  pub at2g : Exactly (g_text count G2) count 1024
  pub at4g : Exactly (g_text count G4) count 512
  pub at8g : Exactly (g_text count G8) count 256
  pub at16g : Exactly (g_text count G16) count 128
  pub plain : (range : Range) → Plain (g_text count range)
  -- and so it stands for the float itself, and hangs on nothing else
  pub float : (range : Range) → let d = read_decimal (g_text count range) in HasValue (in_g count range) d.minus (numerator d) (denominator d)
  pub from : (range : Range) → g_text count range ≡ signed_text (whole1024ths (in_g count range))
