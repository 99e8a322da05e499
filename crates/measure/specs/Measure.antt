-- Q-8: "each extreme in g as a 32-bit float: the count times 1/1024, 1/512, 1/256 or 1/128 by range, which loses nothing".
use Rattle.std.specs.Prelude.{ℕ, zero, suc, ◌+◌, ◌*◌, ◌/◌, ◌%◌, Bool, true, false, List, [], ◌∷◌, ◌++◌, eqb, ℤ, pos, negsuc, nat_abs, ◌*ℤ◌, Float}
use Rattle.std.specs.Int.Signed.{lt_z}
use Rattle.std.specs.Float.{fin, binary32}
use Rattle.std.specs.Float.Ieee.{mul, round, to_signed}
use Rattle.laws.specs.Choice.{pick}
use Rattle.codes.specs.declared.Range.{Range}
use Rattle.codes.specs.declared.Range.TheVariants.{G2, G4, G8, G16, Reserved}
use Rattle.text.specs.Text.{ascii, digit, decimal}

abbrev pub negative : ℤ → Bool
negative (pos n) = false
negative (negsuc n) = true

-- ---- the float
-- the 32-bit float nearest to a count divided by so many; specs/Promise says that it is that number itself
unfoldable pub divided : ℤ → ℕ → Float
divided count by = round binary32 (negative count) (nat_abs count) by

-- a g is 1024 counts at 2 g, 512 at 4 g, 256 at 8 g and 128 at 16 g; of a reserved range nothing is known, and it is 0
abbrev pub in_g : ℤ → Range → Float
in_g count G2 = divided count 1024
in_g count G4 = divided count 512
in_g count G8 = divided count 256
in_g count G16 = divided count 128
in_g count Reserved = fin false 0 (pos 0)

-- ---- in 1/1024 g
-- 1024 times a float: 1 * 2 ^ 10 is the float 1024
abbrev pub times1024 : Float → Float
times1024 g = mul binary32 g (fin false 1 (pos 10))

-- and the number of 32 bits that a cast makes of that
abbrev pub whole1024ths : Float → ℤ
whole1024ths g = to_signed 31 (times1024 g)

-- how many 1/1024 g a count is; specs/Promise says that the float gives the same number
abbrev pub in1024ths : ℤ → Range → ℤ
in1024ths count G2 = count
in1024ths count G4 = pos 2 *ℤ count
in1024ths count G8 = pos 4 *ℤ count
in1024ths count G16 = pos 8 *ℤ count
in1024ths count Reserved = pos 0

-- ---- the text: "the exact decimal (`-2`, `0.2841796875`: no zeros at the end, no exponent)"
-- the digits of rest / 1024 behind the point, by long division, until nothing is left; so many at most. A rest below 1024 is
-- gone after ten, as specs/Promise has it
unfoldable pub places : ℕ → ℕ → List ℕ
places zero rest = []
places (suc k) rest = pick (eqb rest 0) [] (digit (rest * 10 / 1024) ∷ places k (rest * 10 % 1024))

abbrev pub most_places : ℕ
most_places = 10

-- a point with the digits behind it, where there are any
unfoldable pub fraction_text : ℕ → List ℕ
fraction_text rest = pick (eqb rest 0) [] (ascii "." ++ places most_places rest)

-- n / 1024, in decimal
unfoldable pub unsigned_text : ℕ → List ℕ
unsigned_text n = decimal (n / 1024) ++ fraction_text (n % 1024)

unfoldable pub signed_text : ℤ → List ℕ
signed_text n = pick (lt_z n (pos 0)) (ascii "-") [] ++ unsigned_text (nat_abs n)

-- a count in g
unfoldable pub g_text : ℤ → Range → List ℕ
g_text count range = signed_text (in1024ths count range)

-- a sign, three digits, the point and ten digits: no count of 16 bits has a longer text
abbrev pub longest_g : ℕ
longest_g = 5 + most_places
