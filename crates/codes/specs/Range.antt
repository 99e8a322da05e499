-- 01, "Register table", 0F: the measuring range.
use Rattle.std.specs.Prelude.{ℕ, ◌%◌, Bool, true, false, List, [], ◌∷◌}
use Rattle.laws.specs.Keys.{Key, ◌means◌, meaning_of}
use Rattle.codes.specs.declared.Range.{Range}
use Rattle.codes.specs.declared.Range.TheVariants.{G2, G4, G8, G16, Reserved}

-- "the codes 0011, 0101, 1000 and 1100 mean 2, 4, 8 and 16 g; every other low nibble is refused 2"
abbrev pub ranges : List (Key Range)
ranges = 0b0011 means G2 ∷ 0b0101 means G4 ∷ 0b1000 means G8 ∷ 0b1100 means G16 ∷ []

unfoldable pub range_of : ℕ → Range
range_of byte = meaning_of ranges Reserved (byte % 16)

abbrev pub is_reserved_range : Range → Bool
is_reserved_range G2 = false
is_reserved_range G4 = false
is_reserved_range G8 = false
is_reserved_range G16 = false
is_reserved_range Reserved = true
