-- 01, "Register table", 0F: the measuring ranges, in its words. No contract cites this.
use Rattle.std.specs.Prelude.{ℕ, ◌%◌, Bool, List, [], ◌∷◌, map}
use Rattle.laws.specs.Keys.{Key, ◌means◌, meaning_of}
use Rattle.laws.specs.Lists.{is_in}

-- "the codes 0011, 0101, 1000 and 1100 mean 2, 4, 8 and 16 g"
abbrev pub ranges : List (Key ℕ)
ranges = 0b0011 means 2 ∷ 0b0101 means 4 ∷ 0b1000 means 8 ∷ 0b1100 means 16 ∷ []

-- so many g, by the low nibble of a byte; 0 where it is none of the four
abbrev pub g_by : ℕ → ℕ
g_by byte = meaning_of ranges 0 (byte % 16)

-- not "every other low nibble"
abbrev pub is_known_range : ℕ → Bool
is_known_range byte = is_in (map (λ (k : Key ℕ). k.code) ranges) (byte % 16)
