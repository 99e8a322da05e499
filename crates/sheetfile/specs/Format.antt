-- Q-8: "`--raw` writes a sheet as bytes (a mark, a version, fixed big-endian fields)": the bytes of a month, always 225.
use Rattle.std.specs.Prelude.{ℕ, ◌/◌, ◌%◌, List, [], ◌∷◌, ◌++◌, Option, Some, None, ℤ, pos}
use Rattle.std.specs.Int.{w64}
use Rattle.std.proofs.Common.{of_z}
use Rattle.benchlog.specs.Format.{big_endian4, signed}
use Rattle.sheets.specs.declared.Extremes.{Extremes}
use Rattle.sheets.specs.declared.Tally.{Tally}
use Rattle.sheets.specs.declared.ByAxis.{ByAxis}
use Rattle.sheets.specs.declared.ByRange.{ByRange}
use Rattle.sheets.specs.declared.Month.{Month}

-- the letters PSHT, as one number of 32 bits
abbrev pub mark : ℕ
mark = 0x50534854

abbrev pub version : ℕ
version = 1

-- ---- where the parts of a month stand, and how many bytes they have
abbrev pub number_length : ℕ
number_length = 8

abbrev pub tally_length : ℕ
tally_length = 13

abbrev pub axes_length : ℕ
axes_length = 39

abbrev pub counts_place : ℕ
counts_place = 5

abbrev pub ranges_place : ℕ
ranges_place = 69

abbrev pub size : ℕ
size = 225

-- ---- a number's eight bytes, the highest first: those of its higher 32 bits, then those of its lower
unfoldable pub big_endian8 : ℕ → List ℕ
big_endian8 n = big_endian4 (n / 4294967296) ++ big_endian4 (n % 4294967296)

-- two's complement
abbrev pub signed8 : ℤ → List ℕ
signed8 z = big_endian8 (of_z w64 z)

-- ---- a tally: 1 where a sample came and 0 where none did, the smallest, the largest, the sum
abbrev pub flag_of : Option Extremes → ℕ
flag_of None = 0
flag_of (Some e) = 1

-- 0 where no sample came
abbrev pub smallest_of : Option Extremes → ℤ
smallest_of None = pos 0
smallest_of (Some e) = e.smallest

abbrev pub largest_of : Option Extremes → ℤ
largest_of None = pos 0
largest_of (Some e) = e.largest

unfoldable pub tally_bytes : Tally → List ℕ
tally_bytes t = flag_of t.extremes ∷ signed (smallest_of t.extremes) ++ signed (largest_of t.extremes) ++ signed8 t.sum

unfoldable pub axes_bytes : ByAxis → List ℕ
axes_bytes a = tally_bytes a.x ++ tally_bytes a.y ++ tally_bytes a.z

unfoldable pub ranges_bytes : ByRange → List ℕ
ranges_bytes r = axes_bytes r.g2 ++ axes_bytes r.g4 ++ axes_bytes r.g8 ++ axes_bytes r.g16

-- ---- a month
unfoldable pub head_bytes : List ℕ
head_bytes = big_endian4 mark ++ version ∷ []

unfoldable pub four_numbers : ℕ → ℕ → ℕ → ℕ → List ℕ
four_numbers a b c d = big_endian8 a ++ big_endian8 b ++ big_endian8 c ++ big_endian8 d

unfoldable pub counts_bytes : Month → List ℕ
counts_bytes m =
    four_numbers m.sheet.accepted m.sheet.taken m.sheet.held m.sheet.lost
    ++ four_numbers m.sheet.cleared m.sheet.clock m.logs m.refused

unfoldable pub encode : Month → List ℕ
encode m = head_bytes ++ counts_bytes m ++ ranges_bytes m.sheet.ranges
