-- 01, "Register table": 64 rows of reset byte and write mask.
use Rattle.std.specs.Prelude.{ℕ, Bool, not, List, [], ◌∷◌, eqb, ltb}
use Rattle.std.specs.Int.Bits.{bit_and, bit_or, bit_xor}
use Rattle.laws.specs.Choice.{pick}
use Rattle.laws.specs.Lists.{is_in}
use Rattle.laws.specs.Table.{up_from}
use Rattle.table.specs.declared.Row.{Row}

-- a line of the paper: an address, a reset byte and a write mask
pub record PaperLine : Type 0 where
  pub address : ℕ
  pub reset : ℕ
  pub mask : ℕ

abbrev line : ℕ → ℕ → ℕ → PaperLine
line a r m = record { address = a; reset = r; mask = m }

-- "Others, as address: reset/mask"
unfoldable pub listed : List PaperLine
listed =
    line 0x0F 0x03 0x0F ∷ line 0x10 0x0F 0x1F ∷ line 0x11 0x00 0xFE ∷ line 0x12 0x00 0x60 ∷ line 0x13 0x00 0xC0 ∷ line 0x16 0x00 0xF7 ∷
    line 0x17 0x00 0x7F ∷ line 0x18 0x00 0x0F ∷ line 0x19 0x00 0xFF ∷ line 0x1A 0x00 0xE7 ∷ line 0x1B 0x00 0xFF ∷ line 0x1E 0x00 0x3F ∷
    line 0x20 0x05 0x0F ∷ line 0x21 0x00 0x0F ∷ line 0x22 0x09 0xFF ∷ line 0x23 0x30 0xFF ∷ line 0x24 0x81 0xC7 ∷ line 0x25 0x0F 0xFF ∷
    line 0x26 0xC0 0xFF ∷ line 0x27 0x00 0xFF ∷ line 0x28 0x14 0xFF ∷ line 0x29 0x14 0xFF ∷ line 0x2A 0x04 0xC7 ∷ line 0x2B 0x0A 0xDF ∷
    line 0x2C 0x18 0x7F ∷ line 0x2D 0x48 0x7F ∷ line 0x2E 0x08 0x3F ∷ line 0x2F 0x11 0x37 ∷ line 0x30 0x00 0x3F ∷ line 0x32 0x00 0x07 ∷
    line 0x33 0xF4 0x00 ∷ line 0x34 0x00 0x07 ∷ line 0x36 0x10 0x00 ∷ line 0x37 0x00 0x7F ∷ line 0x38 0x00 0xFF ∷ line 0x39 0x00 0xFF ∷
    line 0x3A 0x00 0xFF ∷ line 0x3B 0x00 0xFF ∷ line 0x3C 0x00 0xFF ∷ line 0x3E 0x00 0xC3 ∷ []

-- "Reserved addresses .. read 0xFF and ignore writes"
unfoldable pub reserved_addresses : List ℕ
reserved_addresses = 0x01 ∷ 0x0D ∷ 0x15 ∷ 0x1C ∷ 0x1D ∷ 0x1F ∷ 0x31 ∷ 0x35 ∷ 0x3D ∷ []

-- the line of an address, or other where none is listed
abbrev pub find : List PaperLine → ℕ → PaperLine → PaperLine
find [] a other = other
find (l ∷ ls) a other = pick (eqb a l.address) l (find ls a other)

-- what is not listed and not reserved is read-only and 0 at reset: 02 to 0C, 0E, 3F, and 14, which reads 0.
-- At 00 the device puts its chip number
unfoldable pub paper_line_of : ℕ → PaperLine
paper_line_of a = find listed a (pick (is_in reserved_addresses a) (line a 0xFF 0) (line a 0 0))

-- "Refused 3: a 1 in .."; by Q-1 the number is the register's. An address, with those bits as the mask. Q-7: "13 no longer for 0x38 to 0x3A"
unfoldable pub refused_bits : List PaperLine
refused_bits = line 0x11 0 0xE0 ∷ line 0x16 0 0xF0 ∷ line 0x32 0 0x03 ∷ line 0x33 0 0x0B ∷ line 0x36 0 0xE7 ∷ []

unfoldable pub row_of : ℕ → Row
row_of a = record { 0 = (paper_line_of a).reset; 1 = (paper_line_of a).mask; 2 = (find refused_bits a (line a 0 0)).mask }

-- the row of an address; past 0x3F there is none
unfoldable pub row_at : ℕ → Row
row_at a = pick (ltb a 64) (row_of a) (record { 0 = 0; 1 = 0; 2 = 0 })

unfoldable pub reset_bytes : List ℕ
reset_bytes = up_from (λ a. (row_of a).0) 0 64

-- one name that opens all of the table, for what is proved by computation
unfoldable pub the_table : ℕ
unfolding listed reserved_addresses paper_line_of refused_bits row_of row_at reset_bytes
the_table = 0

-- "A write changes masked bits only; other bits keep their reset value"
abbrev pub merged : Row → ℕ → ℕ
merged row byte = bit_or (bit_and byte row.1) (bit_and row.0 (bit_xor row.1 0xFF))

-- whether some bit of the register can be written
abbrev pub writable : ℕ → Bool
writable a = not (eqb (row_at a).1 0)
