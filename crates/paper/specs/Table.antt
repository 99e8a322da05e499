-- 01, "Register table", written down a second time, in the order and form of its text. No contract cites this: proofs/Table holds the
-- definitions that the contracts cite against it.
use Rattle.std.specs.Prelude.{ℕ, suc, ◌+◌, ◌-◌, Bool, List, [], ◌∷◌, ◌++◌, map, eqb}
use Rattle.laws.specs.Choice.{pick}
use Rattle.laws.specs.Table.{up_from}
use Rattle.laws.specs.Bits.{bit, worth}

-- ---- the rows
-- a row: its address, its reset byte and its write mask
pub record PaperRow : Type 0 where
  pub address : ℕ
  pub reset : ℕ
  pub mask : ℕ

-- "address: reset/mask", of one address, of two, and of a run of them with both its ends
infix 90 ◌∶◌∕◌
abbrev ◌∶◌∕◌ : ℕ → ℕ → ℕ → List PaperRow
a ∶ r ∕ m = record { address = a; reset = r; mask = m } ∷ []

infix 90 ◌and◌∶◌∕◌
abbrev ◌and◌∶◌∕◌ : ℕ → ℕ → ℕ → ℕ → List PaperRow
a and b ∶ r ∕ m = a ∶ r ∕ m ++ b ∶ r ∕ m

infix 90 ◌to◌∶◌∕◌
abbrev ◌to◌∶◌∕◌ : ℕ → ℕ → ℕ → ℕ → List PaperRow
a to b ∶ r ∕ m = up_from (λ k. record { address = k; reset = r; mask = m }) a (suc b - a)

-- "Reserved addresses 01, 0D, 15, 1C, 1D, 1F, 31, 35, 3D read 0xFF and ignore writes"
abbrev pub reserved_rows : List PaperRow
reserved_rows = map (λ a. record { address = a; reset = 0xFF; mask = 0x00 }) (0x01 ∷ 0x0D ∷ 0x15 ∷ 0x1C ∷ 0x1D ∷ 0x1F ∷ 0x31 ∷ 0x35 ∷ 0x3D ∷ [])

-- "Read-only: 00 (0xFA), 02 to 0C and 0E (0), 3F"; "Address 14 reads 0"
abbrev pub read_only_rows : List PaperRow
read_only_rows = 0x00 ∶ 0xFA ∕ 0x00 ++ 0x02 to 0x0C ∶ 0x00 ∕ 0x00 ++ 0x0E ∶ 0x00 ∕ 0x00 ++ 0x3F ∶ 0x00 ∕ 0x00 ++ 0x14 ∶ 0x00 ∕ 0x00

-- "Others, as address: reset/mask, all hex"
abbrev pub other_rows : List PaperRow
other_rows =
    0x0F ∶ 0x03 ∕ 0x0F ++ 0x10 ∶ 0x0F ∕ 0x1F ++ 0x11 ∶ 0x00 ∕ 0xFE ++ 0x12 ∶ 0x00 ∕ 0x60 ++ 0x13 ∶ 0x00 ∕ 0xC0 ++ 0x16 ∶ 0x00 ∕ 0xF7 ++
    0x17 ∶ 0x00 ∕ 0x7F ++ 0x18 ∶ 0x00 ∕ 0x0F ++ 0x19 ∶ 0x00 ∕ 0xFF ++ 0x1A ∶ 0x00 ∕ 0xE7 ++ 0x1B ∶ 0x00 ∕ 0xFF ++ 0x1E ∶ 0x00 ∕ 0x3F ++
    0x20 ∶ 0x05 ∕ 0x0F ++ 0x21 ∶ 0x00 ∕ 0x0F ++ 0x22 ∶ 0x09 ∕ 0xFF ++ 0x23 ∶ 0x30 ∕ 0xFF ++ 0x24 ∶ 0x81 ∕ 0xC7 ++ 0x25 ∶ 0x0F ∕ 0xFF ++
    0x26 ∶ 0xC0 ∕ 0xFF ++ 0x27 ∶ 0x00 ∕ 0xFF ++ 0x28 ∶ 0x14 ∕ 0xFF ++ 0x29 ∶ 0x14 ∕ 0xFF ++ 0x2A ∶ 0x04 ∕ 0xC7 ++ 0x2B ∶ 0x0A ∕ 0xDF ++
    0x2C ∶ 0x18 ∕ 0x7F ++ 0x2D ∶ 0x48 ∕ 0x7F ++ 0x2E ∶ 0x08 ∕ 0x3F ++ 0x2F ∶ 0x11 ∕ 0x37 ++ 0x30 ∶ 0x00 ∕ 0x3F ++ 0x32 ∶ 0x00 ∕ 0x07 ++
    0x33 ∶ 0xF4 ∕ 0x00 ++ 0x34 ∶ 0x00 ∕ 0x07 ++ 0x36 ∶ 0x10 ∕ 0x00 ++ 0x37 ∶ 0x00 ∕ 0x7F ++ 0x38 to 0x3A ∶ 0x00 ∕ 0xFF ++
    0x3B and 0x3C ∶ 0x00 ∕ 0xFF ++ 0x3E ∶ 0x00 ∕ 0xC3

-- "The table has 64 rows of reset byte and write mask"
unfoldable pub table_rows : List PaperRow
table_rows = reserved_rows ++ read_only_rows ++ other_rows

-- how many of the rows are of an address, and the sum of what f tells of these: where there is one, what it tells of that one
abbrev pub sum_at : (PaperRow → ℕ) → ℕ → List PaperRow → ℕ
sum_at f a [] = 0
sum_at f a (e ∷ es) = pick (eqb a e.address) (f e + sum_at f a es) (sum_at f a es)

abbrev pub rows_of : ℕ → ℕ
rows_of a = sum_at (λ e. 1) a table_rows

unfoldable pub reset_of : ℕ → ℕ
reset_of a = sum_at (λ e. e.reset) a table_rows

unfoldable pub mask_of : ℕ → ℕ
mask_of a = sum_at (λ e. e.mask) a table_rows

-- ---- the bits of a byte that is written to an address: "A write changes masked bits only; other bits keep their reset value"
-- the byte that has these bits
abbrev pub byte_of : (ℕ → Bool) → ℕ
byte_of b = worth 128 (b 7) + worth 64 (b 6) + worth 32 (b 5) + worth 16 (b 4) + worth 8 (b 3) + worth 4 (b 2) + worth 2 (b 1) + worth 1 (b 0)

unfoldable pub masked : ℕ → ℕ → ℕ
masked a byte = byte_of (λ k. pick (bit k (mask_of a)) (bit k byte) (bit k (reset_of a)))
