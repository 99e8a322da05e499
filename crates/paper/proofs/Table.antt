-- 01's register table, as its text has it, is the one that the contracts cite: row by row, byte by byte, by computation.
-- Assumes nothing.
use Prim.Native.Nat.{ℕ, ◌<◌}
use mathlib.Core.Bool.{Bool, true, false}
use mathlib.Core.Path.{◌≡◌, refl, sym, ◌∙◌}
use native.Mathlib.Omega.{arith}
use lib.Bits.{bit_and, bit_xor, and_le_r, and_le_l, or_lt}
use lib.Dec.{eqb, ltb}
use lib.ListN.{length, get_or}
use borrow.Author.Tests.{eqb-true, not-false, ltb-true}
use Rattle.laws.specs.Choice.{pick}
use Rattle.laws.specs.Bits.{bit}
use Rattle.laws.proofs.Bits.{worth-most}
use Rattle.laws.proofs.Finite.{alike}
use Rattle.table.specs.Rows.{row_at, merged, writable, the_table}
use Rattle.device.specs.Device.{first_bytes}
use Rattle.paper.specs.Table.{table_rows, rows_of, reset_of, mask_of, byte_of, masked}
use Rattle.paper.proofs.Bits.{bit-merged}

-- ---- the rows
-- "The table has 64 rows": one of each address, and no more
pub one_each : length table_rows ≡ 64
unfolding table_rows
one_each = refl

pub one-row : (a : ℕ) → a < 64 → rows_of a ≡ 1
unfolding table_rows
one-row = alike rows_of (λ a. 1) 64 refl

pub reset-is : (a : ℕ) → a < 64 → get_or first_bytes a 0 ≡ reset_of a
unfolding table_rows reset_of first_bytes the_table
reset-is = alike (λ a. get_or first_bytes a 0) reset_of 64 refl

pub mask_is : (a : ℕ) → a < 64 → (row_at a).1 ≡ mask_of a
unfolding table_rows mask_of the_table
mask_is = alike (λ a. (row_at a).1) mask_of 64 refl

-- ---- the byte that is stored
byte-bits : (n : ℕ) → n < 256 → n ≡ byte_of (λ k. bit k n)
unfolding bit
byte-bits = alike (λ n. n) (λ n. byte_of (λ k. bit k n)) 256 refl

-- what the row of an address that can be written has, as 01 has it
row-reset : (a : ℕ) → a < 64 → writable a ≡ true → (row_at a).0 ≡ reset_of a
unfolding table_rows reset_of the_table
row-reset a h w =
    let e = alike (λ i. pick (writable i) (row_at i).0 0) (λ i. pick (writable i) (reset_of i) 0) 64 refl a h in
    rw w at e

pub reset-small : (a : ℕ) → a < 64 → reset_of a < 256
unfolding table_rows reset_of
reset-small a h = ltb-true (reset_of a) 256 (alike (λ i. ltb (reset_of i) 256) (λ i. true) 64 refl a h)

mask-small : (a : ℕ) → a < 64 → mask_of a < 256
unfolding table_rows mask_of
mask-small a h = ltb-true (mask_of a) 256 (alike (λ i. ltb (mask_of i) 256) (λ i. true) 64 refl a h)

pub masked-is : (a byte : ℕ) → a < 64 → writable a ≡ true → merged (row_at a) byte ≡ masked a byte
unfolding masked
masked-is a byte h w =
    let r = row_at a in
    let m : r.1 < 256 = rw (mask_is a h) (mask-small a h) in
    let s : r.0 < 256 = rw (row-reset a h w) (reset-small a h) in
    let small : merged r byte < 256 = or_lt 8 (bit_and byte r.1) (bit_and r.0 (bit_xor r.1 0xFF)) (omega (arith, and_le_r byte r.1)) (omega (arith, and_le_l r.0 (bit_xor r.1 0xFF))) in
    let b : (k : ℕ) → k < 8 → bit k (merged r byte) ≡ pick (bit k (mask_of a)) (bit k byte) (bit k (reset_of a)) =
    λ k l. bit-merged r byte k l ∙ rw (mask_is a h, row-reset a h w) in
    byte-bits (merged r byte) small
    ∙ rw (b 7 (omega arith), b 6 (omega arith), b 5 (omega arith), b 4 (omega arith), b 3 (omega arith), b 2 (omega arith), b 1 (omega arith), b 0 (omega arith))

-- it is a byte
byte-most : (f : ℕ → Bool) → byte_of f < 256
byte-most f =
    omega (
      arith,
      worth-most 128 (f 7),
      worth-most 64 (f 6),
      worth-most 32 (f 5),
      worth-most 16 (f 4),
      worth-most 8 (f 3),
      worth-most 4 (f 2),
      worth-most 2 (f 1),
      worth-most 1 (f 0),
    )

pub masked_small : (a byte : ℕ) → masked a byte < 256
unfolding masked
masked_small a byte = byte-most (λ k. pick (bit k (mask_of a)) (bit k byte) (bit k (reset_of a)))

-- where no bit can be written, the reset byte stays
no-mask : (a : ℕ) → a < 64 → writable a ≡ false → mask_of a ≡ 0
no-mask a h w = sym (mask_is a h) ∙ eqb-true (row_at a).1 0 (not-false (eqb (row_at a).1 0) w)

pub masked-none : (a byte : ℕ) → a < 64 → writable a ≡ false → masked a byte ≡ reset_of a
unfolding masked bit
masked-none a byte h w =
    rw (no-mask a h w) (sym (byte-bits (reset_of a) (reset-small a h)))

-- so a bit of what is stored is the byte's where the mask has it, and the reset byte's elsewhere
pub masked-bit : (a byte k : ℕ) → a < 64 → k < 8 → bit k (masked a byte) ≡ pick (bit k (mask_of a)) (bit k byte) (bit k (reset_of a))
masked-bit a byte k h l = go (writable a) refl
  where
    go : (w : Bool) → writable a ≡ w → bit k (masked a byte) ≡ pick (bit k (mask_of a)) (bit k byte) (bit k (reset_of a))
    go true w = rw (← masked-is a byte h w) (bit-merged (row_at a) byte k l ∙ rw (mask_is a h, row-reset a h w))
    go false w =
        let none : bit k 0 ≡ false = alike (λ i. bit i 0) (λ i. false) 8 (unfold bit in refl) k l in
        rw (masked-none a byte h w, no-mask a h w, none)
