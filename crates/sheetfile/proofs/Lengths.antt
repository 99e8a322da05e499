-- How many bytes the parts of a month have.
-- Assumes nothing.
use Prim.Native.Nat.{ℕ}
use mathlib.Core.Path.{◌≡◌, refl}
use lib.ListN.{length, length-append}
use Rattle.sheets.specs.declared.Tally.{Tally}
use Rattle.sheets.specs.declared.ByAxis.{ByAxis}
use Rattle.sheets.specs.declared.ByRange.{ByRange}
use Rattle.sheets.specs.declared.Month.{Month}
use Rattle.sheetfile.specs.Format.{big_endian8, tally_bytes, axes_bytes, ranges_bytes, head_bytes, four_numbers, counts_bytes, encode, size}

pub length-eight : (n : ℕ) → length (big_endian8 n) ≡ 8
unfolding big_endian8
length-eight n = refl

pub length-tally : (t : Tally) → length (tally_bytes t) ≡ 13
unfolding big_endian8 tally_bytes
length-tally t = refl

pub length-axes : (a : ByAxis) → length (axes_bytes a) ≡ 39
unfolding axes_bytes
length-axes a = simp (length-append, length-tally)

pub length-ranges : (r : ByRange) → length (ranges_bytes r) ≡ 156
unfolding ranges_bytes
length-ranges r = simp (length-append, length-axes)

pub length-head : length head_bytes ≡ 5
unfolding head_bytes
length-head = refl

pub length-four : (a b c d : ℕ) → length (four_numbers a b c d) ≡ 32
unfolding four_numbers
length-four a b c d = simp (length-append, length-eight)

pub length-counts : (m : Month) → length (counts_bytes m) ≡ 64
unfolding counts_bytes
length-counts m = simp (length-append, length-four)

pub length-encode : (m : Month) → length (encode m) ≡ size
unfolding encode
length-encode m = simp (length-append, length-head, length-counts, length-ranges)
