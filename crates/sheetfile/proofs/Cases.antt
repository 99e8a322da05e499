-- The bytes of one month, written out: each number in its place, the highest byte first. The round trips hold of any places; this holds them here.
-- Assumes nothing.
use Prim.Native.Nat.{ℕ}
use mathlib.Core.List.{List, [], ◌∷◌, ◌++◌}
use mathlib.Core.Path.{◌≡◌, refl}
use lib.IntN.{ℤ, pos, negsuc}
use Rattle.sheets.specs.Sheets.{no_tally, from_to}
use Rattle.sheets.specs.declared.Month.{Month}
use Rattle.sheets.specs.declared.Tally.{Tally}
use Rattle.sheetfile.specs.Format.{big_endian8, tally_bytes, axes_bytes, ranges_bytes, head_bytes, four_numbers, counts_bytes, encode}

abbrev tally : ℤ → ℤ → ℤ → Tally
tally smallest largest sum = record { extremes = from_to smallest largest; sum = sum }

-- x at 2 g, y at 4 g, z at 8 g, x at 16 g
abbrev one : Month
one = record {
  sheet = record {
    accepted = 0x0102030405060708;
    taken = 2;
    held = 3;
    lost = 4;
    cleared = 5;
    clock = 6;
    ranges = record {
      g2 = record { x = tally (negsuc 2047) (pos 2047) (negsuc 0); y = no_tally; z = no_tally };
      g4 = record { x = no_tally; y = tally (pos 1) (pos 2) (pos 3); z = no_tally };
      g8 = record { x = no_tally; y = no_tally; z = tally (pos 4) (pos 5) (pos 6) };
      g16 = record { x = tally (pos 7) (pos 8) (pos 0x0102030405060708); y = no_tally; z = no_tally };
    };
  };
  logs = 7;
  refused = 8;
}

-- a number below 256 in eight bytes, and a tally of no sample
abbrev low : ℕ → List ℕ
low n = 0 ∷ 0 ∷ 0 ∷ 0 ∷ 0 ∷ 0 ∷ 0 ∷ n ∷ []

abbrev none : List ℕ
none = 0 ∷ 0 ∷ 0 ∷ 0 ∷ 0 ∷ low 0

pub written_out : encode one
    ≡ (0x50 ∷ 0x53 ∷ 0x48 ∷ 0x54 ∷ 1 ∷ 1 ∷ 2 ∷ 3 ∷ 4 ∷ 5 ∷ 6 ∷ 7 ∷ 8 ∷ [])
    ++ (low 2 ++ (low 3 ++ (low 4 ++ (low 5 ++ (low 6 ++ (low 7 ++ (low 8
    ++ ((1 ∷ 0xF8 ∷ 0 ∷ 7 ∷ 0xFF ∷ 0xFF ∷ 0xFF ∷ 0xFF ∷ 0xFF ∷ 0xFF ∷ 0xFF ∷ 0xFF ∷ 0xFF ∷ []) ++ (none ++ (none
    ++ (none ++ ((1 ∷ 0 ∷ 1 ∷ 0 ∷ 2 ∷ low 3) ++ (none
    ++ (none ++ (none ++ ((1 ∷ 0 ∷ 4 ∷ 0 ∷ 5 ∷ low 6)
    ++ ((1 ∷ 0 ∷ 7 ∷ 0 ∷ 8 ∷ 1 ∷ 2 ∷ 3 ∷ 4 ∷ 5 ∷ 6 ∷ 7 ∷ 8 ∷ []) ++ (none ++ none))))))))))))))))))
unfolding big_endian8 tally_bytes axes_bytes ranges_bytes head_bytes four_numbers counts_bytes encode
written_out = refl
