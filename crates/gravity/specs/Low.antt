-- Q-5, low-g: what a sample shows.
use Rattle.std.specs.Prelude.{ℕ, ◌+◌, ◌*◌, ◌%◌, Bool, false, ltb, ℤ, nat_abs}
use Rattle.laws.specs.Choice.{pick, both}
use Rattle.laws.specs.Bits.{bit}
use Rattle.codes.specs.Range.{range_of}
use Rattle.codes.specs.declared.Range.{Range}
use Rattle.codes.specs.declared.Range.TheVariants.{G2, G4, G8, G16, Reserved}
use Rattle.spell.specs.declared.Shown.{Shown}
use Rattle.spell.specs.declared.Shown.TheVariants.{Nothing, Met, Unmet, FarFromMet}

-- "every axis size, or in sum mode .. their sum, .. is below", of the sizes
unfoldable pub are_below : Bool → ℕ → ℕ → ℕ → ℕ → Bool
are_below summed limit x y z = pick summed (ltb (x + y + z) limit) (both (ltb x limit) (both (ltb y limit) (ltb z limit)))

-- by whether a sample is below the threshold, and below that and the hysteresis. Low-g marks nothing
abbrev pub shown_of : Bool → Bool → Shown
shown_of below within = pick below (Met 0 false) (pick within Unmet FarFromMet)

-- by the bytes of 0x23 and 0x24, where a count is so many 2 g counts: "sum mode (0x24 bit 2)"; "below 8 times 0x23"; "at or above that plus
-- 128 times 0x24 bits 1:0"
unfoldable pub judged_low : ℕ → ℕ → ℕ → ℤ → ℤ → ℤ → Shown
judged_low factor threshold modes x y z =
    shown_of
    (are_below (bit 2 modes) (8 * threshold) (factor * nat_abs x) (factor * nat_abs y) (factor * nat_abs z))
    (are_below (bit 2 modes) (8 * threshold + 128 * (modes % 4)) (factor * nat_abs x) (factor * nat_abs y) (factor * nat_abs z))

-- "in 2 g counts (count times 1, 2, 4, 8 by range)"; a sample in an unknown range shows nothing
abbrev pub judged_in : Range → ℕ → ℕ → ℤ → ℤ → ℤ → Shown
judged_in G2 threshold modes x y z = judged_low 1 threshold modes x y z
judged_in G4 threshold modes x y z = judged_low 2 threshold modes x y z
judged_in G8 threshold modes x y z = judged_low 4 threshold modes x y z
judged_in G16 threshold modes x y z = judged_low 8 threshold modes x y z
judged_in Reserved threshold modes x y z = Nothing

-- by the bytes of 0x0F, 0x23 and 0x24
unfoldable pub low_shown : ℕ → ℕ → ℕ → ℤ → ℤ → ℤ → Shown
low_shown code threshold modes x y z = judged_in (range_of code) threshold modes x y z
