-- Q-5, high-g: what a sample shows.
use Rattle.std.specs.Prelude.{ℕ, ◌-◌, ◌*◌, ◌/◌, Bool, ltb, ℤ}
use Rattle.laws.specs.Choice.{pick, both, either}
use Rattle.laws.specs.Bits.{bit}
use Rattle.codes.specs.Range.{range_of, is_reserved_range}
use Rattle.slopes.specs.declared.Slope.{Slope}
use Rattle.spell.specs.declared.Shown.{Shown}
use Rattle.spell.specs.declared.Shown.TheVariants.{Nothing, Met, Unmet, FarFromMet}
use Rattle.gravity.specs.Sizes.{size_and_sign}

-- of the axis at a place: enabled, "high by bits 2:0", and above a limit
abbrev pub above_on : ℕ → ℕ → ℕ → Slope → Bool
above_on place axes limit on = both (bit place axes) (ltb limit on.size)

abbrev pub some_above : ℕ → ℕ → Slope → Slope → Slope → Bool
some_above axes limit x y z = either (above_on 0 axes limit x) (either (above_on 1 axes limit y) (above_on 2 axes limit z))

-- "some enabled axis is above", of which the first is marked; "all enabled are at or below" what it clears to
unfoldable pub judged_high : ℕ → ℕ → ℕ → Slope → Slope → Slope → Shown
judged_high axes limit to x y z =
    pick (above_on 0 axes limit x) (Met 1 x.falling)
    (pick (above_on 1 axes limit y) (Met 2 y.falling)
    (pick (above_on 2 axes limit z) (Met 4 z.falling)
    (pick (some_above axes to x y z) Unmet FarFromMet)))

-- "that less 128 times 0x24 bits 7:6, never less than 0"
abbrev pub clears_to : ℕ → ℕ → ℕ
clears_to limit modes = limit - 128 * (modes / 64)

-- by the bytes of 0x17, 0x0F, 0x26 and 0x24: "above 8 times 0x26 in present counts"; a sample in an unknown range shows nothing
unfoldable pub high_shown : ℕ → ℕ → ℕ → ℕ → ℤ → ℤ → ℤ → Shown
high_shown axes code threshold modes x y z =
    pick (is_reserved_range (range_of code)) Nothing
    (judged_high axes (8 * threshold) (clears_to (8 * threshold) modes) (size_and_sign x) (size_and_sign y) (size_and_sign z))
