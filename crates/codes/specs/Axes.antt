-- 01, "Register table", 3E: the axes of a frame.
use Rattle.std.specs.Prelude.{ℕ, ◌%◌, List, [], ◌∷◌}
use Rattle.laws.specs.Keys.{Key, ◌means◌, meaning_of}
use Rattle.codes.specs.declared.Axes.{Axes}
use Rattle.codes.specs.declared.Axes.TheVariants.{All, X, Y, Z}

-- "Bits 1:0 select 00 all axes, 01 x, 10 y, 11 z"
abbrev pub choices : List (Key Axes)
choices = 0b00 means All ∷ 0b01 means X ∷ 0b10 means Y ∷ []

unfoldable pub axes_of : ℕ → Axes
axes_of byte = meaning_of choices Z (byte % 4)
