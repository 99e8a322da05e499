-- The replay's lines, letter by letter: with another letter at each pin, so that none can stand in the other's place.
-- Assumes nothing.
use mathlib.Core.List.{[], ◌∷◌}
use mathlib.Core.Path.{◌≡◌, refl}
use Rattle.interrupts.specs.declared.Level.{Level}
use Rattle.interrupts.specs.declared.Level.TheVariants.{Low, High}
use Rattle.interrupts.specs.declared.Pins.{Pins}
use Rattle.text.specs.Text.{ascii, decimal, last_digits, line, line_with_pins, pins_line}

abbrev levels : Level → Level → Pins
levels int1 int2 = record { int1 = int1; int2 = int2 }

pub a_read : line 3 0 (0x0C ∷ 0xF0 ∷ []) ≡ ascii "3 0 0CF0\n"
unfolding line decimal last_digits
a_read = refl

-- INT1 and then INT2, behind the bytes
pub a-read-with-pins : line_with_pins 3 0 (0x0C ∷ 0xF0 ∷ []) (levels Low High) ≡ ascii "3 0 0CF0 0 1\n"
unfolding line_with_pins decimal last_digits
a-read-with-pins = refl

-- where there are no bytes, one space
pub refused-with-pins : line_with_pins 40 12 [] (levels High Low) ≡ ascii "40 12 1 0\n"
unfolding line_with_pins decimal last_digits
refused-with-pins = refl

pub last_line : pins_line (levels Low High) ≡ ascii "pins 0 1\n"
last_line = refl
