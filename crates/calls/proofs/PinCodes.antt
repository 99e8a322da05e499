-- Both pins in one byte, by the header's numbers.
-- Assumes nothing.
use Prim.Native.Nat.{◌/◌, ◌%◌, ◌<◌}
use mathlib.Core.Path.{◌≡◌, refl, ap, ◌∙◌}
use native.Mathlib.Omega.{arith}
use Rattle.interrupts.specs.declared.Level.{Level}
use Rattle.interrupts.specs.declared.Level.TheVariants.{Low, High, Released}
use Rattle.device.specs.Show.{pins_of}
use Rattle.device.specs.declared.Device.{Device}
use Rattle.twin.specs.Entry.{level_code, pins_code}
use Rattle.calls.specs.Calls.{Coded}

small : (v : Level) → level_code v < 4
small Low = omega arith
small High = omega arith
small Released = omega arith

-- the header's numbers
header-numbers : (level_code Low ≡ 0) × (level_code High ≡ 1) × (level_code Released ≡ 2)
header-numbers = (refl, refl, refl)

module _ (d : Device) where
  int1-code : pins_code d % 4 ≡ level_code (pins_of d).int1
  unfolding pins_code
  int1-code = omega (arith, small (pins_of d).int1)

  int2-code : pins_code d / 4 ≡ level_code (pins_of d).int2
  unfolding pins_code
  int2-code = omega (arith, small (pins_of d).int1)

  pub pins-coded : Coded (pins_of d) (pins_code d)
  pins-coded = record {
    int1-low = λ h. int1-code ∙ ap level_code h ∙ header-numbers.0;
    int1-high = λ h. int1-code ∙ ap level_code h ∙ header-numbers.1;
    int1-released = λ h. int1-code ∙ ap level_code h ∙ header-numbers.2;
    int2-low = λ h. int2-code ∙ ap level_code h ∙ header-numbers.0;
    int2-high = λ h. int2-code ∙ ap level_code h ∙ header-numbers.1;
    int2-released = λ h. int2-code ∙ ap level_code h ∙ header-numbers.2;
  }
