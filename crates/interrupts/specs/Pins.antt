-- 01, "Interrupts and pins": active levels and open-drive.
use Rattle.std.specs.Prelude.{ℕ, Bool, List, get_or}
use Rattle.laws.specs.Choice.{pick}
use Rattle.laws.specs.Bits.{bit}
use Rattle.codes.specs.Addresses.{drive_at}
use Rattle.interrupts.specs.Maps.{is_active}
use Rattle.interrupts.specs.declared.Statuses.{Statuses}
use Rattle.interrupts.specs.declared.Pin.{Pin}
use Rattle.interrupts.specs.declared.Pin.TheVariants.{Int1, Int2}
use Rattle.interrupts.specs.declared.Level.{Level}
use Rattle.interrupts.specs.declared.Level.TheVariants.{Low, High, Released}
use Rattle.interrupts.specs.declared.Pins.{Pins}

-- "the active level"; "open-drive, where an inactive pin is released": of whether the pin is active, whether its active level
-- is high, and whether it is open-drive
abbrev pub level_of : Bool → Bool → Bool → Level
level_of active high opendrive =
    pick active (pick high High Low)
    (pick opendrive Released (pick high Low High))

-- "0x20 bits 0 and 2 give the active level of INT1 and INT2; bits 1 and 3 choose open-drive"
abbrev pub level_bit : Pin → ℕ
level_bit Int1 = 0
level_bit Int2 = 2

abbrev pub open_bit : Pin → ℕ
open_bit Int1 = 1
open_bit Int2 = 3

unfoldable pub pin_level : Pin → Statuses → List ℕ → Level
pin_level p s regs = let drive = get_or regs drive_at 0 in level_of (is_active p s regs) (bit (level_bit p) drive) (bit (open_bit p) drive)

-- both of them, from the registers and the statuses
abbrev pub pins_at : Statuses → List ℕ → Pins
pins_at s regs = record { int1 = pin_level Int1 s regs; int2 = pin_level Int2 s regs }
