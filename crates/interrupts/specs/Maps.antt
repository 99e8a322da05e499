-- 01, "Interrupts and pins": the statuses as one list. 0x09, 0x0A and both pins fold over it.
use Rattle.std.specs.Prelude.{ℕ, ◌+◌, ◌^◌, Bool, false, List, [], ◌∷◌, ◌≡◌, eqb, get_or}
use Rattle.laws.specs.Choice.{pick, both, either}
use Rattle.laws.specs.Bits.{bit, worth}
use Rattle.interrupts.specs.declared.Statuses.{Statuses}
use Rattle.interrupts.specs.declared.Pin.{Pin}
use Rattle.interrupts.specs.declared.Pin.TheVariants.{Int1, Int2}

-- a bit of a register
pub record Place : Type 0 where
  pub address : ℕ
  pub number : ℕ

abbrev place : ℕ → ℕ → Place
place a n = record { address = a; number = n }

-- a status: whether it is 1, where it shows, and the bits that map it to INT1 and to INT2
pub record StatusPlaces : Type 0 where
  pub holds : Statuses → Bool
  pub shown : Place
  pub int1 : Place
  pub int2 : Place

-- "Maps: 0x19 bit 2 for INT1, 0x1B bit 2 for INT2; 0x1A bits 0, 1, 2 are data, watermark, full for INT1, and 7, 6, 5 for INT2"; Q-5: "low and
-- high are bits 0 and 1 of 0x09, 0x19 and 0x1B"; Q-6: "Status and maps are bit 3 of 0x09, 0x19 and 0x1B"
abbrev pub all_statuses : List StatusPlaces
all_statuses =
    record { holds = λ s. s.low; shown = place 0x09 0; int1 = place 0x19 0; int2 = place 0x1B 0 } ∷
    record { holds = λ s. s.high; shown = place 0x09 1; int1 = place 0x19 1; int2 = place 0x1B 1 } ∷
    -- "any-motion (0x09 bit 2)"
    record { holds = λ s. s.motion; shown = place 0x09 2; int1 = place 0x19 2; int2 = place 0x1B 2 } ∷
    record { holds = λ s. s.slow; shown = place 0x09 3; int1 = place 0x19 3; int2 = place 0x1B 3 } ∷
    -- "data (0x0A bit 7)"
    record { holds = λ s. s.ready; shown = place 0x0A 7; int1 = place 0x1A 0; int2 = place 0x1A 7 } ∷
    -- "watermark (0x0A bit 6)"
    record { holds = λ s. s.watermark; shown = place 0x0A 6; int1 = place 0x1A 1; int2 = place 0x1A 6 } ∷
    -- "full (0x0A bit 5)"
    record { holds = λ s. s.full; shown = place 0x0A 5; int1 = place 0x1A 2; int2 = place 0x1A 5 } ∷ []

-- what the statuses among ls are worth at an address
abbrev pub worth_at : ℕ → Statuses → List StatusPlaces → ℕ
worth_at a s [] = 0
worth_at a s (l ∷ ls) = pick (eqb l.shown.address a) (worth (2 ^ l.shown.number) (l.holds s) + worth_at a s ls) (worth_at a s ls)

-- the byte of 0x09 or 0x0A: "bits of 09 to 0C that no rule below names read 0"
unfoldable pub status_byte : ℕ → Statuses → ℕ
status_byte a s = worth_at a s all_statuses

-- the bit that maps a status to a pin
abbrev pub map_of : Pin → StatusPlaces → Place
map_of Int1 l = l.int1
map_of Int2 l = l.int2

-- whether some status among ls is 1 and mapped to the pin
abbrev pub mapped_in : Pin → Statuses → List ℕ → List StatusPlaces → Bool
mapped_in p s regs [] = false
mapped_in p s regs (l ∷ ls) = either (both (l.holds s) (bit (map_of p l).number (get_or regs (map_of p l).address 0))) (mapped_in p s regs ls)

-- "A pin is active when some mapped status is 1"
unfoldable pub is_active : Pin → Statuses → List ℕ → Bool
is_active p s regs = mapped_in p s regs all_statuses

-- ---- the same as the code does it, which tells first which statuses are mapped
-- mapped says of each status among ls whether it is mapped to the pin
abbrev pub AreMapped : Pin → List ℕ → Statuses → List StatusPlaces → Type 0
AreMapped p regs mapped [] = Unit {0}
AreMapped p regs mapped (l ∷ ls) = (l.holds mapped ≡ bit (map_of p l).number (get_or regs (map_of p l).address 0)) × AreMapped p regs mapped ls

-- whether some status among ls is 1 and mapped
abbrev pub any_mapped : Statuses → Statuses → List StatusPlaces → Bool
any_mapped s mapped [] = false
any_mapped s mapped (l ∷ ls) = either (both (l.holds s) (l.holds mapped)) (any_mapped s mapped ls)
