-- The code's maps are those of the list.
-- Assumes nothing.
use mathlib.Core.List.{List, [], ◌∷◌}
use mathlib.Core.Path.{◌≡◌, refl}
use Prim.Native.Nat.{ℕ}
use Rattle.interrupts.specs.Maps.{StatusPlaces, all_statuses, mapped_in, is_active, AreMapped, any_mapped}
use Rattle.interrupts.specs.declared.Pin.{Pin}
use Rattle.interrupts.specs.declared.Statuses.{Statuses}

module _ (p : Pin) (s : Statuses) (regs : List ℕ) (mapped : Statuses) where
  maps-agree : (ls : List StatusPlaces) → AreMapped p regs mapped ls → any_mapped s mapped ls ≡ mapped_in p s regs ls
  maps-agree [] m = refl
  maps-agree (l ∷ ls) m = rw (m.0, maps-agree ls m.1)

  pub maps-are : AreMapped p regs mapped all_statuses → any_mapped s mapped all_statuses ≡ is_active p s regs
  unfolding is_active
  maps-are = maps-agree all_statuses
