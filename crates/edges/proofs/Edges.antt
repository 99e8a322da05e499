-- 01, "Both sides of each edge": each event of each row gives what the row says, by computation.
-- Assumes nothing.
use mathlib.Core.Path.{◌≡◌, refl}
use mathlib.Core.List.{map}
use Rattle.device.specs.Device as device
use Rattle.device.specs.Computed.{the_device}
use Rattle.events.specs.Run.{all_given}
use Rattle.edges.specs.Edges.{rows}

pub edges : map (λ row. all_given device.power_up (map (λ s. s.event) row)) rows ≡ map (λ row. map (λ s. s.given) row) rows
unfolding the_device
edges = refl
