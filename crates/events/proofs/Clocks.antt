-- Q-4: two clock events in a row equal one of their sum, of every device record and anywhere in a history. Assumes nothing.
use Prim.Native.Nat.{◌+◌}
use mathlib.Core.List.{List, ◌∷◌}
use mathlib.Core.Path.{refl}
use Rattle.device.specs.Clock.{clock_of}
use Rattle.device.specs.declared.Device.{Device}
use Rattle.events.specs.Event.{clock}
use Rattle.events.specs.Run.{after}
use Rattle.events.specs.Clocks.{ClocksOn, Clocks}
use Rattle.events.proofs.Runs.{two-clocks, clock-of-0, alike-later}

on-any : (d : Device) → ClocksOn d
unfolding clock_of
on-any d = record {
  done = λ us. refl;
  in_a_row = λ a b. two-clocks a b d;
  of-0 = clock-of-0 d;
}

pub clocks : Clocks
unfolding after
clocks = record {
  on = on-any;
  in-a-row-anywhere = λ later es a b. alike-later later (clock b ∷ clock a ∷ es) (clock (a + b) ∷ es) (two-clocks a b (after es));
  of-0-anywhere = λ later es. alike-later later (clock 0 ∷ es) es (clock-of-0 (after es));
}
