-- What an accepted read leaves in a lent buffer is what it gives.
-- Assumes nothing.
use Prim.Native.Nat.{ℕ}
use mathlib.Core.Bool.{Bool, true, false}
use mathlib.Core.List.{List, []}
use mathlib.Core.Path.{◌≡◌, refl}
use lib.ListN.{length}
use Rattle.laws.specs.Choice.{pick}
use Rattle.registers.specs.Answers.{accepted}
use Rattle.registers.specs.Refused.{read_answer}
use Rattle.device.specs.Read.{read_of, buffer_after, burst_bytes}
use Rattle.device.specs.declared.Device.{Device}
use Rattle.events.specs.Event.{read, happens, bytes_at, lent_by}

pub read-gives : (d : Device) (a n : ℕ) (buffer : List ℕ) → length buffer ≡ n
    → pick (accepted (happens d (read a n)).answer) (lent_by d (read a n) buffer) [] ≡ bytes_at d (read a n)
unfolding read_of buffer_after
read-gives d a n buffer e = rw e (go (accepted (read_answer a n)))
  where
    go : (b : Bool) → pick b (pick b (burst_bytes d a n) buffer) [] ≡ pick b (burst_bytes d a n) []
    go true = refl
    go false = refl
