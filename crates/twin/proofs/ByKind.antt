-- 01, "1 write (address, byte; ..), 2 read (address, count; ..), 3 sample (x, y, z .., temperature; ..), 4 cycle start", and Q-4's "log kind 5": what
-- the entry does for each kind, with the papers' own numbers. Assumes nothing.
use Prim.Native.Nat.{ℕ}
use mathlib.Core.Option.{some}
use mathlib.Core.Path.{◌≡◌, refl}
use lib.IntN.{ℤ}
use Rattle.events.specs.Event.{write, read, sample, cycle, clock}
use Rattle.twin.specs.Entry.{asked}

module _ (address byte : ℕ) (x y z : ℤ) (count us : ℕ) where
  pub kind_1 : asked 1 address byte x y z count us ≡ some (write address byte)
  unfolding asked
  kind_1 = refl

  pub kind_2 : asked 2 address byte x y z count us ≡ some (read address count)
  unfolding asked
  kind_2 = refl

  pub kind_3 : asked 3 address byte x y z count us ≡ some (sample x y z byte)
  unfolding asked
  kind_3 = refl

  pub kind-4 : asked 4 address byte x y z count us ≡ some cycle
  unfolding asked
  kind-4 = refl

  pub kind-5 : asked 5 address byte x y z count us ≡ some (clock us)
  unfolding asked
  kind-5 = refl
