-- Whoever follows a log by the parts of a teller is that teller: he runs and prints as it does, and comes to the same state.
-- Assumes nothing.
use Prim.Native.Nat.{ℕ}
use mathlib.Core.Bool.{Bool}
use mathlib.Core.List.{List}
use mathlib.Core.Path.{◌≡◌, refl}
use Rattle.follow.specs.Source.{records}
use Rattle.follow.specs.Teller.{Teller, Lawful}
use Rattle.follow.specs.Follow.{run_of}
use Rattle.follow.specs.Whole.{printed_from, led_to}
use Rattle.jobs.specs.Follower.{worker, parts}

module _ (who : Teller records) (count : who.State → ℕ) where
  pub works : Lawful who → Lawful (worker (parts who count))
  works lawful = lawful

  pub runs : (s : who.State) (l : List ℕ) (last : Bool) (room : ℕ) → run_of (worker (parts who count)) s l last room ≡ run_of who s l last room
  runs s l last room = refl

  pub printed-by : (s : who.State) (log : List ℕ) → printed_from (worker (parts who count)) s log ≡ printed_from who s log
  printed-by s log = refl

  pub led-by : (s : who.State) (log : List ℕ) → led_to (worker (parts who count)) s log ≡ led_to who s log
  led-by s log = refl
