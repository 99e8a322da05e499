-- Q-4: "Two clock events in a row equal one of their sum where that fits." They are equal as devices, so no read, no pin and no later event
-- tells one history from the other. A count fits in 32 bits; the statement is of any counts, and so of those whose sum fits.
use Rattle.std.specs.Prelude.{ℕ, ◌+◌, List, [], ◌∷◌, ◌++◌, ◌≡◌}
use Rattle.device.specs.declared.Device.{Device}
use Rattle.events.specs.Event.{Event, clock, gives, answer}
use Rattle.events.specs.Run.{next, after}

-- ---- of every device record, also one that no events from power-up lead to
pub record ClocksOn (d : Device) : Type 0 where
  -- the clock is answered 0, whatever the count
  pub done : (us : ℕ) → gives d (clock us) ≡ answer 0
  pub in_a_row : (a b : ℕ) → next (next d (clock a)) (clock b) ≡ next d (clock (a + b))
  -- and so a clock of 0 changes nothing
  pub of-0 : next d (clock 0) ≡ d

-- ---- over events: anywhere in a history, whatever came before and whatever came later. The latest event stands first, so a is the earlier
pub record Clocks : Type 0 where
  pub on : (d : Device) → ClocksOn d
  pub in-a-row-anywhere : (later es : List Event) (a b : ℕ) → after (later ++ (clock b ∷ clock a ∷ es)) ≡ after (later ++ (clock (a + b) ∷ es))
  pub of-0-anywhere : (later es : List Event) → after (later ++ (clock 0 ∷ es)) ≡ after (later ++ es)
