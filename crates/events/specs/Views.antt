-- One kind of event at a time: what f says of an event of that kind, and other of any other. What looks back on a history for one kind
-- can ask these, and a new event has its lines here; a definition that goes through the kinds itself has a line for each.
use Rattle.std.specs.Prelude.{ℕ, Bool, true, false, ℤ}
use Rattle.events.specs.Event.{Event, power_up, write, read, sample, cycle, clock}

abbrev pub is_power_up : Event → Bool
is_power_up power_up = true
is_power_up (write a byte) = false
is_power_up (read a n) = false
is_power_up (sample x y z temperature) = false
is_power_up cycle = false
is_power_up (clock us) = false

abbrev pub is_cycle : Event → Bool
is_cycle power_up = false
is_cycle (write a byte) = false
is_cycle (read a n) = false
is_cycle (sample x y z temperature) = false
is_cycle cycle = true
is_cycle (clock us) = false

module _ {A : Type 0} (other : A) where
  -- an address and a byte
  abbrev pub at_write : (ℕ → ℕ → A) → Event → A
  at_write f power_up = other
  at_write f (write a byte) = f a byte
  at_write f (read a n) = other
  at_write f (sample x y z temperature) = other
  at_write f cycle = other
  at_write f (clock us) = other

  -- an address and a length
  abbrev pub at_read : (ℕ → ℕ → A) → Event → A
  at_read f power_up = other
  at_read f (write a byte) = other
  at_read f (read a n) = f a n
  at_read f (sample x y z temperature) = other
  at_read f cycle = other
  at_read f (clock us) = other

  -- x, y, z and the temperature
  abbrev pub at_sample : (ℤ → ℤ → ℤ → ℕ → A) → Event → A
  at_sample f power_up = other
  at_sample f (write a byte) = other
  at_sample f (read a n) = other
  at_sample f (sample x y z temperature) = f x y z temperature
  at_sample f cycle = other
  at_sample f (clock us) = other

  -- microseconds
  abbrev pub at_clock : (ℕ → A) → Event → A
  at_clock f power_up = other
  at_clock f (write a byte) = other
  at_clock f (read a n) = other
  at_clock f (sample x y z temperature) = other
  at_clock f cycle = other
  at_clock f (clock us) = f us
