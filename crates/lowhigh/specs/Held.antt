-- Q-5, "Both latch as any-motion does", and Q-4, over the events since the one that set the status: "The status clears, with marks and runs, when
-- the clock since its setting reaches that time."
use Rattle.std.specs.Prelude.{ℕ, ◌+◌, ◌<◌, ◌≤◌, true, false, List, ◌∷◌, ◌++◌, ◌≡◌}
use Rattle.events.specs.Event.{Event, clock}
use Rattle.rules.specs.Shown.{bit_seen}
use Rattle.lookback.specs.InForce.{time_asked}
use Rattle.lookback.specs.Held.{clock_over}
use Rattle.lasting.specs.Lasting.{Lasting, delay_asked}

-- of the detector l, whose status is bit k of 0x09
module _ (l : Lasting) (k : ℕ) where
  -- nothing from before counts any more. Whatever comes later, while it brings less clock than the delay asks for, as it is then in force, the
  -- status is 0: a run begins at the next sample, and its time with it
  abbrev pub BeginsAnew : List Event → Type 0
  BeginsAnew es = (later : List Event) → clock_over later < delay_asked l (later ++ es) → bit_seen (later ++ es) 0x09 k ≡ false

  -- until the time is reached the status stands, whatever samples came; at the clock that reaches it, it is cleared with its run
  pub record HeldFor (es : List Event) (e : Event) (later : List Event) : Type 0 where
    pub stands : clock_over later < time_asked (e ∷ es) → bit_seen (later ++ (e ∷ es)) 0x09 k ≡ true
    pub clears : (us : ℕ) → clock_over later < time_asked (e ∷ es) → time_asked (e ∷ es) ≤ us + clock_over later → BeginsAnew (clock us ∷ (later ++ (e ∷ es)))
