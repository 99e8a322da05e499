-- Q-6, "it latches as any-motion does", and Q-4, over the events since the one that set the status: "The status clears, with marks and runs, when
-- the clock since its setting reaches that time."
use Rattle.std.specs.Prelude.{ℕ, ◌+◌, ◌-◌, ◌<◌, ◌≤◌, true, false, List, ◌∷◌, ◌++◌, ◌≡◌}
use Rattle.events.specs.Event.{Event, clock}
use Rattle.rules.specs.Shown.{bit_seen}
use Rattle.lookback.specs.InForce.{time_asked}
use Rattle.lookback.specs.Held.{clock_over, samples_over}
use Rattle.slowmotion.specs.Status.{is_no_motion, points_asked, wait_asked}

-- nothing from before counts any more, but so much clock since the restart or expiry. Whatever comes later, by what is then in force, the status is 0:
-- in slow motion while that brings fewer samples than the N of "N over points in a row", in no-motion while the clock is less than the wait
pub record BeginsAnew (waited : ℕ) (es : List Event) : Type 0 where
  pub counts : (later : List Event) → is_no_motion (later ++ es) ≡ false → samples_over later < points_asked (later ++ es) → bit_seen (later ++ es) 0x09 3 ≡ false
  pub waits : (later : List Event) → is_no_motion (later ++ es) ≡ true → waited + clock_over later < wait_asked (later ++ es) → bit_seen (later ++ es) 0x09 3 ≡ false

-- until the time is reached the status stands, whatever samples came; at the clock that reaches it, it is cleared, and what of that clock comes after
-- is waited
pub record HeldFor (es : List Event) (e : Event) (later : List Event) : Type 0 where
  pub stands : clock_over later < time_asked (e ∷ es) → bit_seen (later ++ (e ∷ es)) 0x09 3 ≡ true
  pub clears : (us : ℕ) → clock_over later < time_asked (e ∷ es) → time_asked (e ∷ es) ≤ us + clock_over later
      → BeginsAnew (us + clock_over later - time_asked (e ∷ es)) (clock us ∷ (later ++ (e ∷ es)))
