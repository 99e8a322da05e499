-- Q-4, in the request's words, over the events since the one that set the status: "The status clears, with marks and runs, when the clock since
-- its setting reaches that time. Calm points don't clear it sooner; over points don't extend it."
use Rattle.std.specs.Prelude.{ℕ, ◌+◌, ◌<◌, ◌≤◌, true, false, List, [], ◌∷◌, ◌++◌, ◌≡◌}
use Rattle.laws.specs.Bits.{bit, worth}
use Rattle.events.specs.Event.{Event, write, read, clock, Given, bytes, gives}
use Rattle.events.specs.Run.{after}
use Rattle.rules.specs.Shown.{bit_seen}
use Rattle.lookback.specs.InForce.{time_asked}
use Rattle.lookback.specs.Held.{clock_over, samples_over}
use Rattle.anymotion.specs.Status.{points_asked}

-- what a read of one byte gives after a history
abbrev pub reads : List Event → ℕ → Given
reads es a = gives (after es) (read a 1)

-- two histories after which any-motion shows the same
pub record SameShown (es fs : List Event) : Type 0 where
  pub status : bit_seen es 0x09 2 ≡ bit_seen fs 0x09 2
  pub marks : reads es 0x0B ≡ reads fs 0x0B

-- "The status clears, with marks and runs": as reads show it, where es came before the clock of us microseconds at which it clears
pub record ClearsAt (es : List Event) (us : ℕ) : Type 0 where
  -- the status, 0x09 bit 2
  pub status : bit_seen (clock us ∷ es) 0x09 2 ≡ false
  -- "with marks", 0x0B bits 2:0; bit 3 is none of these and stays as it was read before
  pub marked : ℕ
  pub before : reads es 0x0B ≡ bytes (marked ∷ [])
  pub marks : reads (clock us ∷ es) 0x0B ≡ bytes (worth 8 (bit 3 marked) ∷ [])
  -- "and runs": no point from before counts any more. Whatever comes later, while it brings fewer samples than the N of "N over points in a
  -- row", as it is then in force, the status is not set again
  pub runs : (later : List Event) → samples_over later < points_asked (later ++ (clock us ∷ es)) → bit_seen (later ++ (clock us ∷ es)) 0x09 2 ≡ false
  -- and nothing else of it: "An accepted write to .. 0x21 .. clears status, marks and runs" too. Whatever comes later, any-motion shows
  -- what it shows where, in the clock's place, the byte that 0x21 holds is written to it again
  pub latch : ℕ
  pub holds : reads es 0x21 ≡ bytes (latch ∷ [])
  pub no_more : (later : List Event) → SameShown (later ++ (clock us ∷ es)) (later ++ (write 0x21 latch ∷ es))

-- until the time is reached the status stands, whatever points came; at the clock that reaches it, it is cleared
pub record HeldFor (es : List Event) (e : Event) (later : List Event) : Type 0 where
  pub stands : clock_over later < time_asked (e ∷ es) → bit_seen (later ++ (e ∷ es)) 0x09 2 ≡ true
  pub clears : (us : ℕ) → clock_over later < time_asked (e ∷ es) → time_asked (e ∷ es) ≤ us + clock_over later → ClearsAt (later ++ (e ∷ es)) us
