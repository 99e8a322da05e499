-- Q-4, in the request's words, over the events since the one that set the status of any detector with an alarm: "The status clears, with marks
-- and runs, when the clock since its setting reaches that time."
use Rattle.std.specs.Prelude.{ℕ, ◌+◌, ◌-◌, ◌<◌, ◌≤◌, true, false, List, [], ◌∷◌, ◌++◌, ◌≡◌}
use Rattle.laws.specs.Bits.{worth}
use Rattle.events.specs.Event.{Event, clock}
use Rattle.paper.specs.Samples.{is_sample, microseconds_at}
use Rattle.lookback.specs.InForce.{time_asked}
use Rattle.lookback.specs.Sight.{passed}
use Rattle.lookback.specs.Watch.{Watch, restarts}
use Rattle.lookback.specs.Seen.{seen, is_set, expires, sets_at}
use Rattle.lookback.specs.Marks.{mark_shown, sign_shown}

-- "the clock since its setting": a sum over the events that came since, whatever they are
abbrev pub clock_over : List Event → ℕ
clock_over [] = 0
clock_over (e ∷ later) = microseconds_at e + clock_over later

-- how many of these events are accepted samples, each of which can give one point at the most
abbrev pub samples_over : List Event → ℕ
samples_over [] = 0
samples_over (e ∷ later) = worth 1 (is_sample e) + samples_over later

module _ (w : Watch) where
  -- none of the later events, which come behind es, is power-up, a soft reset or a write that clears status, marks and runs
  abbrev pub NoneRestarts : List Event → List Event → Type 0
  NoneRestarts es [] = Unit {0}
  NoneRestarts es (e ∷ later) = (restarts w (later ++ es) e ≡ false) × NoneRestarts es later

  -- e, behind es, sets the status, which is then held for a time; and these events came later
  pub record SetFor (es : List Event) (e : Event) (later : List Event) : Type 0 where
    pub set : sets_at w es e ≡ true
    pub timed : 1 ≤ time_asked (e ∷ es)
    pub none : NoneRestarts (e ∷ es) later

  -- at this clock the status clears, with marks and runs: what of the clock comes after the time is all that is seen. The sign is none of these
  pub record Clears (es : List Event) (us rest : ℕ) : Type 0 where
    pub expired : expires w es (clock us) ≡ true
    pub status : is_set w (clock us ∷ es) ≡ false
    pub mark : mark_shown w (clock us ∷ es) ≡ 0
    pub sign : sign_shown w (clock us ∷ es) ≡ sign_shown w es
    pub left : seen w (clock us ∷ es) ≡ passed rest ∷ []

  -- until the time is reached the status stands, whatever points came; at the clock that reaches it, it is cleared
  pub record HeldFor (es : List Event) (e : Event) (later : List Event) : Type 0 where
    pub stands : clock_over later < time_asked (e ∷ es) → is_set w (later ++ (e ∷ es)) ≡ true
    pub clears : (us : ℕ) → clock_over later < time_asked (e ∷ es) → time_asked (e ∷ es) ≤ us + clock_over later
        → Clears (later ++ (e ∷ es)) us (us + clock_over later - time_asked (e ∷ es))
