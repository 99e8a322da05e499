-- What a detector with an alarm shows beside its status, and the point that set it.
use Rattle.std.specs.Prelude.{ℕ, Bool, false, List, ◌≡◌}
use Rattle.laws.specs.Choice.{pick}
use Rattle.events.specs.Event.{Event}
use Rattle.lookback.specs.Watch.{Watch, Sights, Going, going_by}
use Rattle.lookback.specs.Seen.{is_set_by, seen, is_set, marked}
use Rattle.lookback.specs.Came.{CameSet}

-- "The marks clear with the status"; the sign "stays until the next setting or soft reset"
abbrev pub mark_shown : Watch → List Event → ℕ
mark_shown w es = pick (is_set w es) (marked w es).axis 0

abbrev pub sign_shown : Watch → List Event → Bool
sign_shown w es = (marked w es).negative

-- "On setting": the point that set a status which is set, among what was seen; the status was not set before it
pub record SetAt (w : Watch) (g : Going w.Setting) (ss : Sights w) : Type 0 where
  pub came : CameSet w g ss
  pub before : is_set_by w g came.earlier ≡ false

abbrev pub Setter : (w : Watch) → List Event → Type 0
Setter w es = SetAt w (going_by w es) (seen w es)
