-- Looking back over a history, whose latest event stands first. A test sees an event and the history before it.
use Rattle.std.specs.Prelude.{Bool, false, List, [], ◌∷◌}
use Rattle.laws.specs.Choice.{pick, either}
use Rattle.events.specs.Event.{Event}

-- whether the test holds of some event since the last one of which ends holds
abbrev pub some_since : (Event → List Event → Bool) → (Event → List Event → Bool) → List Event → Bool
some_since test ends [] = false
some_since test ends (e ∷ es) = pick (ends e es) false (either (test e es) (some_since test ends es))

-- what f says of the last event of which the test holds, and of the history before it, since the last one of which ends holds; other where there
-- is none
abbrev pub of_last : {A : Type 0} → A → (Event → List Event → Bool) → (Event → List Event → Bool) → (Event → List Event → A) → List Event → A
of_last other test ends f [] = other
of_last other test ends f (e ∷ es) = pick (ends e es) other (pick (test e es) (f e es) (of_last other test ends f es))

-- the history before the last event of which the test holds
abbrev pub before_last : (Event → List Event → Bool) → List Event → List Event
before_last test [] = []
before_last test (e ∷ es) = pick (test e es) es (before_last test es)
