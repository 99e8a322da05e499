-- 01, "Data channels": "A burst below 0x3F equals single reads in rising address order".
use Rattle.std.specs.Prelude.{ℕ, ◌+◌, Bool, List, [], ◌∷◌, ltb, leb}
use Rattle.laws.specs.Choice.{pick, both}
use Rattle.laws.specs.Table.{up_from}
use Rattle.events.specs.Event.{Event, power_up, write, read, sample, cycle, clock}
use Rattle.events.specs.Run.{script_onto}

-- an accepted burst below 0x3F, of n bytes from address a on: at least one, and none past 0x3E
abbrev pub is_burst : ℕ → ℕ → Bool
is_burst a n = both (ltb a 0x3F) (both (leb 1 n) (leb (a + n) 0x3F))

-- its reads of one byte each, the first one first
abbrev pub singles : ℕ → ℕ → List Event
singles a n = up_from (λ k. read k 1) a n

-- a history in which single reads stand for each burst below 0x3F
unfoldable pub opened : List Event → List Event
opened [] = []
opened (power_up ∷ es) = power_up ∷ opened es
opened (write a byte ∷ es) = write a byte ∷ opened es
opened (read a n ∷ es) = pick (is_burst a n) (script_onto (singles a n) (opened es)) (read a n ∷ opened es)
opened (sample x y z temperature ∷ es) = sample x y z temperature ∷ opened es
opened (cycle ∷ es) = cycle ∷ opened es
opened (clock us ∷ es) = clock us ∷ opened es
