-- 01, "FIFO": what reads frames, and what clears them.
use Rattle.std.specs.Prelude.{ℕ, Bool, List, [], ◌∷◌, eqb, leb}
use Rattle.laws.specs.Choice.{both, either}
use Rattle.events.specs.Event.{Event}
use Rattle.paper.specs.Stored.{starts_anew, is_accepted_at}

-- an accepted read at 0x3F, of an address and a length: 5 is "read length 0 or above 192"
unfoldable pub reads_out : ℕ → ℕ → Bool
reads_out a n = both (eqb a 0x3F) (both (leb 1 n) (leb n 192))

-- "cleared (by power-up, soft reset or an accepted write to 0x3E)", of an event behind a history
abbrev pub clears_fifo : List Event → Event → Bool
clears_fifo es e = either (starts_anew e) (is_accepted_at (0x3E ∷ []) es e)
