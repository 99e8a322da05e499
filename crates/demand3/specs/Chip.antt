-- A chip with a FIFO, as far as demand 3 goes: what its events are, what each says to the FIFO and how the FIFO is set up. In a history
-- the latest event stands first.
use Rattle.std.specs.Prelude.{ℕ, List, [], ◌∷◌}
use Rattle.fifo.specs.Ledger as fifo
use Rattle.fifo.specs.declared.Setting.{Setting}

-- what an event says to the FIFO
pub data Said : Type 0 where
  -- it clears the FIFO
  cleared : Said
  -- a sample is accepted, and becomes this frame
  sampled : List ℕ → Said
  -- so many bytes are read out
  read_out : ℕ → Said
  nothing : Said

pub record Chip : Type 1 where
  pub Event : Type 0
  -- what an event says after a history
  pub says : List Event → Event → Said
  -- the depth, the drop rule and the frame size after a history
  pub setting : List Event → Setting

-- a twin of the chip, as the bench sees it: the bytes that a read gives after a history, from an address on, so many
abbrev pub Twin : Chip → Type 0
Twin c = List c.Event → ℕ → ℕ → List ℕ

-- what the FIFO is told since it was last cleared, with one more event
abbrev pub onto : Said → List (fifo.Event (List ℕ)) → List (fifo.Event (List ℕ))
onto cleared es = []
onto (sampled f) es = fifo.sample f ∷ es
onto (read_out n) es = fifo.readout n ∷ es
onto nothing es = es

module _ (c : Chip) where
  -- the samples accepted since the FIFO was last cleared, and the readouts
  unfoldable pub since : List c.Event → List (fifo.Event (List ℕ))
  since [] = []
  since (e ∷ es) = onto (c.says es e) (since es)
