-- "Taken" and "lost", from the history of one sample since the last clear, over any depth, drop rule and frame size.
use Rattle.std.specs.Prelude.{ℕ, suc, ◌-◌, ◌*◌, ◌≤◌, ◌<◌, true, ◌≡◌, List, ◌∷◌, ◌++◌}
use Rattle.fifo.specs.Ledger.{Event, sample, readout}
use Rattle.fifo.specs.declared.Drop.{Drop}
use Rattle.fifo.specs.declared.Drop.TheVariants.{Newcomer, Oldest}
use Rattle.fifo.specs.declared.Setting.{Setting}
use Rattle.demand3.specs.Counts.{arrivals, enters, held_after, entered, gone}

-- a sample a, accepted after `earlier`
module _ {A : Type 0} (s : Setting) (earlier : List (Event A)) (a : A) where
  -- all that came, when `later` has come too
  abbrev pub up_to : List (Event A) → List (Event A)
  up_to later = later ++ (sample a ∷ earlier)

  -- the number of its frame, if it enters: so many entered before it
  abbrev pub frame_number : ℕ
  frame_number = entered s earlier

  -- a readout in `later` reached the first byte of its frame while it was held: "A frame counts as taken once its first byte is read"
  pub record ReadoutReached (later : List (Event A)) : Type 0 where
    pub rest : List (Event A)
    pub bytes : ℕ
    pub before : List (Event A)
    pub split : later ≡ rest ++ (readout bytes ∷ before)
    -- held: it entered, and was not gone when the readout came
    pub enter : enters s.drops s.depth (held_after s earlier) ≡ true
    pub stays : gone s (up_to before) ≤ frame_number
    -- "Frames come out oldest first": those ahead of it have size bytes each, and the next byte is read too
    pub first : (frame_number - gone s (up_to before)) * s.size < bytes

  -- "those that saw 32 later accepted samples arrive before a readout reached them"
  pub record Saw (many : ℕ) (later : List (Event A)) : Type 0 where
    pub rest : List (Event A)
    pub last : A
    pub between : List (Event A)
    pub split : later ≡ rest ++ (sample last ∷ between)
    pub arrived : suc (arrivals between) ≡ many
    pub unreached : ReadoutReached between → ⊥

  -- lost, by the drop rule: "those that arrived while 32 were held"; "those that saw 32 later accepted samples arrive .."
  abbrev pub LostBy : Drop → List (Event A) → Type 0
  LostBy Newcomer later = held_after s earlier ≡ s.depth
  LostBy Oldest later = Saw s.depth later
