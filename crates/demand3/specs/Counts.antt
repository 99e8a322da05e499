-- How many frames entered the FIFO since it was last cleared, and how many it holds: counted from the samples and the readouts alone,
-- over any depth, drop rule and frame size. The latest event stands first.
use Rattle.std.specs.Prelude.{ℕ, zero, suc, ◌+◌, ◌-◌, ◌%◌, min, Bool, true, List, [], ◌∷◌, eqb, ltb}
use Rattle.laws.specs.Bits.{worth}
use Rattle.fifo.specs.Ledger.{Event, sample, readout}
use Rattle.fifo.specs.declared.Drop.{Drop}
use Rattle.fifo.specs.declared.Drop.TheVariants.{Newcomer, Oldest}
use Rattle.fifo.specs.declared.Setting.{Setting}

-- how many samples were accepted
abbrev pub arrivals : {A : Type 0} → List (Event A) → ℕ
arrivals [] = 0
arrivals (sample a ∷ es) = suc (arrivals es)
arrivals (readout n ∷ es) = arrivals es

-- how many frames of size bytes a readout of n bytes begins, if there are so many: its bytes are numbered from 0, and byte i is the
-- first of a frame where size divides i. "A frame counts as taken once its first byte is read"
unfoldable pub begun : ℕ → ℕ → ℕ
begun size zero = 0
begun size (suc n) = worth 1 (eqb (n % size) 0) + begun size n

-- whether a sample enters that arrives, at a depth, while so many are held: "When full, FIFO mode drops the newcomer; STREAM and BYPASS
-- drop the oldest"
abbrev pub enters : Drop → ℕ → ℕ → Bool
enters Newcomer depth many = ltb many depth
enters Oldest depth many = true

module _ {A : Type 0} (s : Setting) where
  -- how many frames are held: a sample makes one more, up to the depth, and a readout takes those that it begins
  unfoldable pub held_after : List (Event A) → ℕ
  held_after [] = 0
  held_after (sample a ∷ es) = min s.depth (suc (held_after es))
  held_after (readout n ∷ es) = held_after es - begun s.size n

  -- how many frames entered
  unfoldable pub entered : List (Event A) → ℕ
  entered [] = 0
  entered (sample a ∷ es) = worth 1 (enters s.drops s.depth (held_after es)) + entered es
  entered (readout n ∷ es) = entered es

  -- of these, how many are held no more. Frames leave in the order in which they entered, so with frames numbered from 0 in that order
  -- this is the number of the oldest that is held
  abbrev pub gone : List (Event A) → ℕ
  gone es = entered es - held_after es
