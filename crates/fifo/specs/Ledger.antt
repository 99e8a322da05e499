-- Demand 3: what became of each sample that was accepted since the FIFO was last cleared, from the history alone.
use Rattle.std.specs.Prelude.{ℕ, zero, suc, List, [], ◌∷◌, ◌++◌, Bool, true, false, take, ltb}
use Rattle.laws.specs.Choice.{pick}
use Rattle.fifo.specs.declared.Drop.{Drop}
use Rattle.fifo.specs.declared.Drop.TheVariants.{Newcomer, Oldest}
use Rattle.fifo.specs.declared.Setting.{Setting}
use Rattle.fifo.specs.Queue.{Queue, frames_reached, empty, pushed, without}

-- what the FIFO is told between two clears
pub data Event (A : Type 0) : Type 0 where
  -- a sample was accepted, and this is its frame
  sample : A → Event A
  -- so many bytes were read out
  readout : ℕ → Event A

-- a sample, with what became of it: exactly one of the three
pub data Fate (A : Type 0) : Type 0 where
  taken held lost : A → Fate A

module _ {A : Type 0} where
  -- how many are held
  abbrev pub held_in : List (Fate A) → ℕ
  held_in [] = 0
  held_in (taken a ∷ ms) = held_in ms
  held_in (held a ∷ ms) = suc (held_in ms)
  held_in (lost a ∷ ms) = held_in ms

  abbrev pub lose : Fate A → Fate A
  lose (taken a) = taken a
  lose (held a) = lost a
  lose (lost a) = lost a

  -- the sample after which n more came is lost, if it is still held; the latest stands first
  abbrev pub passed : ℕ → List (Fate A) → List (Fate A)
  passed n [] = []
  passed zero (m ∷ ms) = lose m ∷ ms
  passed (suc n) (m ∷ ms) = m ∷ passed n ms

  -- lost, where the newcomer is dropped: it arrived while as many were held as the depth;
  -- where the oldest is: it saw as many later samples arrive as the depth, before a readout reached it
  abbrev pub arrives : Drop → ℕ → A → List (Fate A) → List (Fate A)
  arrives Newcomer depth a ms = pick (ltb (held_in ms) depth) (held a) (lost a) ∷ ms
  arrives Oldest depth a ms = passed depth (held a ∷ ms)

  -- a readout that reaches k frames takes each held sample before which fewer than k are held
  abbrev pub takes : ℕ → List (Fate A) → List (Fate A)
  takes k [] = []
  takes k (taken a ∷ ms) = taken a ∷ takes k ms
  takes k (held a ∷ ms) = pick (ltb (held_in ms) k) (taken a) (held a) ∷ takes k ms
  takes k (lost a ∷ ms) = lost a ∷ takes k ms

  -- the samples of each kind, the oldest first
  abbrev pub held_of : List (Fate A) → List A
  held_of [] = []
  held_of (taken a ∷ ms) = held_of ms
  held_of (held a ∷ ms) = held_of ms ++ (a ∷ [])
  held_of (lost a ∷ ms) = held_of ms

  abbrev pub taken_of : List (Fate A) → List A
  taken_of [] = []
  taken_of (taken a ∷ ms) = taken_of ms ++ (a ∷ [])
  taken_of (held a ∷ ms) = taken_of ms
  taken_of (lost a ∷ ms) = taken_of ms

  abbrev pub lost_of : List (Fate A) → List A
  lost_of [] = []
  lost_of (taken a ∷ ms) = lost_of ms
  lost_of (held a ∷ ms) = lost_of ms
  lost_of (lost a ∷ ms) = lost_of ms ++ (a ∷ [])

  -- every sample, whatever became of it, the oldest first
  abbrev pub all_of : List (Fate A) → List A
  all_of [] = []
  all_of (taken a ∷ ms) = all_of ms ++ (a ∷ [])
  all_of (held a ∷ ms) = all_of ms ++ (a ∷ [])
  all_of (lost a ∷ ms) = all_of ms ++ (a ∷ [])

  abbrev pub any_lost : List (Fate A) → Bool
  any_lost [] = false
  any_lost (taken a ∷ ms) = any_lost ms
  any_lost (held a ∷ ms) = any_lost ms
  any_lost (lost a ∷ ms) = true

  -- the samples that the history says were accepted, the oldest first; the latest event stands first
  abbrev pub accepted_samples : List (Event A) → List A
  accepted_samples [] = []
  accepted_samples (sample a ∷ es) = accepted_samples es ++ (a ∷ [])
  accepted_samples (readout n ∷ es) = accepted_samples es

-- the FIFO as it runs: what it holds, and the frames that came out since the clear, in order
pub record Run (A : Type 0) : Type 0 where
  pub queue : Queue A
  pub out : List A

module _ {A : Type 0} (s : Setting) where
  -- what became of each accepted sample, the latest first
  abbrev pub fates_by : List (Event A) → List (Fate A)
  fates_by [] = []
  fates_by (sample a ∷ es) = arrives s.drops s.depth a (fates_by es)
  fates_by (readout n ∷ es) = takes (frames_reached s.size n) (fates_by es)

  abbrev pub run : List (Event A) → Run A
  run [] = record { queue = empty; out = [] }
  run (sample a ∷ es) = record { queue = pushed s (run es).queue a; out = (run es).out }
  run (readout n ∷ es) = record {
    queue = without (frames_reached s.size n) (run es).queue;
    out = (run es).out ++ take (frames_reached s.size n) (run es).queue.frames;
  }
