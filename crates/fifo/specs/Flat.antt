-- The FIFO as bytes: a store of any room, with a count and the overrun bit, and what it means.
-- Every store has a meaning: a count above the most that fit counts as that.
use Rattle.std.specs.Prelude.{ℕ, ◌+◌, ◌-◌, ◌*◌, ◌≤◌, min, ◌≡◌, List, [], ◌∷◌, ◌++◌, Bool, true, length, take, ltb}
use Rattle.std.proofs.Math.Seq.{paste}
use Rattle.laws.specs.Choice.{pick}
use Rattle.laws.specs.Bytes.{zeros, padded, first_or_zeros, moved_forward}
use Rattle.fifo.specs.declared.Drop.{Drop}
use Rattle.fifo.specs.declared.Drop.TheVariants.{Newcomer, Oldest}
use Rattle.fifo.specs.declared.Setting.{Setting}
use Rattle.fifo.specs.declared.Fifo.{Fifo}
use Rattle.fifo.specs.Queue.{Queue, frames_reached}

pub record Flat : Type 0 where
  pub bytes : List ℕ
  pub count : ℕ
  pub overrun : Bool

-- a lent store's bytes with the numbers beside it, and those numbers alone
abbrev pub flat_at : List ℕ → Fifo → Flat
flat_at bs f = record { bytes = bs; count = f.count; overrun = f.overrun }

abbrev pub numbers_of : Flat → Fifo
numbers_of f = record { count = f.count; overrun = f.overrun }

-- frames one after the other
abbrev pub flat : List (List ℕ) → List ℕ
flat [] = []
flat (f ∷ fs) = f ++ flat fs

-- the one store of room bytes that holds the frames of q: past the last frame it is zeros
unfoldable pub packed : ℕ → Queue (List ℕ) → Flat
packed room q = record { bytes = padded room (flat q.frames); count = length q.frames; overrun = q.overrun }

-- ---- a store in which most frames fit
-- how many frames it holds
abbrev pub held_frames : ℕ → Flat → ℕ
held_frames most f = min f.count most

-- the frame, of size bytes, is written behind n others
abbrev pub behind : ℕ → ℕ → List ℕ → List ℕ → List ℕ
behind size n frame bs = paste bs (n * size) frame size

-- of n frames of size bytes the first k go, and the others move to the front. Q-3: "Do it inside the store that is there; the record stays
-- as it is. No answer, byte or promise of the FIFO changes"
abbrev pub forward : ℕ → ℕ → ℕ → List ℕ → List ℕ
forward size n k bs = moved_forward (k * size) (n * size) bs

-- where they stood last there are zeros
abbrev pub vacated : ℕ → ℕ → ℕ → List ℕ → List ℕ
vacated size n k bs = paste bs ((n - k) * size) (zeros (k * size)) (k * size)

-- a full store of n frames of size bytes, when one more comes
abbrev pub dropping : Drop → ℕ → ℕ → List ℕ → List ℕ → List ℕ
dropping Newcomer size n frame bs = bs
dropping Oldest size n frame bs = behind size (n - 1) frame (forward size n 1 bs)

-- a frame comes: where nothing is dropped its own bytes are written, and no others
unfoldable pub flat_pushed : ℕ → Setting → List ℕ → Flat → Flat
flat_pushed most s frame f =
    let n = held_frames most f in
    pick (ltb n s.depth)
    (record { bytes = behind s.size n frame f.bytes; count = n + 1; overrun = f.overrun })
    (record { bytes = dropping s.drops s.size n frame f.bytes; count = n; overrun = true })

-- after a readout of b bytes, where frames have size bytes
unfoldable pub flat_read : ℕ → ℕ → ℕ → Flat → Flat
flat_read most size b f =
    let n = held_frames most f in
    let k = min (frames_reached size b) n in
    record { bytes = vacated size n k (forward size n k f.bytes); count = n - k; overrun = f.overrun }

-- the b bytes of that readout: "Past the last frame it gives zeros"
unfoldable pub bytes_read : ℕ → ℕ → ℕ → Flat → List ℕ
bytes_read most size b f = first_or_zeros b (take (held_frames most f * size) f.bytes)

-- what a lent store of n frames and one more must have for a push
pub record Room (n : ℕ) (s : Setting) (bs frame : List ℕ) : Type 0 where
  pub holds : n * s.size ≤ length bs
  pub whole : s.depth * s.size ≤ length bs
  pub long : s.size ≤ length frame
  pub some : s.drops ≡ Oldest → 1 ≤ s.depth
