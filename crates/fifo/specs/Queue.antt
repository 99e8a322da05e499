-- 01, "FIFO", as frames: over any kind of frame A, any depth, either drop rule and any frame size.
use Rattle.std.specs.Prelude.{ℕ, ◌+◌, ◌-◌, ◌/◌, List, [], ◌∷◌, ◌++◌, Bool, true, false, length, drop, ltb}
use Rattle.laws.specs.Choice.{pick}
use Rattle.fifo.specs.declared.Drop.{Drop}
use Rattle.fifo.specs.declared.Drop.TheVariants.{Newcomer, Oldest}
use Rattle.fifo.specs.declared.Setting.{Setting}

pub record Queue (A : Type 0) : Type 0 where
  -- the frames held, the oldest first
  pub frames : List A
  pub overrun : Bool

-- "The rest of a frame partly read at the end of a burst is discarded": n bytes reach a frame once they reach its first byte
abbrev pub frames_reached : ℕ → ℕ → ℕ
frames_reached size n = (n + (size - 1)) / size

module _ {A : Type 0} where
  -- "empties the FIFO and clears overrun"
  abbrev pub empty : Queue A
  empty = record { frames = []; overrun = false }

  -- "When full, FIFO mode drops the newcomer; STREAM and BYPASS drop the oldest"
  abbrev pub kept : Drop → List A → A → List A
  kept Newcomer fs a = fs
  kept Oldest fs a = drop 1 fs ++ (a ∷ [])

  -- "An accepted sample becomes a frame"; "all set the overrun bit"
  abbrev pub pushed : Setting → Queue A → A → Queue A
  pushed s q a =
      pick (ltb (length q.frames) s.depth)
      (record { frames = q.frames ++ (a ∷ []); overrun = q.overrun })
      (record { frames = kept s.drops q.frames a; overrun = true })

  -- the first k frames are read out
  abbrev pub without : ℕ → Queue A → Queue A
  without k q = record { frames = drop k q.frames; overrun = q.overrun }
