-- Q-13: "an accepted readout at 0x3F, cut into nonempty readouts at whole frames with nothing between, gives the same bytes and device; below
-- 0x3F any nonempty cut does."
use Rattle.std.specs.Prelude.{ℕ, ◌+◌, ◌%◌, ◌≤◌, ◌<◌, List, [], ◌∷◌, map, ◌≡◌}
use Rattle.device.specs.declared.Device.{Device}
use Rattle.events.specs.Event.{Event, read, Given, gives}
use Rattle.events.specs.Run.{next, after, onward, all_given, bytes_joined}
use Rattle.history.specs.History.{setting}

-- ---- a cut: the lengths of its pieces, in order
abbrev pub length_of_all : List ℕ → ℕ
length_of_all [] = 0
length_of_all (n ∷ ns) = n + length_of_all ns

-- "nonempty": there is a piece, and each has a byte
abbrev pub Nonempty : List ℕ → Type 0
Nonempty [] = ⊥
Nonempty (n ∷ []) = 1 ≤ n
Nonempty (n ∷ m ∷ ns) = (1 ≤ n) × Nonempty (m ∷ ns)

-- n bytes are whole frames of size bytes
abbrev pub AreFrames : ℕ → ℕ → Type 0
AreFrames size n = n % size ≡ 0

-- "at whole frames": each piece but the last is whole frames of size bytes; the last ends where the readout does
abbrev pub AtFrames : ℕ → List ℕ → Type 0
AtFrames size [] = Unit {0}
AtFrames size (n ∷ []) = Unit {0}
AtFrames size (n ∷ m ∷ ns) = AreFrames size n × AtFrames size (m ∷ ns)

-- the pieces as events: a readout stays at 0x3F, and below it each piece goes on where the one before it ended
abbrev pub readout_pieces : List ℕ → List Event
readout_pieces ns = map (read 0x3F) ns

abbrev pub burst_pieces : ℕ → List ℕ → List Event
burst_pieces a [] = []
burst_pieces a (n ∷ ns) = read a n ∷ burst_pieces (a + n) ns

-- ---- "gives the same bytes and device"
abbrev pub AllAccepted : List Given → Type 0
AllAccepted [] = Unit {0}
AllAccepted (g ∷ gs) = (g.number ≡ 0) × AllAccepted gs

-- of events "with nothing between", and one event in their place
pub record SameAs (d : Device) (pieces : List Event) (whole : Event) : Type 0 where
  -- every piece is accepted
  pub accepted : AllAccepted (all_given d pieces)
  pub bytes : bytes_joined (all_given d pieces) ≡ (gives d whole).bytes
  pub device : onward d pieces ≡ next d whole

-- after any history
pub record Cuts (es : List Event) : Type 0 where
  pub frames : (ns : List ℕ) → Nonempty ns → AtFrames (setting es).size ns → (gives (after es) (read 0x3F (length_of_all ns))).number ≡ 0
      → SameAs (after es) (readout_pieces ns) (read 0x3F (length_of_all ns))
  pub below : (a : ℕ) (ns : List ℕ) → a < 0x3F → Nonempty ns → (gives (after es) (read a (length_of_all ns))).number ≡ 0
      → SameAs (after es) (burst_pieces a ns) (read a (length_of_all ns))
