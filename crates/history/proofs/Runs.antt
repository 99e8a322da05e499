-- Three histories, computed: by the history alone, and by the device.
-- Assumes nothing.
use Prim.Native.Nat.{ℕ, zero, suc}
use mathlib.Core.List.{List, [], ◌∷◌}
use mathlib.Core.Path.{◌≡◌, refl}
use lib.IntN.{pos}
use Rattle.fifo.specs.Ledger.{lost_of}
use Rattle.device.specs.Computed.{the_device}
use Rattle.events.specs.Event.{Event, write, read, sample}
use Rattle.events.specs.Run.{after}
use Rattle.demand3.specs.Chip.{since}
use Rattle.demand3.specs.Counts.{begun, held_after}
use Rattle.demand3.specs.Demand.{fates, due_status, gave}
use Rattle.paper.specs.Computed.{the_paper}
use Rattle.history.specs.History.{frame, says_here, accelerometer, twin}
use Rattle.demand3.specs.Whole.{Totals, totals}

-- n samples after es, numbered by x from 0
pub samples : ℕ → List Event → List Event
samples zero es = es
samples (suc n) es = sample (pos n) (pos 0) (pos 0) 0 ∷ samples n es

-- samples accepted, taken, lost and cleared away
abbrev pub counts : ℕ → ℕ → ℕ → ℕ → Totals
counts a t l c = record { accepted = a; taken = t; lost = l; cleared_away = c }

-- what 0x0E shows, which frames are lost, what the readouts gave and how many there were of each kind: by the history alone, and by
-- the device
pub record Ran (es : List Event) (byte : ℕ) (gone out : List (List ℕ)) (n : Totals) : Type 0 where
  pub told : due_status accelerometer es ≡ byte
  pub lost : lost_of (fates accelerometer es) ≡ gone
  pub shown : twin es 0x0E 1 ≡ byte ∷ []
  pub came : gave accelerometer twin es ≡ out
  pub tallied : totals accelerometer es ≡ n

-- FIFO mode, 33 samples and a readout of one frame: 31 are held, and the last is lost
abbrev pub fifo_run : List Event
fifo_run = read 0x3F 6 ∷ samples 33 (write 0x3E 0x40 ∷ [])

-- STREAM, x alone: the first is lost, and a readout of three bytes takes the next two
abbrev pub stream_run : List Event
stream_run = read 0x3F 3 ∷ samples 33 (write 0x3E 0x81 ∷ [])

-- BYPASS, from power-up: of two samples the first is lost
abbrev pub bypass_run : List Event
bypass_run = samples 2 []

-- the frames of the first and of the last of 33 samples
abbrev first_frame : List ℕ
first_frame = 0x01 ∷ 0x00 ∷ 0x01 ∷ 0x00 ∷ 0x01 ∷ 0x00 ∷ []

abbrev last_frame : List ℕ
last_frame = 0x01 ∷ 0x02 ∷ 0x01 ∷ 0x00 ∷ 0x01 ∷ 0x00 ∷ []

pub runs : Ran fifo_run 0x9F (last_frame ∷ []) (first_frame ∷ []) (counts 33 1 1 0)
    × Ran stream_run 0x9E ((0x01 ∷ 0x00 ∷ []) ∷ []) ((0x11 ∷ 0x00 ∷ 0x21 ∷ []) ∷ []) (counts 33 2 1 0)
    × Ran bypass_run 0x81 (first_frame ∷ []) [] (counts 2 0 1 0)
    × Ran (write 0x3E 0xC0 ∷ bypass_run) 0x81 (first_frame ∷ []) [] (counts 2 0 1 0)
    × Ran (write 0x14 0xB6 ∷ bypass_run) 0x00 [] [] (counts 2 0 1 1)
unfolding the_device the_paper samples due_status fates gave totals begun held_after twin since says_here frame after
runs = (
  record { told = refl; lost = refl; shown = refl; came = refl; tallied = refl },
  record { told = refl; lost = refl; shown = refl; came = refl; tallied = refl },
  record { told = refl; lost = refl; shown = refl; came = refl; tallied = refl },
  record { told = refl; lost = refl; shown = refl; came = refl; tallied = refl },
  record { told = refl; lost = refl; shown = refl; came = refl; tallied = refl },
)
