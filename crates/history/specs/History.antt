-- The accelerometer: what its events from power-up alone say of the FIFO, in the words of the crate paper; only `twin` looks at a device. In
-- a history the latest event stands first.
use Rattle.std.specs.Prelude.{ℕ, ◌≤◌, true, List, [], ◌∷◌, ◌++◌, ◌↔◌, ◌≡◌, ℤ, length}
use Rattle.std.proofs.Math.Option.{some}
use Rattle.std.proofs.Math.ListN.{get_elem?}
use Rattle.laws.specs.Bytes.{zeros}
use Rattle.laws.specs.Choice.{pick}
use Rattle.codes.specs.Axes.{axes_of}
use Rattle.codes.specs.Mode.{mode_of}
use Rattle.codes.specs.declared.Axes.{Axes}
use Rattle.codes.specs.declared.Axes.TheVariants.{All, X, Y, Z}
use Rattle.codes.specs.declared.Mode.{Mode}
use Rattle.codes.specs.declared.Mode.TheVariants.{Bypass, Fifo, Stream, Reserved}
use Rattle.fifo.specs.Ledger as fifo
use Rattle.fifo.specs.Ledger.{held_of}
use Rattle.fifo.specs.Setting.{setting_of}
use Rattle.fifo.specs.declared.Setting.{Setting}
use Rattle.device.specs.Device.{depth}
use Rattle.device.specs.Read.{buffer_after}
use Rattle.events.specs.Event.{Event}
use Rattle.events.specs.Run.{after}
use Rattle.events.specs.Views.{at_read}
use Rattle.paper.specs.Stored.{byte_by}
use Rattle.paper.specs.Samples.{Values, is_sample, values_at, twelve_bits, lsb_byte, msb_byte}
use Rattle.paper.specs.Readouts.{reads_out, clears_fifo}
use Rattle.demand3.specs.Chip.{Said, cleared, sampled, read_out, nothing, Chip, Twin, since}
use Rattle.demand3.specs.Counts.{arrivals, held_after}
use Rattle.demand3.specs.Demand.{fates, Demand3}
use Rattle.demand3.specs.Lost.{Saw}

-- "3E: bits 7:6 are 00 BYPASS, 01 FIFO, 10 STREAM", and the axes: its byte
abbrev pub control : List Event → ℕ
control es = byte_by es 0x3E

-- how deep the FIFO is, what it drops and how long its frames are
abbrev pub setting : List Event → Setting
setting es = setting_of depth (mode_of (control es)) (axes_of (control es))

-- "LSB then MSB, new-data bit 1"
abbrev pub axis : ℤ → List ℕ
axis v = lsb_byte true (twelve_bits v) ∷ msb_byte (twelve_bits v) ∷ []

-- "An accepted sample becomes a frame of the selected axes in x, y, z order"
unfoldable pub frame : Axes → ℤ → ℤ → ℤ → List ℕ
frame All x y z = axis x ++ axis y ++ axis z
frame X x y z = axis x
frame Y x y z = axis y
frame Z x y z = axis z

-- that of what is stored of a sample behind a history
abbrev pub frame_at : List Event → Values → List ℕ
frame_at es v = frame (axes_of (control es)) v.x v.y v.z

-- what an event says to the FIFO: "cleared (by power-up, soft reset or an accepted write to 0x3E)", an accepted sample, or a readout
unfoldable pub says_here : List Event → Event → Said
says_here es e =
    pick (clears_fifo es e) cleared
    (pick (is_sample e) (sampled (frame_at es (values_at es e)))
    (at_read nothing (λ a n. pick (reads_out a n) (read_out n) nothing) e))

abbrev pub accelerometer : Chip
accelerometer = record { Event = Event; says = says_here; setting = setting }

-- its twin: what the lent buffer holds after the read
unfoldable pub twin : Twin accelerometer
twin es a n = buffer_after (after es) a (zeros n)

-- ---- demand 3, with the accelerometer's number
-- "In FIFO mode the lost are those that arrived while 32 were held; in STREAM mode (in BYPASS, with 1 for 32) those that saw 32 later
-- accepted samples arrive before a readout reached them": a sample of the frame f, by what came earlier and later. No write of the
-- reserved mode is accepted
abbrev pub LostIn : Setting → Mode → List (fifo.Event (List ℕ)) → List ℕ → List (fifo.Event (List ℕ)) → Type 0
LostIn s Fifo earlier f later = held_after s earlier ≡ 32
LostIn s Stream earlier f later = Saw s earlier f 32 later
LostIn s Bypass earlier f later = Saw s earlier f 1 later
LostIn s Reserved earlier f later = ⊥

pub record Demand3Here (t : Twin accelerometer) (es : List Event) : Type 0 where
  pub demand : Demand3 accelerometer t es
  pub lost : (later earlier : List (fifo.Event (List ℕ))) (f : List ℕ) → since accelerometer es ≡ later ++ (fifo.sample f ∷ earlier)
      → (get_elem? (fates accelerometer es) (arrivals later) ≡ some (fifo.lost f)) ↔ LostIn (setting es) (mode_of (control es)) earlier f later
  -- "The held frames never exceed the depth"
  pub few : length (held_of (fates accelerometer es)) ≤ 32
