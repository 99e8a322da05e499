-- "The held frames never exceed the depth", of the device's count.
-- Assumes nothing.
use Prim.Native.Nat.{ℕ, ◌≤◌}
use mathlib.Core.Bool.{Bool, true, false}
use mathlib.Core.Path.{◌≡◌, refl}
use mathlib.Core.List.{List, [], ◌∷◌}
use native.Mathlib.Omega.{arith}
use Rattle.laws.specs.Choice.{pick}
use Rattle.laws.proofs.Finite.{picked}
use Rattle.codes.specs.Addresses.{control_at}
use Rattle.codes.specs.Mode.{mode_of}
use Rattle.codes.specs.Axes.{axes_of}
use Rattle.fifo.specs.Flat.{Flat}
use Rattle.fifo.specs.Setting.{depth_in}
use Rattle.fifo.specs.Store.{emptied, room}
use Rattle.fifo.proofs.Bounds.{Deep}
use Rattle.fifo.proofs.Store.{pushed-few, read-few}
use Rattle.registers.specs.Answers.{accepted}
use Rattle.device.specs.Device as device
use Rattle.device.specs.Device.{depth, reg, flat_of}
use Rattle.device.specs.Sample.{sample_answer, frame_of, stored_codes}
use Rattle.events.specs.Event.{Event, power_up, write, read, sample, cycle, clock}
use Rattle.events.specs.Run.{after}
use Rattle.events.specs.Parts.{flat_next, reads_frames}
use Rattle.events.proofs.Parts.{flat-next}
use Rattle.paper.specs.Stored.{byte_by}
use Rattle.paper.specs.Readouts.{clears_fifo}
use Rattle.paper.proofs.Stored.{held-is}
use Rattle.paper.proofs.Readouts.{clears-is, control-kept}

-- the store has room for the depth
pub deep : Deep room depth
deep = record { some = omega arith; space = omega arith }

-- no more frames than the depth, of what 0x3E stores and of the FIFO
abbrev Few : ℕ → Flat → Type 0
Few control f = f.count ≤ depth_in depth (mode_of control)

few-next : (es : List Event) (f : Flat) → Few (byte_by es 0x3E) f → (e : Event) → Few (byte_by (e ∷ es) 0x3E) (flat_next (after es).regs e f)
unfolding byte_by
few-next es f p power_up = omega arith
few-next es f p (write a byte) = rw (clears-is es a byte) (go (clears_fifo es (write a byte)) refl)
  where
    go : (t : Bool) → clears_fifo es (write a byte) ≡ t → Few (byte_by (write a byte ∷ es) 0x3E) (pick t emptied f)
    go true e = omega arith
    go false e = rw (control-kept es (write a byte) e) p
few-next es f p (read a n) =
    picked (λ (g : Flat). Few (byte_by es 0x3E) g) (reads_frames a n) (omega (arith, read-few room depth (axes_of (reg (after es) control_at)) n f)) p
few-next es f p (sample x y z t) =
    let axes = axes_of (byte_by es 0x3E) in
    rw (held-is es control_at (omega arith))
    (picked (λ (g : Flat). Few (byte_by es 0x3E) g) (accepted (sample_answer x y z))
    (pushed-few deep (mode_of (byte_by es 0x3E)) axes (frame_of axes (stored_codes (after es).regs x y z)) f p) p)
few-next es f p cycle = p
few-next es f p (clock us) = p

few-after : (es : List Event) → Few (byte_by es 0x3E) (flat_of (after es))
unfolding after device.power_up
few-after [] = omega arith
few-after (e ∷ es) = rw (flat-next (after es) e) (few-next es (flat_of (after es)) (few-after es) e)

pub few : (es : List Event) → (after es).fifo.count ≤ depth_in depth (mode_of (reg (after es) control_at))
few es = rw (held-is es control_at (omega arith)) (few-after es)
