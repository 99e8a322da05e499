-- After any events the device is the one that its history tells: at 0x3E stands what the last clear left, and the FIFO is the one store
-- that holds what the FIFO of the ledger holds.
-- Assumes nothing.
use Prim.Native.Nat.{ℕ, ◌≤◌}
use mathlib.Core.Bool.{Bool, true, false}
use mathlib.Core.List.{List, [], ◌∷◌}
use mathlib.Core.Path.{◌≡◌, refl, ◌∙◌}
use native.Mathlib.Omega.{arith}
use lib.IntN.{ℤ}
use lib.ListN.{length, get_or, take}
use Rattle.laws.specs.Choice.{pick}
use Rattle.codes.specs.Addresses.{control_at}
use Rattle.codes.specs.Axes.{axes_of}
use Rattle.codes.specs.Mode.{mode_of, is_reserved_mode}
use Rattle.codes.specs.declared.Axes.{Axes}
use Rattle.codes.specs.declared.Axes.TheVariants.{All, X, Y, Z}
use Rattle.fifo.specs.Flat.{Flat, packed}
use Rattle.fifo.specs.Ledger as ledger
use Rattle.fifo.specs.Ledger.{run}
use Rattle.fifo.specs.Queue.{Queue}
use Rattle.fifo.specs.Setting.{size_of, setting_of}
use Rattle.fifo.specs.Store.{room, emptied, pushed_at, readout_at}
use Rattle.fifo.proofs.Bounds.{Deep}
use Rattle.fifo.proofs.Store.{Fits, fits-empty, fits-pushed, fits_read, pushed-packed, read-packed, empty-packed}
use Rattle.channels.specs.Codes.{codes}
use Rattle.device.specs.Device as device
use Rattle.device.specs.Device.{depth, flat_of}
use Rattle.device.specs.Sample.{frame_of}
use Rattle.device.specs.declared.Device.{Device}
use Rattle.events.specs.Event.{Event, power_up, write, read, sample, cycle, clock}
use Rattle.events.specs.Run.{after}
use Rattle.events.specs.Parts.{flat_next}
use Rattle.events.proofs.Parts.{flat-next}
use Rattle.paper.specs.Stored.{byte_by}
use Rattle.paper.specs.Samples.{is_inside, all_inside, stored_behind}
use Rattle.paper.specs.Readouts.{reads_out, clears_fifo}
use Rattle.paper.proofs.Stored.{held-is}
use Rattle.paper.proofs.Codes.{mode-known}
use Rattle.paper.proofs.Samples.{sample-is, code_is, upper_is}
use Rattle.paper.proofs.Offsets.{stored-inside, stored-after}
use Rattle.paper.proofs.Readouts.{readout-is, clears-is, control-kept}
use Rattle.demand3.specs.Chip.{since}
use Rattle.history.specs.History.{control, frame, says_here, accelerometer}

-- ---- frames
-- the store has room for the depth
pub deep : Deep room depth
deep = record { some = omega arith; space = omega arith }

frame_is : (a : Axes) (x y z : ℤ) → is_inside x ≡ true → is_inside y ≡ true → is_inside z ≡ true
    → take (size_of a) (frame_of a (codes x y z)) ≡ frame a x y z
unfolding frame
frame_is All x y z p q r = rw (code_is x p, code_is y q, code_is z r, upper_is x, upper_is y, upper_is z)
frame_is X x y z p q r = rw (code_is x p, upper_is x)
frame_is Y x y z p q r = rw (code_is y q, upper_is y)
frame_is Z x y z p q r = rw (code_is z r, upper_is z)

pub frame-long : (a : Axes) (x y z : ℤ) → (size_of a ≤ length (frame_of a (codes x y z))) × (length (frame a x y z) ≡ size_of a)
unfolding frame
frame-long All x y z = omega arith
frame-long X x y z = omega arith
frame-long Y x y z = omega arith
frame-long Z x y z = omega arith

-- ---- the FIFO
-- what it holds with c at 0x3E, by what it was told
unfoldable pub queue_at : ℕ → List (ledger.Event (List ℕ)) → Queue (List ℕ)
queue_at c es = (run (setting_of depth (mode_of c) (axes_of c)) es).queue

abbrev queue_by : List Event → Queue (List ℕ)
queue_by es = queue_at (control es) (since accelerometer es)

-- the store f is the one that holds what a history tells
record Stores (es : List Event) (f : Flat) : Type 0 where
  same : f ≡ packed room (queue_by es)
  fits : Fits room depth (axes_of (control es)) (queue_by es)

-- where it was told nothing since a clear, it is empty
stores-none : (es : List Event) → since accelerometer es ≡ [] → Stores es emptied
unfolding queue_at
stores-none es h = record { same = rw (h, empty-packed); fits = rw h (fits-empty deep (axes_of (control es))) }

module _ (es : List Event) {f : Flat} (h : Stores es f) where
  stores_write : (a byte : ℕ) → Stores (write a byte ∷ es) (pick (clears_fifo es (write a byte)) emptied f)
  unfolding since says_here
  stores_write a byte = go (clears_fifo es (write a byte)) refl
    where
      go : (t : Bool) → clears_fifo es (write a byte) ≡ t → Stores (write a byte ∷ es) (pick t emptied f)
      go true e = stores-none (write a byte ∷ es) (rw e)
      go false e = record { same = rw (e, control-kept es (write a byte) e) h.same; fits = rw (e, control-kept es (write a byte) e) h.fits }

  stores-read : (a n : ℕ) → Stores (read a n ∷ es) (pick (reads_out a n) (readout_at depth (axes_of (control es)) n f) f)
  unfolding byte_by since says_here queue_at
  stores-read a n = go (reads_out a n) refl
    where
      go : (t : Bool) → reads_out a n ≡ t → Stores (read a n ∷ es) (pick t (readout_at depth (axes_of (control es)) n f) f)
      go true e = record { same = rw (e, h.same) (read-packed h.fits n); fits = rw e (fits_read h.fits n) }
      go false e = record { same = rw e h.same; fits = rw e h.fits }

  -- what is stored of the sample is x, y, z, and lies inside
  stores-sample : (gx gy gz : ℤ) (t : ℕ)
      → let axes = axes_of (control es) in
      let x = stored_behind es 0x38 gx in
      let y = stored_behind es 0x39 gy in
      let z = stored_behind es 0x3A gz in
      Stores (sample gx gy gz t ∷ es) (pick (all_inside gx gy gz) (pushed_at depth (mode_of (control es)) axes (frame_of axes (codes x y z)) f) f)
  unfolding byte_by since says_here queue_at
  stores-sample gx gy gz t = go (all_inside gx gy gz) refl
    where
      c : ℕ
      c = control es

      x : ℤ
      x = stored_behind es 0x38 gx

      y : ℤ
      y = stored_behind es 0x39 gy

      z : ℤ
      z = stored_behind es 0x3A gz

      go : (s : Bool) → all_inside gx gy gz ≡ s
          → Stores (sample gx gy gz t ∷ es) (pick s (pushed_at depth (mode_of (control es)) (axes_of (control es)) (frame_of (axes_of (control es)) (codes x y z)) f) f)
      go true e =
          let l = frame-long (axes_of c) x y z in
          let is = frame_is (axes_of c) x y z (stored-inside es 0x38 gx) (stored-inside es 0x39 gy) (stored-inside es 0x3A gz) in
          record {
            same = rw (e, h.same) (pushed-packed h.fits (mode_of c) (frame_of (axes_of c) (codes x y z)) l.0 ∙ rw is);
            fits = rw e (fits-pushed h.fits (mode_of c) (frame (axes_of c) x y z) l.1);
          }
      go false e = record { same = rw e h.same; fits = rw e h.fits }

  stores-other : Stores (cycle ∷ es) f × ((us : ℕ) → Stores (clock us ∷ es) f)
  unfolding byte_by since says_here queue_at
  stores-other = (record { same = h.same; fits = h.fits }, λ us. record { same = h.same; fits = h.fits })

stores-next : (es : List Event) (e : Event) {f : Flat} → Stores es f → Stores (e ∷ es) (flat_next (after es).regs e f)
unfolding since says_here
stores-next es power_up h = stores-none (power_up ∷ es) refl
stores-next es (write a byte) h = rw (clears-is es a byte) (stores_write es h a byte)
stores-next es (read a n) h = rw (readout-is a n, held-is es control_at (omega arith)) (stores-read es h a n)
stores-next es (sample x y z t) h = rw (sample-is x y z, held-is es control_at (omega arith), stored-after es x y z) (stores-sample es h x y z t)
stores-next es cycle h = (stores-other es h).0
stores-next es (clock us) h = (stores-other es h).1 us

stores-after : (es : List Event) → Stores es (flat_of (after es))
unfolding after since device.power_up
stores-after [] = stores-none [] refl
stores-after (e ∷ es) = rw (flat-next (after es) e) (stores-next es e (stores-after es))

-- ---- the device d has c at 0x3E and holds the queue q
pub record Holds (c : ℕ) (q : Queue (List ℕ)) (d : Device) : Type 0 where
  pub control : get_or d.regs control_at 0 ≡ c
  pub same : flat_of d ≡ packed room q
  pub fits : Fits room depth (axes_of c) q
  -- the mode is one of 01's three
  pub mode : is_reserved_mode (mode_of c) ≡ false

pub holds_after : (es : List Event) → Holds (control es) (queue_at (control es) (since accelerometer es)) (after es)
holds_after es = record { control = held-is es control_at (omega arith); same = (stores-after es).same; fits = (stores-after es).fits; mode = mode-known es }
