-- Demand 3: whatever the events, the device meets it.
-- Assumes nothing.
use Prim.Native.Nat.{ℕ, ◌+◌}
use mathlib.Core.Bool.{Bool, true, false}
use mathlib.Core.List.{List, [], ◌∷◌}
use mathlib.Core.Logic.Iff
use mathlib.Core.Logic.{◌↔◌}
use mathlib.Core.Path.{◌≡◌, refl, ap, ◌∙◌}
use native.Mathlib.Omega.{arith}
use lib.Dec.{eqb, ltb}
use lib.ListN.{length}
use borrow.Author.Tests.{eqb-true}
use Rattle.laws.specs.Bits.{worth}
use Rattle.laws.specs.Bytes.{first_or_zeros, zeros}
use Rattle.laws.specs.Choice.{pick}
use Rattle.laws.proofs.Bytes.{length-zeros}
use Rattle.laws.proofs.Finite.{left, picked}
use Rattle.codes.specs.Addresses.{frames_at}
use Rattle.codes.specs.Axes.{axes_of}
use Rattle.codes.specs.Mode.{mode_of, is_reserved_mode}
use Rattle.codes.specs.declared.Axes.{Axes}
use Rattle.codes.specs.declared.Mode.{Mode}
use Rattle.codes.specs.declared.Mode.TheVariants.{Bypass, Fifo, Stream, Reserved}
use Rattle.fifo.specs.Flat.{flat, packed, numbers_of}
use Rattle.fifo.specs.Ledger as ledger
use Rattle.fifo.specs.Ledger.{fates_by, held_of, lost_of}
use Rattle.fifo.specs.Queue.{Queue}
use Rattle.fifo.specs.Setting.{drops_in, setting_of}
use Rattle.fifo.specs.Store.{room}
use Rattle.fifo.proofs.Bounds.{depth-most, depth-some, size-bounds}
use Rattle.fifo.proofs.Conserve.{conserved, any-lost}
use Rattle.fifo.proofs.Store.{bytes_packed, status-packed}
use Rattle.registers.specs.Answers.{accepted}
use Rattle.registers.specs.Refused.{read_answer}
use Rattle.device.specs.Device.{depth, flat_of}
use Rattle.device.specs.Read.{buffer_after, single_bytes, after_singles, byte_from}
use Rattle.device.specs.Show.{shown_byte}
use Rattle.device.specs.declared.Device.{Device}
use Rattle.events.specs.Event.{Event, power_up, write, read, sample, cycle, clock}
use Rattle.events.specs.Run.{after}
use Rattle.events.specs.Views.{at_read}
use Rattle.paper.specs.Samples.{Values, is_sample, values_at}
use Rattle.paper.specs.Readouts.{reads_out, clears_fifo}
use Rattle.paper.proofs.Readouts.{readout-is, control-kept}
use Rattle.demand3.specs.Chip.{Said, cleared, sampled, read_out, nothing, since}
use Rattle.demand3.specs.Demand.{fates}
use Rattle.history.specs.History.{control, setting, frame_at, says_here, accelerometer, twin, LostIn, Demand3Here}
use Rattle.demand3.specs.Lost.{LostBy}
use Rattle.demand3.specs.Whole.{OverClears}
use Rattle.demand3.proofs.Chip.{is_cleared, Lawful, Follows, conserves}
use Rattle.demand3.proofs.Whole.{over-clears}
use Rattle.history.proofs.Holds.{Holds, frame-long, queue_at, holds_after, deep}

-- ---- a device that holds a queue
module _ {c : ℕ} {q : Queue (List ℕ)} {d : Device} (h : Holds c q d) where
  -- the byte of 0x0E
  status-read : (b : ℕ) → buffer_after d 0x0E (b ∷ []) ≡ (worth 128 q.overrun + length q.frames) ∷ []
  unfolding buffer_after read_answer single_bytes after_singles byte_from shown_byte
  status-read b =
      let f : d.fifo ≡ numbers_of (packed room q) = ap numbers_of h.same in
      rw f (ap (λ (byte : ℕ). byte ∷ []) (status-packed h.fits))

  -- the bytes of a readout
  module _ (n : ℕ) (e : reads_out frames_at n ≡ true) where
    ok : accepted (read_answer frames_at n) ≡ true
    ok = left (accepted (read_answer frames_at n)) _ (readout-is frames_at n ∙ e)

    held-given : buffer_after d frames_at (zeros n) ≡ first_or_zeros n (flat q.frames)
    unfolding buffer_after
    held-given = rw (length-zeros, ok, h.control, h.same) (bytes_packed h.fits n)

-- ---- the accelerometer is a chip
steady : (es : List Event) (e : Event) → is_cleared (says_here es e) ≡ false → setting (e ∷ es) ≡ setting es
unfolding says_here
steady es e h = ap (λ (c : ℕ). setting_of depth (mode_of c) (axes_of c)) (control-kept es e (go (clears_fifo es e) _ h))
  where
    go : (t : Bool) (w : Said) → is_cleared (pick t cleared w) ≡ false → t ≡ false
    go true w h = cc
    go false w h = refl

-- of what an event that does not clear the FIFO says: a frame, or a readout
abbrev is_frame : Said → Bool
is_frame cleared = false
is_frame (sampled f) = true
is_frame (read_out n) = false
is_frame nothing = false

readout-said : (e : Event) → is_frame (at_read nothing (λ a n. pick (reads_out a n) (read_out n) nothing) e) ≡ false
readout-said power_up = refl
readout-said (write a byte) = refl
readout-said (read a n) = picked (λ (w : Said). is_frame w ≡ false) (reads_out a n) refl refl
readout-said (sample x y z t) = refl
readout-said cycle = refl
readout-said (clock us) = refl

one_size : (es : List Event) (e : Event) (f : List ℕ) → says_here es e ≡ sampled f → length f ≡ (setting es).size
unfolding says_here
one_size es e f = go (clears_fifo es e) (is_sample e)
  where
    v : Values
    v = values_at es e

    go : (t s : Bool) → pick t cleared (pick s (sampled (frame_at es v)) (at_read nothing (λ a n. pick (reads_out a n) (read_out n) nothing) e)) ≡ sampled f
        → length f ≡ (setting es).size
    go true s q = cc
    go false true q = let k : f ≡ frame_at es v = cc in rw k (frame-long (axes_of (control es)) v.x v.y v.z).1
    go false false q = cc (readout-said e)

pub lawful : Lawful accelerometer
lawful = record {
  keeps = steady;
  some-deep = λ es. depth-some deep (mode_of (control es));
  small = λ es. omega (arith, depth-most deep (mode_of (control es)));
  one = λ es. (size-bounds (axes_of (control es))).0;
  sized = one_size;
}

-- ---- and the device is a twin of it
at-frames : (a n : ℕ) → reads_out a n ≡ true → reads_out frames_at n ≡ true
unfolding reads_out
at-frames a n e = let s : a ≡ frames_at = eqb-true a frames_at (left (eqb a frames_at) _ e) in rw s at e

read-said : (n : ℕ) (e : Event) → at_read nothing (λ a m. pick (reads_out a m) (read_out m) nothing) e ≡ read_out n → reads_out frames_at n ≡ true
read-said n power_up q = cc
read-said n (write a byte) q = cc
read-said n (read a m) q = go (reads_out a m) refl q
  where
    go : (t : Bool) → reads_out a m ≡ t → pick t (read_out m) nothing ≡ read_out n → reads_out frames_at n ≡ true
    go true e q = let k : n ≡ m = cc in rw k (at-frames a m e)
    go false e q = cc
read-said n (sample x y z t) q = cc
read-said n cycle q = cc
read-said n (clock us) q = cc

readout-only : (es : List Event) (e : Event) (n : ℕ) → says_here es e ≡ read_out n → reads_out frames_at n ≡ true
unfolding says_here
readout-only es e n = go (clears_fifo es e) (is_sample e)
  where
    go : (t s : Bool) → pick t cleared (pick s (sampled (frame_at es (values_at es e))) (at_read nothing (λ a m. pick (reads_out a m) (read_out m) nothing) e)) ≡ read_out n
        → reads_out frames_at n ≡ true
    go true s q = cc
    go false true q = cc
    go false false q = read-said n e q

follows : Follows accelerometer twin
unfolding twin queue_at zeros
follows = record {
  reads = λ es e n q. held-given (holds_after es) n (readout-only es e n q);
  shows = λ es. status-read (holds_after es) 0;
}

-- ---- any events
-- in each mode, with the depth as 01 has it
lost-here : (m : Mode) (axes : Axes) → is_reserved_mode m ≡ false → (earlier : List (ledger.Event (List ℕ))) (f : List ℕ) (later : List (ledger.Event (List ℕ)))
    → LostBy (setting_of depth m axes) earlier f (drops_in m) later ↔ LostIn (setting_of depth m axes) m earlier f later
lost-here Bypass axes r earlier f later = Iff.rfl
lost-here Fifo axes r earlier f later = Iff.rfl
lost-here Stream axes r earlier f later = Iff.rfl
lost-here Reserved axes r earlier f later = let z : ◌≡◌ {A = ℕ} 0 1 = cc in absurd (omega arith)

pub demand3 : (es : List Event) → Demand3Here twin es
demand3 es =
    let d = conserves accelerometer twin lawful follows es in
    record {
      demand = d;
      lost = λ later earlier f e. Iff.trans (d.lost later earlier f e) (lost-here (mode_of (control es)) (axes_of (control es)) (holds_after es).mode earlier f later);
      few = omega (arith, d.few, depth-most deep (mode_of (control es)));
    }

pub over-clears-here : (es : List Event) → OverClears accelerometer es
over-clears-here = over-clears accelerometer lawful

-- the frames that the device holds are those of the held samples, the oldest first
pub device-holds : (es : List Event) → flat_of (after es) ≡ packed room (record { frames = held_of (fates accelerometer es); overrun = ltb 0 (length (lost_of (fates accelerometer es))) })
unfolding fates queue_at
device-holds es =
    let g = conserved (setting es) (depth-some deep (mode_of (control es))) (since accelerometer es) in
    (holds_after es).same ∙ (λ i. packed room (record { frames = g.frames i; overrun = (g.overrun ∙ any-lost (fates_by (setting es) (since accelerometer es))) i }))

-- the bytes that the twin gives are in any lent buffer
pub any-buffer : (es : List Event) (a : ℕ) (buffer : List ℕ) → accepted (read_answer a (length buffer)) ≡ true → buffer_after (after es) a buffer ≡ twin es a (length buffer)
unfolding twin buffer_after
any-buffer es a buffer e = rw (length-zeros, e)
