-- What callers need of a chip's store: the one that is packed from frames stays packed, and means those frames; and bounds of its count.
-- Over a store of any room and any depth for which it has room.
-- Assumes nothing.
use Prim.Native.Nat.{ℕ, ◌+◌, ◌*◌, ◌≤◌}
use mathlib.Core.Path.{◌≡◌, refl, ap, sym, ◌∙◌}
use mathlib.Core.List.{List, ◌++◌}
use mathlib.Core.Bool.{Bool, true, false}
use native.Mathlib.Omega.{arith}
use native.Mathlib.Nat.{add-zero, div-eq_of_lt}
use lib.ListN.{length, take, drop}
use lib.Seq.{drop-drop}
use lib.Dec.{ltb}
use borrow.Author.Tests.{ltb-true}
use Rattle.laws.specs.Bits.{worth}
use Rattle.laws.specs.Bytes.{padded, first_or_zeros}
use Rattle.laws.proofs.Bytes.{first-cut}
use Rattle.codes.specs.declared.Mode.{Mode}
use Rattle.codes.specs.declared.Axes.{Axes}
use Rattle.fifo.specs.declared.Setting.{Setting}
use Rattle.fifo.specs.declared.Fifo.{Fifo}
use Rattle.fifo.specs.Setting.{size_of, depth_in, setting_of}
use Rattle.fifo.specs.Queue.{Queue, frames_reached, empty, pushed, without}
use Rattle.fifo.specs.Flat.{Flat, flat, packed, held_frames, flat_pushed, flat_read, numbers_of}
use Rattle.fifo.specs.Store.{pushed_in, read_in, bytes_in, count_in, room, no_frames, emptied, status_at}
use Rattle.fifo.proofs.Bounds.{Deep, fitting-is, size-bounds, size-space, depth-most, depth-some}
use Rattle.fifo.proofs.Meaning.{Framed, framed-empty, framed-without, framed-pushed, flat-pushed, flat-read, flat-bytes, flat-held, flat-drop, reached-more}

-- a queue that the FIFO of such a chip can hold: at most depth frames, each of the bytes of these axes
pub record Fits (room depth : ℕ) (axes : Axes) (q : Queue (List ℕ)) : Type 0 where
  pub deep : Deep room depth
  pub framed : Framed room depth (size_of axes) q

-- ---- no frame
pub fits-empty : {room depth : ℕ} → Deep room depth → (axes : Axes) → Fits room depth axes empty
fits-empty {room} {depth} h axes = record { deep = h; framed = framed-empty room depth (size_of axes) (size-space h axes) }

pub empty-packed : packed room empty ≡ emptied
unfolding no_frames packed padded
empty-packed = refl

module _ {room depth : ℕ} {axes : Axes} {q : Queue (List ℕ)} (w : Fits room depth axes q) where
  -- ---- a frame comes
  module _ (mode : Mode) where
    pub fits-pushed : (a : List ℕ) → length a ≡ size_of axes → Fits room depth axes (pushed (setting_of depth mode axes) q a)
    fits-pushed a l = record { deep = w.deep; framed = framed-pushed (setting_of depth mode axes) w.framed (depth-some w.deep mode) a (depth-most w.deep mode) l }

    pub pushed-packed : (frame : List ℕ) → size_of axes ≤ length frame → pushed_in room depth mode axes frame (packed room q) ≡ packed room (pushed (setting_of depth mode axes) q (take (size_of axes) frame))
    unfolding pushed_in
    pushed-packed frame h = rw (fitting-is w.deep) (flat-pushed (setting_of depth mode axes) w.framed (depth-some w.deep mode) frame h)

  -- ---- n bytes are read
  module _ (n : ℕ) where
    pub fits_read : Fits room depth axes (without (frames_reached (size_of axes) n) q)
    fits_read = record { deep = w.deep; framed = framed-without (frames_reached (size_of axes) n) w.framed }

    pub read-packed : read_in room depth axes n (packed room q) ≡ packed room (without (frames_reached (size_of axes) n) q)
    unfolding read_in
    read-packed = rw (fitting-is w.deep) (flat-read w.framed n)

    -- they are those of the frames held, and so of the frames that n bytes reach
    pub bytes_packed : bytes_in room depth axes n (packed room q) ≡ first_or_zeros n (flat q.frames)
    unfolding bytes_in
    bytes_packed = rw (fitting-is w.deep) (flat-bytes w.framed n)

  -- ---- the numbers
  pub count-packed : count_in room depth (numbers_of (packed room q)) ≡ length q.frames
  unfolding count_in
  count-packed = rw (fitting-is w.deep) (flat-held w.framed)

-- ---- the bytes of k frames are read and then n bytes: as if all were read at once, in bytes and in what stays
front-reaches : (size k : ℕ) → 1 ≤ size → frames_reached size (k * size) ≡ k
front-reaches size k h =
    let z : frames_reached size 0 ≡ 0 = div-eq_of_lt (omega (arith, h)) in
    ap (frames_reached size) (sym (add-zero (k * size))) ∙ reached-more size k 0 h ∙ ap (λ (j : ℕ). k + j) z ∙ add-zero k

module _ {room depth : ℕ} {axes : Axes} {q : Queue (List ℕ)} (w : Fits room depth axes q) (k n : ℕ) where
  some : 1 ≤ size_of axes
  some = (size-bounds axes).0

  pub read-cut : read_in room depth axes n (read_in room depth axes (k * size_of axes) (packed room q)) ≡ read_in room depth axes (k * size_of axes + n) (packed room q)
  read-cut =
      let m = k * size_of axes in
      let r = frames_reached (size_of axes) in
      let d : drop (r n) (drop (r m) q.frames) ≡ drop (r (m + n)) q.frames =
      drop-drop (r n) (r m) q.frames ∙ ap (λ (j : ℕ). drop j q.frames) (ap (λ (j : ℕ). j + r n) (front-reaches (size_of axes) k some) ∙ sym (reached-more (size_of axes) k n some)) in
      ap (read_in room depth axes n) (read-packed w m) ∙ read-packed (fits_read w m) n ∙ (λ i. packed room (record { frames = d i; overrun = q.overrun })) ∙ sym (read-packed w (m + n))

  pub bytes_cut : bytes_in room depth axes (k * size_of axes) (packed room q) ++ bytes_in room depth axes n (read_in room depth axes (k * size_of axes) (packed room q))
      ≡ bytes_in room depth axes (k * size_of axes + n) (packed room q)
  bytes_cut =
      let m = k * size_of axes in
      let d : drop m (flat q.frames) ≡ flat (drop (frames_reached (size_of axes) m) q.frames) =
      flat-drop (size_of axes) k q.frames w.framed.sized ∙ ap (λ (j : ℕ). flat (drop j q.frames)) (sym (front-reaches (size_of axes) k some)) in
      rw (read-packed w m, bytes_packed w m, bytes_packed (fits_read w m) n, bytes_packed w (m + n), ← d) (first-cut m n (flat q.frames))

pub status-packed : {depth : ℕ} {axes : Axes} {q : Queue (List ℕ)} → Fits room depth axes q → status_at depth (numbers_of (packed room q)) ≡ worth 128 q.overrun + length q.frames
unfolding packed
status-packed w = rw (count-packed w)

-- ---- a count that is not above the depth, of any store
held-few : (most : ℕ) (s : Setting) (frame : List ℕ) (f : Flat) → f.count ≤ s.depth → (flat_pushed most s frame f).count ≤ s.depth
unfolding flat_pushed
held-few most s frame f h = go (ltb (held_frames most f) s.depth) refl
  where
    go : (t : Bool) → ltb (held_frames most f) s.depth ≡ t → (flat_pushed most s frame f).count ≤ s.depth
    go true e = rw e (omega (arith, ltb-true))
    go false e = rw e (omega arith)

pub read-few : (room depth : ℕ) (axes : Axes) (n : ℕ) (f : Flat) → (read_in room depth axes n f).count ≤ f.count
unfolding read_in flat_read
read-few room depth axes n f = omega arith

module _ {room depth : ℕ} (h : Deep room depth) (mode : Mode) where
  pub pushed-few : (axes : Axes) (frame : List ℕ) (f : Flat) → f.count ≤ depth_in depth mode → (pushed_in room depth mode axes frame f).count ≤ depth_in depth mode
  unfolding pushed_in
  pushed-few axes frame f few = rw (fitting-is h) (held-few depth (setting_of depth mode axes) frame f few)

  pub count-few : (f : Fifo) → f.count ≤ depth_in depth mode → count_in room depth f ≡ f.count
  unfolding count_in
  count-few f few = rw (fitting-is h) (omega (arith, depth-most h mode))
