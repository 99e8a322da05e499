-- The store that is packed from frames stays packed, and means those frames. Over any room, depth, drop rule and frame size.
-- Assumes nothing.
use Prim.Native.Nat.{ℕ, zero, suc, ◌+◌, ◌-◌, ◌*◌, ◌/◌, ◌≤◌, min}
use mathlib.Core.Path.{◌≡◌, refl, ap, sym, ◌∙◌}
use mathlib.Core.List.{List, [], ◌∷◌, ◌++◌, append-nil, append_assoc}
use mathlib.Core.Bool.{Bool, true, false}
use native.Mathlib.Omega.{arith}
use native.Mathlib.Nat.{one-mul, zero-mul, suc-mul, mul-le-mul_right, lt-div-mul-add, mul-add-div_right, zero-min, suc-min-suc}
use lib.ListN.{length, take, drop, length-append, length-drop, take-append-drop}
use lib.Seq.{paste, take_all, take_at, length-take-le, drop-nil, drop-append-add}
use lib.Dec.{ltb}
use borrow.Author.Tests.{ltb-true, ltb-false}
use Rattle.laws.specs.Bytes.{zeros, padded, first_or_zeros}
use Rattle.laws.proofs.Bytes.{length-zeros, zeros-zeros, first-front, paste-padded, paste-moved}
use Rattle.fifo.specs.declared.Drop.{Drop}
use Rattle.fifo.specs.declared.Drop.TheVariants.{Newcomer, Oldest}
use Rattle.fifo.specs.declared.Setting.{Setting}
use Rattle.fifo.specs.Queue.{Queue, frames_reached, empty, pushed, without}
use Rattle.fifo.specs.Flat.{flat, packed, held_frames, behind, forward, vacated, flat_pushed, flat_read, bytes_read}

-- every frame has size bytes
abbrev pub Sized : ℕ → List (List ℕ) → Type 0
Sized size [] = Unit
Sized size (f ∷ fs) = (length f ≡ size) × Sized size fs

-- at most most frames of size bytes, for which room bytes are enough
pub record Framed (room most size : ℕ) (q : Queue (List ℕ)) : Type 0 where
  pub few : length q.frames ≤ most
  pub sized : Sized size q.frames
  pub space : most * size ≤ room

drop-held : {A : Type 0} (k : ℕ) (l : List A) → drop (min k (length l)) l ≡ drop k l
drop-held zero l = rw zero-min
drop-held (suc k) [] = drop-nil (min (suc k) 0)
drop-held (suc k) (x ∷ l) = rw suc-min-suc (drop-held k l)

-- ---- frames one after the other
flat_append : (xs ys : List (List ℕ)) → flat (xs ++ ys) ≡ flat xs ++ flat ys
flat_append [] ys = refl
flat_append (x ∷ xs) ys = ap (λ (l : List ℕ). x ++ l) (flat_append xs ys) ∙ sym (append_assoc x (flat xs) (flat ys))

flat-snoc : (xs : List (List ℕ)) (a : List ℕ) → flat (xs ++ (a ∷ [])) ≡ flat xs ++ a
flat-snoc xs a = flat_append xs (a ∷ []) ∙ rw append-nil

flat-split : (k : ℕ) (fs : List (List ℕ)) → flat fs ≡ flat (take k fs) ++ flat (drop k fs)
flat-split k fs = ap flat (sym (take-append-drop k fs)) ∙ flat_append (take k fs) (drop k fs)

module _ (size : ℕ) where
  length-flat : (fs : List (List ℕ)) → Sized size fs → length (flat fs) ≡ length fs * size
  length-flat [] s = sym (zero-mul size)
  length-flat (f ∷ fs) s = omega (arith, length-append f (flat fs), length-flat fs s.1, suc-mul (length fs) size, s.0)

  sized-snoc : (fs : List (List ℕ)) (a : List ℕ) → Sized size fs → length a ≡ size → Sized size (fs ++ (a ∷ []))
  sized-snoc [] a s h = (h, tt)
  sized-snoc (f ∷ fs) a s h = (s.0, sized-snoc fs a s.1 h)

  sized-take : (k : ℕ) (fs : List (List ℕ)) → Sized size fs → Sized size (take k fs)
  sized-take zero fs s = tt
  sized-take (suc k) [] s = tt
  sized-take (suc k) (f ∷ fs) s = (s.0, sized-take k fs s.1)

  sized-drop : (k : ℕ) (fs : List (List ℕ)) → Sized size fs → Sized size (drop k fs)
  sized-drop zero fs s = s
  sized-drop (suc k) [] s = tt
  sized-drop (suc k) (f ∷ fs) s = sized-drop k fs s.1

  -- the bytes behind k frames are those of the others
  pub flat-drop : (k : ℕ) (fs : List (List ℕ)) → Sized size fs → drop (k * size) (flat fs) ≡ flat (drop k fs)
  flat-drop zero fs s = rw zero-mul
  flat-drop (suc k) [] s = drop-nil (suc k * size)
  flat-drop (suc k) (f ∷ fs) s =
      let e : suc k * size ≡ length f + k * size = omega (arith, suc-mul k size, s.0) in
      ap (λ (j : ℕ). drop j (f ++ flat fs)) e ∙ drop-append-add f (flat fs) (k * size) ∙ flat-drop k fs s.1

  -- of the frames the first k go, the others move to the front, and the first p bytes of src, as many as went, are written behind them
  moved : (room k : ℕ) (fs : List (List ℕ)) (src : List ℕ) (p : ℕ) → Sized size fs → k ≤ length fs → p ≡ k * size
      → paste (forward size (length fs) k (padded room (flat fs))) ((length fs - k) * size) src p ≡ flat (drop k fs) ++ take p src ++ zeros (room - length fs * size)
  unfolding padded
  moved room k fs src p s h e =
      let n = length fs in
      let a : length (flat (take k fs)) ≡ k * size = length-flat (take k fs) (sized-take k fs s) ∙ rw (length-take-le k fs h) in
      let b : length (flat (drop k fs)) ≡ (n - k) * size = length-flat (drop k fs) (sized-drop k fs s) ∙ rw length-drop in
      let l : length (flat (take k fs) ++ flat (drop k fs)) ≡ n * size = ap length (sym (flat-split k fs)) ∙ length-flat fs s in
      rw (e, length-flat fs s, flat-split k fs) (paste-moved (flat (take k fs)) (flat (drop k fs)) (zeros (room - n * size)) src (k * size) ((n - k) * size) (n * size) a b l)

  -- and zeros are written there
  cleared : (room k : ℕ) (fs : List (List ℕ)) → Sized size fs → k ≤ length fs → length fs * size ≤ room → vacated size (length fs) k (forward size (length fs) k (padded room (flat fs))) ≡ padded room (flat (drop k fs))
  unfolding padded
  cleared room k fs s h r =
      let e : length fs ≡ k + length (drop k fs) = omega (arith, length-drop k fs) in
      let z : k * size + (room - length fs * size) ≡ room - length (flat (drop k fs)) = omega (arith, length-flat (drop k fs) (sized-drop k fs s), ap (λ (n : ℕ). n * size) e) in
      moved room k fs (zeros (k * size)) (k * size) s h refl
      ∙ rw (take_all (k * size) (zeros (k * size)) (omega (arith, length-zeros (k * size))), append_assoc, zeros-zeros, z)

-- ---- frames that a store has room for
pub framed-empty : (room most size : ℕ) → most * size ≤ room → Framed room most size empty
framed-empty room most size h = record { few = omega arith; sized = tt; space = h }

pub framed-without : {room most size : ℕ} (k : ℕ) {q : Queue (List ℕ)} → Framed room most size q → Framed room most size (without k q)
framed-without {size = size} k {q} w = record {
  few = omega (arith, length-drop k q.frames);
  sized = sized-drop size k q.frames w.sized;
  space = w.space;
}

module _ {room most : ℕ} (s : Setting) {q : Queue (List ℕ)} (w : Framed room most s.size q) (some : s.drops ≡ Oldest → 1 ≤ s.depth) where
  pub framed-pushed : (a : List ℕ) → s.depth ≤ most → length a ≡ s.size → Framed room most s.size (pushed s q a)
  framed-pushed a h l = go (ltb (length q.frames) s.depth) refl s.drops refl
    where
      go : (b : Bool) → ltb (length q.frames) s.depth ≡ b → (d : Drop) → s.drops ≡ d → Framed room most s.size (pushed s q a)
      go true e d f = rw e record { few = omega (arith, ltb-true, length-append q.frames (a ∷ [])); sized = sized-snoc s.size q.frames a w.sized l; space = w.space }
      go false e Newcomer f = rw (e, f) record { few = w.few; sized = w.sized; space = w.space }
      go false e Oldest f = rw (e, f) record {
        few = omega (arith, ltb-false, some f, length-append (drop 1 q.frames) (a ∷ []), length-drop 1 q.frames);
        sized = sized-snoc s.size (drop 1 q.frames) a (sized-drop s.size 1 q.frames w.sized) l;
        space = w.space;
      }

  pub flat-pushed : (frame : List ℕ) → s.size ≤ length frame → flat_pushed most s frame (packed room q) ≡ packed room (pushed s q (take s.size frame))
  unfolding flat_pushed packed padded
  flat-pushed frame h = go (ltb (length q.frames) s.depth) refl s.drops refl
    where
      fs : List (List ℕ)
      fs = q.frames

      m : min (length fs) most ≡ length fs
      m = omega (arith, w.few)

      a : List ℕ
      a = take s.size frame

      go : (b : Bool) → ltb (length fs) s.depth ≡ b → (d : Drop) → s.drops ≡ d → flat_pushed most s frame (packed room q) ≡ packed room (pushed s q a)
      go true e d f =
          let p : behind s.size (length fs) frame (padded room (flat fs)) ≡ padded room (flat (fs ++ (a ∷ []))) =
          rw flat-snoc (paste-padded room (flat fs) frame (length fs * s.size) s.size (length-flat s.size fs w.sized) h) in
          rw (m, e) (λ i. record { bytes = p i; count = sym (length-append fs (a ∷ [])) i; overrun = q.overrun })
      go false e Newcomer f = rw (m, e, f)
      go false e Oldest f =
          let o : 1 ≤ length fs = omega (arith, ltb-false, some f) in
          let c : length fs ≡ length (drop 1 fs ++ (a ∷ [])) = omega (arith, length-append (drop 1 fs) (a ∷ []), length-drop 1 fs) in
          let l : length fs * s.size ≡ length (flat (drop 1 fs) ++ a) =
          ap (λ (n : ℕ). n * s.size) c ∙ sym (length-flat s.size (drop 1 fs ++ (a ∷ [])) (sized-snoc s.size (drop 1 fs) a (sized-drop s.size 1 fs w.sized) (length-take-le s.size frame h))) ∙ ap length (flat-snoc (drop 1 fs) a) in
          let p : behind s.size (length fs - 1) frame (forward s.size (length fs) 1 (padded room (flat fs))) ≡ padded room (flat (drop 1 fs ++ (a ∷ []))) =
          rw (flat-snoc, ← l) (moved s.size room 1 fs frame s.size w.sized o (sym (one-mul s.size))) in
          rw (m, e, f) (λ i. record { bytes = p i; count = c i; overrun = true })

module _ {room most size : ℕ} {q : Queue (List ℕ)} (w : Framed room most size q) where
  pub flat-held : held_frames most (packed room q) ≡ length q.frames
  unfolding packed
  flat-held = omega (arith, w.few)

  pub flat-bytes : (b : ℕ) → bytes_read most size b (packed room q) ≡ first_or_zeros b (flat q.frames)
  unfolding bytes_read packed padded
  flat-bytes b = rw (flat-held, take_at (flat q.frames) _ (length q.frames * size) (length-flat size q.frames w.sized))

  pub flat-read : (b : ℕ) → flat_read most size b (packed room q) ≡ packed room (without (frames_reached size b) q)
  unfolding flat_read packed padded
  flat-read b =
      let fs = q.frames in
      let k = min (frames_reached size b) (length fs) in
      let d : drop k fs ≡ drop (frames_reached size b) fs = drop-held (frames_reached size b) fs in
      let p = cleared size room k fs w.sized (omega arith) (omega (arith, mul-le-mul_right size w.few)) in
      let c : length fs - k ≡ length (drop k fs) = sym (length-drop k fs) in
      rw (flat-held, ← d) (λ i. record { bytes = p i; count = c i; overrun = q.overrun })

-- ---- the bytes that a readout gives
-- the frames that b bytes reach have b bytes
reached-covers : (size b : ℕ) → 1 ≤ size → b ≤ frames_reached size b * size
reached-covers size b h = omega (arith, lt-div-mul-add {a = b + (size - 1)} {b = size} h)

-- k frames and b bytes reach k frames more than b bytes do
pub reached-more : (size k b : ℕ) → 1 ≤ size → frames_reached size (k * size + b) ≡ k + frames_reached size b
reached-more size k b h =
    let e : k * size + b + (size - 1) ≡ k * size + (b + (size - 1)) = omega (arith, h) in
    ap (λ (j : ℕ). j / size) e ∙ mul-add-div_right h k (b + (size - 1))

pub first_taken : (size b : ℕ) (fs : List (List ℕ)) → 1 ≤ size → Sized size fs → first_or_zeros b (flat fs) ≡ first_or_zeros b (flat (take (frames_reached size b) fs))
first_taken size b fs h s = go (ltb (length fs) (frames_reached size b)) refl
  where
    go : (t : Bool) → ltb (length fs) (frames_reached size b) ≡ t → first_or_zeros b (flat fs) ≡ first_or_zeros b (flat (take (frames_reached size b) fs))
    go true e = rw (take_all (frames_reached size b) fs (omega (arith, ltb-true)))
    go false e =
        let r = frames_reached size b in
        let l : length (flat (take r fs)) ≡ r * size = length-flat size (take r fs) (sized-take size r fs s) ∙ rw (length-take-le r fs (ltb-false (length fs) r e)) in
        ap (λ (x : List ℕ). first_or_zeros b x) (flat-split r fs) ∙ first-front b (flat (take r fs)) (flat (drop r fs)) (omega (arith, reached-covers size b h))
