-- What the history counts is what the FIFO and the ledger have.
-- Assumes nothing.
use Prim.Native.Nat.{ℕ, zero, suc, ◌+◌, ◌-◌, ◌*◌, ◌/◌, ◌%◌, ◌≤◌, ◌<◌, min}
use mathlib.Core.Bool.{Bool, true, false}
use mathlib.Core.List.{List, [], ◌∷◌}
use mathlib.Core.Logic.{◌↔◌}
use mathlib.Core.Path.{◌≡◌, refl, ap, sym, ◌∙◌}
use native.Mathlib.Nat.{div-eq_of_lt, div-eq_of_lt-le, div-add-mod', mod-lt, add-div_right, le-div_iff_mul-le}
use native.Mathlib.Omega.{arith}
use lib.Dec.{eqb, ltb}
use lib.ListN.{length, drop, length-append, length-drop}
use borrow.Author.Tests.{eqb-true, eqb-false, ltb-true, ltb-false}
use Rattle.laws.specs.Bits.{worth}
use Rattle.fifo.specs.Ledger.{Event, sample, readout, held_in, fates_by, run}
use Rattle.fifo.specs.Queue.{Queue, frames_reached, pushed}
use Rattle.fifo.specs.declared.Drop.{Drop}
use Rattle.fifo.specs.declared.Drop.TheVariants.{Newcomer, Oldest}
use Rattle.fifo.specs.declared.Setting.{Setting}
use Rattle.fifo.proofs.Conserve.{conserved}
use Rattle.demand3.specs.Counts.{begun, held_after}

-- ---- frames that a readout reaches
module _ (size : ℕ) (one : 1 ≤ size) where
  -- there are as many as it begins
  pub begun-reached : (n : ℕ) → begun size n ≡ frames_reached size n
  unfolding begun
  begun-reached zero = sym (div-eq_of_lt (omega arith))
  begun-reached (suc n) = go (eqb (n % size) 0) refl (begun-reached n)
    where
      divided : n / size * size + n % size ≡ n
      divided = div-add-mod' n size

      next : frames_reached size (suc n) ≡ n / size + 1
      next = let e : suc n + (size - 1) ≡ n + size = omega arith in ap (λ (m : ℕ). m / size) e ∙ add-div_right n one

      go : (t : Bool) → eqb (n % size) 0 ≡ t → begun size n ≡ frames_reached size n → worth 1 t + begun size n ≡ frames_reached size (suc n)
      go true e i =
          let z : n % size ≡ 0 = eqb-true (n % size) 0 e in
          let w : frames_reached size n ≡ n / size = div-eq_of_lt-le size (omega (arith, divided)) (omega (arith, divided)) in
          omega (arith, i, w, next)
      go false e i =
          let z : 1 ≤ n % size = omega (arith, eqb-false (n % size) 0 e) in
          let w : frames_reached size n ≡ n / size + 1 = div-eq_of_lt-le size (omega (arith, divided)) (omega (arith, divided, mod-lt n one)) in
          omega (arith, i, w, next)

  -- a frame with k before it is reached when its first byte is
  pub first-reached : (k n : ℕ) → (k < frames_reached size n) ↔ (k * size < n)
  first-reached k n =
      let d = le-div_iff_mul-le {k = size} {x = suc k} {y = n + (size - 1)} one in
      (λ h. omega (arith, d.0 h), λ h. d.1 (omega arith))

-- ---- frames held
module _ {A : Type 0} (s : Setting) (some : s.drops ≡ Oldest → 1 ≤ s.depth) (one : 1 ≤ s.size) where
  pushed-length : (q : Queue A) (a : A) → length q.frames ≤ s.depth → min s.depth (suc (length q.frames)) ≡ length (pushed s q a).frames
  pushed-length q a few = go (ltb (length q.frames) s.depth) refl s.drops refl
    where
      go : (b : Bool) → ltb (length q.frames) s.depth ≡ b → (r : Drop) → s.drops ≡ r → min s.depth (suc (length q.frames)) ≡ length (pushed s q a).frames
      go true e r f = rw e (omega (arith, ltb-true, length-append q.frames (a ∷ [])))
      go false e Newcomer f = rw (e, f) (omega (arith, ltb-false))
      go false e Oldest f = rw (e, f) (omega (arith, ltb-false, some f, length-append (drop 1 q.frames) (a ∷ []), length-drop 1 q.frames))

  held-frames : (es : List (Event A)) → held_after s es ≡ length (run s es).queue.frames
  unfolding held_after
  held-frames [] = refl
  held-frames (sample a ∷ es) = let g = conserved s some es in rw (held-frames es) (pushed-length (run s es).queue a (omega (arith, g.few, g.count)))
  held-frames (readout n ∷ es) = rw (held-frames es, begun-reached s.size one n, length-drop)

  pub held-counted : (es : List (Event A)) → held_after s es ≡ held_in (fates_by s es)
  held-counted es = held-frames es ∙ (conserved s some es).count
