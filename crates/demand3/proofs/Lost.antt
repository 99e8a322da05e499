-- The ledger's "lost" is demand 3's, sample by sample: over any depth, drop rule and frame size.
-- Assumes nothing.
use Prim.Native.Nat.{ℕ, suc, ◌+◌, ◌≤◌, ◌<◌}
use mathlib.Core.Bool.{Bool, true, false}
use mathlib.Core.List.{List, [], ◌∷◌, ◌++◌}
use mathlib.Core.Logic.{◌↔◌, ⊎_elim}
use mathlib.Core.Option.{some}
use mathlib.Core.Path.{◌≡◌, refl, ap}
use native.Mathlib.Omega.{arith}
use lib.Dec.{ltb}
use borrow.Author.Tests.{ltb-false, le-ltb}
use Rattle.fifo.specs.Ledger.{Event, sample, readout, held, lost, fates_by}
use Rattle.fifo.specs.Queue.{frames_reached}
use Rattle.fifo.specs.declared.Drop.{Drop}
use Rattle.fifo.specs.declared.Drop.TheVariants.{Newcomer, Oldest}
use Rattle.fifo.specs.declared.Setting.{Setting}
use Rattle.fifo.proofs.Conserve.{conserved}
use Rattle.demand3.specs.Counts.{arrivals, held_after}
use Rattle.demand3.specs.Lost.{up_to, Saw, LostBy}
use Rattle.demand3.proofs.Counts.{held-counted}
use Rattle.demand3.proofs.Fates.{passed-lost, held-lost, takes-lost, arrives-lost}
use Rattle.demand3.proofs.Taken.{fate, has-fate, shut-lost, kept, taken_in}

arrivals-append : {A : Type 0} (xs ys : List (Event A)) → arrivals (xs ++ ys) ≡ arrivals xs + arrivals ys
arrivals-append [] ys = omega arith
arrivals-append (sample a ∷ xs) ys = omega (arith, arrivals-append xs ys)
arrivals-append (readout n ∷ xs) ys = arrivals-append xs ys

module _ {A : Type 0} (s : Setting) (some-deep : s.drops ≡ Oldest → 1 ≤ s.depth) (one : 1 ≤ s.size) (earlier : List (Event A)) (a : A) where
  -- ---- where the newcomer is dropped
  newcomer-lost : s.drops ≡ Newcomer → (later : List (Event A)) → (fate s earlier a later ≡ some (lost a)) ↔ (held_after s earlier ≡ s.depth)
  unfolding held_after
  newcomer-lost f later = (λ p. full p (ltb (held_after s earlier) s.depth) refl, λ p. shut-lost s some-deep one earlier a (rw f (le-ltb (held_after s earlier) s.depth (omega arith))) later)
    where
      few : held_after s earlier ≤ s.depth
      few = omega (arith, held-counted s some-deep one earlier, (conserved s some-deep earlier).few)

      full : fate s earlier a later ≡ some (lost a) → (t : Bool) → ltb (held_after s earlier) s.depth ≡ t → held_after s earlier ≡ s.depth
      full p true e = absurd (kept s some-deep one earlier a f (rw f e) later p)
      full p false e = omega (arith, ltb-false, few)

  -- ---- where the oldest is dropped: a sample was held when so many had come
  record Passed (later : List (Event A)) : Type 0 where
    rest : List (Event A)
    last : A
    between : List (Event A)
    split : later ≡ rest ++ (sample last ∷ between)
    arrived : suc (arrivals between) ≡ s.depth
    then-held : fate s earlier a between ≡ some (held a)

  passed-more : (e : Event A) (later : List (Event A)) → Passed later → Passed (e ∷ later)
  passed-more e later w = record {
    rest = e ∷ w.rest;
    last = w.last;
    between = w.between;
    split = ap (λ (l : List (Event A)). e ∷ l) w.split;
    arrived = w.arrived;
    then-held = w.then-held;
  }

  module _ (f : s.drops ≡ Oldest) where
    was-passed : (later : List (Event A)) → fate s earlier a later ≡ some (lost a) → Passed later
    was-passed [] h =
        ⊎_elim (λ p. let z : ◌≡◌ {A = ℕ} 0 1 = cc in absurd (omega arith)) (λ p. absurd (omega (arith, some-deep f, p.0)))
        (passed-lost a s.depth 0 (held a ∷ fates_by s earlier) (rw f at h))
    was-passed (sample b ∷ later) h =
        ⊎_elim (λ p. passed-more (sample b) later (was-passed later p))
        (λ p. record { rest = []; last = b; between = later; split = refl; arrived = p.0; then-held = p.1 })
        (passed-lost a s.depth (suc (arrivals later)) (held b ∷ fates_by s (up_to s earlier a later)) (rw f at h))
    was-passed (readout n ∷ later) h = passed-more (readout n) later (was-passed later ((takes-lost a (frames_reached s.size n) (arrivals later) (fates_by s (up_to s earlier a later))).0 h))

    still-lost : (rest later : List (Event A)) → fate s earlier a later ≡ some (lost a) → fate s earlier a (rest ++ later) ≡ some (lost a)
    still-lost [] later h = h
    still-lost (sample b ∷ rest) later h = arrives-lost s.drops s.depth a b (arrivals (rest ++ later)) (fates_by s (up_to s earlier a (rest ++ later))) (still-lost rest later h)
    still-lost (readout n ∷ rest) later h = (takes-lost a (frames_reached s.size n) (arrivals (rest ++ later)) (fates_by s (up_to s earlier a (rest ++ later)))).1 (still-lost rest later h)

    saw : (later : List (Event A)) → fate s earlier a later ≡ some (lost a) → Saw s earlier a s.depth later
    saw later h =
        let w = was-passed later h in
        record {
          rest = w.rest;
          last = w.last;
          between = w.between;
          split = w.split;
          arrived = w.arrived;
          unreached = λ r. let t = (taken_in s some-deep one earlier a w.between).1 r in let z : ◌≡◌ {A = ℕ} 0 1 = cc in omega arith;
        }

    -- one that no readout reached is held until then
    then-held : (between : List (Event A)) → arrivals between < s.depth → (fate s earlier a between ≡ some (lost a)) → ⊥
    then-held between few h =
        let w = was-passed between h in
        omega (arith, w.arrived, arrivals-append w.rest (sample w.last ∷ w.between), ap arrivals w.split)

    seen : (later : List (Event A)) → Saw s earlier a s.depth later → fate s earlier a later ≡ some (lost a)
    seen later w =
        let b = w.between in
        let i : arrivals b < s.depth = omega (arith, w.arrived) in
        let h : fate s earlier a b ≡ some (held a) =
        ⊎_elim (λ t. absurd (w.unreached ((taken_in s some-deep one earlier a b).0 t))) (⊎_elim (λ t. t) (λ t. absurd (then-held b i t))) (has-fate s some-deep one earlier a b) in
        let l : fate s earlier a (sample w.last ∷ b) ≡ some (lost a) =
        rw (f, ← w.arrived) (held-lost a (suc (arrivals b)) (held w.last ∷ fates_by s (up_to s earlier a b)) h) in
        rw w.split (still-lost w.rest (sample w.last ∷ b) l)

  pub lost-in : (later : List (Event A)) → (fate s earlier a later ≡ some (lost a)) ↔ LostBy s earlier a s.drops later
  lost-in later = go s.drops refl
    where
      go : (r : Drop) → s.drops ≡ r → (fate s earlier a later ≡ some (lost a)) ↔ LostBy s earlier a r later
      go Newcomer f = newcomer-lost f later
      go Oldest f = (saw f later, seen f later)
