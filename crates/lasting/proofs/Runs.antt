-- The stopwatch of a spell says of a run whether a time is reached. Assumes nothing.
use Prim.Native.Nat.{ℕ, ◌+◌, ◌-◌, ◌<◌, ◌≤◌, min}
use mathlib.Core.Bool.{Bool, true, false}
use mathlib.Core.List.{List, [], ◌∷◌}
use mathlib.Core.Path.{◌≡◌, refl, sym, ◌∙◌}
use native.Mathlib.Omega.{arith}
use borrow.Author.Tests.{eq-eqb, ne_eqb}
use lib.Dec.{eqb, leb}
use Rattle.laws.specs.Choice.{pick}
use Rattle.spell.specs.Stopwatch.{stopped, started, most, longer, going_on, is_reached}
use Rattle.spell.specs.declared.Stopwatch.{Stopwatch}
use Rattle.spell.proofs.Laws.{counted-far}
use Rattle.lookback.specs.Sight.{Sight, point, passed, clock_in}
use Rattle.lasting.specs.Run.{has_point, since_first, run, lasted}

module _ {P : Type 0} where
  pub no-clock : (ss : List (Sight P)) → has_point ss ≡ false → clock_in (since_first ss) ≡ 0
  no-clock [] h = refl
  no-clock (point p ∷ ss) h = let z : ◌≡◌ {A = ℕ} 0 1 = cc in absurd (omega arith)
  no-clock (passed us ∷ ss) h = rw h

-- the stopwatch after these sights, of runs that begin with the one that is given
abbrev pub watch_of : {P : Type 0} → Stopwatch → (P → Bool) → List (Sight P) → Stopwatch
watch_of fresh is_met [] = fresh
watch_of fresh is_met (point p ∷ ss) = pick (is_met p) (going_on (watch_of fresh is_met ss)) fresh
watch_of fresh is_met (passed us ∷ ss) = longer us (watch_of fresh is_met ss)

module _ {P : Type 0} (is_met : P → Bool) where
  abbrev watch_at : List (Sight P) → Stopwatch
  watch_at ss = watch_of stopped is_met ss

  -- it runs from the first such sample on, as far as it is counted
  abbrev count_of : Bool → ℕ → ℕ
  count_of runs clock = pick runs (1 + min clock (most - 1)) 0

  module _ (ss : List (Sight P)) (w : Stopwatch) (h : w.count ≡ count_of (has_point (run is_met ss)) (lasted is_met ss)) where
    abbrev row : List (Sight P)
    row = run is_met ss

    -- what it counts, by whether it runs
    stands : has_point row ≡ false → eqb w.count 0 ≡ true
    stands f = eq-eqb w.count 0 (h ∙ rw f)

    counts : has_point row ≡ true → (w.count ≡ 1 + min (lasted is_met ss) (most - 1)) × (eqb w.count 0 ≡ false)
    counts f =
        let n : w.count ≡ 1 + min (lasted is_met ss) (most - 1) = h ∙ rw f in
        (n, ne_eqb w.count 0 (omega arith))

    point-on : (going_on w).count ≡ 1 + min (lasted is_met ss) (most - 1)
    point-on = go (has_point row) refl
      where
        go : (t : Bool) → has_point row ≡ t → (going_on w).count ≡ 1 + min (lasted is_met ss) (most - 1)
        go true f = let c = counts f in rw c.1 c.0
        go false f = let n = no-clock row f in rw (stands f, n) (omega arith)

    passed_on : (us : ℕ) → (longer us w).count ≡ count_of (has_point row) (clock_in (pick (has_point row) (passed us ∷ since_first row) []))
    unfolding longer
    passed_on us = go (has_point row) refl
      where
        go : (t : Bool) → has_point row ≡ t → (pick (eqb w.count 0) w (record { count = w.count + min us (most - w.count) })).count
            ≡ count_of t (clock_in (pick t (passed us ∷ since_first row) []))
        go true f = let c = counts f in rw (c.1, c.0) (omega arith)
        go false f = rw (stands f) (h ∙ rw f)

  counted-point : (p : P) (ss : List (Sight P)) → (watch_at ss).count ≡ count_of (has_point (run is_met ss)) (lasted is_met ss) → (t : Bool) → is_met p ≡ t
      → (watch_at (point p ∷ ss)).count ≡ count_of (has_point (run is_met (point p ∷ ss))) (lasted is_met (point p ∷ ss))
  counted-point p ss h true e = rw e (point-on ss (watch_at ss) h)
  counted-point p ss h false e = rw e

  counted : (ss : List (Sight P)) → (watch_at ss).count ≡ count_of (has_point (run is_met ss)) (lasted is_met ss)
  counted [] = refl
  counted (point p ∷ ss) = counted-point p ss (counted ss) (is_met p) refl
  counted (passed us ∷ ss) = passed_on ss (watch_at ss) (counted ss) us

  pub reached-is : (time : ℕ) → time < most → (ss : List (Sight P)) → has_point (run is_met ss) ≡ true → is_reached time (watch_of stopped is_met ss) ≡ leb time (lasted is_met ss)
  reached-is time h ss f = rw (counted ss, f) (counted-far time (lasted is_met ss) h)
