-- A stopwatch, case by case. Assumes nothing.
use Prim.Native.Nat.{ℕ, ◌+◌, ◌-◌, ◌<◌, ◌≤◌, min}
use mathlib.Core.Bool.{Bool, true, false}
use mathlib.Core.Path.{◌≡◌, refl, ap}
use native.Mathlib.Omega.{arith}
use borrow.Author.Tests.{eq-eqb, ne_eqb, lt-ltb, le-ltb, leb-true, leb-false}
use lib.Dec.{ltb, leb}
use Rattle.spell.specs.Stopwatch.{most, longer}
use Rattle.spell.specs.declared.Stopwatch.{Stopwatch}

module _ (us : ℕ) (s : Stopwatch) where
  pub longer-stopped : s.count ≡ 0 → s ≡ longer us s
  unfolding longer
  longer-stopped h = rw (eq-eqb s.count 0 h)

  pub longer-short : ¬ (s.count ≡ 0) → us < most - s.count → record { count = s.count + us } ≡ longer us s
  unfolding longer
  longer-short h k = let n : us ≡ min us (most - s.count) = omega arith in rw (ne_eqb s.count 0 h) (ap (λ (u : ℕ). record { count = s.count + u }) n)

  pub longer-full : ¬ (s.count ≡ 0) → most - s.count ≤ us → record { count = s.count + (most - s.count) } ≡ longer us s
  unfolding longer
  longer-full h k =
      let n : most - s.count ≡ min us (most - s.count) = omega arith in rw (ne_eqb s.count 0 h) (ap (λ (u : ℕ). record { count = s.count + u }) n)

-- so far it is counted that every time which is asked for is reached just when the clock, which is c microseconds, has reached it
pub counted-far : (time c : ℕ) → time < most → ltb time (1 + min c (most - 1)) ≡ leb time c
counted-far time c h = go (leb time c) refl
  where
    go : (t : Bool) → leb time c ≡ t → ltb time (1 + min c (most - 1)) ≡ t
    go true e = let k = leb-true time c e in lt-ltb time (1 + min c (most - 1)) (omega arith)
    go false e = let k = leb-false time c e in le-ltb time (1 + min c (most - 1)) (omega arith)
