-- 01, "N over points in a row", "N calm points in a row": the runs say of both whether they are reached, for any points.
-- Assumes nothing.
use Prim.Native.Nat.{ℕ, min}
use mathlib.Core.Bool.{Bool, true, false}
use mathlib.Core.List.{List, [], ◌∷◌}
use mathlib.Core.Path.{◌≡◌, refl}
use native.Mathlib.Omega.{arith}
use borrow.Author.Tests.{le-leb, lt-leb, leb-true, leb-false}
use lib.Dec.{leb}
use Rattle.slopes.specs.Runs.{over_run, calm_run, overs_in_row, calms_in_row, runs_after}

pub overs-counted : (n : ℕ) (ps : List Bool) → (runs_after n ps).over ≡ min (overs_in_row ps) n
unfolding over_run calm_run
overs-counted n [] = omega arith
overs-counted n (true ∷ ps) = rw (overs-counted n ps) (omega arith)
overs-counted n (false ∷ ps) = omega arith

pub calms-counted : (n : ℕ) (ps : List Bool) → (runs_after n ps).calm ≡ min (calms_in_row ps) n
unfolding over_run calm_run
calms-counted n [] = omega arith
calms-counted n (true ∷ ps) = omega arith
calms-counted n (false ∷ ps) = rw (calms-counted n ps) (omega arith)

-- a run that is counted as far as n reaches n where it would be reached
as-far : (n run : ℕ) → leb n (min run n) ≡ leb n run
as-far n run = go (leb n run) refl
  where
    go : (b : Bool) → leb n run ≡ b → leb n (min run n) ≡ b
    go true e = let h = leb-true n run e in le-leb n (min run n) (omega arith)
    go false e = let h = leb-false n run e in lt-leb n (min run n) (omega arith)

pub overs-reached : (n : ℕ) (ps : List Bool) → leb n (runs_after n ps).over ≡ leb n (overs_in_row ps)
overs-reached n ps = rw (overs-counted n ps) (as-far n (overs_in_row ps))

pub calms-reached : (n : ℕ) (ps : List Bool) → leb n (runs_after n ps).calm ≡ leb n (calms_in_row ps)
calms-reached n ps = rw (calms-counted n ps) (as-far n (calms_in_row ps))
