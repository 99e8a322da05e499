-- 01, "Interrupts and pins", any-motion: "N over points in a row", "N calm points in a row".
use Rattle.std.specs.Prelude.{ℕ, ◌+◌, min, Bool, true, false, List, [], ◌∷◌}
use Rattle.slopes.specs.declared.Runs.{Runs}

abbrev pub no_runs : Runs
no_runs = record { over = 0; calm = 0 }

-- a run that is longer by one point; where n in a row are asked for, it is counted as far as n
abbrev pub longer : ℕ → ℕ → ℕ
longer n run = min (run + 1) n

-- an over point comes, where n in a row are asked for
unfoldable pub over_run : ℕ → Runs → Runs
over_run n r = record { over = longer n r.over; calm = 0 }

-- a calm point comes
unfoldable pub calm_run : ℕ → Runs → Runs
calm_run n r = record { over = 0; calm = longer n r.calm }

-- ---- points in a row, from the points alone: true is an over point, false a calm one, the newest first
abbrev pub overs_in_row : List Bool → ℕ
overs_in_row [] = 0
overs_in_row (true ∷ ps) = overs_in_row ps + 1
overs_in_row (false ∷ ps) = 0

abbrev pub calms_in_row : List Bool → ℕ
calms_in_row [] = 0
calms_in_row (true ∷ ps) = 0
calms_in_row (false ∷ ps) = calms_in_row ps + 1

-- the runs after these points, where n in a row are asked for
abbrev pub runs_after : ℕ → List Bool → Runs
runs_after n [] = no_runs
runs_after n (true ∷ ps) = over_run n (runs_after n ps)
runs_after n (false ∷ ps) = calm_run n (runs_after n ps)
