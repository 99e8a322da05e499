-- "0x0B bits 2:0 (z, y, x) mark ..": where each point's mark is below 8, what is shown is. Assumes nothing.
use Prim.Native.Nat.{ℕ, ◌<◌}
use mathlib.Core.List.{List, [], ◌∷◌}
use native.Mathlib.Omega.{arith}
use Rattle.laws.proofs.Finite.{picked}
use Rattle.events.specs.Event.{Event}
use Rattle.paper.specs.Stored.{starts_anew}
use Rattle.paper.specs.Samples.{Values, brings}
use Rattle.lookback.specs.Watch.{Mark, Watch, point_among, point_at}
use Rattle.lookback.specs.Seen.{is_set, sets_at, mark_of, marked}
use Rattle.lookback.specs.Marks.{mark_shown}

module _ (w : Watch) (small : (es : List Event) (s : Values) → (mark_of w (w.point_of es s)).axis < 8) where
  of-samples : (es : List Event) (ss : List Values) → (mark_of w (point_among w es ss)).axis < 8
  of-samples es [] = omega arith
  of-samples es (s ∷ ss) = small es s

  marked-small : (es : List Event) → (marked w es).axis < 8
  unfolding marked point_at
  marked-small [] = omega arith
  marked-small (e ∷ es) = picked (λ (m : Mark). m.axis < 8) (starts_anew e) (omega arith) (picked (λ (m : Mark). m.axis < 8) (sets_at w es e) (of-samples es (brings es e)) (marked-small es))

  pub mark-small : (es : List Event) → mark_shown w es < 8
  mark-small es = picked (λ (n : ℕ). n < 8) (is_set w es) (marked-small es) (omega arith)
