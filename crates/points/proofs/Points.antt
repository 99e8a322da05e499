-- The point that a slope detector of the device sees is 01's. Assumes nothing.
use Prim.Native.Nat.{ℕ, ◌*◌, ◌<◌, ◌≤◌}
use mathlib.Core.Bool.{Bool, true, false, not}
use mathlib.Core.List.{List, [], ◌∷◌}
use mathlib.Core.Path.{◌≡◌, refl}
use native.Mathlib.Omega.{arith}
use borrow.Author.Tests.{leb-true}
use lib.Dec.{leb, ltb}
use lib.IntN.{ℤ, pos, negsuc, ◌-ℤ◌, nat_abs}
use lib.Signed.{lt_z, mag}
use Rattle.laws.specs.Choice.{pick, both, either}
use Rattle.laws.specs.Bits.{bit}
use Rattle.laws.proofs.Finite.{picked, left}
use Rattle.laws.proofs.Ints.{sub-size}
use Rattle.slopes.specs.Slope.{slope_of}
use Rattle.slopes.specs.Previous.{remembered, slopes_to}
use Rattle.slopes.specs.Point.{over_on, first_over, point_of}
use Rattle.slopes.specs.declared.Previous.{Previous}
use Rattle.slopes.specs.declared.Point.{Point}
use Rattle.slopes.specs.declared.Point.TheVariants.{None, Calm, Over}
use Rattle.slopes.proofs.Axes.{none-enabled}
use Rattle.paper.specs.Samples.{Values, is_inside}
use Rattle.lookback.proofs.Seen.{OneOrNone}
use Rattle.points.specs.Points.{AxisDifference, OverAxes, axes_between, is_above, above_among, first_marked, any_enabled, point_of_two}

-- "the difference of two signed samples in a row lies between -4095 and 4095"
small : (v : ℤ) → is_inside v ≡ true → mag v ≤ 2047
small (pos n) h = leb-true n 2047 h
small (negsuc n) h = leb-true n 2047 (left (leb n 2047) true h)

pub difference-bounds : (old new : ℤ) → is_inside old ≡ true → is_inside new ≡ true → nat_abs (new -ℤ old) ≤ 4095
difference-bounds old new p q = let a = small old p in let b = small new q in omega (arith, sub-size 2048 new old (omega arith) (omega arith))

-- ---- the point
-- the detectors' previous sample is the latest of these
abbrev pub Follows : Previous → List Values → Type 0
Follows p [] = p.known ≡ false
Follows p (s ∷ ss) = p ≡ remembered s.x s.y s.z

-- the detector's point for the over axes of one, and for none or one
abbrev pub as_point : OverAxes → Point
as_point [] = Calm
as_point (a ∷ axes) = Over (first_marked (a ∷ axes)).axis (first_marked (a ∷ axes)).negative

abbrev pub as_points : List OverAxes → Point
as_points [] = None
as_points (p ∷ ps) = as_point p

module _ (enabled threshold : ℕ) where
  above-is : (place : ℕ) (old new : ℤ) → over_on place enabled threshold (slope_of old new) ≡ is_above enabled threshold (record { place = place; difference = new -ℤ old })
  above-is place old new = go (bit place enabled) (ltb (4 * threshold) (nat_abs (new -ℤ old)))
    where
      go : (b t : Bool) → pick b t false ≡ both b t
      go true t = refl
      go false t = refl

  over-is : (old new : Values)
      → first_over enabled threshold (slope_of old.x new.x) (slope_of old.y new.y) (slope_of old.z new.z) ≡ as_point (above_among enabled threshold (axes_between old new))
  unfolding first_over
  over-is old new = rw (above-is 0 old.x new.x, above-is 1 old.y new.y, above-is 2 old.z new.z)
      (go (is_above enabled threshold x) (is_above enabled threshold y) (is_above enabled threshold z))
    where
      x : AxisDifference
      x = record { place = 0; difference = new.x -ℤ old.x }

      y : AxisDifference
      y = record { place = 1; difference = new.y -ℤ old.y }

      z : AxisDifference
      z = record { place = 2; difference = new.z -ℤ old.z }

      falls : AxisDifference → Bool
      falls a = lt_z a.difference (pos 0)

      go : (s t u : Bool) → pick s (Over 1 (falls x)) (pick t (Over 2 (falls y)) (pick u (Over 4 (falls z)) Calm))
          ≡ as_point (pick s (x ∷ pick t (y ∷ pick u (z ∷ []) []) (pick u (z ∷ []) [])) (pick t (y ∷ pick u (z ∷ []) []) (pick u (z ∷ []) [])))
      go true t u = refl
      go false true u = refl
      go false false true = refl
      go false false false = refl

  pub point-is : (new : Values) (p : Previous) (olds : List Values) → Follows p olds
      → point_of enabled threshold (slopes_to new.x new.y new.z p) ≡ as_points (point_of_two enabled threshold new olds)
  unfolding point_of slopes_to
  point-is new p [] h = rw h
  point-is new p (old ∷ olds) h = rw (h, none-enabled enabled, over-is old new) (go (any_enabled enabled))
    where
      go : (t : Bool) → pick (not t) None (as_point (above_among enabled threshold (axes_between old new)))
          ≡ as_points (pick t (above_among enabled threshold (axes_between old new) ∷ []) [])
      go true = refl
      go false = refl

  pub one-or-none : (new : Values) (olds : List Values) → OneOrNone (point_of_two enabled threshold new olds)
  one-or-none new [] = tt
  one-or-none new (old ∷ olds) = picked OneOrNone (any_enabled enabled) tt tt

  -- "bits 2:0 (z, y, x)": a point marks one of three bits, or none
  pub above-small : (old new : Values) → (first_marked (above_among enabled threshold (axes_between old new))).axis < 8
  above-small old new = go (is_above enabled threshold x) (is_above enabled threshold y) (is_above enabled threshold z)
    where
      x : AxisDifference
      x = record { place = 0; difference = new.x -ℤ old.x }

      y : AxisDifference
      y = record { place = 1; difference = new.y -ℤ old.y }

      z : AxisDifference
      z = record { place = 2; difference = new.z -ℤ old.z }

      go : (s t u : Bool) → (first_marked (pick s (x ∷ pick t (y ∷ pick u (z ∷ []) []) (pick u (z ∷ []) [])) (pick t (y ∷ pick u (z ∷ []) []) (pick u (z ∷ []) [])))).axis < 8
      go true t u = omega arith
      go false true u = omega arith
      go false false true = omega arith
      go false false false = omega arith
