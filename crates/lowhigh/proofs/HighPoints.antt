-- What the code sees of a sample is what the request says of it: high-g. Assumes nothing.
use Prim.Native.Nat.{ℕ, ◌-◌, ◌*◌, ◌/◌, ◌<◌, ◌≤◌}
use mathlib.Core.Bool.{Bool, true, false, not}
use mathlib.Core.List.{List, [], ◌∷◌}
use mathlib.Core.Path.{◌≡◌, refl, sym, ap, ◌∙◌}
use native.Mathlib.Omega.{arith}
use borrow.Author.Tests.{leb-true, le-ltb}
use lib.Dec.{leb, ltb}
use lib.IntN.{ℤ, pos, nat_abs}
use lib.Signed.{lt_z}
use Rattle.laws.specs.Choice.{pick, both, either}
use Rattle.laws.specs.Bits.{bit}
use Rattle.laws.proofs.Finite.{picked, left, right}
use Rattle.slopes.specs.Point.{no_axis}
use Rattle.slopes.proofs.Axes.{none-enabled}
use Rattle.spell.specs.declared.Shown.{Shown}
use Rattle.spell.specs.declared.Shown.TheVariants.{Nothing, Met, Unmet, FarFromMet}
use Rattle.gravity.specs.Sizes.{size_and_sign}
use Rattle.gravity.specs.High.{above_on, some_above, judged_high, clears_to, high_shown}
use Rattle.paper.specs.Ranges.{is_known_range}
use Rattle.paper.specs.Samples.{Values}
use Rattle.paper.proofs.Refused.{reserved-range}
use Rattle.lookback.specs.Watch.{Mark}
use Rattle.lookback.proofs.Seen.{OneOrNone}
use Rattle.lasting.proofs.Parts.{shown_by}
use Rattle.lowhigh.specs.High.{Axis, enabled_among, enabled_axes, Measured, above, is_some, is_high, all_within, is_far, first_marked, point_by, high_lasting}
use Rattle.lowhigh.proofs.LowPoints.{from_is}

-- ---- a sample at which it clears is not high
none_above : (limit less : ℕ) (axes : List Axis) → all_within (limit - less) axes ≡ true → is_some (above limit axes) ≡ false
none_above limit less [] h = refl
none_above limit less (a ∷ axes) h =
    let n = nat_abs a.value in
    let w = leb-true n (limit - less) (left (leb n (limit - less)) (all_within (limit - less) axes) h) in
    let k : n ≤ limit = omega arith in
    rw (le-ltb limit n k) (none_above limit less axes (right (leb n (limit - less)) (all_within (limit - less) axes) h))

pub high-apart : (m : Measured) → is_far m ≡ true → is_high m ≡ false
high-apart m f = none_above m.threshold m.hysteresis m.axes f

-- ---- one point at the most
pub high_one : (enables code threshold modes : ℕ) (v : Values) → OneOrNone (point_by enables code threshold modes v)
high_one enables code threshold modes v = picked OneOrNone (both (is_some (enabled_axes enables v)) (is_known_range code)) tt tt

-- ---- the enabled axes, one by one
module _ (enables limit : ℕ) (a : Axis) (axes : List Axis) where
  -- whether the first is enabled and above the limit
  abbrev counts : Bool
  counts = both (bit a.place enables) (ltb limit (nat_abs a.value))

  above-next : above limit (enabled_among enables (a ∷ axes)) ≡ pick counts (a ∷ above limit (enabled_among enables axes)) (above limit (enabled_among enables axes))
  above-next = go (bit a.place enables)
    where
      go : (t : Bool) → above limit (pick t (a ∷ enabled_among enables axes) (enabled_among enables axes))
          ≡ pick (both t (ltb limit (nat_abs a.value))) (a ∷ above limit (enabled_among enables axes)) (above limit (enabled_among enables axes))
      go true = refl
      go false = refl

  within-next : all_within limit (enabled_among enables (a ∷ axes)) ≡ both (not counts) (all_within limit (enabled_among enables axes))
  within-next = go (bit a.place enables)
    where
      go : (t : Bool) → all_within limit (pick t (a ∷ enabled_among enables axes) (enabled_among enables axes))
          ≡ both (not (both t (ltb limit (nat_abs a.value)))) (all_within limit (enabled_among enables axes))
      go true = rw (upto_is (nat_abs a.value))
        where
          upto_is : (n : ℕ) → leb n limit ≡ not (ltb limit n)
          upto_is n = from_is n limit
      go false = refl

module _ (enables : ℕ) (v : Values) where
  abbrev on_x : Axis
  on_x = record { place = 0; value = v.x }

  abbrev on_y : Axis
  on_y = record { place = 1; value = v.y }

  abbrev on_z : Axis
  on_z = record { place = 2; value = v.z }

  -- whether each of the three is enabled and above a limit
  abbrev above_x : ℕ → Bool
  above_x limit = both (bit 0 enables) (ltb limit (nat_abs v.x))

  abbrev above_y : ℕ → Bool
  above_y limit = both (bit 1 enables) (ltb limit (nat_abs v.y))

  abbrev above_z : ℕ → Bool
  above_z limit = both (bit 2 enables) (ltb limit (nat_abs v.z))

  abbrev among : Bool → Bool → Bool → List Axis
  among a b c = let rest = pick b (on_y ∷ pick c (on_z ∷ []) []) (pick c (on_z ∷ []) []) in pick a (on_x ∷ rest) rest

  above-are : (limit : ℕ) → above limit (enabled_axes enables v) ≡ among (above_x limit) (above_y limit) (above_z limit)
  above-are limit = above-next enables limit on_x (on_y ∷ on_z ∷ []) ∙ rw (above-next enables limit on_y (on_z ∷ []), above-next enables limit on_z [])

  within-are : (limit : ℕ) → all_within limit (enabled_axes enables v) ≡ both (not (above_x limit)) (both (not (above_y limit)) (both (not (above_z limit)) true))
  within-are limit = within-next enables limit on_x (on_y ∷ on_z ∷ []) ∙ rw (within-next enables limit on_y (on_z ∷ []), within-next enables limit on_z [])

  -- ---- what a point marks is below 8
  pub high_small : (limit : ℕ) → (first_marked (above limit (enabled_axes enables v))).axis < 8
  high_small limit = rw (above-are limit) (go (above_x limit) (above_y limit) (above_z limit))
    where
      go : (a b c : Bool) → (first_marked (among a b c)).axis < 8
      go true b c = omega arith
      go false true c = omega arith
      go false false true = omega arith
      go false false false = omega arith

  -- ---- what is shown
  judged-is : (limit to : ℕ) → judged_high enables limit to (size_and_sign v.x) (size_and_sign v.y) (size_and_sign v.z)
      ≡ pick (is_some (above limit (enabled_axes enables v)))
      (Met (first_marked (above limit (enabled_axes enables v))).axis (first_marked (above limit (enabled_axes enables v))).negative)
      (pick (all_within to (enabled_axes enables v)) FarFromMet Unmet)
  unfolding judged_high
  judged-is limit to = rw (above-are limit, within-are to) (go (above_x limit) (above_y limit) (above_z limit) (above_x to) (above_y to) (above_z to))
    where
      rest : (p q r : Bool) → pick {A = Shown} (either p (either q r)) Unmet FarFromMet ≡ pick (both (not p) (both (not q) (both (not r) true))) FarFromMet Unmet
      rest true q r = refl
      rest false true r = refl
      rest false false true = refl
      rest false false false = refl

      go : (a b c p q r : Bool)
          → pick a (Met 1 (lt_z v.x (pos 0))) (pick b (Met 2 (lt_z v.y (pos 0))) (pick c (Met 4 (lt_z v.z (pos 0))) (pick (either p (either q r)) Unmet FarFromMet)))
          ≡ pick (is_some (among a b c)) (Met (first_marked (among a b c)).axis (first_marked (among a b c)).negative)
          (pick (both (not p) (both (not q) (both (not r) true))) FarFromMet Unmet)
      go true b c p q r = refl
      go false true c p q r = refl
      go false false true p q r = refl
      go false false false p q r = rest p q r

  -- ---- whether some axis is enabled
  some-enabled : is_some (enabled_axes enables v) ≡ either (bit 0 enables) (either (bit 1 enables) (bit 2 enables))
  some-enabled = go (bit 0 enables) (bit 1 enables) (bit 2 enables)
    where
      go : (a b c : Bool) → is_some (among a b c) ≡ either a (either b c)
      go true b c = refl
      go false true c = refl
      go false false true = refl
      go false false false = refl

-- ---- together: of whether no axis is enabled, as the code asks it
pub high-shown : (enables code threshold modes : ℕ) (v : Values) {A : Type 0} (of : Shown → A) (other : A) → other ≡ of Nothing
    → pick (no_axis enables) other (of (high_shown enables code threshold modes v.x v.y v.z)) ≡ of (shown_by high_lasting (point_by enables code threshold modes v))
unfolding high_shown
high-shown enables code threshold modes v of other idle =
    rw (none-enabled enables, some-enabled enables v, reserved-range code, judged-is enables v (8 * threshold) (clears_to (8 * threshold) modes))
    (go (either (bit 0 enables) (either (bit 1 enables) (bit 2 enables))) (is_known_range code))
  where
    m : Measured
    m = record { axes = enabled_axes enables v; threshold = 8 * threshold; hysteresis = 128 * (modes / 64) }

    go : (t k : Bool) → pick (not t) other (of (pick (not k) Nothing (shown_by high_lasting (m ∷ [])))) ≡ of (shown_by high_lasting (pick (both t k) (m ∷ []) []))
    go true true = refl
    go true false = refl
    go false k = idle
