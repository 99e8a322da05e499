-- What the code sees of a sample is what the request says of it: low-g. Assumes nothing.
use Prim.Native.Nat.{ℕ, ◌+◌, ◌*◌, ◌%◌, ◌<◌}
use mathlib.Core.Bool.{Bool, true, false, not}
use mathlib.Core.List.{List, [], ◌∷◌, map}
use mathlib.Core.Path.{◌≡◌, refl, sym, ap, ◌∙◌}
use native.Mathlib.Omega.{arith}
use borrow.Author.Tests.{le-leb, lt-leb, lt-ltb, ltb-true, ltb-false}
use lib.Dec.{leb, ltb}
use lib.IntN.{nat_abs}
use Rattle.laws.specs.Choice.{pick, both, either}
use Rattle.laws.specs.Bits.{bit}
use Rattle.laws.proofs.Finite.{alike}
use Rattle.codes.specs.Range.{range_of}
use Rattle.codes.specs.declared.Range.{Range}
use Rattle.codes.specs.declared.Range.TheVariants.{G2, G4, G8, G16, Reserved}
use Rattle.spell.specs.declared.Shown.{Shown}
use Rattle.spell.specs.declared.Shown.TheVariants.{Nothing, Met, Unmet, FarFromMet}
use Rattle.gravity.specs.Low.{are_below, shown_of, judged_low, judged_in, low_shown}
use Rattle.paper.specs.Samples.{Values}
use Rattle.lookback.specs.InRow.{every}
use Rattle.lookback.proofs.Seen.{OneOrNone}
use Rattle.lasting.proofs.Parts.{shown_by}
use Rattle.lowhigh.specs.Low.{Measured, some, is_low, is_far, factor_by, counts_of, measured, point_by, low_lasting}

-- ---- at or above is not below
pub from_is : (limit n : ℕ) → leb limit n ≡ not (ltb n limit)
from_is limit n = go (ltb n limit) refl
  where
    go : (t : Bool) → ltb n limit ≡ t → leb limit n ≡ not t
    go true e = let h = ltb-true n limit e in lt-leb limit n h
    go false e = let h = ltb-false n limit e in le-leb limit n h

some_is : (limit : ℕ) (ns : List ℕ) → some (leb limit) ns ≡ not (every (λ n. ltb n limit) ns)
some_is limit [] = refl
some_is limit (n ∷ ns) = rw (from_is limit n, some_is limit ns) (go (ltb n limit) (every (λ n. ltb n limit) ns))
  where
    go : (a b : Bool) → either (not a) (not b) ≡ not (both a b)
    go true b = refl
    go false b = refl

-- what is below is below anything higher
within : (limit more : ℕ) (ns : List ℕ) → every (λ n. ltb n limit) ns ≡ true → every (λ n. ltb n (limit + more)) ns ≡ true
within limit more [] h = refl
within limit more (n ∷ ns) h = go (within limit more ns) (ltb n limit) refl (every (λ n. ltb n limit) ns) refl h
  where
    go : (every (λ n. ltb n limit) ns ≡ true → every (λ n. ltb n (limit + more)) ns ≡ true) → (a : Bool) → ltb n limit ≡ a → (b : Bool) → every (λ n. ltb n limit) ns ≡ b
        → both a b ≡ true → both (ltb n (limit + more)) (every (λ n. ltb n (limit + more)) ns) ≡ true
    go rest true e b f h = let k = ltb-true n limit e in let m : n < limit + more = omega arith in rw (lt-ltb n (limit + more) m) (rest (f ∙ h))
    go rest false e b f h = cc

-- a sample at which it clears is not low
pub low-apart : (m : Measured) → is_far m ≡ true → is_low m ≡ false
low-apart m f = go (is_low m) refl
  where
    go : (t : Bool) → is_low m ≡ t → t ≡ false
    go true e = sym (rw (some_is (m.threshold + m.hysteresis) m.counts, within m.threshold m.hysteresis m.counts e) at f)
    go false e = refl

-- ---- the range
abbrev factor_of : Range → List ℕ
factor_of G2 = 1 ∷ []
factor_of G4 = 2 ∷ []
factor_of G8 = 4 ∷ []
factor_of G16 = 8 ∷ []
factor_of Reserved = []

factor-is : (code : ℕ) → factor_by code ≡ factor_of (range_of code)
unfolding factor_by range_of
factor-is code =
    let e : code % 16 % 16 ≡ code % 16 = omega arith in
    let k = alike (λ c. factor_by c) (λ c. factor_of (range_of c)) 16 refl (code % 16) (omega arith) in
    rw e at k

-- one point at the most
pub low-one : (enables code threshold modes : ℕ) (v : Values) → OneOrNone (point_by enables code threshold modes v)
low-one enables code threshold modes v = rw (factor-is code) (go (bit 3 enables) (range_of code))
  where
    go : (t : Bool) (r : Range) → OneOrNone (pick t (map (measured threshold modes v) (factor_of r)) [])
    go true G2 = tt
    go true G4 = tt
    go true G8 = tt
    go true G16 = tt
    go true Reserved = tt
    go false r = tt

-- ---- what is shown
module _ (threshold modes : ℕ) (v : Values) where
  abbrev x : ℕ
  x = nat_abs v.x

  abbrev y : ℕ
  y = nat_abs v.y

  abbrev z : ℕ
  z = nat_abs v.z

  -- where a count is k 2 g counts
  module _ (k : ℕ) (sum : k * x + k * y + k * z ≡ k * (x + y + z)) where
    below-is : (limit : ℕ) → are_below (bit 2 modes) limit (k * x) (k * y) (k * z) ≡ every (λ n. ltb n limit) (counts_of modes v k)
    unfolding are_below
    below-is limit = rw sum (go (bit 2 modes))
      where
        and-true : (t : Bool) → t ≡ both t true
        and-true true = refl
        and-true false = refl

        go : (t : Bool) → pick t (ltb (k * (x + y + z)) limit) (both (ltb (k * x) limit) (both (ltb (k * y) limit) (ltb (k * z) limit)))
            ≡ every (λ n. ltb n limit) (map (λ n. k * n) (pick t ((x + y + z) ∷ []) (x ∷ y ∷ z ∷ [])))
        go true = and-true (ltb (k * (x + y + z)) limit)
        go false = ap (λ (t : Bool). both (ltb (k * x) limit) (both (ltb (k * y) limit) t)) (and-true (ltb (k * z) limit))

    judged-by : judged_low k threshold modes v.x v.y v.z ≡ shown_by low_lasting (measured threshold modes v k ∷ [])
    unfolding judged_low
    judged-by =
        let ns = counts_of modes v k in
        rw (below-is (8 * threshold), below-is (8 * threshold + 128 * (modes % 4)), some_is (8 * threshold + 128 * (modes % 4)) ns)
        (go (every (λ n. ltb n (8 * threshold)) ns) (every (λ n. ltb n (8 * threshold + 128 * (modes % 4))) ns))
      where
        go : (a b : Bool) → shown_of a b ≡ pick a (Met 0 false) (pick (not b) FarFromMet Unmet)
        go true b = refl
        go false true = refl
        go false false = refl

  judged-is : (range : Range) → judged_in range threshold modes v.x v.y v.z ≡ shown_by low_lasting (map (measured threshold modes v) (factor_of range))
  judged-is G2 = judged-by 1 (omega arith)
  judged-is G4 = judged-by 2 (omega arith)
  judged-is G8 = judged-by 4 (omega arith)
  judged-is G16 = judged-by 8 (omega arith)
  judged-is Reserved = refl

-- together: of whether it is enabled, as the code asks it
pub low-shown : (enables code threshold modes : ℕ) (v : Values) {A : Type 0} (of : Shown → A) (other : A) → other ≡ of Nothing
    → pick (bit 3 enables) (of (low_shown code threshold modes v.x v.y v.z)) other ≡ of (shown_by low_lasting (point_by enables code threshold modes v))
unfolding low_shown
low-shown enables code threshold modes v of other idle = rw (factor-is code, judged-is threshold modes v (range_of code)) (go (bit 3 enables))
  where
    go : (t : Bool) → pick t (of (shown_by low_lasting (map (measured threshold modes v) (factor_of (range_of code))))) other
        ≡ of (shown_by low_lasting (pick t (map (measured threshold modes v) (factor_of (range_of code))) []))
    go true = refl
    go false = idle
