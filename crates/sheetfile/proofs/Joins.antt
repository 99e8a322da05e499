-- Whole months stay whole when they are joined.
-- Assumes nothing.
use Prim.Native.Nat.{ℕ, ◌+◌, ◌≤◌}
use mathlib.Core.Bool.{Bool, true, false}
use mathlib.Core.Path.{◌≡◌, refl}
use native.Mathlib.Omega.{arith}
use borrow.Author.Tests.{eqb-true, eq-eqb, leb-true, le-leb, ltb-true, ltb-false}
use lib.Dec.{leb}
use lib.IntN.{ℤ, pos, negsuc, ◌+ℤ◌}
use lib.Signed.{lt_z, le_z}
use Rattle.laws.specs.Choice.{pick, both}
use Rattle.laws.proofs.Finite.{left, right}
use Rattle.std.specs.Prelude.{Option, Some, None, Result, Ok, Err}
use Rattle.sheets.specs.Sheets.{smaller, larger, extremes_over, tally_over, axes_over, ranges_over, sheet_over, month_over, month_fits, empty_month, month_joined, kept}
use Rattle.sheets.specs.declared.Extremes.{Extremes}
use Rattle.sheets.specs.declared.Tally.{Tally}
use Rattle.sheets.specs.declared.ByAxis.{ByAxis}
use Rattle.sheets.specs.declared.ByRange.{ByRange}
use Rattle.sheets.specs.declared.Sheet.{Sheet}
use Rattle.sheets.specs.declared.Month.{Month}
use Rattle.sheets.specs.declared.TooLarge.{TooLarge}
use Rattle.sheetfile.specs.Whole.{is_zero, goes_with, tally_is_whole, axes_are_whole, ranges_are_whole, counts_add_up, is_whole}
use Rattle.sheetfile.specs.Joins.{Joins}

no : {A : Type 0} → ◌≡◌ {A = Bool} false true → A
no e = let z : ◌≡◌ {A = ℕ} 0 1 = cc in absurd (omega arith)

-- ---- the order of signed numbers
-- up to b, which is below c
upto-below : (a b c : ℤ) → le_z a b ≡ true → lt_z b c ≡ true → le_z a c ≡ true
upto-below (pos a) (pos b) (pos c) p q = let l = leb-true a b p in let m = ltb-true b c q in le-leb a c (omega arith)
upto-below (pos a) (pos b) (negsuc c) p q = no q
upto-below (pos a) (negsuc b) c p q = no p
upto-below (negsuc a) (pos b) (pos c) p q = refl
upto-below (negsuc a) (pos b) (negsuc c) p q = no q
upto-below (negsuc a) (negsuc b) (pos c) p q = refl
upto-below (negsuc a) (negsuc b) (negsuc c) p q = let l = leb-true b a p in let m = ltb-true c b q in le-leb c a (omega arith)

-- up to b, and c is not below b
upto-above : (a b c : ℤ) → le_z a b ≡ true → lt_z c b ≡ false → le_z a c ≡ true
upto-above (pos a) (pos b) (pos c) p q = let l = leb-true a b p in let m = ltb-false c b q in le-leb a c (omega arith)
upto-above (pos a) (pos b) (negsuc c) p q = let z : ◌≡◌ {A = ℕ} 0 1 = cc in absurd (omega arith)
upto-above (pos a) (negsuc b) c p q = no p
upto-above (negsuc a) (pos b) (pos c) p q = refl
upto-above (negsuc a) (pos b) (negsuc c) p q = let z : ◌≡◌ {A = ℕ} 0 1 = cc in absurd (omega arith)
upto-above (negsuc a) (negsuc b) (pos c) p q = refl
upto-above (negsuc a) (negsuc b) (negsuc c) p q = let l = leb-true b a p in let m = ltb-false b c q in le-leb c a (omega arith)

-- the smaller of two smallest is not above the larger of two largest
extremes-ordered : (s l s' l' : ℤ) → le_z s l ≡ true → le_z s' l' ≡ true → le_z (smaller s s') (larger l l') ≡ true
extremes-ordered s l s' l' p q = go (lt_z s' s) (lt_z l l') refl
  where
    go : (t u : Bool) → lt_z l l' ≡ u → le_z (pick t s' s) (pick u l' l) ≡ true
    go true true e = q
    go true false e = upto-above s' l' l q e
    go false true e = upto-below s l l' p e
    go false false e = p

-- ---- tallies
is-zero : (z : ℤ) → is_zero z ≡ true → z ≡ pos 0
is-zero (pos n) e = let h = eqb-true n 0 e in rw h
is-zero (negsuc n) e = no e

over-goes : (e e' : Option Extremes) (a b : ℤ) → goes_with e a ≡ true → goes_with e' b ≡ true → goes_with (extremes_over e e') (a +ℤ b) ≡ true
over-goes None None a b p q = rw (is-zero a p, is-zero b q)
over-goes None (Some e') a b p q = q
over-goes (Some e) None a b p q = p
over-goes (Some e) (Some e') a b p q = extremes-ordered e.smallest e.largest e'.smallest e'.largest p q

tally-whole : (a b : Tally) → tally_is_whole a ≡ true → tally_is_whole b ≡ true → tally_is_whole (tally_over a b) ≡ true
unfolding tally_is_whole
tally-whole a b p q = over-goes a.extremes b.extremes a.sum b.sum p q

-- where each of two tests carries over, both together do
each-of-two : (s t s' t' : Bool) {u v : Bool} → (s ≡ true → s' ≡ true → u ≡ true) → (t ≡ true → t' ≡ true → v ≡ true) → both s t ≡ true → both s' t' ≡ true → both u v ≡ true
each-of-two s t s' t' f g p q = rw (f (left s t p) (left s' t' q)) (g (right s t p) (right s' t' q))

axes-whole : (a b : ByAxis) → axes_are_whole a ≡ true → axes_are_whole b ≡ true → axes_are_whole (axes_over a b) ≡ true
unfolding axes_are_whole
axes-whole a b =
    each-of-two _ _ _ _ (tally-whole a.x b.x) (each-of-two _ _ _ _ (tally-whole a.y b.y) (tally-whole a.z b.z))

ranges-whole : (a b : ByRange) → ranges_are_whole a ≡ true → ranges_are_whole b ≡ true → ranges_are_whole (ranges_over a b) ≡ true
unfolding ranges_are_whole
ranges-whole a b =
    each-of-two _ _ _ _ (each-of-two _ _ _ _ (axes-whole a.g2 b.g2) (axes-whole a.g4 b.g4)) (each-of-two _ _ _ _ (axes-whole a.g8 b.g8) (axes-whole a.g16 b.g16))

-- ---- a month
counts-add : (a b : Sheet) → counts_add_up a ≡ true → counts_add_up b ≡ true → counts_add_up (sheet_over a b) ≡ true
counts-add a b p q =
    let l = eqb-true a.accepted (a.taken + a.held + a.lost + a.cleared) p in
    let m = eqb-true b.accepted (b.taken + b.held + b.lost + b.cleared) q in
    let n : a.accepted + b.accepted ≡ (a.taken + b.taken) + (a.held + b.held) + (a.lost + b.lost) + (a.cleared + b.cleared) = omega arith in
    eq-eqb _ _ n

refused-most : (a b : Month) → leb a.refused a.logs ≡ true → leb b.refused b.logs ≡ true → leb (a.refused + b.refused) (a.logs + b.logs) ≡ true
refused-most a b p q =
    let l = leb-true a.refused a.logs p in
    let m = leb-true b.refused b.logs q in
    let n : a.refused + b.refused ≤ a.logs + b.logs = omega arith in
    le-leb _ _ n

over-whole : (a b : Month) → is_whole a ≡ true → is_whole b ≡ true → is_whole (month_over a b) ≡ true
unfolding is_whole
over-whole a b =
    each-of-two _ _ _ _ (counts-add a.sheet b.sheet) (each-of-two _ _ _ _ (refused-most a b) (ranges-whole a.sheet.ranges b.sheet.ranges))

joined-whole : (a b : Month) → is_whole a ≡ true → is_whole b ≡ true → is_whole (kept a (month_joined a b)) ≡ true
unfolding month_joined
joined-whole a b p q = go (month_fits (month_over a b))
  where
    go : (t : Bool) → is_whole (kept a (pick {A = Result Month TooLarge} t (Ok (month_over a b)) (Err (record {})))) ≡ true
    go true = over-whole a b p q
    go false = p

empty-whole : is_whole empty_month ≡ true
unfolding tally_is_whole axes_are_whole ranges_are_whole is_whole
empty-whole = refl

pub joins : Joins
joins = record { none = empty-whole; joined = joined-whole }
