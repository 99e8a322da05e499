-- Tallies: joined in any order and grouping; and that of a list of counts says its smallest, its largest and its sum.
-- Assumes nothing.
use mathlib.Core.Bool.{Bool, true, false}
use mathlib.Core.List.{List, [], ◌∷◌, ◌++◌}
use mathlib.Core.Logic.{◌⊎◌, inl, inr}
use mathlib.Core.Path.{◌≡◌, refl, sym, ap, ◌∙◌, subst}
use lib.IntN.{ℤ, ◌+ℤ◌, +ℤ_assoc, +ℤ_comm, +ℤ_idl}
use lib.Signed.{lt_z, ◌≤ℤ◌, ≤ℤ_refl}
use Rattle.std.specs.Prelude.{Option, Some, None}
use Rattle.laws.specs.Choice.{pick}
use Rattle.sheets.specs.Sheets.{no_tally, smaller, larger, from_to, extremes_over, tally_over}
use Rattle.sheets.specs.declared.Extremes.{Extremes}
use Rattle.sheets.specs.declared.Tally.{Tally}
use Rattle.tally.specs.Tally.{one_tally}
use Rattle.months.specs.Histories.{sum_of, ◌among◌, IsSmallest, IsLargest, Tallied, tally_of}
use Rattle.months.proofs.Order.{≤ℤ-trans, smaller-swap, smaller-group, larger-swap, larger-group, smaller-first, smaller-second, larger-first, larger-second}

extremes-swap : (a b : Option Extremes) → extremes_over a b ≡ extremes_over b a
extremes-swap None None = refl
extremes-swap None (Some b) = refl
extremes-swap (Some a) None = refl
extremes-swap (Some a) (Some b) = λ i. from_to (smaller-swap a.smallest b.smallest i) (larger-swap a.largest b.largest i)

extremes-group : (a b c : Option Extremes) → extremes_over (extremes_over a b) c ≡ extremes_over a (extremes_over b c)
extremes-group None b c = refl
extremes-group (Some a) None c = refl
extremes-group (Some a) (Some b) None = refl
extremes-group (Some a) (Some b) (Some c) = λ i. from_to (smaller-group a.smallest b.smallest c.smallest i) (larger-group a.largest b.largest c.largest i)

pub tally-swap : (a b : Tally) → tally_over a b ≡ tally_over b a
tally-swap a b = λ i. record { extremes = extremes-swap a.extremes b.extremes i; sum = +ℤ_comm a.sum b.sum i }

pub tally-group : (a b c : Tally) → tally_over (tally_over a b) c ≡ tally_over a (tally_over b c)
tally-group a b c = λ i. record { extremes = extremes-group a.extremes b.extremes c.extremes i; sum = +ℤ_assoc a.sum b.sum c.sum i }

pub tally-none-left : (a : Tally) → tally_over no_tally a ≡ a
tally-none-left a = λ i. record { extremes = a.extremes; sum = +ℤ_idl a.sum i }

-- the tally of counts and of others behind them
pub tally-append : (l m : List ℤ) → tally_of (l ++ m) ≡ tally_over (tally_of l) (tally_of m)
unfolding tally_of
tally-append [] m = sym (tally-none-left (tally_of m))
tally-append (v ∷ l) m =
    ap (λ (t : Tally). tally_over t (one_tally v)) (tally-append l m)
    ∙ tally-group (tally_of l) (tally_of m) (one_tally v)
    ∙ ap (λ (t : Tally). tally_over (tally_of l) t) (tally-swap (tally_of m) (one_tally v))
    ∙ sym (tally-group (tally_of l) (one_tally v) (tally_of m))

-- ---- what it says
-- the smaller of two is one of them
either-smaller : (a b : ℤ) → (smaller a b ≡ a) ⊎ (smaller a b ≡ b)
either-smaller a b = go (lt_z b a)
  where
    go : (t : Bool) → (pick t b a ≡ a) ⊎ (pick t b a ≡ b)
    go true = inr refl
    go false = inl refl

either-larger : (a b : ℤ) → (larger a b ≡ a) ⊎ (larger a b ≡ b)
either-larger a b = go (lt_z a b)
  where
    go : (t : Bool) → (pick t b a ≡ a) ⊎ (pick t b a ≡ b)
    go true = inr refl
    go false = inl refl

-- extremes that are right of a list: none of an empty one
Right : List ℤ → Option Extremes → Type 0
Right l None = l ≡ []
Right l (Some e) = IsSmallest l e.smallest × IsLargest l e.largest

right-more : (v : ℤ) (l : List ℤ) (e : Option Extremes) → Right l e → Right (v ∷ l) (extremes_over e (from_to v v))
unfolding Right
right-more v l None h =
    let only : (w : ℤ) → w among (v ∷ l) → w ≡ v = λ w. only_one w in
    ((inl refl, λ w m. rw (only w m) (≤ℤ_refl v)), (inl refl, λ w m. rw (only w m) (≤ℤ_refl v)))
  where
    only_one : (w : ℤ) → w among (v ∷ l) → w ≡ v
    only_one w (inl e) = e
    only_one w (inr m) = absurd (subst (λ (l : List ℤ). w among l) h m)
right-more v l (Some e) h =
    ((in-smaller (either-smaller e.smallest v), λ w m. low w m), (in-larger (either-larger e.largest v), λ w m. high w m))
  where
    in-smaller : ((smaller e.smallest v ≡ e.smallest) ⊎ (smaller e.smallest v ≡ v)) → smaller e.smallest v among (v ∷ l)
    in-smaller (inl is) = inr (subst (λ (w : ℤ). w among l) (sym is) h.0.0)
    in-smaller (inr is) = inl is

    in-larger : ((larger e.largest v ≡ e.largest) ⊎ (larger e.largest v ≡ v)) → larger e.largest v among (v ∷ l)
    in-larger (inl is) = inr (subst (λ (w : ℤ). w among l) (sym is) h.1.0)
    in-larger (inr is) = inl is

    low : (w : ℤ) → w among (v ∷ l) → smaller e.smallest v ≤ℤ w
    low w (inl is) = rw is (smaller-second e.smallest v)
    low w (inr m) = ≤ℤ-trans (smaller-first e.smallest v) (h.0.1 w m)

    high : (w : ℤ) → w among (v ∷ l) → w ≤ℤ larger e.largest v
    high w (inl is) = rw is (larger-second e.largest v)
    high w (inr m) = ≤ℤ-trans (h.1.1 w m) (larger-first e.largest v)

right : (l : List ℤ) → Right l (tally_of l).extremes
unfolding Right tally_of
right [] = refl
right (v ∷ l) = right-more v l (tally_of l).extremes (right l)

pub sum_is : (l : List ℤ) → (tally_of l).sum ≡ sum_of l
unfolding tally_of
sum_is [] = refl
sum_is (v ∷ l) = +ℤ_comm (tally_of l).sum v ∙ ap (λ (z : ℤ). v +ℤ z) (sum_is l)

none_in : (tally_of []).extremes ≡ None
unfolding tally_of
none_in = refl

pub tallied : (l : List ℤ) → Tallied l (tally_of l)
unfolding Right
tallied l = record {
  none = (λ e. subst (λ (x : Option Extremes). Right l x) e (right l), λ e. none_of l e);
  some = λ s g e. subst (λ (x : Option Extremes). Right l x) e (right l);
  sum = sum_is l;
}
  where
    none_of : (l : List ℤ) → l ≡ [] → (tally_of l).extremes ≡ None
    none_of l e = ap (λ (m : List ℤ). (tally_of m).extremes) e ∙ none_in
