-- Every sample accepted since power-up is taken, held, lost, or was held when the FIFO was cleared.
-- Assumes nothing.
use Prim.Native.Nat.{ℕ, suc, ◌+◌, ◌≤◌, min}
use mathlib.Core.Bool.{Bool, true, false}
use mathlib.Core.List.{List, [], ◌∷◌, map}
use mathlib.Core.Path.{◌≡◌, refl, ap, sym, ◌∙◌}
use native.Mathlib.Omega.{arith}
use lib.Dec.{eqb}
use lib.ListN.{length, take, length-append, length-take}
use borrow.Author.Tests.{eqb-true, eqb-false}
use Rattle.laws.specs.Bits.{worth}
use Rattle.fifo.specs.Ledger as ledger
use Rattle.fifo.specs.Ledger.{Fate, fates_by, run, accepted_samples, taken_of, held_of, lost_of}
use Rattle.fifo.specs.Queue.{frames_reached}
use Rattle.fifo.specs.declared.Drop.TheVariants.{Oldest}
use Rattle.fifo.specs.declared.Setting.{Setting}
use Rattle.fifo.proofs.Conserve.{conserved, numbers}
use Rattle.demand3.specs.Chip.{Said, cleared, sampled, read_out, nothing, Chip, onto, since}
use Rattle.demand3.specs.Counts.{begun, held_after}
use Rattle.demand3.specs.Demand.{fates}
use Rattle.demand3.specs.Whole.{Totals, totalled, and_before, sum, held_now, totals, endings, at_ends, OverClears}
use Rattle.demand3.proofs.Counts.{begun-reached, held-counted}
use Rattle.demand3.proofs.Chip.{is_cleared, Lawful}

-- ---- from one clear to the next
-- the numbers of a span: accepted, taken, held and lost
abbrev taken_in : Setting → List (ledger.Event (List ℕ)) → ℕ
taken_in s es = length (taken_of (fates_by s es))

abbrev lost_in : Setting → List (ledger.Event (List ℕ)) → ℕ
lost_in s es = length (lost_of (fates_by s es))

module _ (s : Setting) (deep : s.drops ≡ Oldest → 1 ≤ s.depth) (one : 1 ≤ s.size) where
  add-up : (es : List (ledger.Event (List ℕ))) → length (accepted_samples es) ≡ taken_in s es + held_after s es + lost_in s es
  add-up es =
      let g = conserved s deep es in
      ap length (sym g.whole) ∙ numbers (fates_by s es) ∙ omega (arith, held-counted s deep one es)

  pub few : (es : List (ledger.Event (List ℕ))) → held_after s es ≤ s.depth
  few es = omega (arith, held-counted s deep one es, (conserved s deep es).few)

  module _ (es : List (ledger.Event (List ℕ))) where
    taken-sample : (f : List ℕ) → taken_in s (ledger.sample f ∷ es) ≡ taken_in s es
    taken-sample f = ap length (sym (conserved s deep (ledger.sample f ∷ es)).out ∙ (conserved s deep es).out)

    taken-readout : (n : ℕ) → taken_in s (ledger.readout n ∷ es) ≡ taken_in s es + min (held_after s es) (begun s.size n)
    taken-readout n =
        let g = conserved s deep es in
        let k = frames_reached s.size n in
        let l : length (take k (run s es).queue.frames) ≡ min k (length (run s es).queue.frames) = length-take k (run s es).queue.frames in
        ap length (sym (conserved s deep (ledger.readout n ∷ es)).out) ∙ length-append (run s es).out (take k (run s es).queue.frames)
        ∙ omega (arith, ap length g.out, l, g.count, held-counted s deep one es, begun-reached s.size one n)

    lost-sample : (f : List ℕ) → lost_in s (ledger.sample f ∷ es) ≡ lost_in s es + worth 1 (eqb (held_after s es) s.depth)
    unfolding held_after
    lost-sample f = go (eqb (held_after s es) s.depth) refl
      where
        more : length (accepted_samples (ledger.sample f ∷ es)) ≡ suc (length (accepted_samples es))
        more = length-append (accepted_samples es) (f ∷ []) ∙ omega arith

        go : (t : Bool) → eqb (held_after s es) s.depth ≡ t → lost_in s (ledger.sample f ∷ es) ≡ lost_in s es + worth 1 t
        go true e = omega (arith, eqb-true (held_after s es) s.depth e, more, add-up es, add-up (ledger.sample f ∷ es), taken-sample f)
        go false e = omega (arith, eqb-false (held_after s es) s.depth e, few es, more, add-up es, add-up (ledger.sample f ∷ es), taken-sample f)

    lost-readout : (n : ℕ) → lost_in s (ledger.readout n ∷ es) ≡ lost_in s es
    unfolding held_after
    lost-readout n = omega (arith, add-up es, add-up (ledger.readout n ∷ es), taken-readout n)

-- what an event that does not clear adds to totals n, it adds to the span es
record Grew (s : Setting) (es : List (ledger.Event (List ℕ))) (n m : Totals) (w : Said) : Type 0 where
  taken : m.taken + taken_in s es ≡ n.taken + taken_in s (onto w es)
  lost : m.lost + lost_in s es ≡ n.lost + lost_in s (onto w es)
  cleared_away : m.cleared_away ≡ n.cleared_away
  whole : m.accepted + n.taken + held_after s es + n.lost ≡ n.accepted + m.taken + held_after s (onto w es) + m.lost

grew : (s : Setting) → (s.drops ≡ Oldest → 1 ≤ s.depth) → 1 ≤ s.size → (es : List (ledger.Event (List ℕ))) (n : Totals) (w : Said) → is_cleared w ≡ false
    → Grew s es n (totalled s (held_after s es) w n) w
unfolding held_after
grew s deep one es n cleared o = let z : ◌≡◌ {A = ℕ} 0 1 = cc in absurd (omega arith)
grew s deep one es n (sampled f) o = record {
  taken = omega (arith, taken-sample s deep one es f);
  lost = omega (arith, lost-sample s deep one es f);
  cleared_away = refl;
  whole = go (eqb (held_after s es) s.depth) refl;
}
  where
    go : (t : Bool) → eqb (held_after s es) s.depth ≡ t
        → suc n.accepted + n.taken + held_after s es + n.lost ≡ n.accepted + n.taken + min s.depth (suc (held_after s es)) + (n.lost + worth 1 (eqb (held_after s es) s.depth))
    go true e = rw e (omega (arith, eqb-true (held_after s es) s.depth e))
    go false e = rw e (omega (arith, eqb-false (held_after s es) s.depth e, few s deep one es))
grew s deep one es n (read_out b) o = record {
  taken = omega (arith, taken-readout s deep one es b);
  lost = omega (arith, lost-readout s deep one es b);
  cleared_away = refl;
  whole = omega arith;
}
grew s deep one es n nothing o = record { taken = refl; lost = refl; cleared_away = refl; whole = refl }

-- ---- one more event
module _ (c : Chip) (es : List c.Event) (e : c.Event) (w : Said) (q : c.says es e ≡ w) where
  pub next-totals : totals c (e ∷ es) ≡ totalled (c.setting es) (held_now c es) w (totals c es)
  unfolding totals
  next-totals = rw q

  next-ends : (kind : List (Fate (List ℕ)) → List (List ℕ)) → at_ends c kind (e ∷ es) ≡ sum (map (λ h. length (kind (fates c h))) (and_before w es (endings c es)))
  unfolding endings
  next-ends kind = rw q

  next-since : since c (e ∷ es) ≡ onto w (since c es)
  unfolding since
  next-since = rw q

  -- with the setting that it leaves
  module _ (s : Setting) (same : c.setting (e ∷ es) ≡ s) where
    next-fates : fates c (e ∷ es) ≡ fates_by s (onto w (since c es))
    unfolding fates
    next-fates = (λ i. fates_by (same i) (next-since i))

    pub next-held : held_now c (e ∷ es) ≡ held_after s (onto w (since c es))
    next-held = (λ i. held_after (same i) (next-since i))

same_ends : (c : Chip) (kind : List (Fate (List ℕ)) → List (List ℕ)) (w : Said) (es : List c.Event) → is_cleared w ≡ false
    → sum (map (λ h. length (kind (fates c h))) (and_before w es (endings c es))) ≡ at_ends c kind es
same_ends c kind cleared es o = cc
same_ends c kind (sampled f) es o = refl
same_ends c kind (read_out n) es o = refl
same_ends c kind nothing es o = refl

module _ (c : Chip) (law : Lawful c) where
  held-is : (es : List c.Event) → held_now c es ≡ length (held_of (fates c es))
  unfolding fates
  held-is es =
      let g = conserved (c.setting es) (law.some-deep es) (since c es) in
      held-counted (c.setting es) (law.some-deep es) (law.one es) (since c es) ∙ sym g.count ∙ ap length g.frames

  module _ (es : List c.Event) (e : c.Event) (i : OverClears c es) where
    after-clear : c.says es e ≡ cleared → OverClears c (e ∷ es)
    unfolding held_after
    after-clear q =
        let t = next-totals c es e cleared q in
        let ends = next-ends c es e cleared q in
        let f = next-fates c es e cleared q (c.setting (e ∷ es)) refl in
        let h = next-held c es e cleared q (c.setting (e ∷ es)) refl in
        record {
          whole = omega (arith, i.whole, ap (λ n. n.accepted) t, ap (λ n. n.taken) t, ap (λ n. n.lost) t, ap (λ n. n.cleared_away) t, h);
          taken = omega (arith, i.taken, ap (λ n. n.taken) t, ends taken_of, ap (λ m. length (taken_of m)) f);
          lost = omega (arith, i.lost, ap (λ n. n.lost) t, ends lost_of, ap (λ m. length (lost_of m)) f);
          held = held-is (e ∷ es);
          cleared_away = omega (arith, i.cleared_away, i.held, ap (λ n. n.cleared_away) t, ends held_of);
        }

    after-others : (w : Said) → c.says es e ≡ w → is_cleared w ≡ false → OverClears c (e ∷ es)
    unfolding fates
    after-others w q o =
        let same = law.keeps es e (rw q o) in
        let t = next-totals c es e w q in
        let ends = next-ends c es e w q in
        let f = next-fates c es e w q (c.setting es) same in
        let h = next-held c es e w q (c.setting es) same in
        let g = grew (c.setting es) (law.some-deep es) (law.one es) (since c es) (totals c es) w o in
        let k : (kind : List (Fate (List ℕ)) → List (List ℕ)) → at_ends c kind (e ∷ es) ≡ at_ends c kind es = λ kind. ends kind ∙ same_ends c kind w es o in
        record {
          whole = omega (arith, i.whole, g.whole, ap (λ n. n.accepted) t, ap (λ n. n.taken) t, ap (λ n. n.lost) t, ap (λ n. n.cleared_away) t, h);
          taken = omega (arith, i.taken, g.taken, ap (λ n. n.taken) t, k taken_of, ap (λ m. length (taken_of m)) f);
          lost = omega (arith, i.lost, g.lost, ap (λ n. n.lost) t, k lost_of, ap (λ m. length (lost_of m)) f);
          held = held-is (e ∷ es);
          cleared_away = omega (arith, i.cleared_away, g.cleared_away, ap (λ n. n.cleared_away) t, k held_of);
        }

    step : (w : Said) → c.says es e ≡ w → OverClears c (e ∷ es)
    step cleared q = after-clear q
    step (sampled f) q = after-others (sampled f) q refl
    step (read_out n) q = after-others (read_out n) q refl
    step nothing q = after-others nothing q refl

  pub over-clears : (es : List c.Event) → OverClears c es
  unfolding totals endings fates since held_after
  over-clears [] = record { whole = refl; taken = refl; lost = refl; held = refl; cleared_away = refl }
  over-clears (e ∷ es) = step es e (over-clears es) (c.says es e) refl
