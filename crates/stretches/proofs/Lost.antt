-- Which sample an arrival loses: the one that the line of the newcomer names, counted back from it.
-- Assumes nothing.
use Prim.Native.Nat.{ℕ, zero, suc, ◌+◌}
use mathlib.Core.Bool.{Bool, true, false}
use mathlib.Core.List.{List, [], ◌∷◌}
use mathlib.Core.Option.{some}
use mathlib.Core.Path.{◌≡◌, refl, ap, sym, ◌∙◌}
use native.Mathlib.Omega.{arith}
use lib.Dec.{eqb, ltb}
use lib.ListN.{length, length-append, get_elem?}
use borrow.Author.Tests.{eqb-true}
use Rattle.laws.specs.Bits.{worth}
use Rattle.laws.specs.Choice.{pick}
use Rattle.codes.specs.Addresses.{control_at}
use Rattle.codes.specs.Mode.{mode_of, is_reserved_mode}
use Rattle.codes.specs.declared.Mode.{Mode}
use Rattle.codes.specs.declared.Mode.TheVariants.{Bypass, Fifo, Stream, Reserved}
use Rattle.fifo.specs.Ledger.{Fate, taken, held, lost, held_in, lost_of, passed, arrives}
use Rattle.fifo.specs.Setting.{depth_in, drops_in}
use Rattle.fifo.specs.declared.Drop.{Drop}
use Rattle.fifo.specs.declared.Drop.TheVariants.{Newcomer, Oldest}
use Rattle.device.specs.Device.{depth}
use Rattle.events.specs.Event.{Event}
use Rattle.paper.specs.Stored.{byte_by}
use Rattle.demand3.specs.Chip.{sampled, since}
use Rattle.demand3.specs.Demand.{fates}
use Rattle.history.specs.History.{accelerometer, control, setting, says_here}
use Rattle.demand3.specs.Whole.{held_now, endings, at_ends}
use Rattle.history.proofs.Conserve.{over-clears-here, lawful}
use Rattle.history.proofs.Holds.{holds_after}
use Rattle.demand3.proofs.Whole.{next-totals}
use Rattle.counts.specs.Counts.{dropped_back}
use Rattle.stretches.specs.Histories.{counts_of, LostAt}

-- ---- the ledger
more-lost : (a : List ℕ) (ms : List (Fate (List ℕ))) → length (lost_of (lost a ∷ ms)) ≡ suc (length (lost_of ms))
more-lost a ms = omega (arith, length-append (lost_of ms) (a ∷ []))

-- where one more is lost when n more came, it is the one after which they came, and it was held
passed-lost : (n : ℕ) (ms : List (Fate (List ℕ))) → length (lost_of (passed n ms)) ≡ suc (length (lost_of ms))
    → (f : List ℕ) × (get_elem? ms n ≡ some (held f)) × (get_elem? (passed n ms) n ≡ some (lost f))
passed-lost n [] h = absurd (omega arith)
passed-lost zero (taken a ∷ ms) h = absurd (omega arith)
passed-lost zero (held a ∷ ms) h = (a, refl, refl)
passed-lost zero (lost a ∷ ms) h = absurd (omega arith)
passed-lost (suc n) (taken a ∷ ms) h = passed-lost n ms h
passed-lost (suc n) (held a ∷ ms) h = passed-lost n ms h
passed-lost (suc n) (lost a ∷ ms) h = passed-lost n ms (omega (arith, more-lost a ms, more-lost a (passed n ms)))

-- "FIFO mode drops the newcomer; STREAM and BYPASS drop the oldest", which saw as many later samples as the depth
abbrev back_at : Drop → ℕ → ℕ
back_at Newcomer deep = 0
back_at Oldest deep = deep

arrival-lost : (d : Drop) (deep : ℕ) (f : List ℕ) (ms : List (Fate (List ℕ))) → length (lost_of (arrives d deep f ms)) ≡ suc (length (lost_of ms))
    → LostAt f ms (arrives d deep f ms) (back_at d deep)
arrival-lost Newcomer deep f ms h = go (ltb (held_in ms) deep) h
  where
    go : (t : Bool) → length (lost_of (pick t (held f) (lost f) ∷ ms)) ≡ suc (length (lost_of ms)) → LostAt f ms (pick t (held f) (lost f) ∷ ms) 0
    go true h = absurd (omega arith)
    go false h = record { frame = f; was = refl; is = refl }
arrival-lost Oldest deep f ms h =
    let p = passed-lost deep (held f ∷ ms) h in
    record { frame = p.0; was = p.1; is = p.2 }

-- ---- the accelerometer
-- with as many held as the depth, the one that is dropped came so many samples before
back_is : (m : Mode) (many : ℕ) → is_reserved_mode m ≡ false → many ≡ depth_in depth m → back_at (drops_in m) (depth_in depth m) ≡ dropped_back m many
back_is Bypass many known full = sym full
back_is Fifo many known full = refl
back_is Stream many known full = sym full
back_is Reserved many known full = cc

module _ (es : List Event) (e : Event) (f : List ℕ) (says : says_here es e ≡ sampled f) (one : (counts_of (e ∷ es)).lost ≡ suc (counts_of es).lost) where
  arrived-is : fates accelerometer (e ∷ es) ≡ arrives (setting es).drops (setting es).depth f (fates accelerometer es)
  unfolding fates since
  arrived-is = rw (lawful.keeps es e (rw says), says)

  -- what the earlier clears lost stays
  ends_stay : at_ends accelerometer lost_of (e ∷ es) ≡ at_ends accelerometer lost_of es
  unfolding endings
  ends_stay = rw says

  lost-more : length (lost_of (fates accelerometer (e ∷ es))) ≡ suc (length (lost_of (fates accelerometer es)))
  lost-more = omega (arith, one, (over-clears-here es).lost, (over-clears-here (e ∷ es)).lost, ends_stay)

  full : held_now accelerometer es ≡ (setting es).depth
  full = go (eqb (held_now accelerometer es) (setting es).depth) refl
    where
      next : (counts_of (e ∷ es)).lost ≡ (counts_of es).lost + worth 1 (eqb (held_now accelerometer es) (setting es).depth)
      next = ap (λ n. n.lost) (next-totals accelerometer es e (sampled f) says)

      go : (t : Bool) → eqb (held_now accelerometer es) (setting es).depth ≡ t → held_now accelerometer es ≡ (setting es).depth
      go true q = eqb-true _ _ q
      go false q = let none : (counts_of (e ∷ es)).lost ≡ (counts_of es).lost + 0 = next ∙ rw q in absurd (omega (arith, one, none))

  -- "Mark the samples that were lost": the sample of the line's BACK was held, and the arrival lost it
  pub lost-sample : LostAt f (fates accelerometer es) (fates accelerometer (e ∷ es)) (dropped_back (mode_of (byte_by es control_at)) (held_now accelerometer es))
  lost-sample =
      let m = mode_of (control es) in
      rw (← back_is m (held_now accelerometer es) (holds_after es).mode full, arrived-is)
      (arrival-lost (setting es).drops (setting es).depth f (fates accelerometer es) (rw arrived-is at lost-more))
