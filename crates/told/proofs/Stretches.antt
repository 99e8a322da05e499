-- Where the stretches are asked for, what is printed is a line for each of them, in order, and they lead from power-up to the end of the
-- log.
-- Assumes nothing.
use Prim.Native.Nat.{ℕ, ◌^◌, ◌<◌}
use mathlib.Core.Bool.{Bool, true, false}
use mathlib.Core.List.{List, [], ◌∷◌, ◌++◌, append_assoc, append-nil}
use mathlib.Core.Path.{◌≡◌, refl, sym, ap, ◌∙◌}
use native.Mathlib.Nat.{sub-zero}
use native.Mathlib.Omega.{arith}
use lib.Dec.{eqb}
use lib.ListN.{length, length-append}
use borrow.Author.Tests.{eqb-true}
use Rattle.laws.specs.Choice.{pick}
use Rattle.laws.proofs.Finite.{of-pick}
use Rattle.recorded.specs.Recorded.{Recorded, events_of, before_own}
use Rattle.demand3.specs.Whole.{totals}
use Rattle.counts.specs.Counts.{ends}
use Rattle.stretches.specs.Histories.{account_of, counts_of, refusals, readouts_in, why_with, is_end, last_end, Stretch, ending_with, stretches, unended, Conserved, apart, Part, Between, Each, over, inside, together}
use Rattle.counts.specs.declared.Account.{Account}
use Rattle.counts.specs.declared.Counts.{Counts}
use Rattle.counts.specs.declared.Why.{Why}
use Rattle.std.proofs.Common.{Option, None}
use Rattle.stretches.proofs.Ranges.{SameRange, range-lasts}
use Rattle.stretches.proofs.Stretches.{ends_is, last_end-part, stretches-lead, all-lead, sums, each-conserves, each-differs}
use Rattle.wording.specs.Wording.{stretch_line, moded_line, last_line, line_text}
use Rattle.wording.specs.declared.Line.TheVariants as line
use Rattle.answers.specs.Answer.{text_if, stretch_of, ended_of, rest_text}
use Rattle.told.specs.Histories.{told_of, end_of}
use Rattle.told.specs.Plain.{printed_stretches, seen_at, line_of, lines_for, rest_of, columns_of, added_up}
use Rattle.answers.specs.declared.Asked.{Asked}
use Rattle.answers.specs.declared.Asked.TheVariants.{Stretches, Modes}

-- ---- the lines
-- a line that is chosen, with its mode or without
moded-line : (moded : Bool) (from before behind : Account) (w : Option Why)
    → line_text (stretch_of moded from before behind w) ≡ pick moded (moded_line from before behind w) (stretch_line from before behind w)
moded-line moded from before behind w = of-pick line_text moded (line.Moded from before behind w) (line.Stretch from before behind w)

-- of a stretch that a record ends, where it does
pub ended-line : (moded : Bool) (r : Recorded) (rs : List Recorded)
    → text_if (ended_of moded (account_of (last_end rs)) (account_of rs) (account_of (r ∷ rs)) (why_with r rs))
    ≡ pick (is_end r.own) (line_of moded (ending_with r rs)) []
ended-line moded r rs = go (is_end r.own) (ends_is (before_own r rs) r.own)
  where
    go : (t : Bool) → ends (why_with r rs) ≡ t
        → text_if (ended_of moded (account_of (last_end rs)) (account_of rs) (account_of (r ∷ rs)) (why_with r rs)) ≡ pick t (line_of moded (ending_with r rs)) []
    go true q = rw q (moded-line moded (account_of (last_end rs)) (account_of rs) (account_of (r ∷ rs)) (why_with r rs))
    go false q = rw q

-- where the stretches are asked for, with their modes or without
abbrev pub form : Bool → Asked
form true = Modes
form false = Stretches

ended-text : (moded : Bool) (r : Recorded) (rs : List Recorded) → told_of (form moded) (r ∷ rs)
    ≡ told_of (form moded) rs ++ pick (is_end r.own) (line_of moded (ending_with r rs)) []
unfolding told_of
ended-text true r rs = ap (λ l. told_of Modes rs ++ l) (ended-line true r rs)
ended-text false r rs = ap (λ l. told_of Stretches rs ++ l) (ended-line false r rs)

-- of those that have ended
no-records : (moded : Bool) → told_of (form moded) [] ≡ []
unfolding told_of
no-records true = refl
no-records false = refl

pub stretches-told : (moded : Bool) (rs : List Recorded) → told_of (form moded) rs ≡ lines_for moded (stretches rs)
unfolding stretches
stretches-told moded [] = no-records moded
stretches-told moded (r ∷ rs) = ended-text moded r rs ∙ rw (stretches-told moded rs) (go (is_end r.own))
  where
    new : Stretch
    new = ending_with r rs

    go : (t : Bool) → lines_for moded (stretches rs) ++ pick t (line_of moded new) [] ≡ lines_for moded (pick t (new ∷ stretches rs) (stretches rs))
    go true = refl
    go false = append-nil (lines_for moded (stretches rs))

-- the rest, where records are left
pub rest-line : (moded begun : Bool) (rs : List Recorded) (refusal : ℕ)
    → rest_text moded begun (account_of (last_end rs)) (account_of rs) refusal ≡ rest_of moded rs ++ last_line begun (length rs) refusal
rest-line moded begun rs refusal = rw (moded-line moded (account_of (last_end rs)) (account_of rs) (account_of rs) None)

-- of a whole log
pub stretches-whole : (moded : Bool) (rs : List Recorded) (begun : Bool) (refusal : ℕ)
    → told_of (form moded) rs ++ end_of (form moded) begun rs refusal ≡ lines_for moded (printed_stretches rs) ++ last_line begun (length rs) refusal
stretches-whole moded rs begun refusal =
    rw (stretches-told moded rs, rest-of moded) (go (eqb (length (last_end rs)) (length rs)))
  where
    last : List ℕ
    last = last_line begun (length rs) refusal

    rest-of : (m : Bool) → end_of (form m) begun rs refusal ≡ rest_of m rs ++ last
    rest-of true = rest-line true begun rs refusal
    rest-of false = rest-line false begun rs refusal

    go : (t : Bool) → lines_for moded (stretches rs) ++ (pick t [] (line_of moded (unended rs)) ++ last)
        ≡ lines_for moded (pick t (stretches rs) (unended rs ∷ stretches rs)) ++ last
    go true = refl
    go false = sym (append_assoc (lines_for moded (stretches rs)) (line_of moded (unended rs)) last)

-- ---- where they lie
no-later : (later h : List Recorded) → length h ≡ length (later ++ h) → later ++ h ≡ h
no-later [] h e = refl
no-later (x ∷ later) h e = absurd (omega (arith, length-append later h))

-- they lead from power-up to the end
pub all-of-lead : (rs : List Recorded) → Between [] (printed_stretches rs) rs
all-of-lead rs = go (eqb (length (last_end rs)) (length rs)) refl
  where
    part : Part (last_end rs) rs
    part = last_end-part rs

    ended : length (last_end rs) ≡ length rs → last_end rs ≡ rs
    ended e = sym (part.1 ∙ no-later part.0 (last_end rs) (e ∙ ap length part.1))

    go : (t : Bool) → eqb (length (last_end rs)) (length rs) ≡ t → Between [] (pick t (stretches rs) (unended rs ∷ stretches rs)) rs
    go true p = let l : last_end rs ≡ rs = ended (eqb-true _ _ p) in rw l at (stretches-lead rs)
    go false p = all-lead rs

-- ---- what the lines say
-- numbers that are alike for each stretch add up alike
over-alike : (f g : Stretch → ℕ) (ss : List Stretch) → Each (λ s. f s ≡ g s) ss → over f ss ≡ over g ss
over-alike f g [] e = refl
over-alike f g (s ∷ ss) e = rw (e.0, over-alike f g ss e.1)

each_of : (f : Counts → ℕ) (ss : List Stretch) → Each (λ s. columns_of s ≡ inside s) ss → Each (λ s. f (columns_of s) ≡ f (inside s)) ss
each_of f [] e = tt
each_of f (s ∷ ss) e = (ap f e.0, each_of f ss e.1)

-- a line's columns are what was counted in its stretch, and all together add up
pub added-up-is : (ss : List Stretch) → Each (λ s. columns_of s ≡ inside s) ss → added_up ss ≡ together ss
added-up-is ss e = λ i. record {
  accepted = column (λ n. n.accepted) i;
  taken = column (λ n. n.taken) i;
  lost = column (λ n. n.lost) i;
  cleared = column (λ n. n.cleared) i;
  refused = column (λ n. n.refused) i;
  readouts = column (λ n. n.readouts) i;
}
  where
    column : (f : Counts → ℕ) → over (λ s. f (columns_of s)) ss ≡ over (λ s. f (inside s)) ss
    column f = over-alike (λ s. f (columns_of s)) (λ s. f (inside s)) ss (each_of f ss e)

module _ (rs : List Recorded) where
  -- each of them conserves: held before + accepted = taken + lost + cleared + held after
  pub all-conserve : Each (λ s. Conserved (account_of s.from) (account_of s.to)) (printed_stretches rs)
  all-conserve = each-conserves (printed_stretches rs) [] rs (all-of-lead rs)

  -- below 2 ^ 64 records its columns are what was counted in it, and those of all lines add up to what was counted in the log
  pub all-columns : length rs < 2 ^ 64 → Each (λ s. columns_of s ≡ inside s) (printed_stretches rs)
  all-columns room = each-differs (printed_stretches rs) [] rs (all-of-lead rs) room

  pub all-add-up : length rs < 2 ^ 64 → added_up (printed_stretches rs) ≡ counts_of (events_of rs)
  unfolding totals refusals readouts_in
  all-add-up room = added-up-is (printed_stretches rs) (all-columns room) ∙ sums (printed_stretches rs) [] rs (all-of-lead rs) ∙ from-none
    where
      from-none : apart (counts_of []) (counts_of (events_of rs)) ≡ counts_of (events_of rs)
      from-none = simp sub-zero

-- the range of a line, and what is doubted of it, is what it was where the stretch began
abbrev pub InForce : Stretch → Type 0
InForce s = SameRange (account_of (seen_at s)) (account_of s.from)

ended-in-force : (rs : List Recorded) → Each InForce (stretches rs)
unfolding stretches
ended-in-force [] = tt
ended-in-force (r ∷ rs) = go (ended-in-force rs) (is_end r.own) refl
  where
    go : Each InForce (stretches rs) → (t : Bool) → is_end r.own ≡ t
        → Each InForce (pick t (ending_with r rs ∷ stretches rs) (stretches rs))
    go earlier true q = (rw (ends_is (before_own r rs) r.own, q) (range-lasts rs), earlier)
    go earlier false q = earlier

pub all-in-force : (rs : List Recorded) → Each InForce (printed_stretches rs)
all-in-force rs = go (eqb (length (last_end rs)) (length rs))
  where
    go : (t : Bool) → Each InForce (pick t (stretches rs) (unended rs ∷ stretches rs))
    go true = ended-in-force rs
    go false = (range-lasts rs, ended-in-force rs)
