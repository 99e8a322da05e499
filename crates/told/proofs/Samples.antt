-- Where the samples are asked for, what is printed is a line for each accepted one and the stretches' lines.
-- Assumes nothing.
use Prim.Native.Nat.{ℕ, suc, ◌+◌, ◌-◌, ◌^◌, ◌<◌}
use mathlib.Core.Bool.{Bool, true, false}
use mathlib.Core.List.{List, [], ◌∷◌, ◌++◌}
use mathlib.Core.Logic.{◌⊎◌, inl, inr}
use mathlib.Core.Path.{◌≡◌, refl, ap, sym, ◌∙◌}
use native.Mathlib.Omega.{arith}
use lib.Dec.{eqb}
use lib.ListN.{length}
use Rattle.laws.specs.Bits.{worth}
use Rattle.laws.specs.Choice.{pick}
use Rattle.registers.specs.Answers.{Answer, accepted}
use Rattle.codes.specs.Addresses.{control_at}
use Rattle.codes.specs.Mode.{mode_of}
use Rattle.codes.specs.declared.Mode.{Mode}
use Rattle.events.specs.Event.{Event, power_up, write, read, sample, cycle, clock}
use Rattle.events.specs.Views.{at_sample}
use Rattle.recorded.specs.Recorded.{Recorded, before_own, answer_to}
use Rattle.demand3.specs.Chip.{sampled}
use Rattle.demand3.specs.Demand.{fates}
use Rattle.paper.specs.Stored.{byte_by}
use Rattle.history.specs.History.{accelerometer, setting, says_here}
use Rattle.demand3.specs.Whole.{held_now}
use Rattle.demand3.proofs.Whole.{next-totals}
use Rattle.counts.specs.Counts.{less, back_of}
use Rattle.counts.specs.declared.Account.{Account}
use Rattle.stretches.specs.Histories.{counts_of, account_of, LostAt}
use Rattle.stretches.proofs.Histories.{counts-wait, held-wait, byte-wait, bounded, less-is, grows}
use Rattle.stretches.proofs.Lost.{lost-sample}
use Rattle.wording.specs.Wording.{sample_line, last_line}
use Rattle.answers.specs.Answer.{sample_text}
use Rattle.told.specs.Histories.{told_of, end_of}
use Rattle.told.specs.Plain.{sample_of, with_samples, rest_of}
use Rattle.answers.specs.declared.Asked.TheVariants.{Samples}
use Rattle.told.proofs.Stretches.{ended-line, rest-line}

-- how many a record lost: its clocks lose none
lost-by : (r : Recorded) (rs : List Recorded) → suc (length rs) < 2 ^ 64
    → less (account_of (r ∷ rs)).counts.lost (account_of rs).counts.lost ≡ (account_of (r ∷ rs)).counts.lost - (counts_of (before_own r rs)).lost
lost-by r rs room =
    let same : (counts_of (before_own r rs)).lost ≡ (account_of rs).counts.lost = ap (λ n. n.lost) (counts-wait r rs) in
    less-is (account_of (r ∷ rs)).counts.lost (account_of rs).counts.lost (grows (r ∷ []) rs).lost (omega (arith, (bounded (r ∷ rs)).lost)) ∙ rw same

-- a sample's line, where what is known before and behind it has these numbers
sample-is : (before behind : Account) (e : Event) (answer : Answer) {n lost held : ℕ} {mode : Mode} → less behind.counts.lost before.counts.lost ≡ lost
    → before.mode ≡ mode → before.held ≡ held → behind.number ≡ n
    → sample_text before behind e answer ≡ at_sample [] (λ x y z temperature. pick (accepted answer) (sample_line n x y z lost (back_of lost mode held)) []) e
sample-is before behind power_up answer l m h k = refl
sample-is before behind (write a byte) answer l m h k = refl
sample-is before behind (read a count) answer l m h k = refl
sample-is before behind (sample x y z temperature) answer l m h k = rw (l, m, h, k)
sample-is before behind cycle answer l m h k = refl
sample-is before behind (clock us) answer l m h k = refl

sample-told : (r : Recorded) (rs : List Recorded) → suc (length rs) < 2 ^ 64 → sample_text (account_of rs) (account_of (r ∷ rs)) r.own (answer_to r rs) ≡ sample_of r rs
sample-told r rs room =
    sample-is (account_of rs) (account_of (r ∷ rs)) r.own (answer_to r rs) (lost-by r rs room) (ap mode_of (sym (byte-wait r rs control_at))) (sym (held-wait r rs)) refl

-- of the records of a history
pub samples-told : (rs : List Recorded) → length rs < 2 ^ 64 → told_of Samples rs ≡ with_samples rs
unfolding told_of
samples-told [] room = refl
samples-told (r ∷ rs) room = rw (samples-told rs (omega arith), sample-told r rs (omega arith), ended-line true r rs)

-- of a whole log
pub samples-whole : (rs : List Recorded) (begun : Bool) (refusal : ℕ) → length rs < 2 ^ 64
    → told_of Samples rs ++ end_of Samples begun rs refusal ≡ with_samples rs ++ (rest_of true rs ++ last_line begun (length rs) refusal)
samples-whole rs begun refusal room = rw (samples-told rs room, rest-line true begun rs refusal)

-- ---- which sample a line names as lost
-- "Where LOST is 0, BACK is 0"
pub none_named : (m : Mode) (many : ℕ) → back_of 0 m many ≡ 0
none_named m many = refl

-- a line's LOST is 0; or it is 1, and the sample so many before it as its BACK says was held, and is lost: of any event and what it comes
-- behind, and so of any record's own
pub lost-named : (es : List Event) (e : Event) (f : List ℕ) → says_here es e ≡ sampled f
    → let lost = (counts_of (e ∷ es)).lost - (counts_of es).lost in
    (lost ≡ 0) ⊎ ((lost ≡ 1) × LostAt f (fates accelerometer es) (fates accelerometer (e ∷ es)) (back_of lost (mode_of (byte_by es control_at)) (held_now accelerometer es)))
lost-named es e f says = go (eqb (held_now accelerometer es) (setting es).depth) refl
  where
    next : (counts_of (e ∷ es)).lost ≡ (counts_of es).lost + worth 1 (eqb (held_now accelerometer es) (setting es).depth)
    next = ap (λ n. n.lost) (next-totals accelerometer es e (sampled f) says)

    go : (t : Bool) → eqb (held_now accelerometer es) (setting es).depth ≡ t
        → let lost = (counts_of (e ∷ es)).lost - (counts_of es).lost in
        (lost ≡ 0) ⊎ ((lost ≡ 1) × LostAt f (fates accelerometer es) (fates accelerometer (e ∷ es)) (back_of lost (mode_of (byte_by es control_at)) (held_now accelerometer es)))
    go true q =
        let more : (counts_of (e ∷ es)).lost ≡ (counts_of es).lost + 1 = next ∙ rw q in
        let one : (counts_of (e ∷ es)).lost - (counts_of es).lost ≡ 1 = omega (arith, more) in
        inr (one, rw one (lost-sample es e f says (omega (arith, more))))
    go false q =
        let same : (counts_of (e ∷ es)).lost ≡ (counts_of es).lost + 0 = next ∙ rw q in
        inl (omega (arith, same))
