-- What is said in words of the records between two, and of the whole log: the range and the mode in force, refused writes, and the totals,
-- which are the sums over the stretches between.
-- Assumes nothing.
use Prim.Native.Nat.{ℕ, suc, ◌+◌, ◌-◌, ◌^◌, ◌≤◌, ◌<◌}
use mathlib.Core.Bool.{Bool, true, false, not}
use mathlib.Core.List.{List, [], ◌∷◌, ◌++◌, append_assoc, append-nil}
use mathlib.Core.Path.{◌≡◌, refl, sym, ap, ◌∙◌}
use native.Mathlib.Omega.{arith}
use lib.Dec.{eqb, ltb}
use lib.ListN.{length, length-append}
use lib.Seq.{drop-append_seam}
use borrow.Author.Tests.{eq-eqb, ne_eqb, lt-ltb, le-ltb}
use Rattle.laws.specs.Choice.{pick}
use Rattle.laws.proofs.Finite.{of-pick}
use Rattle.registers.specs.Answers.{Answer, accepted, number}
use Rattle.events.specs.Event.{Event, power_up, write, read, sample, cycle, clock}
use Rattle.events.specs.Views.{at_write}
use Rattle.recorded.specs.Recorded.{Recorded, answer_to}
use Rattle.counts.specs.Counts.{differences, is_same_range, is_same_mode}
use Rattle.counts.specs.declared.Account.{Account}
use Rattle.counts.specs.declared.Why.{Why}
use Rattle.std.proofs.Common.{Option, None, Some}
use Rattle.stretches.specs.Histories.{account_of, is_end, last_end, Stretch, ending_with, stretches, Part, Between, Each, inside as inside_of}
use Rattle.stretches.proofs.Histories.{differences-are}
use Rattle.stretches.proofs.Stretches.{last_end-part, sums, each-differs}
use Rattle.wording.specs.Wording.{refused_line, range_line, mode_line, short_line, over_line}
use Rattle.wording.specs.declared.Line.TheVariants as line
use Rattle.answers.specs.Answer.{text_if, in_force_text, refused_of, totals_words, inside_text, words_text, last_number, record_text}
use Rattle.told.specs.Histories.{at_mark, told_of, end_of}
use Rattle.told.specs.Plain.{columns_of, refused_write, changed_by, said_from, totals_from, Summed}
use Rattle.answers.specs.declared.Asked.{Asked}
use Rattle.answers.specs.declared.Asked.TheVariants as asked
use Rattle.told.proofs.Stretches.{added-up-is}

-- ---- the sums
-- the stretches of a later history that h has not, where one ends at h
pub later-lead : (later h : List Recorded) → last_end h ≡ h → (ss : List Stretch) × (stretches (later ++ h) ≡ ss ++ stretches h) × Between h ss (last_end (later ++ h))
unfolding stretches last_end
later-lead [] h l = ([], refl, l)
later-lead (r ∷ later) h l = go (later-lead later h l) (is_end r.own)
  where
    rs : List Recorded
    rs = later ++ h

    new : Stretch
    new = ending_with r rs

    part : Part (last_end rs) (r ∷ rs)
    part = let p = last_end-part rs in (r ∷ p.0, ap (λ m. r ∷ m) p.1)

    go : (ss : List Stretch) × (stretches rs ≡ ss ++ stretches h) × Between h ss (last_end rs)
        → (t : Bool) → (ss : List Stretch) × (pick t (new ∷ stretches rs) (stretches rs) ≡ ss ++ stretches h) × Between h ss (pick t (r ∷ rs) (last_end rs))
    go (ss, are, leads) true = (new ∷ ss, ap (λ r. new ∷ r) are, (refl, part, leads))
    go (ss, are, leads) false = (ss, are, leads)

-- from the end of one stretch to the end of a later one, what the words print of the counts is the sum of what the stretches' lines print
pub words-sum : (later h : List Recorded) → last_end h ≡ h → last_end (later ++ h) ≡ later ++ h → length (later ++ h) < 2 ^ 64 → Summed h (later ++ h)
words-sum later h l k room =
    let found = later-lead later h l in
    let ss = found.0 in
    let leads : Between h ss (later ++ h) = rw k at found.2 in
    let each : Each (λ s. columns_of s ≡ inside_of s) ss = each-differs ss h (later ++ h) leads room in
    record {
      between = ss;
      are = found.1;
      leads = leads;
      counts = differences-are later h room ∙ sym (sums ss h (later ++ h) leads) ∙ sym (added-up-is ss each);
    }

-- ---- the lines
-- what is chosen, line by line: a refused write, what changed, and the totals
refused-is : (n : ℕ) (e : Event) (answer : Answer)
    → text_if (refused_of n e answer) ≡ at_write [] (λ a byte. pick (accepted answer) [] (refused_line n byte a (number answer))) e
refused-is n power_up answer = refl
refused-is n (write a byte) answer = of-pick text_if (accepted answer) None _
refused-is n (read a count) answer = refl
refused-is n (sample x y z temperature) answer = refl
refused-is n cycle answer = refl
refused-is n (clock us) answer = refl

changed-is : (r : Recorded) (rs : List Recorded)
    → in_force_text (not (is_same_range (account_of (r ∷ rs)) (account_of rs))) (not (is_same_mode (account_of (r ∷ rs)) (account_of rs))) (account_of (r ∷ rs)) ≡ changed_by r rs
changed-is r rs = go (is_same_range (account_of (r ∷ rs)) (account_of rs)) (is_same_mode (account_of (r ∷ rs)) (account_of rs))
  where
    a : Account
    a = account_of (r ∷ rs)

    go : (s t : Bool) → in_force_text (not s) (not t) a ≡ pick s [] (range_line a) ++ pick t [] (mode_line a)
    go true true = refl
    go true false = refl
    go false true = refl
    go false false = refl

totals-are : (h k : List Recorded) → totals_words (account_of h) (account_of k) ≡ totals_from h k
totals-are h k =
    let n = differences (account_of h).counts (account_of k).counts in
    rw (of-pick text_if (eqb n.lost 0) None (Some line.Lost), of-pick text_if (eqb n.readouts 0) (Some line.NoReadout) None)

-- the words between from and upto, where from is below upto: asked so, or of the whole log
pub record Worded (asked : Asked) (from upto : ℕ) : Type 0 where
  pub some : from < upto
  pub text : (mark before behind : Account) (e : Event) (a : Answer) (w : Option Why) → record_text asked mark before behind e a w ≡ words_text from upto mark before behind e a

pub between-worded : (from upto : ℕ) → from < upto → Worded (asked.Between from upto) from upto
between-worded from upto h = record { some = h; text = λ mark before behind e a w. refl }

pub whole-worded : Worded asked.Whole 0 last_number
whole-worded = record { some = omega arith; text = λ mark before behind e a w. refl }

module _ {words : Asked} {from upto : ℕ} (worded : Worded words from upto) where
  -- one record more
  next-told : (r : Recorded) (rs : List Recorded)
      → told_of words (r ∷ rs)
      ≡ told_of words rs ++ words_text from upto (account_of (at_mark words rs)) (account_of rs) (account_of (r ∷ rs)) r.own (answer_to r rs)
  unfolding told_of
  next-told r rs = ap (λ l. told_of words rs ++ l) (worded.text _ _ _ _ _ _)

  -- up to the record from nothing is printed, and behind the record upto nothing more
  early : (rs : List Recorded) → length rs ≤ from → told_of words rs ≡ []
  unfolding told_of
  early [] h = refl
  early (r ∷ rs) h = next-told r rs ∙ rw (early rs (omega arith), le-ltb _ _ h)

  late : (more k : List Recorded) → upto ≤ length k → told_of words (more ++ k) ≡ told_of words k
  late [] k h = refl
  late (r ∷ more) k h =
      let n : length (more ++ k) ≡ length more + length k = length-append more k in
      let behind : ltb from (suc (length (more ++ k))) ≡ true = lt-ltb from (suc (length (more ++ k))) (omega (arith, worded.some)) in
      let past : ltb upto (suc (length (more ++ k))) ≡ true = lt-ltb upto (suc (length (more ++ k))) (omega arith) in
      next-told r (more ++ k) ∙ rw (late more k h, behind, past) (append-nil (told_of words k))

  module _ (h : List Recorded) (at_from : length h ≡ from) where
    -- the text of a record between them: behind what is in force, where it is the first, its refused write, and what comes last
    abbrev first_of : List Recorded → List ℕ
    first_of rs = in_force_text (eqb (length rs) from) (eqb (length rs) from) (account_of rs)

    inside : (later : List Recorded) (r : Recorded) → suc (length (later ++ h)) ≤ upto
        → let rs = later ++ h in
        told_of words (r ∷ rs)
        ≡ (told_of words rs ++ first_of rs)
        ++ (refused_write r rs ++ pick (eqb (suc (length rs)) upto) (totals_words (account_of (at_mark words rs)) (account_of (r ∷ rs))) (changed_by r rs))
    unfolding inside_text
    inside later r room =
        let rs = later ++ h in
        let n : length rs ≡ length later + length h = length-append later h in
        let past : ltb from (suc (length rs)) ≡ true = lt-ltb from (suc (length rs)) (omega arith) in
        let within : ltb upto (suc (length rs)) ≡ false = le-ltb upto (suc (length rs)) room in
        next-told r rs ∙ rw (past, within, refused-is (suc (length rs)) r.own (answer_to r rs), changed-is r rs) (sym (append_assoc (told_of words rs) (first_of rs) _))

    -- all that is said of the later records: what is in force is printed with the record that comes next
    said : (later : List Recorded) → length (later ++ h) < upto → told_of words (later ++ h) ++ first_of (later ++ h) ≡ said_from h later
    said [] room = rw (early h (omega arith), eq-eqb (length h) from at_from)
    said (r ∷ later) room =
        let rs = later ++ h in
        let n : length rs ≡ length later + length h = length-append later h in
        let first : eqb (suc (length rs)) from ≡ false = ne_eqb (suc (length rs)) from (λ p. omega arith) in
        let last : eqb (suc (length rs)) upto ≡ false = ne_eqb (suc (length rs)) upto (λ p. omega arith) in
        rw (first, append-nil) (inside later r (omega arith) ∙ rw (last, said later (omega arith)))

    -- the record upto: what is said before it, its refused write, and the totals
    ended : (later : List Recorded) (r : Recorded) → suc (length (later ++ h)) ≡ upto → at_mark words (later ++ h) ≡ h
        → told_of words (r ∷ (later ++ h)) ≡ said_from h later ++ (refused_write r (later ++ h) ++ totals_from h (r ∷ (later ++ h)))
    ended later r last mark =
        inside later r (omega arith) ∙ rw (eq-eqb _ _ last, mark, totals-are h (r ∷ (later ++ h)), said later (omega arith))

-- ---- between two records
-- the history behind the record from
mark-at : (later h : List Recorded) (upto : ℕ) → at_mark (asked.Between (length h) upto) (later ++ h) ≡ h
mark-at later h upto =
    let n : length (later ++ h) ≡ length later + length h = length-append later h in
    let past : ltb (length (later ++ h)) (length h) ≡ false = le-ltb (length (later ++ h)) (length h) (omega arith) in
    let left : length (later ++ h) - length h ≡ length later = omega arith in
    rw (past, left) (drop-append_seam later h)

module _ (h : List Recorded) (upto : ℕ) (some : length h < upto) where
  abbrev pub behind : Asked
  behind = asked.Between (length h) upto

  worded-here : Worded behind (length h) upto
  worded-here = between-worded (length h) upto some

  -- the log comes to the record upto
  pub words-told : (later : List Recorded) (r : Recorded) → suc (length (later ++ h)) ≡ upto → (more : List Recorded) (begun : Bool) (refusal : ℕ)
      → let k = r ∷ (later ++ h) in
      told_of behind (more ++ k) ++ end_of behind begun (more ++ k) refusal ≡ said_from h later ++ (refused_write r (later ++ h) ++ totals_from h k)
  words-told later r last more begun refusal =
      let k = r ∷ (later ++ h) in
      let n : length (more ++ k) ≡ length more + suc (length (later ++ h)) = length-append more k in
      let past : ltb (length (more ++ k)) upto ≡ false = le-ltb (length (more ++ k)) upto (omega arith) in
      rw (past, append-nil, late worded-here more k (omega arith)) (ended worded-here h refl later r last (mark-at later h upto))

  -- "Where the log ends before TO, what is known and that the rest is not"
  pub words-short : (later : List Recorded) (r : Recorded) → suc (length (later ++ h)) < upto → (begun : Bool) (refusal : ℕ)
      → let k = r ∷ (later ++ h) in
      told_of behind k ++ end_of behind begun k refusal ≡ said_from h (r ∷ later) ++ (totals_from h k ++ short_line refusal (length k) upto)
  words-short later r room begun refusal =
      let k = r ∷ (later ++ h) in
      let n : length (later ++ h) ≡ length later + length h = length-append later h in
      let first : eqb (length k) (length h) ≡ false = ne_eqb (length k) (length h) (λ p. omega arith) in
      let past : ltb (length h) (length k) ≡ true = lt-ltb (length h) (length k) (omega arith) in
      let all : told_of behind k ++ [] ≡ said_from h (r ∷ later) = rw first at (said worded-here h refl (r ∷ later) room) in
      rw (mark-at (r ∷ later) h upto, lt-ltb (length k) upto room, past, totals-are h k, ← all, append-nil)

-- where it ends before FROM, or with it, nothing is known
pub words-none : (rs : List Recorded) (from upto : ℕ) → from < upto → length rs ≤ from → (begun : Bool) (refusal : ℕ)
    → let asked = asked.Between from upto in
    told_of asked rs ++ end_of asked begun rs refusal ≡ short_line refusal (length rs) upto
words-none rs from upto some few begun refusal =
    let short : ltb (length rs) upto ≡ true = lt-ltb (length rs) upto (omega arith) in
    rw (early (between-worded from upto some) rs few, short, le-ltb from (length rs) few)

-- ---- of the whole log
abbrev pub behind_all : List Recorded → List ℕ
behind_all [] = []
behind_all (r ∷ rs) = said_from [] (r ∷ rs) ++ totals_from [] (r ∷ rs)

no_words : told_of asked.Whole [] ≡ []
unfolding told_of
no_words = refl

pub whole-told : (rs : List Recorded) → length rs < 2 ^ 64 - 1 → (begun : Bool) (refusal : ℕ)
    → told_of asked.Whole rs ++ end_of asked.Whole begun rs refusal ≡ behind_all rs ++ over_line begun (length rs) refusal
whole-told [] room begun refusal = rw no_words
whole-told (r ∷ rs) room begun refusal =
    let n : length (rs ++ []) ≡ length rs = ap length (append-nil rs) in
    let first : eqb (suc (length (rs ++ []))) 0 ≡ false = ne_eqb (suc (length (rs ++ []))) 0 (λ p. omega arith) in
    let past : ltb 0 (suc (length rs)) ≡ true = lt-ltb 0 (suc (length rs)) (omega arith) in
    let all : told_of asked.Whole (r ∷ (rs ++ [])) ++ [] ≡ said_from [] (r ∷ rs) = rw first at (said whole-worded [] refl (r ∷ rs) (omega (arith, n, room))) in
    let here : told_of asked.Whole (r ∷ rs) ≡ said_from [] (r ∷ rs)
    = sym (append-nil (told_of asked.Whole (r ∷ rs))) ∙ ap (λ l. told_of asked.Whole (r ∷ l) ++ []) (sym (append-nil rs)) ∙ all in
    let over = over_line begun (length (r ∷ rs)) refusal in
    rw (past, totals-are [] (r ∷ rs)) (ap (λ l. l ++ (totals_from [] (r ∷ rs) ++ over)) here ∙ sym (append_assoc (said_from [] (r ∷ rs)) (totals_from [] (r ∷ rs)) over))
