-- The same in plain words, by what was asked: the lines of the stretches and of the samples, and what is said of the records between two.
use Rattle.std.specs.Prelude.{ℕ, suc, ◌-◌, Bool, true, List, [], ◌∷◌, ◌++◌, ◌≡◌, eqb, length}
use Rattle.laws.specs.Choice.{pick}
use Rattle.codes.specs.Addresses.{control_at}
use Rattle.codes.specs.Mode.{mode_of}
use Rattle.registers.specs.Answers.{accepted, number}
use Rattle.events.specs.Views.{at_write, at_sample}
use Rattle.paper.specs.Stored.{byte_by}
use Rattle.history.specs.History.{accelerometer}
use Rattle.demand3.specs.Whole.{held_now}
use Rattle.recorded.specs.Recorded.{Recorded, before_own, answer_to}
use Rattle.counts.specs.Counts.{differences, ends, is_same_range, is_same_mode, back_of}
use Rattle.stretches.specs.Histories.{counts_of, account_of, is_end, last_end, Stretch, ending_with, stretches, unended, Between, over}
use Rattle.counts.specs.declared.Counts.{Counts}
use Rattle.wording.specs.Wording.{stretch_line, moded_line, sample_line, refused_line, range_line, mode_line, totals_line, lost_line, no_readout_line}

-- ---- stretches
-- those that are printed, the latest first: those that have ended and, "only where records are left", the rest
abbrev pub printed_stretches : List Recorded → List Stretch
printed_stretches rs = pick (eqb (length (last_end rs)) (length rs)) (stretches rs) (unended rs ∷ stretches rs)

-- "RANGE in force in the stretch, before its last record acts"; of the rest, which no record ended, at its end
abbrev pub before : List Recorded → List Recorded
before [] = []
before (r ∷ rs) = rs

abbrev pub seen_at : Stretch → List Recorded
seen_at s = pick (ends s.why) (before s.to) s.to

-- with its mode, or without
abbrev pub line_of : Bool → Stretch → List ℕ
line_of moded s =
    pick moded
    (moded_line (account_of s.from) (account_of (seen_at s)) (account_of s.to) s.why)
    (stretch_line (account_of s.from) (account_of (seen_at s)) (account_of s.to) s.why)

-- in order
abbrev pub lines_for : Bool → List Stretch → List ℕ
lines_for moded [] = []
lines_for moded (s ∷ ss) = lines_for moded ss ++ line_of moded s

-- the counts that such lines print, added up
abbrev pub columns_of : Stretch → Counts
columns_of s = differences (account_of s.from).counts (account_of s.to).counts

abbrev pub added_up : List Stretch → Counts
added_up ss = record {
  accepted = over (λ s. (columns_of s).accepted) ss;
  taken = over (λ s. (columns_of s).taken) ss;
  lost = over (λ s. (columns_of s).lost) ss;
  cleared = over (λ s. (columns_of s).cleared) ss;
  refused = over (λ s. (columns_of s).refused) ss;
  readouts = over (λ s. (columns_of s).readouts) ss;
}

-- ---- samples
-- "of each accepted sample a line `sample N X Y Z LOST BACK`", with how many its arrival lost, and which (stretches/proofs/Lost)
abbrev pub sample_of : Recorded → List Recorded → List ℕ
sample_of r rs =
    let e = r.own in
    let es = before_own r rs in
    let lost = (counts_of (e ∷ es)).lost - (counts_of es).lost in
    let back = back_of lost (mode_of (byte_by es control_at)) (held_now accelerometer es) in
    at_sample [] (λ x y z temperature. pick (accepted (answer_to r rs)) (sample_line (suc (length rs)) x y z lost back) []) e

-- those and the stretches' lines, in order, as their records came
abbrev pub with_samples : List Recorded → List ℕ
with_samples [] = []
with_samples (r ∷ rs) = with_samples rs ++ (sample_of r rs ++ pick (is_end r.own) (line_of true (ending_with r rs)) [])

-- the rest's line, "only where records are left"
abbrev pub rest_of : Bool → List Recorded → List ℕ
rest_of moded rs = pick (eqb (length (last_end rs)) (length rs)) [] (line_of moded (unended rs))

-- ---- words: h is the history behind the record from
-- what is in force behind it
abbrev pub in_force_lines : List Recorded → List ℕ
in_force_lines h = range_line (account_of h) ++ mode_line (account_of h)

-- "each refused write has its line"
abbrev pub refused_write : Recorded → List Recorded → List ℕ
refused_write r rs =
    let answer = answer_to r rs in
    at_write [] (λ a byte. pick (accepted answer) [] (refused_line (suc (length rs)) byte a (number answer))) r.own

-- the range where it, or what is doubted of it, is not what it was; and the mode
abbrev pub changed_by : Recorded → List Recorded → List ℕ
changed_by r rs =
    pick (is_same_range (account_of (r ∷ rs)) (account_of rs)) [] (range_line (account_of (r ∷ rs)))
    ++ pick (is_same_mode (account_of (r ∷ rs)) (account_of rs)) [] (mode_line (account_of (r ∷ rs)))

-- what is said of the later records, in order
abbrev pub said_from : List Recorded → List Recorded → List ℕ
said_from h [] = in_force_lines h
said_from h (r ∷ later) = said_from h later ++ (refused_write r (later ++ h) ++ changed_by r (later ++ h))

-- the totals from h to k; what "lost" is about, where some were lost; and that no readout came, where none did
abbrev pub totals_from : List Recorded → List Recorded → List ℕ
totals_from h k =
    let n = differences (account_of h).counts (account_of k).counts in
    totals_line (account_of h) (account_of k) ++ (pick (eqb n.lost 0) [] lost_line ++ pick (eqb n.readouts 0) no_readout_line [])

-- from a history h at which a stretch ends to a later one k: the stretches between them are those of k that h has not, and what the
-- words print of the counts is the sum of what the stretches' lines print
pub record Summed (h k : List Recorded) : Type 0 where
  pub between : List Stretch
  pub are : stretches k ≡ between ++ stretches h
  pub leads : Between h between k
  pub counts : differences (account_of h).counts (account_of k).counts ≡ added_up between
