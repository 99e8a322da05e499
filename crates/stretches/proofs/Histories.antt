-- The account is what the histories say: the frames held, the range and the mode, why a stretch ends, and each count, one record at a time; and
-- what it conserves between two histories.
-- Assumes nothing.
use Prim.Native.Nat.{ℕ, suc, ◌+◌, ◌-◌, ◌^◌, ◌≤◌, ◌<◌, min}
use mathlib.Core.Bool.{Bool, true, false, not}
use mathlib.Core.List.{List, [], ◌∷◌, ◌++◌}
use mathlib.Core.Path.{◌≡◌, refl, ap, sym, ◌∙◌, subst}
use native.Mathlib.Nat.{zero-add}
use native.Mathlib.Omega.{arith}
use lib.Dec.{eqb}
use lib.ListN.{length, get_or}
use borrow.Author.Tests.{eqb-true, eqb-false}
use Rattle.laws.specs.Bits.{worth}
use Rattle.laws.specs.Choice.{pick, both}
use Rattle.codes.specs.Addresses.{range_at, frames_at, control_at}
use Rattle.codes.specs.Mode.{mode_of}
use Rattle.codes.specs.Range.{range_of}
use Rattle.fifo.specs.Flat.{Flat, packed}
use Rattle.fifo.specs.Ledger.{held_of}
use Rattle.fifo.specs.Store.{count_in}
use Rattle.fifo.specs.declared.Setting.{Setting}
use Rattle.registers.specs.Answers.{Answer, accepted}
use Rattle.registers.specs.Deeds.{judgement}
use Rattle.paper.specs.Computed.{the_paper}
use Rattle.paper.specs.Stored.{byte_by, is_accepted}
use Rattle.paper.specs.Samples.{all_inside, values_at}
use Rattle.paper.specs.Readouts.{reads_out, clears_fifo}
use Rattle.paper.proofs.Stored.{stored_is, accepted-is}
use Rattle.paper.proofs.Samples.{sample-is}
use Rattle.paper.proofs.Readouts.{readout-is}
use Rattle.registers.specs.Refused.{read_answer, write_answer}
use Rattle.device.specs.Clock.{clock_of}
use Rattle.device.specs.Read.{read_of}
use Rattle.device.specs.Sample.{sample_of}
use Rattle.device.specs.Show.{held_in, range_in, mode_in}
use Rattle.device.specs.Write.{write_of}
use Rattle.events.specs.Event.{Event, power_up, write, read, sample, cycle, clock, happens}
use Rattle.events.specs.Run.{after}
use Rattle.events.specs.Views.{at_read}
use Rattle.events.proofs.Runs.{bank-is}
use Rattle.demand3.specs.Chip.{Said, cleared, sampled, read_out, nothing, since}
use Rattle.demand3.specs.Counts.{begun, held_after}
use Rattle.demand3.specs.Demand.{fates}
use Rattle.history.specs.History.{accelerometer, frame_at, setting, says_here}
use Rattle.demand3.specs.Whole.{Totals, totalled, held_now, totals}
use Rattle.history.proofs.Conserve.{demand3, over-clears-here, device-holds, lawful}
use Rattle.demand3.proofs.Whole.{few, next-totals, next-held}
use Rattle.recorded.specs.Recorded.{Recorded, events_of, before_own, answer_to}
use Rattle.recorded.proofs.Recorded.{events-append, till-own}
use Rattle.counts.specs.declared.Counts.{Counts}
use Rattle.counts.specs.declared.Doubt.{Doubt}
use Rattle.std.proofs.Common.{Option, None, Some}
use Rattle.counts.specs.declared.Why.TheVariants as why
use Rattle.counts.specs.Counts as counts
use Rattle.counts.specs.Counts.{sum, less, differences, left, arrived, first_account}
use Rattle.account.specs.Account.{refused_by, readouts_by, counts_after, why_of, why_of_write, why_of_read, doubt_after, doubts_behind, account_after}
use Rattle.stretches.specs.Histories.{refusals, readouts_in, counts_of, doubt_behind, doubt_of, doubts_of, account_of, stepped, why_at, Conserved, Grown, apart}

-- ---- what the device says
-- the frames that it holds are those of the ledger
pub held-is : (es : List Event) → held_in (after es) ≡ held_now accelerometer es
unfolding count_in packed
held-is es =
    let many : (after es).fifo.count ≡ length (held_of (fates accelerometer es)) = ap (λ (f : Flat). f.count) (device-holds es) in
    omega (arith, many, (demand3 es).few, (over-clears-here es).held)

-- the byte at an address is the one that it stores
stored-in : (es : List Event) (a : ℕ) → a < 64 → get_or (after es).regs a 0 ≡ byte_by es a
stored-in es a h = ap (λ (regs : List ℕ). get_or regs a 0) (bank-is es) ∙ stored_is es a h

-- its range is by the byte of 0x0F, and its mode by that of 0x3E
pub range-is : (es : List Event) → range_in (after es) ≡ range_of (byte_by es range_at)
range-is es = ap range_of (stored-in es range_at (omega arith))

pub mode-is : (es : List Event) → mode_in (after es) ≡ mode_of (byte_by es control_at)
mode-is es = ap mode_of (stored-in es control_at (omega arith))

-- it accepts a write where the paper does
write-is : (es : List Event) (a byte : ℕ) → accepted (write_answer (after es).regs a byte) ≡ is_accepted es a byte
write-is es a byte = ap (λ (regs : List ℕ). accepted (write_answer regs a byte)) (bank-is es) ∙ accepted-is es a byte

-- ---- why a stretch ends
range-why : (es : List Event) (a byte : ℕ) → why_of_write a byte (write_answer (after es).regs a byte) ≡ why_at es (write a byte)
unfolding why_of_write why_at
range-why es a byte = rw (write-is es a byte)

read-why : (es : List Event) (a n : ℕ) → why_of_read a (read_answer a n) ≡ why_at es (read a n)
unfolding why_of_read why_at
read-why es a n = rw (← readout-is a n) (go (eqb a frames_at) (accepted (read_answer a n)))
  where
    go : (t s : Bool) → pick t (pick s (Some why.Readout) None) None ≡ pick (both s t) (Some why.Readout) None
    go true true = refl
    go true false = refl
    go false true = refl
    go false false = refl

pub why-is : (es : List Event) (e : Event) → why_of e (happens (after es) e).answer ≡ why_at es e
unfolding why_at write_of judgement read_of
why-is es power_up = refl
why-is es (write a byte) = range-why es a byte
why-is es (read a n) = read-why es a n
why-is es (sample x y z temperature) = refl
why-is es cycle = refl
why-is es (clock us) = refl

-- ---- what a clock leaves as it is: a record's own event finds what was known behind the record before
module _ (r : Recorded) (rs : List Recorded) where
  pub counts-wait : counts_of (before_own r rs) ≡ counts_of (events_of rs)
  unfolding totals refusals readouts_in says_here clock_of
  counts-wait = till-own counts_of (λ us es. simp zero-add) r rs

  pub held-wait : held_now accelerometer (before_own r rs) ≡ held_now accelerometer (events_of rs)
  unfolding since says_here byte_by
  held-wait = till-own (held_now accelerometer) (λ us es. refl) r rs

  pub byte-wait : (a : ℕ) → byte_by (before_own r rs) a ≡ byte_by (events_of rs) a
  unfolding byte_by
  byte-wait a = till-own (λ es. byte_by es a) (λ us es. refl) r rs

-- ---- how large the counts can be
one_more : (s : Setting) (many : ℕ) (w : Said) (n : Totals) → (totalled s many w n).accepted ≤ suc n.accepted
one_more s many cleared n = omega arith
one_more s many (sampled f) n = omega arith
one_more s many (read_out b) n = omega arith
one_more s many nothing n = omega arith

pub accepted-more : (es : List Event) (e : Event) → (totals accelerometer (e ∷ es)).accepted ≤ suc (totals accelerometer es).accepted
unfolding totals
accepted-more es e = one_more (setting es) (held_now accelerometer es) (says_here es e) (totals accelerometer es)

worth-few : (b : Bool) → worth 1 b ≤ 1
worth-few true = omega arith
worth-few false = omega arith

refusals-more : (es : List Event) (e : Event) → refusals (e ∷ es) ≤ suc (refusals es)
unfolding refusals
refusals-more es e = omega (arith, worth-few (not (accepted (happens (after es) e).answer)))

readouts-more : (es : List Event) (e : Event) → readouts_in (e ∷ es) ≤ suc (readouts_in es)
unfolding readouts_in
readouts-more es e = omega (arith, worth-few (at_read false reads_out e))

-- none is larger than n
abbrev pub Bounded : ℕ → Counts → Type 0
Bounded n c = Grown c (record { accepted = n; taken = n; lost = n; cleared = n; refused = n; readouts = n })

bounded-by : (n : ℕ) (es : List Event) → (counts_of es).accepted ≤ n → refusals es ≤ n → readouts_in es ≤ n → Bounded n (counts_of es)
bounded-by n es few refused readouts =
    let whole = (over-clears-here es).whole in
    record {
      accepted = few;
      taken = omega (arith, whole, few);
      lost = omega (arith, whole, few);
      cleared = omega (arith, whole, few);
      refused = refused;
      readouts = readouts;
    }

-- one event more counts one more
bounded-next : {n : ℕ} (es : List Event) (e : Event) → Bounded n (counts_of es) → Bounded (suc n) (counts_of (e ∷ es))
bounded-next {n} es e few =
    bounded-by (suc n) (e ∷ es)
    (omega (arith, accepted-more es e, few.accepted))
    (omega (arith, refusals-more es e, few.refused))
    (omega (arith, readouts-more es e, few.readouts))

-- and so none is larger than the number of records
no-counts : Bounded 0 (counts_of [])
unfolding totals refusals readouts_in
no-counts = record { accepted = omega arith; taken = omega arith; lost = omega arith; cleared = omega arith; refused = omega arith; readouts = omega arith }

pub bounded : (rs : List Recorded) → Bounded (length rs) (counts_of (events_of rs))
bounded [] = no-counts
bounded (r ∷ rs) = bounded-next (before_own r rs) r.own (subst (Bounded (length rs)) (sym (counts-wait r rs)) (bounded rs))

-- no more frames are held than the depth
held-few : (es : List Event) → held_now accelerometer es ≤ 32
held-few es = omega (arith, (demand3 es).few, (over-clears-here es).held)

-- ---- what one event more adds to the counts
-- below 2 ^ 64 nothing wraps
pub sum_is : (a b : ℕ) → a + b < 2 ^ 64 → sum a b ≡ a + b
sum_is a b h = omega arith

pub less-is : (a b : ℕ) → b ≤ a → a < 2 ^ 64 → less a b ≡ a - b
less-is a b h l = omega arith

refused-is : (b : Bool) → pick b 0 1 ≡ worth 1 (not b)
refused-is true = refl
refused-is false = refl

module _ (es : List Event) (e : Event) where
  abbrev held_before : ℕ
  held_before = held_now accelerometer es

  abbrev held_behind : ℕ
  held_behind = held_now accelerometer (e ∷ es)

  -- the frames held behind it, by what it says to the FIFO
  held-cleared : says_here es e ≡ cleared → held_behind ≡ 0
  unfolding held_after
  held-cleared q = next-held accelerometer es e cleared q (setting (e ∷ es)) refl

  held-sampled : (f : List ℕ) → says_here es e ≡ sampled f → held_behind ≡ min (setting es).depth (suc held_before)
  unfolding held_after
  held-sampled f q = next-held accelerometer es e (sampled f) q (setting es) (lawful.keeps es e (rw q))

  held-read : (n : ℕ) → says_here es e ≡ read_out n → held_behind ≡ held_before - begun (setting es).size n
  unfolding held_after
  held-read n q = next-held accelerometer es e (read_out n) q (setting es) (lawful.keeps es e (rw q))

  held_same : says_here es e ≡ nothing → held_behind ≡ held_before
  held_same q = next-held accelerometer es e nothing q (setting es) (lawful.keeps es e (rw q))

  -- no sample comes, and so many frames are taken and cleared away
  abbrev Gone : ℕ → ℕ → Type 0
  Gone out away = ((counts_of (e ∷ es)).accepted ≡ (counts_of es).accepted) × ((counts_of (e ∷ es)).taken ≡ (counts_of es).taken + out)
      × ((counts_of (e ∷ es)).lost ≡ (counts_of es).lost) × ((counts_of (e ∷ es)).cleared ≡ (counts_of es).cleared + away)

  gone-cleared : says_here es e ≡ cleared → Gone 0 (less held_before held_behind)
  gone-cleared q =
      let t = next-totals accelerometer es e cleared q in
      let all : less held_before held_behind ≡ held_before = omega (arith, held-cleared q, held-few es) in
      (ap (λ n. n.accepted) t, omega (arith, ap (λ n. n.taken) t), ap (λ n. n.lost) t, omega (arith, ap (λ n. n.cleared_away) t, all))

  gone-read : (n : ℕ) → says_here es e ≡ read_out n → Gone (less held_before held_behind) 0
  gone-read n q =
      let t = next-totals accelerometer es e (read_out n) q in
      let some : less held_before held_behind ≡ min held_before (begun (setting es).size n) = omega (arith, held-read n q, held-few es) in
      (ap (λ n. n.accepted) t, omega (arith, ap (λ n. n.taken) t, some), ap (λ n. n.lost) t, omega (arith, ap (λ n. n.cleared_away) t))

  gone-none : says_here es e ≡ nothing → Gone 0 0
  gone-none q =
      let t = next-totals accelerometer es e nothing q in
      (ap (λ n. n.accepted) t, omega (arith, ap (λ n. n.taken) t), ap (λ n. n.lost) t, omega (arith, ap (λ n. n.cleared_away) t))

  none-gone : says_here es e ≡ nothing → less held_before held_behind ≡ 0
  none-gone q = omega (arith, held_same q, held-few es)

  no-readout : at_read false reads_out e ≡ false → readouts_in (e ∷ es) ≡ readouts_in es
  unfolding readouts_in
  no-readout r = rw r (omega arith)

  module _ {n : ℕ} (below : Bounded n (counts_of es)) (room : suc n < 2 ^ 64) where
    abbrev answer : Answer
    answer = (happens (after es) e).answer

    refused-next : sum (refusals es) (refused_by answer) ≡ refusals (e ∷ es)
    unfolding refusals
    refused-next = omega (arith, refused-is (accepted answer), below.refused, worth-few (not (accepted answer)))

    -- a count grows by so many, and stays below 2 ^ 64
    more : (a b k : ℕ) → b ≡ a + k → b ≤ suc n → sum a k ≡ b
    more a b k p small = omega arith

    -- with k readouts more, and with none
    read_is : (out away k : ℕ) → Gone out away → readouts_in (e ∷ es) ≡ readouts_in es + k
        → counts.with_readouts (left (counts_of es) out away (refused_by answer)) k ≡ counts_of (e ∷ es)
    read_is out away k (a, t, l, c) r =
        let now = bounded-next es e below in
        λ i. record {
          accepted = sym a i;
          taken = more (counts_of es).taken (counts_of (e ∷ es)).taken out t now.taken i;
          lost = sym l i;
          cleared = more (counts_of es).cleared (counts_of (e ∷ es)).cleared away c now.cleared i;
          refused = refused-next i;
          readouts = more (readouts_in es) (readouts_in (e ∷ es)) k r now.readouts i;
        }

    left_is : (out away : ℕ) → Gone out away → at_read false reads_out e ≡ false → left (counts_of es) out away (refused_by answer) ≡ counts_of (e ∷ es)
    left_is out away gone r =
        let none = no-readout r in
        let same : sum (readouts_in es) 0 ≡ readouts_in es = sum_is (readouts_in es) 0 (omega (arith, below.readouts)) ∙ omega arith in
        let now = left (counts_of es) out away (refused_by answer) in
        (λ i. record { accepted = now.accepted; taken = now.taken; lost = now.lost; cleared = now.cleared; refused = now.refused; readouts = sym same i })
        ∙ read_is out away 0 gone (omega (arith, none))

    -- a sample that comes when the FIFO is full makes no frame more
    one-lost : (f : List ℕ) → says_here es e ≡ sampled f → less (sum held_before 1) held_behind ≡ worth 1 (eqb held_before (setting es).depth)
    one-lost f q = go (eqb held_before (setting es).depth) refl
      where
        fits : held_before ≤ (setting es).depth
        fits = few (setting es) (lawful.some-deep es) (lawful.one es) (since accelerometer es)

        go : (t : Bool) → eqb held_before (setting es).depth ≡ t → less (sum held_before 1) held_behind ≡ worth 1 t
        go true h = omega (arith, eqb-true held_before (setting es).depth h, held-sampled f q, held-few es)
        go false h = omega (arith, eqb-false held_before (setting es).depth h, held-sampled f q, fits, held-few es)

    none-refused : accepted answer ≡ true → refusals es ≡ refusals (e ∷ es)
    unfolding refusals
    none-refused ok = rw ok (omega arith)

    sampled-counts : (f : List ℕ) → says_here es e ≡ sampled f → accepted answer ≡ true → at_read false reads_out e ≡ false → arrived (counts_of es) (less (sum held_before 1) held_behind) ≡ counts_of (e ∷ es)
    sampled-counts f q ok r =
        let t = next-totals accelerometer es e (sampled f) q in
        let now = bounded-next es e below in
        let over = less (sum held_before 1) held_behind in
        let one : over ≡ worth 1 (eqb held_before (setting es).depth) = one-lost f q in
        λ i. record {
          accepted = more (counts_of es).accepted (counts_of (e ∷ es)).accepted 1 (omega (arith, ap (λ n. n.accepted) t)) now.accepted i;
          taken = sym (ap (λ n. n.taken) t) i;
          lost = more (counts_of es).lost (counts_of (e ∷ es)).lost over (ap (λ n. n.lost) t ∙ rw one) now.lost i;
          cleared = sym (ap (λ n. n.cleared_away) t) i;
          refused = none-refused ok i;
          readouts = sym (no-readout r) i;
        }

abbrev Counted : List Event → Event → Type 0
Counted es e = counts_after (counts_of es) e (happens (after es) e).answer (held_now accelerometer es) (held_now accelerometer (e ∷ es)) ≡ counts_of (e ∷ es)

-- a readout counts as one, and no other read does
readouts-next : (es : List Event) (a n : ℕ) → readouts_in (read a n ∷ es) ≡ readouts_in es + readouts_by a (read_answer a n)
unfolding readouts_in
readouts-next es a n = omega (arith, ap (worth 1) (sym (readout-is a n)), go (eqb a frames_at) (accepted (read_answer a n)))
  where
    go : (s t : Bool) → worth 1 (both t s) ≡ pick (both s t) 1 0
    go true true = refl
    go true false = refl
    go false true = refl
    go false false = refl

counts-next : {n : ℕ} (es : List Event) (e : Event) → Bounded n (counts_of es) → suc n < 2 ^ 64 → Counted es e
unfolding counts_after says_here sample_of read_of
counts-next es power_up few room = left_is es power_up few room 0 _ (gone-cleared es power_up refl) refl
counts-next es (write a byte) few room = go (clears_fifo es (write a byte)) refl
  where
    go : (t : Bool) → clears_fifo es (write a byte) ≡ t → Counted es (write a byte)
    go true q = left_is es (write a byte) few room 0 _ (gone-cleared es (write a byte) (rw q)) refl
    go false q = rw (none-gone es (write a byte) (rw q)) (left_is es (write a byte) few room 0 0 (gone-none es (write a byte) (rw q)) refl)
counts-next es (read a n) few room = go (reads_out a n) refl
  where
    go : (t : Bool) → reads_out a n ≡ t → Counted es (read a n)
    go true q = read_is es (read a n) few room _ 0 _ (gone-read es (read a n) n (rw q)) (readouts-next es a n)
    go false q = rw (none-gone es (read a n) (rw q)) (read_is es (read a n) few room 0 0 _ (gone-none es (read a n) (rw q)) (readouts-next es a n))
counts-next es (sample x y z temperature) few room = go (all_inside x y z) refl
  where
    go : (t : Bool) → all_inside x y z ≡ t → Counted es (sample x y z temperature)
    go true q = let p = sample-is x y z ∙ q in rw p (sampled-counts es (sample x y z temperature) few room (frame_at es (values_at es (sample x y z temperature))) (rw q) p refl)
    go false q = let p = sample-is x y z ∙ q in rw p (rw p at (left_is es (sample x y z temperature) few room 0 0 (gone-none es (sample x y z temperature) (rw q)) refl))
counts-next es cycle few room = left_is es cycle few room 0 0 (gone-none es cycle refl) refl
counts-next es (clock us) few room = left_is es (clock us) few room 0 0 (gone-none es (clock us) refl) refl

-- ---- doubts
number-next : (n : ℕ) → suc n < 2 ^ 64 → sum n 1 ≡ suc n
number-next n room = sum_is n 1 (omega arith) ∙ omega arith

-- behind a write, of what any register sets
doubt-written : (about : ℕ) (before : Option Doubt) (number : ℕ) (es : List Event) (a byte : ℕ)
    → doubt_after before about a byte (write_answer (after es).regs a byte) number ≡ doubt_behind about before number es (write a byte)
unfolding doubt_after
doubt-written about before number es a byte = rw (write-is es a byte)

-- and behind any event
abbrev Doubted : List Recorded → ℕ → List Event → Event → Type 0
Doubted rs number es e = doubts_behind (doubts_of rs) e (happens (after es) e).answer number
    ≡ record { range = doubt_behind range_at (doubts_of rs).range number es e; mode = doubt_behind control_at (doubts_of rs).mode number es e }

doubts-next : (rs : List Recorded) (number : ℕ) (es : List Event) (e : Event) → Doubted rs number es e
unfolding write_of judgement
doubts-next rs number es power_up = refl
doubts-next rs number es (write a byte) = λ i. record {
  range = doubt-written range_at (doubts_of rs).range number es a byte i;
  mode = doubt-written control_at (doubts_of rs).mode number es a byte i;
}
doubts-next rs number es (read a n) = refl
doubts-next rs number es (sample x y z temperature) = refl
doubts-next rs number es cycle = refl
doubts-next rs number es (clock us) = refl

-- ---- the account
pub account-first : first_account ≡ account_of []
unfolding totals refusals readouts_in doubt_of the_paper range_of mode_of held_after since
account-first = refl

-- one record more: the account is stepped by its own event, the answer, and the range, the mode and the frames held behind it
pub account-next : (rs : List Recorded) (r : Recorded) → suc (length rs) < 2 ^ 64
    → let behind = after (events_of (r ∷ rs)) in
    account_after (account_of rs) r.own (answer_to r rs) (range_in behind) (mode_in behind) (held_in behind) ≡ account_of (r ∷ rs)
unfolding account_after doubt_of
account-next rs r room =
    let es = before_own r rs in
    let e = r.own in
    let answer = answer_to r rs in
    let few : Bounded (length rs) (counts_of es) = subst (Bounded (length rs)) (sym (counts-wait r rs)) (bounded rs) in
    let number = number-next (length rs) room in
    let held = held-is (e ∷ es) in
    let counts : counts_after (counts_of (events_of rs)) e answer (held_now accelerometer (events_of rs)) (held_in (after (e ∷ es))) ≡ counts_of (e ∷ es)
    = (λ i. counts_after (sym (counts-wait r rs) i) e answer (sym (held-wait r rs) i) (held i)) ∙ counts-next es e few room in
    λ i. record {
      number = number i;
      counts = counts i;
      doubts = (ap (doubts_behind (doubts_of rs) e answer) number ∙ doubts-next rs (suc (length rs)) es e) i;
      range = range-is (e ∷ es) i;
      mode = mode-is (e ∷ es) i;
      held = held i;
    }

pub account-is : (rs : List Recorded) → length rs < 2 ^ 64 → stepped rs ≡ account_of rs
unfolding stepped
account-is [] room = account-first
account-is (r ∷ rs) room = rw (account-is rs (omega arith)) (account-next rs r room)

-- ---- between two histories
totals-grow : (es : List Event) (e : Event) → Grown (counts_of es) (counts_of (e ∷ es))
unfolding totals refusals readouts_in
totals-grow es e = go (says_here es e) (worth 1 (not (accepted (happens (after es) e).answer))) (worth 1 (at_read false reads_out e))
  where
    go : (w : Said) (more out : ℕ)
        → let n = totalled (setting es) (held_now accelerometer es) w (totals accelerometer es) in
        Grown (counts_of es) (record { accepted = n.accepted; taken = n.taken; lost = n.lost; cleared = n.cleared_away; refused = more + refusals es; readouts = out + readouts_in es })
    go cleared more out = record { accepted = omega arith; taken = omega arith; lost = omega arith; cleared = omega arith; refused = omega arith; readouts = omega arith }
    go (sampled f) more out = record { accepted = omega arith; taken = omega arith; lost = omega arith; cleared = omega arith; refused = omega arith; readouts = omega arith }
    go (read_out b) more out = record { accepted = omega arith; taken = omega arith; lost = omega arith; cleared = omega arith; refused = omega arith; readouts = omega arith }
    go nothing more out = record { accepted = omega arith; taken = omega arith; lost = omega arith; cleared = omega arith; refused = omega arith; readouts = omega arith }

-- no count falls
events-grow : (later earlier : List Event) → Grown (counts_of earlier) (counts_of (later ++ earlier))
events-grow [] earlier = record { accepted = omega arith; taken = omega arith; lost = omega arith; cleared = omega arith; refused = omega arith; readouts = omega arith }
events-grow (e ∷ later) earlier =
    let g = events-grow later earlier in
    let h = totals-grow (later ++ earlier) e in
    record {
      accepted = omega (arith, g.accepted, h.accepted);
      taken = omega (arith, g.taken, h.taken);
      lost = omega (arith, g.lost, h.lost);
      cleared = omega (arith, g.cleared, h.cleared);
      refused = omega (arith, g.refused, h.refused);
      readouts = omega (arith, g.readouts, h.readouts);
    }

pub grows : (later earlier : List Recorded) → Grown (counts_of (events_of earlier)) (counts_of (events_of (later ++ earlier)))
grows later earlier = rw (events-append later earlier) (events-grow (events_of later) (events_of earlier))

pub conserved : (later earlier : List Recorded) → Conserved (account_of earlier) (account_of (later ++ earlier))
conserved later earlier =
    let g = grows later earlier in
    let before = (over-clears-here (events_of earlier)).whole in
    let behind = (over-clears-here (events_of (later ++ earlier))).whole in
    record { whole = omega (arith, before, behind, g.accepted, g.taken, g.lost, g.cleared) }

-- below 2 ^ 64 records the differences of the account are plain ones
pub differences-are : (later earlier : List Recorded) → length (later ++ earlier) < 2 ^ 64
    → let from = counts_of (events_of earlier) in
    let to = counts_of (events_of (later ++ earlier)) in
    differences from to ≡ apart from to
differences-are later earlier room =
    let from = counts_of (events_of earlier) in
    let to = counts_of (events_of (later ++ earlier)) in
    let g = grows later earlier in
    let few = bounded (later ++ earlier) in
    λ i. record {
      accepted = less-is to.accepted from.accepted g.accepted (omega (arith, few.accepted)) i;
      taken = less-is to.taken from.taken g.taken (omega (arith, few.taken)) i;
      lost = less-is to.lost from.lost g.lost (omega (arith, few.lost)) i;
      cleared = less-is to.cleared from.cleared g.cleared (omega (arith, few.cleared)) i;
      refused = less-is to.refused from.refused g.refused (omega (arith, few.refused)) i;
      readouts = less-is to.readouts from.readouts g.readouts (omega (arith, few.readouts)) i;
    }
