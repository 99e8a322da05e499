-- The account, from the records alone: what the histories say of a log. Numbers are of records, counts those of their events. In a history
-- the latest stands first.
use Rattle.std.specs.Prelude.{ℕ, suc, ◌+◌, ◌-◌, ◌≤◌, Bool, false, not, List, [], ◌∷◌, ◌++◌, ◌≡◌, eqb, length, Option, None, Some}
use Rattle.std.proofs.Math.Option.{some}
use Rattle.std.proofs.Math.ListN.{get_elem?}
use Rattle.laws.specs.Bits.{worth}
use Rattle.laws.specs.Choice.{pick, either}
use Rattle.codes.specs.Addresses.{range_at, control_at}
use Rattle.codes.specs.Mode.{mode_of}
use Rattle.codes.specs.Range.{range_of}
use Rattle.registers.specs.Answers.{accepted}
use Rattle.device.specs.Show.{held_in, range_in, mode_in}
use Rattle.events.specs.Event.{Event, happens}
use Rattle.events.specs.Run.{after}
use Rattle.events.specs.Views.{at_write, at_read}
use Rattle.paper.specs.Stored.{starts_anew, byte_by, is_accepted}
use Rattle.paper.specs.Readouts.{reads_out}
use Rattle.fifo.specs.Ledger.{Fate, held, lost}
use Rattle.history.specs.History.{accelerometer}
use Rattle.demand3.specs.Whole.{held_now, totals}
use Rattle.recorded.specs.Recorded.{Recorded, events_of, before_own, answer_to}
use Rattle.counts.specs.declared.Account.{Account}
use Rattle.counts.specs.declared.Counts.{Counts}
use Rattle.counts.specs.declared.Doubt.{Doubt}
use Rattle.counts.specs.declared.Doubts.{Doubts}
use Rattle.counts.specs.declared.Why.{Why}
use Rattle.counts.specs.declared.Why.TheVariants as why
use Rattle.counts.specs.Counts.{first_account}
use Rattle.account.specs.Account.{account_after}

-- how many events the device refused
unfoldable pub refusals : List Event → ℕ
refusals [] = 0
refusals (e ∷ es) = worth 1 (not (accepted (happens (after es) e).answer)) + refusals es

-- how many readouts came
unfoldable pub readouts_in : List Event → ℕ
readouts_in [] = 0
readouts_in (e ∷ es) = worth 1 (at_read false reads_out e) + readouts_in es

-- the counts since power-up: those of the samples are demand 3's, over clears
abbrev pub counts_of : List Event → Counts
counts_of es =
    let n = totals accelerometer es in
    record {
      accepted = n.accepted;
      taken = n.taken;
      lost = n.lost;
      cleared = n.cleared_away;
      refused = refusals es;
      readouts = readouts_in es;
    }

-- what the register at an address sets is in doubt while the last write to it since power-up or soft reset was a refused one: the byte of
-- that write, and the number of its record. es came before the event
abbrev pub doubt_behind : ℕ → Option Doubt → ℕ → List Event → Event → Option Doubt
doubt_behind about before number es e =
    pick (starts_anew e) None
    (at_write before (λ a byte. pick (eqb a about) (pick (is_accepted es a byte) None (Some (record { byte = byte; number = number }))) before) e)

unfoldable pub doubt_of : ℕ → List Recorded → Option Doubt
doubt_of about [] = None
doubt_of about (r ∷ rs) = doubt_behind about (doubt_of about rs) (suc (length rs)) (before_own r rs) r.own

-- of the range, by 0x0F, and of the mode, by 0x3E
abbrev pub doubts_of : List Recorded → Doubts
doubts_of rs = record { range = doubt_of range_at rs; mode = doubt_of control_at rs }

-- what is known after a history: the range is by the byte that 0x0F stores, the mode by that of 0x3E, and the frames held are the ledger's
abbrev pub account_of : List Recorded → Account
account_of rs =
    let es = events_of rs in
    record {
      number = length rs;
      counts = counts_of es;
      doubts = doubts_of rs;
      range = range_of (byte_by es range_at);
      mode = mode_of (byte_by es control_at);
      held = held_now accelerometer es;
    }

-- the account that is stepped with the device, one record at a time: by its own event
unfoldable pub stepped : List Recorded → Account
stepped [] = first_account
stepped (r ∷ rs) =
    let behind = after (events_of (r ∷ rs)) in
    account_after (stepped rs) r.own (answer_to r rs) (range_in behind) (mode_in behind) (held_in behind)

-- why a stretch ends with an event that es came before: "a readout: an accepted read at 0x3F; a write to 0x0F, accepted or refused; a soft
-- reset"
unfoldable pub why_at : List Event → Event → Option Why
why_at es e =
    pick (starts_anew e) (Some why.Reset)
    (pick (at_read false reads_out e) (Some why.Readout)
    (at_write None (λ a byte. pick (eqb a range_at) (Some (pick (is_accepted es a byte) why.Range why.Refused)) None) e))

-- and with a record
abbrev pub why_with : Recorded → List Recorded → Option Why
why_with r rs = why_at (before_own r rs) r.own

-- what has to do with what the register at an address sets: a write to it, accepted or refused; power-up and a soft reset
abbrev pub is_of : ℕ → Event → Bool
is_of about e = either (starts_anew e) (at_write false (λ a byte. eqb a about) e)

abbrev pub is_of_range : Event → Bool
is_of_range = is_of range_at

abbrev pub is_of_mode : Event → Bool
is_of_mode = is_of control_at

-- what ends a stretch: what has to do with the range, and a readout
abbrev pub is_end : Event → Bool
is_end e = either (at_read false reads_out e) (is_of_range e)

-- the history at the end of the last stretch that has ended: that of power-up where none has
unfoldable pub last_end : List Recorded → List Recorded
last_end [] = []
last_end (r ∷ rs) = pick (is_end r.own) (r ∷ rs) (last_end rs)

-- ---- stretches
-- a stretch, by the histories at its beginning and at its end, and why it ended
pub record Stretch : Type 0 where
  pub from : List Recorded
  pub to : List Recorded
  pub why : Option Why

-- the one that ends with a record, where one does
abbrev pub ending_with : Recorded → List Recorded → Stretch
ending_with r rs = record { from = last_end rs; to = r ∷ rs; why = why_with r rs }

-- those that have ended, the latest first
unfoldable pub stretches : List Recorded → List Stretch
stretches [] = []
stretches (r ∷ rs) = pick (is_end r.own) (ending_with r rs ∷ stretches rs) (stretches rs)

-- each begins where the one before it ended, and the first at power-up
abbrev pub Adjacent : List Stretch → Type 0
Adjacent [] = Unit {0}
Adjacent (s ∷ []) = s.from ≡ []
Adjacent (s ∷ r ∷ ss) = (s.from ≡ r.to) × Adjacent (r ∷ ss)

-- what a stretch conserves, between the counts at its two ends: held before + accepted = taken + lost + cleared + held after
pub record Conserved (from to : Account) : Type 0 where
  pub whole : from.held + (to.counts.accepted - from.counts.accepted)
      ≡ (to.counts.taken - from.counts.taken) + (to.counts.lost - from.counts.lost) + (to.counts.cleared - from.counts.cleared) + to.held

-- ---- counts at two histories
-- each is no less than it was
pub record Grown (from to : Counts) : Type 0 where
  pub accepted : from.accepted ≤ to.accepted
  pub taken : from.taken ≤ to.taken
  pub lost : from.lost ≤ to.lost
  pub cleared : from.cleared ≤ to.cleared
  pub refused : from.refused ≤ to.refused
  pub readouts : from.readouts ≤ to.readouts

-- what was counted from one to the other, where it is no less
abbrev pub apart : Counts → Counts → Counts
apart from to = record {
  accepted = to.accepted - from.accepted;
  taken = to.taken - from.taken;
  lost = to.lost - from.lost;
  cleared = to.cleared - from.cleared;
  refused = to.refused - from.refused;
  readouts = to.readouts - from.readouts;
}

-- ---- stretches one after the other
-- a history is the earlier part of another
abbrev pub Part : List Recorded → List Recorded → Type 0
Part earlier rs = (later : List Recorded) × (rs ≡ later ++ earlier)

-- the stretch that has not ended, from the last end on
abbrev pub unended : List Recorded → Stretch
unended rs = record { from = last_end rs; to = rs; why = None }

-- stretches, the latest first, that lead from the history h to the history k: each begins where the one before it ended
abbrev pub Between : List Recorded → List Stretch → List Recorded → Type 0
Between h [] k = k ≡ h
Between h (s ∷ ss) k = (s.to ≡ k) × Part s.from s.to × Between h ss s.from

-- the latest ends at the history k, and where there is none k is that of power-up
abbrev pub EndAt : List Stretch → List Recorded → Type 0
EndAt [] k = k ≡ []
EndAt (s ∷ ss) k = s.to ≡ k

abbrev pub Each : (Stretch → Type 0) → List Stretch → Type 0
Each P [] = Unit {0}
Each P (s ∷ ss) = P s × Each P ss

-- a number of each, added up
abbrev pub over : (Stretch → ℕ) → List Stretch → ℕ
over f [] = 0
over f (s ∷ ss) = f s + over f ss

-- what was counted in one, and in all together
abbrev pub inside : Stretch → Counts
inside s = apart (counts_of (events_of s.from)) (counts_of (events_of s.to))

abbrev pub together : List Stretch → Counts
together ss = record {
  accepted = over (λ s. (inside s).accepted) ss;
  taken = over (λ s. (inside s).taken) ss;
  lost = over (λ s. (inside s).lost) ss;
  cleared = over (λ s. (inside s).cleared) ss;
  refused = over (λ s. (inside s).refused) ss;
  readouts = over (λ s. (inside s).readouts) ss;
}

-- ---- which sample an arrival loses
-- of a newcomer's frame, and what became of each sample accepted since the last clear before it came and behind it, the latest first: with
-- the newcomer held in front of the others, the sample at `back` was held, and behind the arrival it is lost
pub record LostAt (newcomer : List ℕ) (before behind : List (Fate (List ℕ))) (back : ℕ) : Type 0 where
  pub frame : List ℕ
  pub was : get_elem? (held newcomer ∷ before) back ≡ some (held frame)
  pub is : get_elem? behind back ≡ some (lost frame)
