-- The sheet of a log, and of many.
-- Assumes nothing.
use Prim.Native.Nat.{ℕ, suc, ◌+◌, ◌-◌, ◌^◌, ◌≤◌, ◌<◌}
use mathlib.Core.Bool.{Bool, true, false}
use mathlib.Core.List.{List, [], ◌∷◌, ◌++◌, map}
use mathlib.Core.Path.{◌≡◌, refl, sym, ap, ◌∙◌, subst}
use native.Mathlib.Omega.{arith}
use borrow.Author.Tests.{lt-ltb}
use lib.Dec.{ltb}
use lib.ListN.{length, drop}
use Rattle.std.specs.Prelude.{Result, Ok, Err}
use Rattle.laws.specs.Choice.{both}
use Rattle.laws.proofs.Finite.{left, right}
use Rattle.std.specs.Prelude.{Result, Ok, Err}
use Rattle.benchlog.specs.Reader.{read_version}
use Rattle.benchlog.specs.Walk.{Walked, walk, behind_version, walk_log}
use Rattle.benchlog.specs.Whole.{look_record, read_log}
use Rattle.benchlog.specs.declared.Refusal.{Refusal}
use Rattle.benchlog.specs.declared.Entry.{Entry}
use Rattle.benchlog.proofs.Logs.{few-records}
use Rattle.events.specs.Event.{Event, clock}
use Rattle.events.specs.Run.{after}
use Rattle.follow.specs.Whole.{said_of, said_from, said_of_log}
use Rattle.recorded.specs.Recorded.{Recorded, record_of, events_of, records_behind, history_of}
use Rattle.recorded.proofs.Recorded.{at_own_lem}
use Rattle.history.specs.History.{accelerometer, setting, says_here}
use Rattle.history.proofs.Conserve.{over-clears-here}
use Rattle.demand3.specs.Chip.{Said, cleared, sampled, read_out, nothing}
use Rattle.demand3.specs.Whole.{Totals, totalled, totals, held_now}
use Rattle.fifo.specs.declared.Setting.{Setting}
use Rattle.stretches.specs.Histories.{account_of}
use Rattle.stretches.proofs.Histories.{account-first, account-next, bounded}
use Rattle.sheets.specs.Sheets.{count_fits, sheet_fits}
use Rattle.sheets.specs.declared.Sheet.{Sheet}
use Rattle.sheets.specs.declared.TooLarge.{TooLarge}
use Rattle.counts.specs.declared.Account.{Account}
use Rattle.tally.specs.Tally.{no_sums, sums_clocked}
use Rattle.tally.specs.declared.Sums.{Sums}
use Rattle.sheeting.specs.Sheeting as code
use Rattle.sheeting.specs.Sheeting.{start, at, sums_waited, next_on, sheeter, log_sheet}
use Rattle.sheeting.specs.declared.Sheeting.{Sheeting}
use Rattle.months.specs.Histories.{sheet_of, Passes}
use Rattle.months.specs.Logs.{events_in, SheetOfLog, SheetsOver}
use Rattle.months.proofs.Log.{stepped_sums, sums_fit, fits_along, along-fits, exactly}
use Rattle.months.proofs.Over as over
use Rattle.months.proofs.Over.{says-with}
use Rattle.months.proofs.Few as few
use Rattle.months.proofs.Totals.{clash, all_in, all_fit}

-- ---- the state behind a history, where the version byte is past
abbrev state_of : List Recorded → Sheeting
state_of rs = at (after (events_of rs)) (account_of rs) (stepped_sums (events_of rs))

waited-sums : (clocks : List ℕ) (es : List Event) → sums_waited (stepped_sums es) clocks ≡ stepped_sums (map clock clocks ++ es)
unfolding stepped_sums
waited-sums [] es = refl
waited-sums (us ∷ clocks) es = ap (λ (s : Sums). sums_clocked s us) (waited-sums clocks es)

state-next : (rs : List Recorded) (r : Recorded) → suc (length rs) < 2 ^ 64 → next_on (state_of rs) r ≡ state_of (r ∷ rs)
unfolding after stepped_sums
state-next rs r room = rw (at_own_lem r rs, account-next rs r room, waited-sums r.clocks (events_of rs))

led : (es : List Entry) (stop : ℕ) (rs : List Recorded) → length rs + length es < 2 ^ 64
    → said_of sheeter (λ text later. later) (λ s text refusal. s) (state_of rs) es stop ≡ state_of (records_behind rs es)
unfolding said_of
led [] stop rs room = refl
led (e ∷ es) stop rs room =
    let few : suc (length rs) < 2 ^ 64 = omega arith in
    ap (λ (s : Sheeting). said_of sheeter (λ text later. later) (λ s text refusal. s) s es stop) (state-next rs (record_of e) few) ∙ led es stop (record_of e ∷ rs) (omega arith)

-- nothing has happened yet behind the version byte, and before it
begins-with : sheeter.begin start ≡ state_of []
unfolding start after stepped_sums
begins-with = rw account-first

zeros : code.sheet_of start ≡ code.sheet_of (state_of [])
unfolding start code.sheet_of stepped_sums
zeros = ap (λ (a : Account). code.sheet_of (at (after []) a no_sums)) account-first

log_is : (log : List ℕ) → length log < 2 ^ 64 → log_sheet log ≡ code.sheet_of (state_of (history_of log))
unfolding said_from walk_log history_of start said_of
log_is log room = go (read_version log) (few-records log)
  where
    walked : ℕ → Walked Entry
    walked next = walk look_record (drop next log)

    go : (b : Result ℕ Refusal) → length (behind_version b walked).items ≤ length log - 1 →
        let l = behind_version b walked in
        code.sheet_of (said_of_log sheeter (λ text later. later) (λ s text refusal. s) start l) ≡ code.sheet_of (state_of (records_behind [] l.items))
    go (Ok next) few =
        let w = walked next in
        ap code.sheet_of (ap (λ (s : Sheeting). said_of sheeter (λ text later. later) (λ s text refusal. s) s w.items w.stop) begins-with ∙ led w.items w.stop [] (omega arith))
    go (Err refusal) few = zeros

-- ---- what the code's sheet is, by whether all fitted
module _ (rs : List Recorded) where
  abbrev es : List Event
  es = events_of rs

  fitted : fits_along es ≡ true → code.sheet_of (state_of rs) ≡ Ok (sheet_of es)
  unfolding code.sheet_of
  fitted h = rw ((exactly es).right-ones h)

  unfitted : fits_along es ≡ false → code.sheet_of (state_of rs) ≡ Err (record {})
  unfolding code.sheet_of
  unfitted h = rw ((exactly es).wrong-ones h)

-- ---- 15
-- the sheet of a history fits exactly where its sums do, its counts being few
record CountsFit (es : List Event) : Type 0 where
  accepted : count_fits (totals accelerometer es).accepted ≡ true
  taken : count_fits (totals accelerometer es).taken ≡ true
  held : count_fits (held_now accelerometer es) ≡ true
  lost : count_fits (totals accelerometer es).lost ≡ true
  cleared : count_fits (totals accelerometer es).cleared_away ≡ true

counts-fit : (es : List Event) → (totals accelerometer es).accepted < 2 ^ 64 → CountsFit es
unfolding count_fits
counts-fit es few =
    let w = (over-clears-here es).whole in
    let f2 : (totals accelerometer es).taken < 2 ^ 64 = omega (arith, few, w) in
    let f3 : held_now accelerometer es < 2 ^ 64 = omega (arith, few, w) in
    let f4 : (totals accelerometer es).lost < 2 ^ 64 = omega (arith, few, w) in
    let f5 : (totals accelerometer es).cleared_away < 2 ^ 64 = omega (arith, few, w) in
    record { accepted = lt-ltb _ _ few; taken = lt-ltb _ _ f2; held = lt-ltb _ _ f3; lost = lt-ltb _ _ f4; cleared = lt-ltb _ _ f5 }

sheet-fits-as : (es : List Event) → (totals accelerometer es).accepted < 2 ^ 64 → sheet_fits (sheet_of es) ≡ sums_fit es
sheet-fits-as es few = let c = counts-fit es few in simp (c.accepted, c.taken, c.held, c.lost, c.cleared)

-- no count falls
accepted-grows : (es : List Event) (e : Event) → (totals accelerometer es).accepted ≤ (totals accelerometer (e ∷ es)).accepted
unfolding totals
accepted-grows es e = one_more (setting es) (held_now accelerometer es) (says_here es e) (totals accelerometer es)
  where
    one_more : (s : Setting) (many : ℕ) (w : Said) (n : Totals) → n.accepted ≤ (totalled s many w n).accepted
    one_more s many cleared n = omega arith
    one_more s many (sampled f) n = omega arith
    one_more s many (read_out b) n = omega arith
    one_more s many nothing n = omega arith

earlier-few : (later earlier : List Event) → (totals accelerometer earlier).accepted ≤ (totals accelerometer (later ++ earlier)).accepted
earlier-few [] earlier = omega arith
earlier-few (e ∷ later) earlier = let h = accepted-grows (later ++ earlier) e in let r = earlier-few later earlier in omega (arith, h, r)

-- once a total did not fit, it did not
along-earlier : (later earlier : List Event) → fits_along (later ++ earlier) ≡ true → fits_along earlier ≡ true
unfolding fits_along
along-earlier [] earlier h = h
along-earlier (e ∷ later) earlier h = along-earlier later earlier (left (fits_along (later ++ earlier)) (sums_fit (e ∷ (later ++ earlier))) h)

unfit-next : (es : List Event) (e : Event) → (totals accelerometer (e ∷ es)).accepted < 2 ^ 64 → (fits_along es ≡ false → Passes es) → both (fits_along es) (sums_fit (e ∷ es)) ≡ false → Passes (e ∷ es)
unfit-next es e few before h = go (fits_along es) refl
  where
    go : (t : Bool) → fits_along es ≡ t → Passes (e ∷ es)
    go true l =
        let unfit : sheet_fits (sheet_of (e ∷ es)) ≡ false = sheet-fits-as (e ∷ es) few ∙ (ap (λ (b : Bool). both b (sums_fit (e ∷ es))) (sym l) ∙ h) in
        (e ∷ es, (([], refl), λ all. clash (all_fit (sheet_of (e ∷ es)) all) unfit))
    go false l =
        let p = before l in
        (p.0, ((e ∷ p.1.0.0, ap (λ (t : List Event). e ∷ t) p.1.0.1), p.1.1))

some-unfit : (es : List Event) → (totals accelerometer es).accepted < 2 ^ 64 → fits_along es ≡ false → Passes es
unfolding fits_along
some-unfit [] few h = clash refl h
some-unfit (e ∷ es) few h =
    let g = accepted-grows es e in
    let earlier : (totals accelerometer es).accepted < 2 ^ 64 = omega (arith, g, few) in
    unfit-next es e few (some-unfit es earlier) h

none-unfit : (es : List Event) → (totals accelerometer es).accepted < 2 ^ 64 → fits_along es ≡ true → Passes es → ⊥
none-unfit es few h p =
    let earlier = p.0 in
    let later = p.1.0.0 in
    let is = p.1.0.1 in
    let g : (totals accelerometer earlier).accepted ≤ (totals accelerometer (later ++ earlier)).accepted = earlier-few later earlier in
    let n : (totals accelerometer es).accepted ≡ (totals accelerometer (later ++ earlier)).accepted = ap (λ (t : List Event). (totals accelerometer t).accepted) is in
    let m : (totals accelerometer earlier).accepted < 2 ^ 64 = omega (arith, g, n, few) in
    let a : fits_along earlier ≡ true = along-earlier later earlier (subst (λ (t : List Event). fits_along t ≡ true) is h) in
    p.1.1 (all_in (sheet_of earlier) (sheet-fits-as earlier m ∙ along-fits earlier a))

-- ---- a log
length-behind : (rs : List Recorded) (es : List Entry) → length (records_behind rs es) ≡ length rs + length es
length-behind rs [] = omega arith
length-behind rs (e ∷ es) = let h = length-behind (record_of e ∷ rs) es in omega (arith, h)

history-few : (log : List ℕ) → length log < 2 ^ 64 → length (history_of log) < 2 ^ 64
unfolding history_of
history-few log room = let h = length-behind [] (read_log log).items in let f = few-records log in omega (arith, h, f, room)

not_is : {A : Type 0} {s : Sheet} → ◌≡◌ {A = Result Sheet TooLarge} (Err (record {})) (Ok s) → A
not_is e = let z : ◌≡◌ {A = ℕ} 0 1 = cc in absurd (omega arith)

is-injective : {s t : Sheet} → ◌≡◌ {A = Result Sheet TooLarge} (Ok s) (Ok t) → s ≡ t
is-injective e = cc

module _ (log : List ℕ) (room : length log < 2 ^ 64) where
  abbrev told-by : List Event
  told-by = events_in log

  accepted-few : (totals accelerometer told-by).accepted < 2 ^ 64
  accepted-few = let b = (bounded (history_of log)).accepted in let h = history-few log room in omega (arith, b, h)

  by-fit : (t : Bool) → fits_along told-by ≡ t → SheetOfLog log
  by-fit true h = record {
    is = λ s e. is-injective (sym e ∙ log_is log room ∙ fitted (history_of log) h);
    says = says-with _ _ _ _ _ _ _;
    refused = (λ e. not_is (sym e ∙ log_is log room ∙ fitted (history_of log) h), λ p. absurd (none-unfit told-by accepted-few h p));
  }
  by-fit false h = record {
    is = λ s e. not_is (sym (log_is log room ∙ unfitted (history_of log) h) ∙ e);
    says = says-with _ _ _ _ _ _ _;
    refused = (λ e. some-unfit told-by accepted-few h, λ p. log_is log room ∙ unfitted (history_of log) h);
  }

  pub sheet-of-log : SheetOfLog log
  sheet-of-log = by-fit (fits_along told-by) refl

-- ---- many logs
pub sheets-over : SheetsOver
sheets-over = record {
  joins = over.joins;
  grouped = over.grouped;
  ordered = over.ordered;
  single = over.single;
  neutral-left = over.neutral-left;
  neutral-right = over.neutral-right;
  says = λ hs. says-with _ _ _ _ _ _ _;
  whole = over.whole;
  few = few.few;
  few-in-a-log = few.few-in-a-log;
}
