-- What the status of a program means, by the contracts of its pump, and of the programs.
-- Assumes nothing.
use Prim.Native.Nat.{ℕ, min, ◌<◌}
use mathlib.Core.Bool.{Bool, true, false}
use mathlib.Core.List.{List, [], ◌∷◌}
use mathlib.Core.Logic.{◌⊎◌, inl, inr, ◌↔◌}
use mathlib.Core.Path.{◌≡◌, refl, sym, ap, ◌∙◌}
use native.Mathlib.Omega.{arith}
use lib.ListN.{drop}
use Rattle.laws.specs.Choice.{pick}
use Rattle.std.specs.Prelude.{Option, None, Some, Result, Ok, Err}
use Rattle.benchlog.specs.Reader.{read_version}
use Rattle.benchlog.specs.Walk.{walk, behind_version, walk_log}
use Rattle.benchlog.specs.Whole.{look_record, read_log}
use Rattle.benchlog.specs.Answers.{refusal_number, stop_number}
use Rattle.benchlog.specs.declared.Refusal.{Refusal}
use Rattle.benchlog.specs.declared.Refusal.TheVariants.{WrongVersion, WrongRecord, Cut}
use Rattle.benchlog.proofs.Logs.{not-done}
use Rattle.benchlog.proofs.Walks.{walked, records-within, none-cases}
use Rattle.benchlog.specs.declared.Entry.{Entry}
use Rattle.follow.specs.Source.{records}
use Rattle.follow.specs.Teller.{Teller, Lawful}
use Rattle.follow.specs.Whole.{said_of, said_from, text_of, printed_from, stop_from, led_to}
use Rattle.follow.proofs.Whole.{log-number}
use Rattle.text.specs.Text.{decimal, last_digits}
use Rattle.playback.specs.Replay as replay
use Rattle.answers.specs.Answer as answer
use Rattle.answers.specs.declared.Asked.{Asked}
use Rattle.sheeting.specs.Sheeting as sheet
use Rattle.sheets.specs.declared.Month.{Month}
use Rattle.sheeting.specs.Sheeting.{sheeter, sheet_of, log_sheet, month_with}
use Rattle.sheeting.specs.declared.Sheeting.{Sheeting}
use Rattle.stream.specs.Pump.{PumpedAs, status_of, status_number}
use Rattle.stream.specs.declared.Ended.{Ended}
use Rattle.stream.specs.declared.How.{How}
use Rattle.stream.specs.declared.How.TheVariants.{On, Stopped, NotRead, NotWritten}
use Rattle.stream.specs.declared.Status.TheVariants.{Done, Refused}
use Rattle.stream.proofs.Blocks.{stopped_by}
use Rattle.outcomes.specs.Demand1.{DueOfLog}
use Rattle.outcomes.proofs.Demand1.{demand1}
use Rattle.ending.specs.Ending.{digit_of}
use Rattle.months.specs.Months.{with_log}
use Rattle.gathering.specs.Gathering.{added_of, job_added, log_added}
use Rattle.programs.specs.Programs.{Followed, Failed, StatusMeans, SheetMeans, ReadMeans, MisuseMeans}

-- ---- by how a pump ended
stopped-status : (stop : Option Refusal) → ((stop_number stop ≡ 0) × (status_number (status_of (Stopped stop)) ≡ 0)) ⊎ ((stop_number stop ≡ 0 → ⊥) × (status_number (status_of (Stopped stop)) ≡ 3))
stopped-status None = inl (refl, refl)
stopped-status (Some refusal) = inr (not-done refusal, refl)

failed-is : (how : How) → (status_number (status_of how) ≡ 1) ↔ Failed how
failed-is On = (λ e. inr (inr refl), λ f. refl)
failed-is (Stopped refusal) = (λ e. absurd (not-1 (stopped-status refusal) e), λ f. absurd (not_so f))
  where
    not-1 : ((stop_number refusal ≡ 0) × (status_number (status_of (Stopped refusal)) ≡ 0)) ⊎ ((stop_number refusal ≡ 0 → ⊥) × (status_number (status_of (Stopped refusal)) ≡ 3))
        → status_number (status_of (Stopped refusal)) ≡ 1 → ⊥
    not-1 (inl p) e = let z = sym p.1 ∙ e in absurd (omega arith)
    not-1 (inr p) e = let z = sym p.1 ∙ e in absurd (omega arith)

    is_stopped : How → ℕ
    is_stopped On = 0
    is_stopped (Stopped r) = 1
    is_stopped NotRead = 0
    is_stopped NotWritten = 0

    not_so : Failed (Stopped refusal) → ⊥
    not_so (inl e) = let z : ◌≡◌ {A = ℕ} 1 0 = ap is_stopped e in omega arith
    not_so (inr (inl e)) = let z : ◌≡◌ {A = ℕ} 1 0 = ap is_stopped e in omega arith
    not_so (inr (inr e)) = let z : ◌≡◌ {A = ℕ} 1 0 = ap is_stopped e in omega arith
failed-is NotRead = (λ e. inl refl, λ f. refl)
failed-is NotWritten = (λ e. inr (inl refl), λ f. refl)

digit-is : (how : How) → digit_of (status_of how) ∷ [] ≡ decimal (status_number (status_of how))
unfolding decimal last_digits
digit-is On = refl
digit-is (Stopped None) = refl
digit-is (Stopped (Some refusal)) = refl
digit-is NotRead = refl
digit-is NotWritten = refl

-- ---- a log that is refused is refused by one of three numbers
abbrev Listed : ℕ → Type 0
Listed n = (n ≡ 0) ⊎ ((n ≡ 7) ⊎ ((n ≡ 8) ⊎ (n ≡ 9)))

log-listed : (log : List ℕ) → Listed (read_log log).stop
unfolding walk_log
log-listed log = go (read_version log)
  where
    refused : (refusal : Refusal) → Listed (refusal_number refusal)
    refused WrongVersion = inr (inl refl)
    refused WrongRecord = inr (inr (inl refl))
    refused Cut = inr (inr (inr refl))

    go : (b : Result ℕ Refusal) → Listed (behind_version b (λ next. walk look_record (drop next log))).stop
    go (Ok next) =
        walked look_record records-within (λ bytes w. Listed w.stop)
        (λ bytes number q. none-cases Listed bytes number q (λ _. inl refl) (λ refusal _. refused refusal))
        (λ bytes e n q behind. behind) _
    go (Err refusal) = refused refusal

-- ---- of a pump that begins before the version byte
module _ (printed : List ℕ → List ℕ) (who : Teller records) (law : Lawful who) (first : who.State) (off : who.begun first ≡ false) where
  module _ (ended : Ended who.State) (log : List ℕ) (f : Followed printed who first ended log) where
    abbrev refusal : Option Refusal
    refusal = f.refusal

    abbrev number : ℕ
    number = (read_log log).stop

    status-is : status_number (status_of ended.how) ≡ status_number (status_of (Stopped refusal))
    status-is = ap (λ how. status_number (status_of how)) f.how-is

    -- what stopped its last run is the number of the log
    number_is : number ≡ stop_number refusal
    number_is =
        let last = f.stopped.last in
        let by = stopped_by law last.done f.rest f.may last.room last.turned.0 in
        sym (log-number who log first off) ∙ ap (stop_from who first) f.log_is ∙ by

    due : (n : ℕ) → number ≡ n → DueOfLog log n
    due n = (demand1.of-log log n).0

    only : (n : ℕ) → DueOfLog log n → n ≡ stop_number refusal
    only n is = sym ((demand1.of-log log n).1 is) ∙ number_is

    abbrev Told : Type 0
    Told = ((stop_number refusal ≡ 0) × (status_number (status_of (Stopped refusal)) ≡ 0)) ⊎ ((stop_number refusal ≡ 0 → ⊥) × (status_number (status_of (Stopped refusal)) ≡ 3))

    done-is : (status_number (status_of ended.how) ≡ 0) ↔ DueOfLog log 0
    done-is = (go (stopped-status refusal), λ is. back (stopped-status refusal) (only 0 is))
      where
        go : Told → status_number (status_of ended.how) ≡ 0 → DueOfLog log 0
        go (inl p) e = due 0 (number_is ∙ p.0)
        go (inr p) e = let z = sym p.1 ∙ sym status-is ∙ e in absurd (omega arith)

        back : Told → 0 ≡ stop_number refusal → status_number (status_of ended.how) ≡ 0
        back (inl p) e = status-is ∙ p.1
        back (inr p) e = absurd (p.0 (sym e))

    refused-is : (status_number (status_of ended.how) ≡ 3) ↔ (DueOfLog log 7 ⊎ (DueOfLog log 8 ⊎ DueOfLog log 9))
    refused-is = (go (stopped-status refusal), back)
      where
        by_number : (number ≡ 0 → ⊥) → Listed number → DueOfLog log 7 ⊎ (DueOfLog log 8 ⊎ DueOfLog log 9)
        by_number some (inl e) = absurd (some e)
        by_number some (inr (inl e)) = inl (due 7 e)
        by_number some (inr (inr (inl e))) = inr (inl (due 8 e))
        by_number some (inr (inr (inr e))) = inr (inr (due 9 e))

        go : Told → status_number (status_of ended.how) ≡ 3 → DueOfLog log 7 ⊎ (DueOfLog log 8 ⊎ DueOfLog log 9)
        go (inl p) e = let z = sym p.1 ∙ sym status-is ∙ e in absurd (omega arith)
        go (inr p) e = by_number (λ z. p.0 (sym number_is ∙ z)) (log-listed log)

        is-3 : Told → (n : ℕ) → 0 < n → n ≡ stop_number refusal → status_number (status_of ended.how) ≡ 3
        is-3 (inl p) n some e = absurd (omega (arith, p.0, e, some))
        is-3 (inr p) n some e = status-is ∙ p.1

        back : DueOfLog log 7 ⊎ (DueOfLog log 8 ⊎ DueOfLog log 9) → status_number (status_of ended.how) ≡ 3
        back (inl is) = is-3 (stopped-status refusal) 7 (omega arith) (only 7 is)
        back (inr (inl is)) = is-3 (stopped-status refusal) 8 (omega arith) (only 8 is)
        back (inr (inr is)) = is-3 (stopped-status refusal) 9 (omega arith) (only 9 is)

  either_way : (ended : Ended who.State) (how : How) → ended.how ≡ how → PumpedAs how printed who first ended → Failed how ⊎ ((log : List ℕ) × Followed printed who first ended log)
  either_way ended On e p = inl (inr (inr refl))
  either_way ended (Stopped refusal) e p = inr (_, record { refusal = refusal; how-is = e; stopped = p; rest = []; may = λ q. refl; log_is = refl })
  either_way ended NotRead e p = inl (inl refl)
  either_way ended NotWritten e p = inl (inr (inl refl))

  pub means : StatusMeans printed who first
  means = record {
    each = λ ended. either_way ended ended.how refl;
    text = λ ended log f. f.stopped.text f.rest f.may ∙ ap printed (sym f.log_is);
    led = λ ended log f. f.stopped.led f.rest f.may ∙ ap (led_to who first) (sym f.log_is);
    done = done-is;
    refused = refused-is;
    failed = failed-is;
    digit = digit-is;
  }

-- ---- of the programs
pub replay-means : (pins : Bool) → StatusMeans (replay.printed pins) replay.replayer (replay.start pins)
unfolding replay.start
replay-means pins = means (replay.printed pins) replay.replayer replay.replays (replay.start pins) refl

pub answer-means : (asked : Asked) → StatusMeans (answer.printed asked) answer.answerer (answer.start asked)
unfolding answer.start
answer-means asked = means (answer.printed asked) answer.answerer answer.answers (answer.start asked) refl

pub sheet-status : StatusMeans (printed_from sheeter sheet.start) sheeter sheet.start
unfolding sheet.start
sheet-status = means (printed_from sheeter sheet.start) sheeter sheet.sheets sheet.start refl

silent-items : (items : List Entry) (s : Sheeting) (stop : ℕ) → text_of sheeter s items stop ≡ []
unfolding said_of
silent-items [] s stop = refl
silent-items (e ∷ items) s stop = silent-items items (sheeter.next s e) stop

silent-log : (s : Sheeting) (log : List ℕ) → printed_from sheeter s log ≡ []
unfolding said_from
silent-log s log =
    let w = walk look_record log in
    let l = walk_log read_version look_record log in
    rw (silent-items w.items s w.stop, silent-items l.items (pick l.begun (sheeter.begin s) s) l.stop) (same s.begun)
  where
    same : (t : Bool) → pick {A = List ℕ} t [] [] ≡ []
    same true = refl
    same false = refl

sheet-is : (ended : Ended Sheeting) (log : List ℕ) → Followed (printed_from sheeter sheet.start) sheeter sheet.start ended log → sheet_of ended.follower ≡ log_sheet log
sheet-is ended log f = ap sheet_of (sheet-status.led ended log f)

unbegun : sheeter.begun sheet.start ≡ false
unfolding sheet.start
unbegun = refl

added_is : (m : Month) (ended : Ended Sheeting) (log : List ℕ) → Followed (printed_from sheeter sheet.start) sheeter sheet.start ended log → log_added m ended ≡ added_of (with_log m log)
unfolding log_added
added_is m ended log f =
    ap (λ (h : How). job_added m h ended.follower) f.how-is
    ∙ (λ i. added_of (month_with m (sheet-is ended log f i) (sym (number_is (printed_from sheeter sheet.start) sheeter sheet.sheets sheet.start unbegun ended log f) i)))

pub sheet-means : SheetMeans
sheet-means = record {
  sheet = sheet-is;
  added = added_is;
  silent = λ log. silent-log sheet.start log;
}

-- ---- of a read, and of a program that was not used as it is meant to be
pub read-means : ReadMeans
read-means = record { failed = λ error room. refl; came = λ E k room few. let is : min k room ≡ k = omega (arith, few) in rw is }

pub misuse-means : MisuseMeans
unfolding decimal last_digits
misuse-means = record { digit = refl }
