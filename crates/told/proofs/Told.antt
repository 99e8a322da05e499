-- What the answer prints of a log is what the histories say of it.
-- Assumes nothing.
use Prim.Native.Nat.{ℕ, suc, ◌+◌, ◌-◌, ◌^◌, ◌≤◌, ◌<◌}
use mathlib.Core.Bool.{Bool, true, false}
use mathlib.Core.List.{List, [], ◌∷◌, ◌++◌, append_assoc}
use mathlib.Core.Path.{◌≡◌, refl, sym, ap, ◌∙◌}
use native.Mathlib.Omega.{arith}
use lib.Dec.{eqb, ltb}
use lib.ListN.{length, drop}
use lib.Seq.{drop-nil}
use borrow.Author.Tests.{eqb-true, eqb-false, ltb-true, ltb-false, lt-ltb, le-ltb}
use Rattle.laws.specs.Choice.{pick}
use Rattle.laws.proofs.Finite.{of-pick}
use Rattle.std.specs.Prelude.{Result, Ok, Err}
use Rattle.benchlog.specs.Reader.{read_version}
use Rattle.benchlog.specs.Walk.{Walked, walk, behind_version, walk_log}
use Rattle.benchlog.specs.Whole.{look_record}
use Rattle.benchlog.specs.Answers.{refusal_number}
use Rattle.benchlog.specs.declared.Refusal.{Refusal}
use Rattle.benchlog.specs.declared.Entry.{Entry}
use Rattle.benchlog.proofs.Logs.{few-records}
use Rattle.events.specs.Run.{after}
use Rattle.recorded.specs.Recorded.{Recorded, record_of, events_of, before_own, answer_to, records_behind, history_of}
use Rattle.follow.specs.Whole.{said_of, said_from, text_of, text_of_log}
use Rattle.counts.specs.Counts.{ends}
use Rattle.recorded.proofs.Recorded.{at_own_lem}
use Rattle.stretches.specs.Histories.{account_of, why_with, is_end, last_end}
use Rattle.stretches.proofs.Histories.{account-first, account-next, why-is}
use Rattle.stretches.proofs.Stretches.{ends_is}
use Rattle.answers.specs.Answer.{start, at, record_text, mark_after, text_on, next_on, answerer, printed}
use Rattle.told.specs.Histories.{at_mark, told_of, end_of, told}
use Rattle.answers.specs.declared.Answering.{Answering}
use Rattle.answers.specs.declared.Asked.{Asked}
use Rattle.answers.specs.declared.Asked.TheVariants.{Stretches, Modes, Samples, Between, Whole}

-- ---- the mark
-- one record more: it is the mark where it ends a stretch, or is the record from
ends-marked : (r : Recorded) (rs : List Recorded) → pick (ends (why_with r rs)) (account_of (r ∷ rs)) (account_of (last_end rs)) ≡ account_of (last_end (r ∷ rs))
unfolding last_end
ends-marked r rs = rw (ends_is (before_own r rs) r.own) (sym (of-pick account_of (is_end r.own) (r ∷ rs) (last_end rs)))

-- the history at the record from, one record more
from-marked : (from upto : ℕ) (r : Recorded) (rs : List Recorded)
    → pick (eqb (suc (length rs)) from) (r ∷ rs) (at_mark (Between from upto) rs) ≡ at_mark (Between from upto) (r ∷ rs)
from-marked from upto r rs = go (eqb (suc (length rs)) from) refl (ltb (length rs) from) refl
  where
    go : (s : Bool) → eqb (suc (length rs)) from ≡ s → (t : Bool) → ltb (length rs) from ≡ t
        → pick s (r ∷ rs) (pick t [] (drop (length rs - from) rs)) ≡ pick (ltb (suc (length rs)) from) [] (drop (suc (length rs) - from) (r ∷ rs))
    go true p t q =
        let n : suc (length rs) ≡ from = eqb-true _ _ p in
        let none : suc (length rs) - from ≡ 0 = omega arith in
        let past : from ≤ suc (length rs) = omega arith in
        rw (le-ltb _ _ past, none)
    go false p true q =
        let n : suc (length rs) ≡ from → ⊥ = eqb-false _ _ p in
        let m : length rs < from = ltb-true _ _ q in
        let before : suc (length rs) < from = omega arith in
        rw (lt-ltb _ _ before)
    go false p false q =
        let m : from ≤ length rs = ltb-false _ _ q in
        let past : from ≤ suc (length rs) = omega arith in
        let one : suc (length rs) - from ≡ suc (length rs - from) = omega arith in
        rw (le-ltb _ _ past, one)

mark-next : (asked : Asked) (r : Recorded) (rs : List Recorded)
    → mark_after asked (account_of (at_mark asked rs)) (account_of (r ∷ rs)) (why_with r rs) ≡ account_of (at_mark asked (r ∷ rs))
mark-next Stretches r rs = ends-marked r rs
mark-next Modes r rs = ends-marked r rs
mark-next Samples r rs = ends-marked r rs
mark-next (Between from upto) r rs =
    sym (of-pick account_of (eqb (suc (length rs)) from) (r ∷ rs) (at_mark (Between from upto) rs)) ∙ ap account_of (from-marked from upto r rs)
mark-next Whole r rs = refl

no-mark : (asked : Asked) → at_mark asked [] ≡ []
unfolding last_end
no-mark Stretches = refl
no-mark Modes = refl
no-mark Samples = refl
no-mark (Between from upto) = go (ltb 0 from)
  where
    go : (t : Bool) → pick {A = List Recorded} t [] (drop (0 - from) []) ≡ []
    go true = refl
    go false = drop-nil (0 - from)
no-mark Whole = refl

-- ---- the answer's state
-- after a history, where the version byte is past
abbrev pub answering_of : Asked → List Recorded → Answering
answering_of asked rs = at (after (events_of rs)) (account_of rs) (account_of (at_mark asked rs)) asked

module _ (asked : Asked) (rs : List Recorded) (r : Recorded) (room : suc (length rs) < 2 ^ 64) where
  pub answering-next : next_on (answering_of asked rs) r ≡ answering_of asked (r ∷ rs)
  unfolding after
  answering-next = rw (at_own_lem r rs, account-next rs r room, why-is (before_own r rs) r.own, mark-next asked r rs)

  pub answering-text : text_on (answering_of asked rs) r
      ≡ record_text asked (account_of (at_mark asked rs)) (account_of rs) (account_of (r ∷ rs)) r.own (answer_to r rs) (why_with r rs)
  unfolding after
  answering-text = rw (at_own_lem r rs, account-next rs r room, why-is (before_own r rs) r.own)

-- ---- the lines
-- all that is told: of the records of a history, and where the log stops behind them
abbrev whole_of : Asked → List Recorded → ℕ → List ℕ
whole_of asked rs stop = told_of asked rs ++ end_of asked true rs stop

-- what is told of a history, and then printed of the records behind it, is what is told of all
pub lines-told : (asked : Asked) (es : List Entry) (stop : ℕ) (rs : List Recorded) → length rs + length es < 2 ^ 64
    → told_of asked rs ++ text_of answerer (answering_of asked rs) es stop ≡ whole_of asked (records_behind rs es) stop
unfolding said_of told_of
lines-told asked [] stop rs room = refl
lines-told asked (e ∷ es) stop rs room =
    let few : suc (length rs) < 2 ^ 64 = omega arith in
    sym (append_assoc (told_of asked rs) _ _)
    ∙ (λ i. (told_of asked rs ++ answering-text asked rs (record_of e) few i) ++ text_of answerer (answering-next asked rs (record_of e) few i) es stop)
    ∙ lines-told asked es stop (record_of e ∷ rs) (omega arith)

-- ---- the whole log
-- behind the version byte nothing has happened yet
begins-with : (asked : Asked) → answerer.begin (start asked) ≡ answering_of asked []
unfolding start after
begins-with asked = rw (no-mark asked, account-first)

-- before it, the last line is the same
ends_with : (asked : Asked) (stop : ℕ) → answerer.last (start asked) stop ≡ end_of asked false [] stop
unfolding start
ends_with asked stop = rw (no-mark asked, account-first)

-- whatever is asked of a log, what is printed is what the histories say
pub told_is : (asked : Asked) (log : List ℕ) → length log < 2 ^ 64 → printed asked log ≡ told asked log
unfolding said_from walk_log told history_of start told_of said_of
told_is asked log room = go (read_version log) (few-records log)
  where
    walked : ℕ → Walked Entry
    walked next = walk look_record (drop next log)

    go : (b : Result ℕ Refusal) → length (behind_version b walked).items ≤ length log - 1 →
        let l = behind_version b walked in
        let rs = records_behind [] l.items in
        text_of_log answerer (start asked) l ≡ told_of asked rs ++ end_of asked l.begun rs l.stop
    go (Ok next) few =
        let w = walked next in
        ap (λ s. text_of answerer s w.items w.stop) (begins-with asked) ∙ lines-told asked w.items w.stop [] (omega arith)
    go (Err refusal) few = ends_with asked (refusal_number refusal)
