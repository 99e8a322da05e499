-- What is printed of a log, from its records alone: every number in a line is what the histories say. In a history the latest record
-- stands first.
use Rattle.std.specs.Prelude.{ℕ, ◌-◌, Bool, List, [], ◌∷◌, ◌++◌, ltb, length, drop}
use Rattle.laws.specs.Choice.{pick}
use Rattle.benchlog.specs.Whole.{read_log}
use Rattle.recorded.specs.Recorded.{Recorded, answer_to, history_of}
use Rattle.stretches.specs.Histories.{account_of, why_with, last_end}
use Rattle.answers.specs.Answer.{record_text, end_text}
use Rattle.answers.specs.declared.Asked.{Asked}
use Rattle.answers.specs.declared.Asked.TheVariants.{Stretches, Modes, Samples, Between, Whole}

-- ---- what is printed of the records of a history, in order
-- the history at the mark: the end of the last stretch, the record from, or power-up
abbrev pub at_mark : Asked → List Recorded → List Recorded
at_mark Stretches rs = last_end rs
at_mark Modes rs = last_end rs
at_mark Samples rs = last_end rs
at_mark (Between from upto) rs = pick (ltb (length rs) from) [] (drop (length rs - from) rs)
at_mark Whole rs = []

unfoldable pub told_of : Asked → List Recorded → List ℕ
told_of asked [] = []
told_of asked (r ∷ rs) =
    told_of asked rs
    ++ record_text asked (account_of (at_mark asked rs)) (account_of rs) (account_of (r ∷ rs)) r.own (answer_to r rs) (why_with r rs)

-- and where the log stops
abbrev pub end_of : Asked → Bool → List Recorded → ℕ → List ℕ
end_of asked begun rs refusal = end_text asked begun (account_of (at_mark asked rs)) (account_of rs) refusal

-- of a whole log: of its records, and where it stops
unfoldable pub told : Asked → List ℕ → List ℕ
told asked log = told_of asked (history_of log) ++ end_of asked (read_log log).begun (history_of log) (read_log log).stop
