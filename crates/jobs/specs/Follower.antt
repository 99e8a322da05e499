-- Whoever follows a log for a program: the replay, the answer, or the sheet.
use Rattle.std.specs.Prelude.{ℕ, ◌-◌, Bool, List}
use Rattle.benchlog.specs.declared.Entry.{Entry}
use Rattle.follow.specs.Source.{records}
use Rattle.follow.specs.Teller.{Teller}
use Rattle.playback.specs.Replay.{replayer}
use Rattle.playback.specs.declared.Replay.{Replay}
use Rattle.answers.specs.Answer.{answerer}
use Rattle.answers.specs.declared.Answering.{Answering}
use Rattle.sheeting.specs.Sheeting.{sheeter}
use Rattle.sheeting.specs.declared.Sheeting.{Sheeting}

-- the parts of a teller of records, over states of this type, and how many records came to a state
pub record Following (S : Type 0) : Type 0 where
  pub begun : S → Bool
  pub begin : S → S
  pub text : S → Entry → List ℕ
  pub next : S → Entry → S
  pub last : S → ℕ → List ℕ
  pub record_count : S → ℕ

-- the teller whose parts they are
abbrev pub worker : {S : Type 0} → Following S → Teller records
worker {S} f = record { State = S; begun = f.begun; begin = f.begin; text = f.text; next = f.next; last = f.last }

-- those of a teller
abbrev pub parts : (who : Teller records) → (who.State → ℕ) → Following who.State
parts who count = record { begun = who.begun; begin = who.begin; text = who.text; next = who.next; last = who.last; record_count = count }

-- the replay, which has the number of the next record; the answer; and the sheet
abbrev pub the_replay : Following Replay
the_replay = parts replayer (λ r. r.number - 1)

abbrev pub the_answer : Following Answering
the_answer = parts answerer (λ a. a.account.number)

abbrev pub the_sheet : Following Sheeting
the_sheet = parts sheeter (λ s. s.account.number)
