-- The contracts of the pumps, as the toolchain reads them from the source, are those that the meaning of a status is made of, for every reader
-- and every writer. Of a type at a parameter the toolchain itself asks that it lives as long as what the call borrows: its readers and writers do.
-- Assumes nothing.
use Rattle.std.proofs.Common.{◌≡◌, refl}
use Rattle.std.specs.declared.io.traits.Read.{Ghosts as Reads}
use Rattle.std.specs.declared.io.traits.Write.{Ghosts as Writes}
use base.Logic.{SProp, sep, emp}
use contract.BorrowLft.{◌⊑◌}
use contract.Lifetimes.{Lfts, lft_at}
use contract.Monad.{fact}
use denote.RattleType.{RattleType}
use denote.Triple.Clauses as clauses
use mir.Syntax.{Dict}
use seplogic.Ra.Ura.{Ura}
use Rattle.laws.specs.Outcome.{SourceClauses, Claim, promised}
use Rattle.follow.specs.Whole.{printed_from}
use Rattle.playback.specs.Replay as replay
use Rattle.answers.specs.Answer as answer
use Rattle.sheeting.specs.Sheeting as sheet
use Rattle.stream.specs.Pump.{PumpedAs, status_of}
use Rattle.stream.specs.contracts.pump_replay as pump-replay
use Rattle.stream.specs.contracts.pump_answer as pump-answer
use Rattle.stream.specs.contracts.pump_sheet as pump-sheet
use Rattle.stream.specs.contracts.status_of as status-of

-- the one fact as the `ensures`, where the types live as long as they have to
module _ (T : clauses.Ended) where
  abbrev promised_while : ((κs : Lfts T.signature.lifetimes) (M : Type 1) (𝓤 : Ura M) → SProp 𝓤) → Claim T → SourceClauses T
  promised_while lives claim M 𝓤 𝓛 mem run κs a = record { ghost = Unit {0}; requires = λ g. lives κs M 𝓤; ensures = λ g r e. fact 𝓤 (claim κs a r e) }

module _ (R W : RattleType) (reads : Reads R.Denot) (by : Dict) (writes : Writes W.Denot) (to : Dict) where
  -- the reader and the writer live as long as the references to them
  abbrev both_live : (κs : Lfts 4) (M : Type 1) (𝓤 : Ura M) → SProp 𝓤
  both_live κs M 𝓤 = sep 𝓤 (fact 𝓤 (lft_at 4 2 tt κs ⊑ R.lives)) (sep 𝓤 (fact 𝓤 (lft_at 4 3 tt κs ⊑ W.lives)) (emp 𝓤))

  pub replay-contract : let T = pump-replay.ended R W reads by writes to in
      ◌≡◌ {A = SourceClauses T} (λ M 𝓤. pump-replay.clauses R W reads by writes to)
      (promised_while T both_live (λ κs a r e. let pins = a.1.1.0 in PumpedAs r.how (replay.printed pins) replay.replayer (replay.start pins) r))
  replay-contract = refl

  pub answer-contract : let T = pump-answer.ended R W reads by writes to in
      ◌≡◌ {A = SourceClauses T} (λ M 𝓤. pump-answer.clauses R W reads by writes to)
      (promised_while T both_live (λ κs a r e. let asked = a.1.1.0 in PumpedAs r.how (answer.printed asked) answer.answerer (answer.start asked) r))
  answer-contract = refl

module _ (R : RattleType) (reads : Reads R.Denot) (by : Dict) where
  abbrev reader_lives : (κs : Lfts 2) (M : Type 1) (𝓤 : Ura M) → SProp 𝓤
  reader_lives κs M 𝓤 = sep 𝓤 (fact 𝓤 (lft_at 2 1 tt κs ⊑ R.lives)) (emp 𝓤)

  pub sheet-contract : let T = pump-sheet.ended R reads by in
      ◌≡◌ {A = SourceClauses T} (λ M 𝓤. pump-sheet.clauses R reads by)
      (promised_while T reader_lives (λ κs a r e. PumpedAs r.how (printed_from sheet.sheeter sheet.start) sheet.sheeter sheet.start r))
  sheet-contract = refl

pub status-contract : ◌≡◌ {A = SourceClauses status-of.ended} (λ M 𝓤. status-of.clauses) (promised status-of.ended (λ κs a r e. r ≡ status_of a.0))
status-contract = refl
