-- How a log goes from its input through whoever follows it to an output: what the pump does around its two calls, read and write. Who is the
-- teller that follows it, over states of its type.
use Rattle.std.specs.Prelude.{ℕ, suc, ◌≡◌, Bool, true, false, List, [], ◌∷◌, ◌++◌, length, Option, None, Some}
use Rattle.benchlog.specs.Answers.{stop_number}
use Rattle.benchlog.specs.declared.Refusal.{Refusal}
use Rattle.follow.specs.Follow.{Wait, Full, Stop, Turn, run_of}
use Rattle.follow.specs.Source.{records}
use Rattle.follow.specs.Teller.{Teller}
use Rattle.follow.specs.Whole.{joined, printed_from, led_to}
use Rattle.follow.specs.declared.Halt.{Halt}
use Rattle.follow.specs.declared.Halt.TheVariants as halt
use Rattle.follow.specs.declared.Ran.{Ran}
use Rattle.window.specs.Window.{start, Within, unused, past, at_front, HasRoom, Refilled}
use Rattle.window.specs.declared.Window.{Window}
use Rattle.stream.specs.declared.State.{State}
use Rattle.stream.specs.declared.Ended.{Ended}
use Rattle.stream.specs.declared.How.{How}
use Rattle.stream.specs.declared.How.TheVariants.{On, Stopped, NotRead, NotWritten}
use Rattle.stream.specs.declared.Status.{Status}
use Rattle.stream.specs.declared.Status.TheVariants.{Done, Refused, Failed, Misused}

-- ---- between the calls
-- before the first read
abbrev pub pump_start : {S : Type 0} → S → State S
pump_start s = record { follower = s; window = start }

-- the run over what came and is not used, which it is handed whole, with room for so much text
abbrev pub ran_over : (who : Teller records) → State who.State → List ℕ → ℕ → Turn who
ran_over who s buffer room = run_of who s.follower (unused s.window buffer) s.window.last room

-- after a run that came to this state and used so many bytes, and whose text is written
abbrev pub after_run : {S : Type 0} → State S → S → ℕ → State S
after_run s follower used = record { follower = follower; window = past s.window used }

-- after that run
abbrev pub ran_to : (who : Teller records) → State who.State → List ℕ → ℕ → State who.State
ran_to who s buffer room = after_run s (ran_over who s buffer room).state (ran_over who s buffer room).at

-- with another window
abbrev pub seeing : {S : Type 0} → State S → Window → State S
seeing s w = record { follower = s.follower; window = w }

-- ---- the calls
-- a read changes the window, and nothing else
abbrev pub ReadMore : {S : Type 0} → State S → List ℕ → State S → List ℕ → Type 0
ReadMore s buffer s' buffer' = (s' ≡ seeing s s'.window) × Refilled s.window buffer s'.window buffer'

-- the run's text is full, and is written; or it waits, its text is written, and more is read
pub data Went (who : Teller records) (s : State who.State) (buffer : List ℕ) (room : ℕ) (s' : State who.State) (buffer' : List ℕ) : Type 0 where
  emptied : (ran_over who s buffer room).halt ≡ Some Full → s' ≡ ran_to who s buffer room → buffer' ≡ buffer
      → Went who s buffer room s' buffer'
  refilled : (ran_over who s buffer room).halt ≡ Some Wait → ReadMore (ran_to who s buffer room) buffer s' buffer'
      → Went who s buffer room s' buffer'

abbrev pub is_wait : Halt → Bool
is_wait halt.Wait = true
is_wait halt.Full = false
is_wait (halt.Stop refusal) = false

-- behind a run that does not wait, by why it ended
abbrev pub how_after : Halt → How
how_after halt.Wait = On
how_after halt.Full = On
how_after (halt.Stop refusal) = Stopped refusal

abbrev pub is_on : How → Bool
is_on On = true
is_on (Stopped refusal) = false
is_on NotRead = false
is_on NotWritten = false

-- what reading more comes to
abbrev pub MoreReadAs : {S : Type 0} → How → State S → List ℕ → State S → List ℕ → Type 0
MoreReadAs On s buffer s' buffer' = ReadMore s buffer s' buffer' × Within s'.window (length buffer)
MoreReadAs (Stopped refusal) s buffer s' buffer' = ⊥
MoreReadAs NotRead s buffer s' buffer' = s' ≡ seeing s (at_front s.window buffer)
MoreReadAs NotWritten s buffer s' buffer' = ⊥

-- behind a run whose text is written, by whether it waits
abbrev pub BehindRun : {S : Type 0} → Bool → State S → Ran S → List ℕ → How → State S → List ℕ → Type 0
BehindRun true s ran buffer how s' buffer' = MoreReadAs how (after_run s ran.state ran.used) buffer s' buffer'
BehindRun false s ran buffer how s' buffer' = (how ≡ how_after ran.halt) × (s' ≡ after_run s ran.state ran.used) × (buffer' ≡ buffer)

-- behind a run, by whether its text is written
abbrev pub BehindWrite : {S : Type 0} → Bool → State S → Ran S → List ℕ → How → State S → List ℕ → Type 0
BehindWrite true s ran buffer how s' buffer' = BehindRun (is_wait ran.halt) s ran buffer how s' buffer'
BehindWrite false s ran buffer how s' buffer' = (how ≡ NotWritten) × (s' ≡ s) × (buffer' ≡ buffer)

-- a turn, over a buffer and room for so much text: it stops exactly where its run does, unless a call fails. Where nothing is read,
-- there was room to read into; where the text is not written, the state is the one before it
abbrev pub TurnedAs : (who : Teller records) → How → State who.State → List ℕ → ℕ → State who.State → List ℕ → Type 0
TurnedAs who On s buffer room s' buffer' = Went who s buffer room s' buffer' × Within s'.window (length buffer)
TurnedAs who (Stopped refusal) s buffer room s' buffer' =
    ((ran_over who s buffer room).halt ≡ Some (Stop (stop_number refusal))) × (s' ≡ ran_to who s buffer room)
TurnedAs who NotRead s buffer room s' buffer' =
    let ran = ran_to who s buffer room in
    ((ran_over who s buffer room).halt ≡ Some Wait) × (s' ≡ seeing ran (at_front ran.window buffer)) × HasRoom ran.window buffer
TurnedAs who NotWritten s buffer room s' buffer' = s' ≡ s

-- ---- the status of a program
-- the number that a caller sees
abbrev pub status_number : Status → ℕ
status_number Done = 0
status_number Refused = 3
status_number Failed = 1
status_number Misused = 2

-- done, or of a log that was refused; failed where the input or the output did, or more came than turns can do
abbrev pub status_of : How → Status
status_of On = Failed
status_of (Stopped None) = Done
status_of (Stopped (Some refusal)) = Refused
status_of NotRead = Failed
status_of NotWritten = Failed

-- ---- turns in a row
-- what a read gave, where it gave some: nothing is the end of the input
abbrev pub some_of : List ℕ → List (List ℕ)
some_of [] = []
some_of (byte ∷ bytes) = (byte ∷ bytes) ∷ []

abbrev pub part_in : {who : Teller records} {s s' : State who.State} {buffer buffer' : List ℕ} {room : ℕ} → Went who s buffer room s' buffer' → List (List ℕ)
part_in (emptied full is same) = []
part_in (refilled waits r) = some_of r.1.part

-- so many turns behind which the pump goes on, from its beginning: the parts that the reads gave, of which none is empty; the blocks that
-- the writes were handed, one in each turn, the text of its run; and the state and the buffer behind them
pub data TurnsDone (who : Teller records) (first : who.State) : ℕ → List (List ℕ) → List (List ℕ) → State who.State → List ℕ → Type 0 where
  none : (buffer : List ℕ) → TurnsDone who first 0 [] [] (pump_start first) buffer
  again : {n : ℕ} {parts blocks : List (List ℕ)} {s s' : State who.State} {buffer buffer' : List ℕ} (room : ℕ) → TurnsDone who first n parts blocks s buffer
      → (went : Went who s buffer room s' buffer')
      → TurnsDone who first (suc n) (parts ++ part_in went) (blocks ++ ((ran_over who s buffer room).text ∷ [])) s' buffer'

-- whether the end of the input was seen: the last read gave nothing
abbrev pub is_none : List ℕ → Bool
is_none [] = true
is_none (byte ∷ bytes) = false

abbrev pub end_in : {who : Teller records} {s s' : State who.State} {buffer buffer' : List ℕ} {room : ℕ} → Bool → Went who s buffer room s' buffer' → Bool
end_in before (emptied full is same) = before
end_in before (refilled waits r) = is_none r.1.part

module _ {who : Teller records} {first : who.State} where
  abbrev pub end_seen : {n : ℕ} {parts blocks : List (List ℕ)} {s : State who.State} {buffer : List ℕ} → TurnsDone who first n parts blocks s buffer → Bool
  end_seen (none buffer) = false
  end_seen (again room done went) = end_in (end_seen done) went

  -- what may stand behind the parts that came: nothing, where the end was seen
  abbrev pub MayFollow : {n : ℕ} {parts blocks : List (List ℕ)} {s : State who.State} {buffer : List ℕ} → TurnsDone who first n parts blocks s buffer → List ℕ → Type 0
  MayFollow done rest = end_seen done ≡ true → rest ≡ []

-- ---- the end of a pump, by who follows the log and by the follower that it began with
-- the follower that is handed back is that of the state behind its last turn
abbrev pub ended_at : {S : Type 0} → How → State S → Ended S
ended_at how s = record { how = how; follower = s.follower }

-- the last turn, behind the others
pub record LastTurn (who : Teller records) (first : who.State) (how : How) (ended : Ended who.State) : Type 0 where
  pub turns : ℕ
  pub parts : List (List ℕ)
  pub blocks : List (List ℕ)
  pub state : State who.State
  pub held : List ℕ
  pub room : ℕ
  pub state' : State who.State
  pub held' : List ℕ
  pub done : TurnsDone who first turns parts blocks state held
  pub turned : TurnedAs who how state held room state' held'
  pub ended_is : ended ≡ ended_at how state'

-- with the block that it hands to the write
abbrev pub all_blocks : {who : Teller records} {first : who.State} {how : How} {ended : Ended who.State} → LastTurn who first how ended → List (List ℕ)
all_blocks {who} l = l.blocks ++ ((ran_over who l.state l.held l.room).text ∷ [])

-- those that were written whole: all, unless the last write failed
abbrev pub whole_blocks : (how : How) {who : Teller records} {first : who.State} {ended : Ended who.State} → LastTurn who first how ended → List (List ℕ)
whole_blocks On l = all_blocks l
whole_blocks (Stopped refusal) l = all_blocks l
whole_blocks NotRead l = all_blocks l
whole_blocks NotWritten l = l.blocks

-- printed is what is printed of a log
module _ (printed : List ℕ → List ℕ) (who : Teller records) (first : who.State) where
  -- the log stopped: the blocks are, joined, what is printed of the parts, joined, and the follower that is handed back is the one to which they
  -- lead; what may stand behind them changes nothing
  pub record StoppedLog (refusal : Option Refusal) (ended : Ended who.State) : Type 0 where
    pub last : LastTurn who first (Stopped refusal) ended
    pub text : (rest : List ℕ) → MayFollow last.done rest → joined (all_blocks last) ≡ printed (joined last.parts ++ rest)
    pub led : (rest : List ℕ) → MayFollow last.done rest → ended.follower ≡ led_to who first (joined last.parts ++ rest)

  -- a call failed: what is printed of the parts, with what may stand behind them, is the blocks that were written whole, joined, and then
  -- what the follower that is handed back prints of the bytes which it has not come to
  pub record CallFailed (how : How) (ended : Ended who.State) : Type 0 where
    pub last : LastTurn who first how ended
    pub left : List ℕ
    pub text : (rest : List ℕ) → MayFollow last.done rest
        → printed (joined last.parts ++ rest) ≡ joined (whole_blocks how last) ++ printed_from who ended.follower (left ++ rest)

-- more came than so many turns can do
abbrev pub most_turns : ℕ
most_turns = 18446744073709551615

pub record TooLong (who : Teller records) (first : who.State) (ended : Ended who.State) : Type 0 where
  pub parts : List (List ℕ)
  pub blocks : List (List ℕ)
  pub state : State who.State
  pub held : List ℕ
  pub done : TurnsDone who first most_turns parts blocks state held
  pub ended_is : ended ≡ ended_at On state

abbrev pub PumpedAs : How → (List ℕ → List ℕ) → (who : Teller records) → who.State → Ended who.State → Type 0
PumpedAs On printed who first ended = TooLong who first ended
PumpedAs (Stopped refusal) printed who first ended = StoppedLog printed who first refusal ended
PumpedAs NotRead printed who first ended = CallFailed printed who first NotRead ended
PumpedAs NotWritten printed who first ended = CallFailed printed who first NotWritten ended
