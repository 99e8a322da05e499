-- 01, "Bench log and replay", and the demands of every line of it: what the replay prints of a log is what the log's records say. The text is
-- that of logs of fewer than 2^64 bytes, each a byte.
use Rattle.std.specs.Prelude.{ℕ, suc, ◌≤◌, Bool, true, List, [], ◌∷◌, ◌++◌, ◌≢◌, ◌≡◌, length, get_or}
use Rattle.laws.specs.Bytes.{first_or_zeros}
use Rattle.benchlog.specs.Whole.{read_log}
use Rattle.fifo.specs.Flat.{flat}
use Rattle.fifo.specs.Ledger.{held_of}
use Rattle.events.specs.Event.{read}
use Rattle.recorded.specs.Recorded.{Recorded, events_of, before_own, history_of}
use Rattle.follow.specs.Whole.{joined}
use Rattle.demand3.specs.Demand.{fates}
use Rattle.history.specs.History.{accelerometer}
use Rattle.rules.specs.Bursts.{is_burst}
use Rattle.rules.specs.Rules.{ruled_from}
use Rattle.playback.specs.Replay.{printed}
use Rattle.demand2.specs.Demand2.{elsewhere, Demand2}
use Rattle.demand2.specs.Watermark.{Watermark}
use Rattle.replayed.specs.Lines.{letters_if, line_text, given_by, record_line, record_lines, lines_in}

-- a record of a log: rs came before it, and later after it
abbrev pub StandsIn : List ℕ → List Recorded → Recorded → List Recorded → Type 0
StandsIn log rs r later = history_of log ≡ later ++ (r ∷ rs)

-- the line of the record that so many came before
abbrev pub line_behind : Bool → List ℕ → List Recorded → List ℕ
line_behind pins log rs = get_or (lines_in pins log) (length rs) []

-- ---- the text
pub record Replayed (pins : Bool) (log : List ℕ) : Type 0 where
  -- what is printed are the lines, one behind the other
  pub text : printed pins log ≡ joined (lines_in pins log)
  -- every record has its line
  pub each : length (record_lines pins (history_of log)) ≡ length (read_log log).items
  -- and line n is that of record n: the number n, and the answer and the bytes that its event gives after all that came before it
  pub line : (later rs : List Recorded) (r : Recorded) → StandsIn log rs r later → line_behind pins log rs ≡ record_line pins rs r

-- ---- the demands, after any number of a log's records
pub record Demanded (pins : Bool) (log : List ℕ) : Type 0 where
  -- 1: "after an accepted read also a space and the bytes": where the event is refused, its number is all that its line says of it. When
  -- it is refused, and by which number, outcomes says of any device and any event
  pub refused : (later rs : List Recorded) (r : Recorded) → StandsIn log rs r later → (given_by r rs).number ≢ 0
      → line_behind pins log rs ≡ line_text (suc (length rs)) (given_by r rs).number [] (letters_if pins (events_of (r ∷ rs)))
  -- 2, and Q-2
  pub ruled : (later rs : List Recorded) → history_of log ≡ later ++ rs → Demand2 (events_of rs)
  pub watermark : (later rs : List Recorded) → history_of log ≡ later ++ rs → Watermark (events_of rs)
  -- 2, of the lines: an accepted read below 0x3F prints what the rules say
  pub below : (later rs : List Recorded) (r : Recorded) (a n : ℕ) → StandsIn log rs r later → r.own ≡ read a n → is_burst a n ≡ true
      → let es = before_own r rs in line_behind pins log rs ≡ line_text (suc (length rs)) 0 (ruled_from (elsewhere es) es a n) (letters_if pins (events_of (r ∷ rs)))
  -- and 3: one at 0x3F the frames that demand 3 says are held, "oldest first", and then zeros
  pub frames : (later rs : List Recorded) (r : Recorded) (n : ℕ) → StandsIn log rs r later → r.own ≡ read 0x3F n → 1 ≤ n → n ≤ 192
      → let es = before_own r rs in
      line_behind pins log rs ≡ line_text (suc (length rs)) 0 (first_or_zeros n (flat (held_of (fates accelerometer es)))) (letters_if pins (events_of (r ∷ rs)))
