-- What the replay prints of a log are its lines, and each has its place.
-- Assumes nothing.
use Prim.Native.Nat.{ℕ, zero, suc, ◌+◌, ◌-◌, ◌%◌, ◌^◌, ◌≤◌, ◌<◌}
use mathlib.Core.Bool.{Bool, true, false}
use mathlib.Core.List.{List, [], ◌∷◌, ◌++◌, append_assoc, append-nil}
use mathlib.Core.Path.{◌≡◌, refl, sym, ap, ◌∙◌}
use native.Mathlib.Omega.{arith}
use lib.Dec.{eqb}
use lib.ListN.{length, get_or, drop, length-append}
use Rattle.laws.specs.Choice.{pick}
use Rattle.std.specs.Prelude.{Result, Ok, Err}
use Rattle.benchlog.specs.Reader.{read_version}
use Rattle.benchlog.specs.Walk.{Walked, walk, behind_version, walk_log}
use Rattle.benchlog.specs.Whole.{look_record, read_log}
use Rattle.benchlog.specs.Answers.{refusal_number}
use Rattle.benchlog.specs.declared.Refusal.{Refusal}
use Rattle.benchlog.specs.declared.Entry.{Entry}
use Rattle.benchlog.proofs.Logs.{few-records}
use Rattle.device.specs.Show.{pins_of}
use Rattle.events.specs.Event.{Event, happens}
use Rattle.events.specs.Run.{after}
use Rattle.text.specs.Text.{pins_line}
use Rattle.follow.specs.Whole.{joined, said_of, said_from, text_of, text_of_log}
use Rattle.follow.proofs.Whole.{joined-append, joined-last}
use Rattle.playback.specs.Replay.{start, at, line_as, stop_text, text_on, next_on, replayer, printed}
use Rattle.playback.specs.declared.Replay.{Replay}
use Rattle.recorded.specs.Recorded.{Recorded, record_of, events_of, records_behind, history_of}
use Rattle.recorded.proofs.Recorded.{at_own_lem}
use Rattle.replayed.specs.Lines.{letters_if, line_text, given_by, record_line, record_lines, stop_lines, last_line, lines_in}
use Rattle.replayed.specs.Replayed.{StandsIn, line_behind, Replayed}
use Rattle.replayed.proofs.Text.{line-is, last-is, refused-is}

module _ (pins : Bool) where
  -- ---- texts
  -- the text of a history's records, and one more
  abbrev lines_text : List Recorded → List ℕ
  lines_text rs = joined (record_lines pins rs)

  one_more : (rs : List Recorded) (r : Recorded) → lines_text (r ∷ rs) ≡ lines_text rs ++ record_line pins rs r
  unfolding record_lines
  one_more rs r = joined-last (record_lines pins rs) (record_line pins rs r)

  -- where it stops
  abbrev stopped : Bool → ℕ → List Recorded → List ℕ
  stopped begun stop rs = joined (stop_lines pins begun stop rs) ++ last_line (events_of rs)

  -- all of it
  whole-text : (begun : Bool) (stop : ℕ) (rs : List Recorded)
      → lines_text rs ++ stopped begun stop rs ≡ joined (record_lines pins rs ++ (stop_lines pins begun stop rs ++ (last_line (events_of rs) ∷ [])))
  whole-text begun stop rs =
      sym (joined-append (record_lines pins rs) _ ∙ ap (λ (t : List ℕ). lines_text rs ++ t) (joined-last (stop_lines pins begun stop rs) (last_line (events_of rs))))

  -- ---- the replay after a history
  abbrev state_of : List Recorded → Replay
  state_of rs = at pins (after (events_of rs)) (suc (length rs))

  next-state : (rs : List Recorded) (r : Recorded) → suc (suc (length rs)) < 2 ^ 64 → next_on (state_of rs) r ≡ state_of (r ∷ rs)
  unfolding after
  next-state rs r room =
      let n : (suc (length rs) + 1) % 2 ^ 64 ≡ suc (suc (length rs)) = omega arith in
      λ i. at pins (happens (at_own_lem r rs i) r.own).device (n i)

  -- a record's text is its line
  line-next : (rs : List Recorded) (r : Recorded) → text_on (state_of rs) r ≡ record_line pins rs r
  unfolding after
  line-next rs r = let g = given_by r rs in rw (at_own_lem r rs) (line-is pins (suc (length rs)) g.number g.bytes (events_of (r ∷ rs)))

  -- no record is left: the end of the log, or a refusal of the record that the replay is at
  stop-line : (number stop : ℕ) (es : List Event)
      → stop_text pins number stop (pins_of (after es)) ≡ joined (pick (eqb stop 0) [] (line_text number stop [] (letters_if pins es) ∷ [])) ++ last_line es
  stop-line number stop es = go (eqb stop 0)
    where
      go : (t : Bool) → pick t (pins_line (pins_of (after es))) (line_as pins number stop [] (pins_of (after es)) ++ pins_line (pins_of (after es)))
          ≡ joined (pick t [] (line_text number stop [] (letters_if pins es) ∷ [])) ++ last_line es
      go true = last-is es
      go false = refused-is pins es number stop

  -- behind the version byte that is the next one, and before it record 0
  stop-next : (stop : ℕ) (rs : List Recorded) → replayer.last (state_of rs) stop ≡ stopped true stop rs
  stop-next stop rs = stop-line (suc (length rs)) stop (events_of rs)

  stop-first : (stop : ℕ) → replayer.last (start pins) stop ≡ stopped false stop []
  unfolding start after
  stop-first stop = stop-line 0 stop []

  -- ---- the records behind a history, and where they stop
  lines-read : (es : List Entry) (stop : ℕ) (rs : List Recorded) → suc (length rs + length es) < 2 ^ 64 →
      let h = records_behind rs es in
      lines_text rs ++ text_of replayer (state_of rs) es stop ≡ lines_text h ++ stopped true stop h
  unfolding said_of
  lines-read [] stop rs room = ap (λ (t : List ℕ). lines_text rs ++ t) (stop-next stop rs)
  lines-read (e ∷ es) stop rs room =
      let few : suc (suc (length rs)) < 2 ^ 64 = omega arith in
      ap (λ (l : List ℕ). lines_text rs ++ (l ++ text_of replayer (replayer.next (state_of rs) e) es stop)) (line-next rs (record_of e))
      ∙ sym (append_assoc (lines_text rs) (record_line pins rs (record_of e)) _)
      ∙ (λ i. sym (one_more rs (record_of e)) i ++ text_of replayer (next-state rs (record_of e) few i) es stop)
      ∙ lines-read es stop (record_of e ∷ rs) (omega arith)

-- ---- the whole log
pub replay-prints : (pins : Bool) (log : List ℕ) → length log < 2 ^ 64 → printed pins log ≡ joined (lines_in pins log)
unfolding said_from walk_log lines_in history_of start record_lines after said_of
replay-prints pins log long = go (read_version log) (few-records log)
  where
    walked : ℕ → Walked Entry
    walked next = walk look_record (drop next log)

    go : (b : Result ℕ Refusal) → length (behind_version b walked).items ≤ length log - 1 →
        let l = behind_version b walked in
        let rs = records_behind [] l.items in
        text_of_log replayer (start pins) l ≡ joined (record_lines pins rs ++ (stop_lines pins l.begun l.stop rs ++ (last_line (events_of rs) ∷ [])))
    go (Ok next) few =
        let w = walked next in
        lines-read pins w.items w.stop [] (omega arith)
        ∙ whole-text pins true w.stop (records_behind [] w.items)
    go (Err refusal) few = let n = refusal_number refusal in stop-first pins n ∙ whole-text pins false n []

-- ---- line by line
-- there is a line for each record
line-count : (pins : Bool) (rs : List Recorded) → length (record_lines pins rs) ≡ length rs
unfolding record_lines
line-count pins [] = refl
line-count pins (r ∷ rs) = length-append (record_lines pins rs) (record_line pins rs r ∷ []) ∙ omega (arith, line-count pins rs)

length-behind : (rs : List Recorded) (es : List Entry) → length (records_behind rs es) ≡ length rs + length es
length-behind rs [] = omega arith
length-behind rs (e ∷ es) = length-behind (record_of e ∷ rs) es ∙ omega arith

each_line : (pins : Bool) (log : List ℕ) → length (record_lines pins (history_of log)) ≡ length (read_log log).items
unfolding history_of
each_line pins log = line-count pins (history_of log) ∙ length-behind [] (read_log log).items ∙ omega arith

at_place : (a b : List (List ℕ)) (l : List ℕ) (n : ℕ) → n ≡ length a → get_or (a ++ (l ∷ b)) n [] ≡ l
at_place [] b l zero h = refl
at_place [] b l (suc n) h = absurd (omega arith)
at_place (m ∷ a) b l zero h = absurd (omega arith)
at_place (m ∷ a) b l (suc n) h = at_place a b l n (omega arith)

-- the lines of an earlier history stay as they are
lines_stay : (pins : Bool) (later rs : List Recorded) → (more : List (List ℕ)) × (record_lines pins (later ++ rs) ≡ record_lines pins rs ++ more)
unfolding record_lines
lines_stay pins [] rs = ([], sym (append-nil (record_lines pins rs)))
lines_stay pins (r ∷ later) rs =
    let m = lines_stay pins later rs in
    let l = record_line pins (later ++ rs) r ∷ [] in
    (m.0 ++ l, ap (λ (ls : List (List ℕ)). ls ++ l) m.1 ∙ append_assoc (record_lines pins rs) m.0 _)

-- the line of a record: its number, and what its event gives after all that came before it
pub line_of : (pins : Bool) (log : List ℕ) (later rs : List Recorded) (r : Recorded) → StandsIn log rs r later → line_behind pins log rs ≡ record_line pins rs r
unfolding lines_in record_lines
line_of pins log later rs r h =
    let m = lines_stay pins later (r ∷ rs) in
    let is : record_lines pins (history_of log) ≡ record_lines pins rs ++ (record_line pins rs r ∷ m.0)
    = ap (record_lines pins) h ∙ m.1 ∙ append_assoc (record_lines pins rs) (record_line pins rs r ∷ []) m.0 in
    let t = stop_lines pins (read_log log).begun (read_log log).stop (history_of log) ++ (last_line (events_of (history_of log)) ∷ []) in
    ap (λ (l : List (List ℕ)). get_or (l ++ t) (length rs) []) is
    ∙ ap (λ (l : List (List ℕ)). get_or l (length rs) []) (append_assoc (record_lines pins rs) (record_line pins rs r ∷ m.0) t)
    ∙ at_place (record_lines pins rs) (m.0 ++ t) (record_line pins rs r) (length rs) (sym (line-count pins rs))

pub replayed : (pins : Bool) (log : List ℕ) → length log < 2 ^ 64 → Replayed pins log
replayed pins log long = record { text = replay-prints pins log long; each = each_line pins log; line = line_of pins log }
