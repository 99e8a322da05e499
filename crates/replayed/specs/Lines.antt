-- 01, "Bench log and replay": the lines of a log's replay, from its records alone. In a history the latest stands first, of records as of
-- events. pins says whether the pins are to stand behind every record's line.
use Rattle.std.specs.Prelude.{ℕ, suc, Bool, true, false, List, [], ◌∷◌, ◌++◌, eqb, length}
use Rattle.laws.specs.Choice.{pick}
use Rattle.benchlog.specs.Whole.{read_log}
use Rattle.device.specs.Show.{pins_of}
use Rattle.events.specs.Event.{Event, Given, gives}
use Rattle.events.specs.Run.{after}
use Rattle.interrupts.specs.declared.Level.{Level}
use Rattle.interrupts.specs.declared.Level.TheVariants.{Low, High, Released}
use Rattle.text.specs.Text.{ascii, decimal, hex}
use Rattle.recorded.specs.Recorded.{Recorded, events_of, before_own, history_of}

-- ---- the pins
-- "two letters among 0, 1, Z"
abbrev pub level_text : Level → List ℕ
level_text Low = ascii "0"
level_text High = ascii "1"
level_text Released = ascii "Z"

-- of INT1, then of INT2, each behind a space: those of both levels, and those after a history
abbrev pub two_letters : Level → Level → List ℕ
two_letters int1 int2 = ascii " " ++ (level_text int1 ++ (ascii " " ++ level_text int2))

abbrev pub pin_letters : List Event → List ℕ
pin_letters es = two_letters (pins_of (after es)).int1 (pins_of (after es)).int2

-- where they are asked for
abbrev pub letters_if : Bool → List Event → List ℕ
letters_if true es = pin_letters es
letters_if false es = []

-- ---- a record's line
-- "after an accepted read also a space and the bytes in capital hex"
abbrev pub bytes_text : List ℕ → List ℕ
bytes_text [] = []
bytes_text (b ∷ bs) = ascii " " ++ hex (b ∷ bs)

-- "its number, a space and the answer"; behind the bytes the letters
abbrev pub line_text : ℕ → ℕ → List ℕ → List ℕ → List ℕ
line_text number answer bytes letters = decimal number ++ (ascii " " ++ (decimal answer ++ (bytes_text bytes ++ (letters ++ ascii "\n"))))

-- what a record's own event gives, after all that came before it
abbrev pub given_by : Recorded → List Recorded → Given
given_by r rs = gives (after (before_own r rs)) r.own

-- "per record": records are counted from 1; the pins as they are behind it
abbrev pub record_line : Bool → List Recorded → Recorded → List ℕ
record_line pins rs r = line_text (suc (length rs)) (given_by r rs).number (given_by r rs).bytes (letters_if pins (events_of (r ∷ rs)))

-- of every record, in order
unfoldable pub record_lines : Bool → List Recorded → List (List ℕ)
record_lines pins [] = []
record_lines pins (r ∷ rs) = record_lines pins rs ++ (record_line pins rs r ∷ [])

-- ---- where the replay stops, after a history
-- "7, 8 and 9 stop the replay", each with the number of the record that failed; "A refusal 7 or empty input prints record 0": where a log
-- does not begin with the version byte. An end has no line
abbrev pub stop_lines : Bool → Bool → ℕ → List Recorded → List (List ℕ)
stop_lines pins begun stop rs = pick (eqb stop 0) [] (line_text (pick begun (suc (length rs)) 0) stop [] (letters_if pins (events_of rs)) ∷ [])

-- "The last line is `pins` and two letters": the pins after all events that happened
abbrev pub last_line : List Event → List ℕ
last_line es = ascii "pins" ++ (pin_letters es ++ ascii "\n")

-- ---- all lines of a log
unfoldable pub lines_in : Bool → List ℕ → List (List ℕ)
lines_in pins log =
    let rs = history_of log in
    record_lines pins rs ++ (stop_lines pins (read_log log).begun (read_log log).stop rs ++ (last_line (events_of rs) ∷ []))
