-- What the answer prints, in ASCII: a line for a stretch, a sample, a range, a mode, a refused write or the totals, and the last line. `from`, `before` and
-- `behind` are what is known at the end of the stretch before, before the record and behind it.
use Rattle.std.specs.Prelude.{ℕ, ◌≤◌, Bool, List, [], ◌∷◌, ◌++◌, length, ℤ, pos, ◌==◌, int_lt, unsigned_abs, Option, None, Some}
use Prim.Native.String.{String}
use Rattle.laws.specs.Choice.{pick}
use Rattle.benchlog.specs.Answers.{stop_number}
use Rattle.codes.specs.Addresses.{range_at, control_at}
use Rattle.codes.specs.declared.Mode.{Mode}
use Rattle.codes.specs.declared.Mode.TheVariants.{Bypass, Fifo, Stream}
use Rattle.codes.specs.declared.Mode.TheVariants as mode
use Rattle.codes.specs.declared.Range.{Range}
use Rattle.codes.specs.declared.Range.TheVariants.{G2, G4, G8, G16, Reserved}
use Rattle.text.specs.Text.{ascii, decimal, hex, Pushed}
use Rattle.counts.specs.Counts.{sum, differences}
use Rattle.counts.specs.declared.Account.{Account}
use Rattle.counts.specs.declared.Counts.{Counts}
use Rattle.counts.specs.declared.Doubt.{Doubt}
use Rattle.counts.specs.declared.Why.{Why}
use Rattle.counts.specs.declared.Why.TheVariants.{Readout, Refused, Reset}
use Rattle.counts.specs.declared.Why.TheVariants as why
use Rattle.wording.specs.declared.Line.{Line}
use Rattle.wording.specs.declared.Line.TheVariants as line

-- no line is longer
abbrev pub longest_wording : ℕ
longest_wording = 320

-- a text of so many bytes at most stands in out from at on, and next is the place behind it
pub record Spelt (most : ℕ) (out : List ℕ) (at : ℕ) (text out' : List ℕ) (next : ℕ) : Type 0 where
  pub pushed : Pushed out at text out' next
  pub short : length text ≤ most

-- a number, and words behind it
abbrev pub phrase : ℕ → String → List ℕ
phrase n words = decimal n ++ ascii words

abbrev pub column : ℕ → List ℕ
column n = phrase n " "

-- "`2g`, `4g`, `8g`, `16g`"; no other code is ever stored
abbrev pub range_word : Range → List ℕ
range_word G2 = ascii "2g"
range_word G4 = ascii "4g"
range_word G8 = ascii "8g"
range_word G16 = ascii "16g"
range_word Reserved = ascii "?g"

-- the modes of 0x3E; the reserved one is never stored
abbrev pub mode_word : Mode → List ℕ
mode_word Bypass = ascii "BYPASS"
mode_word Fifo = ascii "FIFO"
mode_word Stream = ascii "STREAM"
mode_word mode.Reserved = ascii "?"

-- `?` behind a range or a mode "while the last write to 0x0F", or 0x3E, ".. was a refused one"
abbrev pub doubt_sign : Option Doubt → List ℕ
doubt_sign None = []
doubt_sign (Some d) = ascii "?"

-- ---- stretches
-- the range, and whether it is in doubt
abbrev pub range_column : Range → Option Doubt → List ℕ
range_column r d = range_word r ++ (doubt_sign d ++ ascii " ")

-- the word of what ended a stretch; where nothing did, it is the rest
abbrev pub why_word : Option Why → List ℕ
why_word None = ascii "rest"
why_word (Some Readout) = ascii "readout"
why_word (Some why.Range) = ascii "range"
why_word (Some Refused) = ascii "refused"
why_word (Some Reset) = ascii "reset"

-- "ACCEPTED TAKEN LOST CLEARED HELD REFUSED"
abbrev pub counts_text : Counts → ℕ → List ℕ
counts_text n held = column n.accepted ++ (column n.taken ++ (column n.lost ++ (column n.cleared ++ (column held ++ column n.refused))))

-- "FROM TO RANGE ACCEPTED TAKEN LOST CLEARED HELD REFUSED WHY"
unfoldable pub stretch_columns : Account → Account → Account → Option Why → List ℕ
stretch_columns from before behind w =
    column (sum from.number 1)
    ++ (column behind.number
    ++ (range_column before.range before.doubts.range
    ++ (counts_text (differences from.counts behind.counts) behind.held
    ++ why_word w)))

unfoldable pub stretch_line : Account → Account → Account → Option Why → List ℕ
stretch_line from before behind w = stretch_columns from before behind w ++ ascii "\n"

-- the same with an eleventh column, MODE
unfoldable pub moded_line : Account → Account → Account → Option Why → List ℕ
moded_line from before behind w =
    stretch_columns from before behind w
    ++ (ascii " "
    ++ (mode_word before.mode
    ++ (doubt_sign before.doubts.mode
    ++ ascii "\n")))

-- the record that was refused, by whether the version byte is past and how many records there are
abbrev pub stopped_at : Bool → ℕ → ℕ
stopped_at begun number = pick begun (sum number 1) 0

-- "The last line is `end N` (N records) or `stop N R` (record N was refused R; `stop 0 7`, `stop 0 9`)"
unfoldable pub last_line : Bool → ℕ → ℕ → List ℕ
last_line begun number refusal =
    pick (refusal == 0)
    (ascii "end " ++ phrase number "\n")
    (ascii "stop " ++ (column (stopped_at begun number) ++ phrase refusal "\n"))

-- ---- samples
-- a signed number, and a space behind it
unfoldable pub signed_column : ℤ → List ℕ
signed_column z = pick (int_lt z (pos 0)) (ascii "-") [] ++ column (unsigned_abs z)

-- "sample N X Y Z LOST BACK": of an accepted sample, how many its arrival lost, and which
unfoldable pub sample_line : ℕ → ℤ → ℤ → ℤ → ℕ → ℕ → List ℕ
sample_line number x y z lost back =
    ascii "sample " ++ (column number ++ (signed_column x ++ (signed_column y ++ (signed_column z ++ (column lost ++ phrase back "\n")))))

-- ---- words
-- a refused write: its record, its byte and its address
unfoldable pub wrote_text : ℕ → ℕ → ℕ → List ℕ
wrote_text number byte address =
    phrase number " wrote " ++ (hex (byte ∷ []) ++ (ascii " to " ++ (hex (address ∷ []) ++ ascii " and was refused")))

-- "record N wrote BB to AA and was refused K"
unfoldable pub refused_line : ℕ → ℕ → ℕ → ℕ → List ℕ
refused_line number byte address refusal = ascii "record " ++ (wrote_text number byte address ++ (ascii " " ++ phrase refusal "\n"))

-- why what the register at an address sets is in doubt, where it is
abbrev pub because_text : Option Doubt → ℕ → List ℕ
because_text None address = ascii "\n"
because_text (Some d) address = ascii ", because record " ++ (wrote_text d.number d.byte address ++ ascii "\n")

-- from the next record on
abbrev pub from_text : ℕ → List ℕ
from_text number = ascii "from record " ++ phrase (sum number 1) ": "

-- the range that is in force
unfoldable pub range_line : Account → List ℕ
range_line a = from_text a.number ++ (range_word a.range ++ (doubt_sign a.doubts.range ++ because_text a.doubts.range range_at))

-- how deep the FIFO is: "32 frames; in BYPASS 1"
abbrev pub frames_word : Mode → List ℕ
frames_word Bypass = ascii ", 1 frame"
frames_word Fifo = ascii ", 32 frames"
frames_word Stream = ascii ", 32 frames"
frames_word mode.Reserved = ascii ", no frame"

-- the mode that is in force
unfoldable pub mode_line : Account → List ℕ
mode_line a =
    from_text a.number
    ++ (mode_word a.mode
    ++ (doubt_sign a.doubts.mode
    ++ (frames_word a.mode
    ++ because_text a.doubts.mode control_at)))

-- the counts in between, in words
abbrev pub totals_text : Counts → List ℕ
totals_text n = phrase n.accepted " accepted, " ++ (phrase n.taken " taken, " ++ (phrase n.lost " lost, " ++ phrase n.cleared " cleared, "))

abbrev pub held_text : ℕ → ℕ → ℕ → List ℕ
held_text before behind refused = phrase before " held before, " ++ (phrase behind " held after, " ++ phrase refused " refused\n")

-- what came after `from`, up to `to`
unfoldable pub totals_line : Account → Account → List ℕ
totals_line from to =
    ascii "records "
    ++ (phrase (sum from.number 1) " to "
    ++ (phrase to.number ": "
    ++ (totals_text (differences from.counts to.counts)
    ++ held_text from.held to.held (differences from.counts to.counts).refused)))

-- what "lost" is about
abbrev pub lost_line : List ℕ
lost_line = ascii "lost: no readout of the FIFO (a read at 3F) can give them; a read of 02 to 07 is no readout\n"

abbrev pub no_readout_line : List ℕ
no_readout_line = ascii "in these records no readout came\n"

-- the log stopped after so many records, by a refusal (0 where it ended), before the record that was asked for
abbrev pub ended_word : ℕ → List ℕ
ended_word refusal = pick (refusal == 0) (ascii "the log ends") (ascii "the log was refused " ++ decimal refusal)

unfoldable pub short_line : ℕ → ℕ → ℕ → List ℕ
short_line refusal number asked =
    ended_word refusal
    ++ (ascii " after record "
    ++ (phrase number "; what came up to record " ++ phrase asked " is not known\n"))

-- how the log ended, where all of it was asked for: record 0 is its version byte
unfoldable pub over_line : Bool → ℕ → ℕ → List ℕ
over_line begun number refusal =
    pick (refusal == 0)
    (ascii "the log ends after record " ++ phrase number "\n")
    (ascii "the log was refused " ++ (phrase refusal " at record " ++ phrase (stopped_at begun number) "\n"))

-- ---- a line as data
abbrev pub line_text : Line → List ℕ
line_text (line.Stretch from before behind w) = stretch_line from before behind w
line_text (line.Moded from before behind w) = moded_line from before behind w
line_text (line.Last begun number refusal) = last_line begun number (stop_number refusal)
line_text (line.Range a) = range_line a
line_text (line.Mode a) = mode_line a
line_text (line.Refused number byte address refusal) = refused_line number byte address refusal
line_text (line.Totals from to) = totals_line from to
line_text line.Lost = lost_line
line_text line.NoReadout = no_readout_line
line_text (line.Short refusal number asked) = short_line (stop_number refusal) number asked
line_text (line.Over begun number refusal) = over_line begun number (stop_number refusal)
