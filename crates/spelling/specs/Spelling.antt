-- docs/ANSWER.md: the lines of the answer as their reader finds them, word by word, for every number that stands in them. No contract
-- cites these. `from`, `before` and `behind` are what is known at the end of the stretch before, before the last record and behind it.
use Rattle.std.specs.Prelude.{ℕ, suc, Bool, true, false, List, [], ◌∷◌, ◌++◌, ◌≢◌, ◌≡◌, eqb, ℤ, pos, negsuc, Option, None, Some}
use Rattle.laws.specs.Choice.{pick}
use Rattle.codes.specs.declared.Mode.{Mode}
use Rattle.codes.specs.declared.Mode.TheVariants.{Bypass, Fifo, Stream}
use Rattle.codes.specs.declared.Mode.TheVariants as mode
use Rattle.codes.specs.declared.Range.{Range}
use Rattle.text.specs.Text.{ascii, decimal, hex}
use Rattle.counts.specs.Counts.{sum, less, in_g}
use Rattle.counts.specs.declared.Account.{Account}
use Rattle.counts.specs.declared.Counts.{Counts}
use Rattle.counts.specs.declared.Doubt.{Doubt}
use Rattle.counts.specs.declared.Why.{Why}
use Rattle.counts.specs.declared.Why.TheVariants as why
use Rattle.wording.specs.Wording.{stretch_line, moded_line, last_line, sample_line, refused_line, range_line, mode_line, totals_line, short_line, over_line}

-- "One space stands between the columns", and the line's end behind the last
abbrev pub spaced : List (List ℕ) → List ℕ
spaced [] = ascii "\n"
spaced (w ∷ []) = w ++ ascii "\n"
spaced (w ∷ v ∷ ws) = w ++ (ascii " " ++ spaced (v ∷ ws))

-- ---- words
-- "`2g`, `4g`, `8g` or `16g`"; no other range is ever in force
abbrev pub g_text : Range → List ℕ
g_text r = pick (eqb (in_g r) 0) (ascii "?") (decimal (in_g r)) ++ ascii "g"

-- "`BYPASS`, `FIFO` or `STREAM`", and the frames that it has room for: "BYPASS, with room for one frame"; 32. No other is ever in force
abbrev pub mode_text : Mode → List ℕ
mode_text Bypass = ascii "BYPASS"
mode_text Fifo = ascii "FIFO"
mode_text Stream = ascii "STREAM"
mode_text mode.Reserved = ascii "?"

abbrev pub room_text : Mode → List ℕ
room_text Bypass = ascii ", 1 frame"
room_text Fifo = ascii ", 32 frames"
room_text Stream = ascii ", 32 frames"
room_text mode.Reserved = ascii ", no frame"

-- "behind it `?`" while it is in doubt
abbrev pub doubt_text : Option Doubt → List ℕ
doubt_text None = []
doubt_text (Some d) = ascii "?"

-- ", because record 2 wrote 07 to 0F and was refused", by the address
abbrev pub because : Option Doubt → ℕ → List ℕ
because None address = []
because (Some d) address =
    ascii ", because record " ++ (decimal d.number ++ (ascii " wrote " ++ (hex (d.byte ∷ []) ++ (ascii " to " ++ (hex (address ∷ []) ++ ascii " and was refused")))))

-- "WHY: `readout`, `range`, `refused`, `reset` or `rest`"
abbrev pub why_text : Option Why → List ℕ
why_text (Some why.Readout) = ascii "readout"
why_text (Some why.Range) = ascii "range"
why_text (Some why.Refused) = ascii "refused"
why_text (Some why.Reset) = ascii "reset"
why_text None = ascii "rest"

-- X, Y or Z
abbrev pub coordinate : ℤ → List ℕ
coordinate (pos n) = decimal n
coordinate (negsuc n) = ascii "-" ++ decimal (suc n)

-- ---- counts: how many were counted from one record to another
module _ (from behind : Account) where
  abbrev pub count_text : (Counts → ℕ) → List ℕ
  count_text count = decimal (less (count behind.counts) (count from.counts))

  -- "records 1 to 86: 40 accepted, 16 taken, 8 lost, 0 cleared, 0 held before, 16 held after, 1 refused"
  abbrev pub TotalsSpelling : Type 0
  TotalsSpelling = totals_line from behind
      ≡ spaced
      (ascii "records"
      ∷ decimal (sum from.number 1)
      ∷ ascii "to"
      ∷ (decimal behind.number ++ ascii ":")
      ∷ count_text (λ n. n.accepted)
      ∷ ascii "accepted,"
      ∷ count_text (λ n. n.taken)
      ∷ ascii "taken,"
      ∷ count_text (λ n. n.lost)
      ∷ ascii "lost,"
      ∷ count_text (λ n. n.cleared)
      ∷ ascii "cleared,"
      ∷ decimal from.held
      ∷ ascii "held before,"
      ∷ decimal behind.held
      ∷ ascii "held after,"
      ∷ count_text (λ n. n.refused)
      ∷ ascii "refused"
      ∷ [])

  -- "FROM TO RANGE ACCEPTED TAKEN LOST CLEARED HELD REFUSED WHY", and more columns
  module _ (before : Account) (w : Option Why) where
    abbrev pub columns_then : List (List ℕ) → List (List ℕ)
    columns_then more =
        decimal (sum from.number 1)
        ∷ decimal behind.number
        ∷ (g_text before.range ++ doubt_text before.doubts.range)
        ∷ count_text (λ n. n.accepted)
        ∷ count_text (λ n. n.taken)
        ∷ count_text (λ n. n.lost)
        ∷ count_text (λ n. n.cleared)
        ∷ decimal behind.held
        ∷ count_text (λ n. n.refused)
        ∷ why_text w
        ∷ more

    pub record StretchSpelling : Type 0 where
      pub plain : stretch_line from before behind w ≡ spaced (columns_then [])
      -- with "MODE" as "the last column"
      pub moded : moded_line from before behind w ≡ spaced (columns_then ((mode_text before.mode ++ doubt_text before.doubts.mode) ∷ []))

-- "The last line is `end N`, N records, or `stop N R`: record N was refused R"; "0 stands for the version byte". And in words: "`the log ends
-- after record 89`, or `the log was refused 9 at record 4`; record 0 is the version byte"
pub record EndSpelling (records refusal : ℕ) : Type 0 where
  pub ended : (begun : Bool) → last_line begun records 0 ≡ spaced (ascii "end" ∷ decimal records ∷ [])
  pub stopped : refusal ≢ 0 → last_line true records refusal ≡ spaced (ascii "stop" ∷ decimal (sum records 1) ∷ decimal refusal ∷ [])
  pub at_once : refusal ≢ 0 → last_line false records refusal ≡ spaced (ascii "stop" ∷ ascii "0" ∷ decimal refusal ∷ [])
  pub over : (begun : Bool) → over_line begun records 0 ≡ spaced (ascii "the log ends after record" ∷ decimal records ∷ [])
  pub over_stopped : refusal ≢ 0
      → over_line true records refusal ≡ spaced (ascii "the log was refused" ∷ decimal refusal ∷ ascii "at record" ∷ decimal (sum records 1) ∷ [])
  pub over_at_once : refusal ≢ 0 → over_line false records refusal ≡ spaced (ascii "the log was refused" ∷ decimal refusal ∷ ascii "at record 0" ∷ [])

-- "Where the log ends before TO, .. that the rest is not known"
module _ (records asked : ℕ) where
  abbrev pub not_known : List (List ℕ)
  not_known = (decimal records ++ ascii ";") ∷ ascii "what came up to record" ∷ decimal asked ∷ ascii "is not known" ∷ []

  pub record ShortSpelling (refusal : ℕ) : Type 0 where
    pub ended : short_line 0 records asked ≡ spaced (ascii "the log ends after record" ∷ not_known)
    pub stopped : refusal ≢ 0 → short_line refusal records asked ≡ spaced (ascii "the log was refused" ∷ decimal refusal ∷ ascii "after record" ∷ not_known)

-- ---- samples: "`sample N X Y Z LOST BACK`"
abbrev pub SampleSpelling : Type 0
SampleSpelling = (number : ℕ) (x y z : ℤ) (lost back : ℕ)
    → sample_line number x y z lost back ≡ spaced (ascii "sample" ∷ decimal number ∷ coordinate x ∷ coordinate y ∷ coordinate z ∷ decimal lost ∷ decimal back ∷ [])

-- ---- words
-- "record 2 wrote 07 to 0F and was refused 2"
abbrev pub RefusedSpelling : Type 0
RefusedSpelling = (number byte address refusal : ℕ)
    → refused_line number byte address refusal
    ≡ spaced
    (ascii "record"
    ∷ decimal number
    ∷ ascii "wrote"
    ∷ hex (byte ∷ [])
    ∷ ascii "to"
    ∷ hex (address ∷ [])
    ∷ ascii "and was refused"
    ∷ decimal refusal
    ∷ [])

-- "from record 3: 16g?, because record 2 wrote 07 to 0F and was refused"; "from record 5: FIFO, 32 frames"
module _ (a : Account) where
  abbrev pub from_then : List ℕ → List (List ℕ)
  from_then said = ascii "from record" ∷ (decimal (sum a.number 1) ++ ascii ":") ∷ said ∷ []

  pub record InForceSpelling : Type 0 where
    pub range : range_line a ≡ spaced (from_then (g_text a.range ++ (doubt_text a.doubts.range ++ because a.doubts.range 0x0F)))
    pub mode : mode_line a
        ≡ spaced (from_then (mode_text a.mode ++ (doubt_text a.doubts.mode ++ (room_text a.mode ++ because a.doubts.mode 0x3E))))
