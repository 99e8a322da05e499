-- Q-8: the text of a month as its reader finds it, line by line and word by word, for every number that stands in it. No contract cites these.
use Rattle.std.specs.Prelude.{ℕ, suc, ◌≤◌, List, [], ◌∷◌, ◌++◌, ◌≡◌, eqb, Option, Some, None, ℤ, pos, negsuc, length}
use Rattle.laws.specs.Choice.{pick}
use Rattle.codes.specs.declared.Range.{Range}
use Rattle.codes.specs.declared.Range.TheVariants.{G2, G4, G8, G16}
use Rattle.text.specs.Text.{ascii, newline, decimal}
use Rattle.sheets.specs.declared.Extremes.{Extremes}
use Rattle.sheets.specs.declared.Month.{Month}
use Rattle.sheets.specs.declared.Tally.{Tally}
use Rattle.measure.specs.Measure.{g_text}
use Rattle.sheetlines.specs.Lines.{month_text, longest_sheet}

-- ---- lines
-- a character in front of the first line
abbrev pub on_first : ℕ → List (List ℕ) → List (List ℕ)
on_first c [] = (c ∷ []) ∷ []
on_first c (l ∷ ls) = (c ∷ l) ∷ ls

-- what stands before each newline of a text, and what stands behind the last, where anything does
abbrev pub lines_of : List ℕ → List (List ℕ)
lines_of [] = []
lines_of (c ∷ cs) = pick (eqb c newline) ([] ∷ lines_of cs) (on_first c (lines_of cs))

-- lines as a text: "each line ended by a newline"
abbrev pub ended : List (List ℕ) → List ℕ
ended [] = []
ended (l ∷ ls) = l ++ (newline ∷ ended ls)

-- ---- words
-- one space between two
abbrev pub words : List (List ℕ) → List ℕ
words [] = []
words (w ∷ []) = w
words (w ∷ v ∷ ws) = w ++ (ascii " " ++ words (v ∷ ws))

-- "with `-` where negative"
abbrev pub signed : ℤ → List ℕ
signed (pos n) = decimal n
signed (negsuc n) = ascii "-" ++ decimal (suc n)

-- ---- the lines of a month
abbrev pub count_words : List ℕ → ℕ → List ℕ
count_words name n = words (name ∷ decimal n ∷ [])

-- "SMALLEST LARGEST SUM SMALLEST_IN_G LARGEST_IN_G", "none where no sample came"
abbrev pub extremes_words : Range → Option Extremes → ℤ → List (List ℕ)
extremes_words range None sum = ascii "none" ∷ []
extremes_words range (Some e) sum = signed e.smallest ∷ signed e.largest ∷ signed sum ∷ g_text e.smallest range ∷ g_text e.largest range ∷ []

abbrev pub tally_words : List ℕ → List ℕ → Range → Tally → List ℕ
tally_words name axis range t = words (name ∷ axis ∷ extremes_words range t.extremes t.sum)

-- nineteen, in this order
abbrev pub month_lines : Month → List (List ℕ)
month_lines m =
    count_words (ascii "accepted") m.sheet.accepted
    ∷ count_words (ascii "taken") m.sheet.taken
    ∷ count_words (ascii "held") m.sheet.held
    ∷ count_words (ascii "lost") m.sheet.lost
    ∷ count_words (ascii "cleared") m.sheet.cleared
    ∷ count_words (ascii "clock") m.sheet.clock
    ∷ tally_words (ascii "2g") (ascii "x") G2 m.sheet.ranges.g2.x
    ∷ tally_words (ascii "2g") (ascii "y") G2 m.sheet.ranges.g2.y
    ∷ tally_words (ascii "2g") (ascii "z") G2 m.sheet.ranges.g2.z
    ∷ tally_words (ascii "4g") (ascii "x") G4 m.sheet.ranges.g4.x
    ∷ tally_words (ascii "4g") (ascii "y") G4 m.sheet.ranges.g4.y
    ∷ tally_words (ascii "4g") (ascii "z") G4 m.sheet.ranges.g4.z
    ∷ tally_words (ascii "8g") (ascii "x") G8 m.sheet.ranges.g8.x
    ∷ tally_words (ascii "8g") (ascii "y") G8 m.sheet.ranges.g8.y
    ∷ tally_words (ascii "8g") (ascii "z") G8 m.sheet.ranges.g8.z
    ∷ tally_words (ascii "16g") (ascii "x") G16 m.sheet.ranges.g16.x
    ∷ tally_words (ascii "16g") (ascii "y") G16 m.sheet.ranges.g16.y
    ∷ tally_words (ascii "16g") (ascii "z") G16 m.sheet.ranges.g16.z
    ∷ words (ascii "logs" ∷ decimal m.logs ∷ ascii "refused" ∷ decimal m.refused ∷ [])
    ∷ []

pub record MonthSpelling (m : Month) : Type 0 where
  -- a reader who cuts the text at its newlines has these lines and no other
  pub lines : lines_of (month_text m) ≡ month_lines m
  pub nineteen : length (lines_of (month_text m)) ≡ 19
  -- and nothing stands in the text but these lines, each with its end
  pub whole : month_text m ≡ ended (month_lines m)
  -- where there is room for the longest there is room for it
  pub short : length (month_text m) ≤ longest_sheet
