-- Q-8: the text of a sheet over many logs, in ASCII, each line ended by a newline:
--
--     accepted N
--     taken N
--     held N
--     lost N
--     cleared N
--     clock N
--     2g x SMALLEST LARGEST SUM SMALLEST_IN_G LARGEST_IN_G      (2g x none, where no sample came)
--     2g y ..
--     2g z ..
--     4g, 8g and 16g likewise
--     logs N refused M
use Rattle.std.specs.Prelude.{ℕ, List, ◌++◌, Option, Some, None, ℤ}
use Rattle.codes.specs.declared.Range.{Range}
use Rattle.codes.specs.declared.Range.TheVariants.{G2, G4, G8, G16}
use Rattle.text.specs.Text.{ascii}
use Rattle.sheets.specs.declared.ByAxis.{ByAxis}
use Rattle.sheets.specs.declared.ByRange.{ByRange}
use Rattle.sheets.specs.declared.Extremes.{Extremes}
use Rattle.sheets.specs.declared.Month.{Month}
use Rattle.sheets.specs.declared.Sheet.{Sheet}
use Rattle.sheets.specs.declared.Tally.{Tally}
use Rattle.wording.specs.Wording.{phrase, signed_column}
use Rattle.measure.specs.Measure.{g_text}

-- ---- counts
-- a name with a space, and a number
abbrev pub count_line : List ℕ → ℕ → List ℕ
count_line name n = name ++ phrase n "\n"

unfoldable pub counts_text : Sheet → List ℕ
counts_text s =
    count_line (ascii "accepted ") s.accepted
    ++ (count_line (ascii "taken ") s.taken
    ++ (count_line (ascii "held ") s.held
    ++ (count_line (ascii "lost ") s.lost
    ++ (count_line (ascii "cleared ") s.cleared
    ++ count_line (ascii "clock ") s.clock))))

-- ---- what the samples of one axis in one range come to
-- "SMALLEST_IN_G LARGEST_IN_G", by the scale of the range
unfoldable pub in_g_text : Range → ℤ → ℤ → List ℕ
in_g_text range smallest largest = g_text smallest range ++ (ascii " " ++ (g_text largest range ++ ascii "\n"))

-- "SMALLEST LARGEST SUM SMALLEST_IN_G LARGEST_IN_G"
unfoldable pub numbers_text : Range → ℤ → ℤ → ℤ → List ℕ
numbers_text range smallest largest sum = signed_column smallest ++ (signed_column largest ++ (signed_column sum ++ in_g_text range smallest largest))

-- "none where no sample came"
abbrev pub extremes_text : Range → Option Extremes → ℤ → List ℕ
extremes_text range None sum = ascii "none\n"
extremes_text range (Some e) sum = numbers_text range e.smallest e.largest sum

-- behind the range's name, and the axis between two spaces
unfoldable pub tally_line : List ℕ → List ℕ → Range → Tally → List ℕ
tally_line name axis range t = name ++ (axis ++ extremes_text range t.extremes t.sum)

unfoldable pub axes_text : List ℕ → Range → ByAxis → List ℕ
axes_text name range a =
    tally_line name (ascii " x ") range a.x
    ++ (tally_line name (ascii " y ") range a.y
    ++ tally_line name (ascii " z ") range a.z)

unfoldable pub ranges_text : ByRange → List ℕ
ranges_text r =
    axes_text (ascii "2g") G2 r.g2
    ++ (axes_text (ascii "4g") G4 r.g4
    ++ (axes_text (ascii "8g") G8 r.g8
    ++ axes_text (ascii "16g") G16 r.g16))

-- ---- all of it
abbrev pub logs_line : ℕ → ℕ → List ℕ
logs_line logs refused = ascii "logs " ++ (phrase logs " refused " ++ phrase refused "\n")

unfoldable pub month_text : Month → List ℕ
month_text m = counts_text m.sheet ++ (ranges_text m.sheet.ranges ++ logs_line m.logs m.refused)

-- a count in g, however large: a sign, 20 digits, the point and ten digits
abbrev pub most_in_g : ℕ
most_in_g = 32

-- no month has a longer text: 165 bytes of counts, nine lines of 137 and three of 138, and 55 for the logs
abbrev pub longest_sheet : ℕ
longest_sheet = 1867
