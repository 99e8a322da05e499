-- What the words behind a program's name ask for.
use Rattle.std.specs.Prelude.{ℕ, ◌+◌, ◌-◌, ◌*◌, ◌^◌, Bool, true, false, not, List, [], ◌∷◌, eqb, ltb, length, Option, Some, None}
use Rattle.laws.specs.Choice.{pick, both}
use Rattle.text.specs.Text.{ascii, value}
use Rattle.answers.specs.declared.Asked.{Asked}
use Rattle.answers.specs.declared.Asked.TheVariants.{Stretches, Modes, Samples, Between, Whole}
use Rattle.arguments.specs.declared.SheetWanted.{SheetWanted}
use Rattle.arguments.specs.declared.SheetWanted.TheVariants as sheet

-- ---- numbers
-- a decimal digit in ASCII
abbrev pub is_digit : ℕ → Bool
is_digit c = both (not (ltb c 48)) (ltb c 58)

abbrev pub are_digits : List ℕ → Bool
are_digits [] = true
are_digits (c ∷ cs) = both (is_digit c) (are_digits cs)

-- all numbers are below it
abbrev pub limit : ℕ
limit = 2 ^ 64

-- decimal digits, at least one, that stand for a number of 64 bits
unfoldable pub number_of : List ℕ → Option ℕ
number_of w = pick (both (not (eqb (length w) 0)) (both (are_digits w) (ltb (value w) limit))) (Some (value w)) None

-- a number with one digit more
unfoldable pub with_digit : ℕ → ℕ → Option ℕ
with_digit n c = pick (both (is_digit c) (ltb (n * 10 + (c - 48)) limit)) (Some (n * 10 + (c - 48))) None

-- ---- words
unfoldable pub same_word : List ℕ → List ℕ → Bool
same_word [] [] = true
same_word [] (b ∷ t) = false
same_word (a ∷ s) [] = false
same_word (a ∷ s) (b ∷ t) = both (eqb a b) (same_word s t)

-- two numbers FROM TO with FROM below TO
abbrev pub between_of : Option ℕ → Option ℕ → Option Asked
between_of None upto = None
between_of (Some from) None = None
between_of (Some from) (Some upto) = pick (ltb from upto) (Some (Between from upto)) None

-- `modes`, `samples` or `all`
unfoldable pub by_word : List ℕ → Option Asked
by_word word =
    pick (same_word word (ascii "modes")) (Some Modes)
    (pick (same_word word (ascii "samples")) (Some Samples)
    (pick (same_word word (ascii "all")) (Some Whole) None))

-- none behind the program's name, which is counted; one of those; or FROM TO; and nothing else
unfoldable pub wanted_of : ℕ → List ℕ → List ℕ → Option Asked
wanted_of count first second =
    pick (eqb count 1) (Some Stretches)
    (pick (eqb count 2) (by_word first)
    (pick (eqb count 3) (between_of (number_of first) (number_of second)) None))

-- of the replay: none behind the program's name, or `pins`; and nothing else
unfoldable pub pins_wanted_of : ℕ → List ℕ → Option Bool
pins_wanted_of count first =
    pick (eqb count 1) (Some false)
    (pick (eqb count 2) (pick (same_word first (ascii "pins")) (Some true) None) None)

-- of the sheet: `print`, `raw`, `join` or `join-raw`
unfoldable pub sheet_by_word : List ℕ → Option SheetWanted
sheet_by_word word =
    pick (same_word word (ascii "print")) (Some sheet.Print)
    (pick (same_word word (ascii "raw")) (Some sheet.Raw)
    (pick (same_word word (ascii "join")) (Some sheet.Join)
    (pick (same_word word (ascii "join-raw")) (Some sheet.JoinRaw) None)))

-- behind the program's name, and a name behind it, at least
unfoldable pub sheet_wanted_of : ℕ → List ℕ → Option SheetWanted
sheet_wanted_of count first = pick (ltb count 3) None (sheet_by_word first)
