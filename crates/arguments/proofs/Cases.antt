-- What words ask for, letter by letter.
-- Assumes nothing.
use mathlib.Core.Bool.{true, false}
use mathlib.Core.List.{[]}
use mathlib.Core.Path.{◌≡◌, refl}
use Rattle.std.specs.Prelude.{Some, None}
use Rattle.text.specs.Text.{ascii}
use Rattle.answers.specs.declared.Asked.TheVariants.{Stretches, Modes, Samples, Between, Whole}
use Rattle.arguments.specs.Words.{number_of, same_word, by_word, wanted_of, pins_wanted_of, sheet_by_word, sheet_wanted_of}
use Rattle.arguments.specs.declared.SheetWanted.TheVariants as sheet

-- the first is FROM, the second TO
pub from-to : wanted_of 3 (ascii "7") (ascii "12") ≡ Some (Between 7 12)
unfolding wanted_of number_of
from-to = refl

pub not-below : wanted_of 3 (ascii "12") (ascii "12") ≡ None
unfolding wanted_of number_of
not-below = refl

pub no_words : wanted_of 1 [] [] ≡ Some Stretches
unfolding wanted_of
no_words = refl

pub samples-too : wanted_of 2 (ascii "samples") [] ≡ Some Samples
unfolding wanted_of by_word same_word
samples-too = refl

pub modes-too : wanted_of 2 (ascii "modes") [] ≡ Some Modes
unfolding wanted_of by_word same_word
modes-too = refl

pub all-of-it : wanted_of 2 (ascii "all") [] ≡ Some Whole
unfolding wanted_of by_word same_word
all-of-it = refl

pub another-word : wanted_of 2 (ascii "sample") [] ≡ None
unfolding wanted_of by_word same_word
another-word = refl

-- "Any other words": none, and one more than FROM TO
pub no_name : wanted_of 0 [] [] ≡ None
unfolding wanted_of
no_name = refl

pub word-too-many : wanted_of 4 (ascii "7") (ascii "12") ≡ None
unfolding wanted_of number_of
word-too-many = refl

-- no digit at all, and the characters beside the digits
pub no_digit : number_of [] ≡ None
unfolding number_of
no_digit = refl

pub before-0 : number_of (ascii "1/") ≡ None
unfolding number_of
before-0 = refl

pub behind-9 : number_of (ascii "1:") ≡ None
unfolding number_of
behind-9 = refl

-- 64 bits, and one more
pub largest : number_of (ascii "18446744073709551615") ≡ Some 18446744073709551615
unfolding number_of
largest = refl

pub too_large : number_of (ascii "18446744073709551616") ≡ None
unfolding number_of
too_large = refl

-- of the replay: no word asks for no pins, `pins` for them, and no other word for either
pub plain-replay : pins_wanted_of 1 [] ≡ Some false
unfolding pins_wanted_of
plain-replay = refl

pub pins-too : pins_wanted_of 2 (ascii "pins") ≡ Some true
unfolding pins_wanted_of same_word
pins-too = refl

pub another-pin : pins_wanted_of 2 (ascii "pin") ≡ None
unfolding pins_wanted_of same_word
another-pin = refl

pub two-words : pins_wanted_of 3 (ascii "pins") ≡ None
unfolding pins_wanted_of
two-words = refl

-- of the sheet: each word with a name behind it, none without one, and no other word
pub print-sheet : sheet_wanted_of 3 (ascii "print") ≡ Some sheet.Print
unfolding sheet_wanted_of sheet_by_word same_word
print-sheet = refl

pub raw-sheet : sheet_wanted_of 3 (ascii "raw") ≡ Some sheet.Raw
unfolding sheet_wanted_of sheet_by_word same_word
raw-sheet = refl

pub join-sheets : sheet_wanted_of 4 (ascii "join") ≡ Some sheet.Join
unfolding sheet_wanted_of sheet_by_word same_word
join-sheets = refl

pub join-raw-sheets : sheet_wanted_of 5 (ascii "join-raw") ≡ Some sheet.JoinRaw
unfolding sheet_wanted_of sheet_by_word same_word
join-raw-sheets = refl

pub no-log : sheet_wanted_of 2 (ascii "print") ≡ None
unfolding sheet_wanted_of
no-log = refl

pub another-sheet : sheet_wanted_of 3 (ascii "join-") ≡ None
unfolding sheet_wanted_of sheet_by_word same_word
another-sheet = refl
