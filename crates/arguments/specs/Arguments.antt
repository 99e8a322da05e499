-- What the words behind a program's name ask for, from their count and their bytes alone, as the programs say it of themselves. `answer`: "it
-- takes no argument, one of the words modes, samples and all, or two record numbers, of which the first is smaller"; `replay`: "it takes no
-- argument, or the word pins". None contract cites these.
use Rattle.std.specs.Prelude.{ℕ, ◌+◌, ◌-◌, ◌*◌, ◌^◌, ◌≤◌, ◌<◌, Bool, true, false, ◌↔◌, ◌≢◌, ◌≡◌, length, Option, Some, None}
use mathlib.Core.List.{List, [], ◌∷◌, Memᴰ}
use Rattle.text.specs.Text.{ascii}
use Rattle.answers.specs.declared.Asked.{Asked}
use Rattle.answers.specs.declared.Asked.TheVariants.{Stretches, Modes, Samples, Between, Whole}

-- by place value: a digit is worth ten times as much for each digit to the right of it
abbrev pub place_value : List ℕ → ℕ
place_value [] = 0
place_value (c ∷ cs) = (c - 48) * 10 ^ length cs + place_value cs

-- a record number n in decimal: at least one character, each of `0` to `9`, 48 to 57 in ASCII, and n has 64 bits at most
pub record Numeral (word : List ℕ) (n : ℕ) : Type 0 where
  pub some : word ≢ []
  pub digits : (c : ℕ) → Memᴰ c word → (48 ≤ c) × (c ≤ 57)
  pub value : n ≡ place_value word
  pub fits : n < 2 ^ 64

-- by so many words, of which the program's name is one, and by the two behind it
module _ (count : ℕ) (first second : List ℕ) where
  -- the words that ask `answer` for each thing that can be asked
  abbrev pub Asks : Asked → Type 0
  Asks Stretches = count ≡ 1
  Asks Modes = (count ≡ 2) × (first ≡ ascii "modes")
  Asks Samples = (count ≡ 2) × (first ≡ ascii "samples")
  Asks Whole = (count ≡ 2) × (first ≡ ascii "all")
  Asks (Between from upto) = (count ≡ 3) × Numeral first from × Numeral second upto × (from < upto)

  -- each is asked for by these words alone, and all others are wrong
  pub record AnswerAsked (wanted : Option Asked) : Type 0 where
    pub asked : (a : Asked) → (wanted ≡ Some a) ↔ Asks a
    pub wrong : (wanted ≡ None) ↔ ((a : Asked) → ¬ Asks a)

module _ (count : ℕ) (first : List ℕ) where
  -- the words that ask `replay` for lines without pins and with them
  abbrev pub AsksPins : Bool → Type 0
  AsksPins false = count ≡ 1
  AsksPins true = (count ≡ 2) × (first ≡ ascii "pins")

  pub record ReplayAsked (wanted : Option Bool) : Type 0 where
    pub asked : (with_pins : Bool) → (wanted ≡ Some with_pins) ↔ AsksPins with_pins
    pub wrong : (wanted ≡ None) ↔ ((with_pins : Bool) → ¬ AsksPins with_pins)
