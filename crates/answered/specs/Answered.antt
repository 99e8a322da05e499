-- docs/ANSWER.md, RANGE: what the answer prints as the range, in a stretch's line and in words, by 01's codes of the byte at 0x0F. In a history
-- the latest event stands first.
use Rattle.std.specs.Prelude.{ℕ, ◌%◌, Bool, true, List, ◌∷◌, ◌++◌, ◌≡◌, length, Option}
use Rattle.text.specs.Text.{ascii, decimal}
use Rattle.events.specs.Event.{Event}
use Rattle.paper.specs.Ranges.{is_known_range}
use Rattle.paper.specs.Stored.{byte_by}
use Rattle.recorded.specs.Recorded.{Recorded, events_of}
use Rattle.counts.specs.Counts.{sum}
use Rattle.counts.specs.declared.Doubt.{Doubt}
use Rattle.wording.specs.Wording.{range_line}
use Rattle.spelling.specs.Spelling.{spaced, doubt_text, because, from_then}
use Rattle.stretches.specs.Histories.{account_of, doubt_of, Stretch, Part, Each}
use Rattle.told.specs.Plain.{printed_stretches, seen_at, line_of}

-- the low nibble of the byte that a history leaves at 0x0F
abbrev pub code_by : List Event → ℕ
code_by es = byte_by es 0x0F % 16

-- "the codes 0011, 0101, 1000 and 1100 mean 2, 4, 8 and 16 g", as "`2g`, `4g`, `8g` or `16g`"; no other is ever stored
pub record SaysRange (es : List Event) (word : List ℕ) : Type 0 where
  pub 2g : code_by es ≡ 0b0011 → word ≡ ascii "2g"
  pub 4g : code_by es ≡ 0b0101 → word ≡ ascii "4g"
  pub 8g : code_by es ≡ 0b1000 → word ≡ ascii "8g"
  pub 16g : code_by es ≡ 0b1100 → word ≡ ascii "16g"
  pub known : is_known_range (byte_by es 0x0F) ≡ true

-- whether it is in doubt
abbrev pub doubt_by : List Recorded → Option Doubt
doubt_by rs = doubt_of 0x0F rs

-- "FROM TO RANGE ..": the third column of a stretch's line, "before its last record acts", with its mode or without
pub record ThirdColumn (moded : Bool) (s : Stretch) : Type 0 where
  pub word : List ℕ
  pub fourth : List ℕ
  pub columns_behind : List (List ℕ)
  pub line : line_of moded s
      ≡ spaced (decimal (sum (length s.from) 1) ∷ decimal (length s.to) ∷ (word ++ doubt_text (doubt_by (seen_at s))) ∷ fourth ∷ columns_behind)
  pub says : SaysRange (events_of (seen_at s)) word

-- in words, the range that is in force behind a history
pub record ToldRange (rs : List Recorded) : Type 0 where
  pub word : List ℕ
  pub line : range_line (account_of rs) ≡ spaced (from_then (account_of rs) (word ++ (doubt_text (doubt_by rs) ++ because (doubt_by rs) 0x0F)))
  pub says : SaysRange (events_of rs) word

-- of a whole log's records: every line of a stretch, and the words behind any of its records
pub record AnsweredRanges (rs : List Recorded) : Type 0 where
  pub lines : (moded : Bool) → Each (ThirdColumn moded) (printed_stretches rs)
  pub words : (earlier : List Recorded) → Part earlier rs → ToldRange earlier
