-- What the answer prints as the range is what 01 gives the byte which the events leave at 0x0F, in every line and after any record of a log.
-- Assumes nothing.
use Prim.Native.Nat.{ℕ}
use mathlib.Core.Bool.{Bool, true, false}
use mathlib.Core.List.{List, [], ◌∷◌, ◌++◌}
use mathlib.Core.Path.{◌≡◌, refl, sym, ap, ◌∙◌}
use borrow.Author.Tests.{not-false}
use lib.ListN.{drop}
use Rattle.laws.specs.Keys.{meaning_of}
use Rattle.codes.specs.Range.{is_reserved_range}
use Rattle.codes.specs.declared.Range.{Range}
use Rattle.codes.specs.declared.Range.TheVariants.{G2, G4, G8, G16, Reserved}
use Rattle.text.specs.Text.{ascii, decimal, last_digits}
use Rattle.counts.specs.Counts.{in_g}
use Rattle.counts.specs.declared.Account.{Account}
use Rattle.spelling.specs.Spelling.{spaced, g_text, mode_text, doubt_text, count_text, columns_then}
use Rattle.spelling.proofs.Spelling.{stretch-spelt, in-force-spelt}
use Rattle.recorded.specs.Recorded.{Recorded, events_of, history_of}
use Rattle.paper.specs.Ranges.{ranges}
use Rattle.paper.specs.Stored.{byte_by}
use Rattle.paper.proofs.Refused.{reserved-range}
use Rattle.stretches.specs.Histories.{account_of, Stretch, Each}
use Rattle.stretches.proofs.Ranges.{range-known}
use Rattle.told.specs.Plain.{printed_stretches, seen_at, line_of}
use Rattle.ranges.proofs.Ranges.{range-means}
use Rattle.answered.specs.Answered.{code_by, SaysRange, ThirdColumn, ToldRange, AnsweredRanges}

-- ---- the word
-- a range's word has its g
abbrev in_words : ℕ → List ℕ
in_words g = decimal g ++ ascii "g"

word-is : (r : Range) → is_reserved_range r ≡ false → g_text r ≡ in_words (in_g r)
word-is G2 k = refl
word-is G4 k = refl
word-is G8 k = refl
word-is G16 k = refl
word-is Reserved k = cc

module _ (rs : List Recorded) where
  said : (code : ℕ) → code_by (events_of rs) ≡ code → g_text (account_of rs).range ≡ in_words (meaning_of ranges 0 code)
  said code is = word-is (account_of rs).range (range-known rs) ∙ ap in_words (range-means (byte_by (events_of rs) 0x0F) ∙ ap (meaning_of ranges 0) is)

  pub says_range : SaysRange (events_of rs) (g_text (account_of rs).range)
  unfolding decimal last_digits
  says_range = record {
    2g = said 0b0011;
    4g = said 0b0101;
    8g = said 0b1000;
    16g = said 0b1100;
    known = not-false _ (sym (reserved-range (byte_by (events_of rs) 0x0F)) ∙ range-known rs);
  }

  pub told-range : ToldRange rs
  told-range = record { word = g_text (account_of rs).range; line = (in-force-spelt (account_of rs)).range; says = says_range }

-- ---- the third column
third-column : (moded : Bool) (s : Stretch) → ThirdColumn moded s
third-column moded s = go moded
  where
    from : Account
    from = account_of s.from

    seen : Account
    seen = account_of (seen_at s)

    to : Account
    to = account_of s.to

    -- by the columns behind WHY
    with-more : (m : Bool) (more : List (List ℕ)) → line_of m s ≡ spaced (columns_then from to seen s.why more) → ThirdColumn m s
    with-more m more is = record {
      word = g_text seen.range;
      fourth = count_text from to (λ n. n.accepted);
      columns_behind = drop 4 (columns_then from to seen s.why more);
      line = is;
      says = says_range (seen_at s);
    }

    go : (m : Bool) → ThirdColumn m s
    go true = with-more true ((mode_text seen.mode ++ doubt_text seen.doubts.mode) ∷ []) (stretch-spelt from to seen s.why).moded
    go false = with-more false [] (stretch-spelt from to seen s.why).plain

-- ---- any records
each-column : (moded : Bool) (ss : List Stretch) → Each (ThirdColumn moded) ss
each-column moded [] = tt
each-column moded (s ∷ ss) = (third-column moded s, each-column moded ss)

pub answered-ranges : (rs : List Recorded) → AnsweredRanges rs
answered-ranges rs = record { lines = λ moded. each-column moded (printed_stretches rs); words = λ earlier part. told-range earlier }

-- ---- any log
-- of the records that the answer's text is about (told/specs/Histories: told)
pub log-ranges : (log : List ℕ) → AnsweredRanges (history_of log)
log-ranges log = answered-ranges (history_of log)
