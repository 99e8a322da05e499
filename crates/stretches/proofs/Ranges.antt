-- The range in force is always one that the sheet defines, and within a stretch it stays: it and what is doubted of it change only where
-- a stretch ends.
-- Assumes nothing.
use mathlib.Core.Bool.{Bool, true, false}
use mathlib.Core.List.{List, [], ◌∷◌}
use mathlib.Core.Path.{◌≡◌, refl, ap, ◌∙◌}
use Rattle.laws.specs.Choice.{pick, either}
use Rattle.codes.specs.Addresses.{range_at}
use Rattle.codes.specs.Range.{range_of, is_reserved_range}
use Rattle.events.specs.Views.{at_read}
use Rattle.paper.specs.Readouts.{reads_out}
use Rattle.paper.proofs.Codes as codes
use Rattle.recorded.specs.Recorded.{Recorded, events_of}
use Rattle.counts.specs.declared.Account.{Account}
use Rattle.stretches.specs.Histories.{account_of, is_of_range, is_end, last_end}
use Rattle.stretches.proofs.Kept.{kept_byte, kept-doubt}

-- no code that the sheet does not define is ever in force
pub range-known : (rs : List Recorded) → is_reserved_range (account_of rs).range ≡ false
range-known rs = codes.range-known (events_of rs)

-- ---- what leaves the range as it is
-- two accounts have the same range, and doubt it alike
abbrev pub SameRange : Account → Account → Type 0
SameRange a b = (a.range ≡ b.range) × (a.doubts.range ≡ b.doubts.range)

pub range-kept : (r : Recorded) (rs : List Recorded) → is_of_range r.own ≡ false → SameRange (account_of (r ∷ rs)) (account_of rs)
range-kept r rs h = (ap range_of (kept_byte range_at r rs h), kept-doubt range_at r rs h)

-- what ends no stretch has nothing to do with it
pub range-stays : (r : Recorded) (rs : List Recorded) → is_end r.own ≡ false → SameRange (account_of (r ∷ rs)) (account_of rs)
range-stays r rs h = range-kept r rs (go (at_read false reads_out r.own) (is_of_range r.own) h)
  where
    go : (s t : Bool) → either s t ≡ false → t ≡ false
    go true t h = cc
    go false t h = h

-- since the last end of a stretch the range is what it was there
pub range-lasts : (rs : List Recorded) → SameRange (account_of rs) (account_of (last_end rs))
unfolding last_end
range-lasts [] = (refl, refl)
range-lasts (r ∷ rs) = go (range-lasts rs) (is_end r.own) refl
  where
    go : SameRange (account_of rs) (account_of (last_end rs)) → (t : Bool) → is_end r.own ≡ t
        → SameRange (account_of (r ∷ rs)) (account_of (pick t (r ∷ rs) (last_end rs)))
    go earlier true h = (refl, refl)
    go earlier false h =
        let s = range-stays r rs h in
        (s.0 ∙ earlier.0, s.1 ∙ earlier.1)
