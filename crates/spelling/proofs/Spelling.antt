-- Each line is spelt as its reader finds it, whatever numbers stand in it.
-- Assumes nothing.
use Prim.Native.Nat.{ℕ}
use mathlib.Core.List.{◌++◌, append_assoc}
use mathlib.Core.Path.{◌≡◌, refl}
use native.Mathlib.Omega.{arith}
use borrow.Author.Tests.{ne_eqb, le-ltb}
use lib.IntN.{ℤ, pos, negsuc}
use Rattle.std.proofs.Common.{Option, None, Some}
use Rattle.codes.specs.declared.Mode.{Mode}
use Rattle.codes.specs.declared.Mode.TheVariants.{Bypass, Fifo, Stream}
use Rattle.codes.specs.declared.Mode.TheVariants as mode
use Rattle.codes.specs.declared.Range.{Range}
use Rattle.codes.specs.declared.Range.TheVariants.{G2, G4, G8, G16, Reserved}
use Rattle.text.specs.Text.{ascii, decimal, last_digits}
use Rattle.counts.specs.declared.Account.{Account}
use Rattle.counts.specs.declared.Doubt.{Doubt}
use Rattle.counts.specs.declared.Why.{Why}
use Rattle.counts.specs.declared.Why.TheVariants as why
use Rattle.wording.specs.Wording.{range_word, mode_word, frames_word, doubt_sign, why_word, stretch_columns, stretch_line, moded_line, last_line, signed_column, sample_line, wrote_text, refused_line, because_text, range_line, mode_line, totals_line, short_line, over_line}
use Rattle.spelling.specs.Spelling.{g_text, mode_text, room_text, doubt_text, because, why_text, coordinate, StretchSpelling, EndSpelling, ShortSpelling, SampleSpelling, RefusedSpelling, InForceSpelling, TotalsSpelling}

-- ---- words
pub range-spelt : (r : Range) → range_word r ≡ g_text r
unfolding decimal last_digits
range-spelt G2 = refl
range-spelt G4 = refl
range-spelt G8 = refl
range-spelt G16 = refl
range-spelt Reserved = refl

pub mode-spelt : (m : Mode) → mode_word m ≡ mode_text m
mode-spelt Bypass = refl
mode-spelt Fifo = refl
mode-spelt Stream = refl
mode-spelt mode.Reserved = refl

pub room-spelt : (m : Mode) → frames_word m ≡ room_text m
room-spelt Bypass = refl
room-spelt Fifo = refl
room-spelt Stream = refl
room-spelt mode.Reserved = refl

pub sign-spelt : (d : Option Doubt) → doubt_sign d ≡ doubt_text d
sign-spelt None = refl
sign-spelt (Some d) = refl

pub why-spelt : (w : Option Why) → why_word w ≡ why_text w
why-spelt (Some why.Readout) = refl
why-spelt (Some why.Range) = refl
why-spelt (Some why.Refused) = refl
why-spelt (Some why.Reset) = refl
why-spelt None = refl

pub because-spelt : (d : Option Doubt) (address : ℕ) → because_text d address ≡ because d address ++ ascii "\n"
unfolding wrote_text
because-spelt None address = refl
because-spelt (Some d) address = simp append_assoc

pub signed-spelt : (z : ℤ) → signed_column z ≡ coordinate z ++ ascii " "
unfolding signed_column
signed-spelt (pos n) = rw (le-ltb n 0 (omega arith))
signed-spelt (negsuc n) = refl

-- ---- lines
module _ (from behind before : Account) (w : Option Why) where
  pub stretch-spelt : StretchSpelling from behind before w
  unfolding stretch_columns stretch_line moded_line
  stretch-spelt = record {
    plain = simp (range-spelt before.range, sign-spelt before.doubts.range, why-spelt w, append_assoc);
    moded = simp (range-spelt before.range, sign-spelt before.doubts.range, sign-spelt before.doubts.mode, mode-spelt before.mode, why-spelt w, append_assoc);
  }

pub end-spelt : (records refusal : ℕ) → EndSpelling records refusal
unfolding last_line over_line decimal last_digits
end-spelt records refusal = record {
  ended = λ begun. refl;
  stopped = λ h. simp (ne_eqb refusal 0 h, append_assoc);
  at_once = λ h. simp (ne_eqb refusal 0 h, append_assoc);
  over = λ begun. refl;
  over_stopped = λ h. simp (ne_eqb refusal 0 h, append_assoc);
  over_at_once = λ h. simp (ne_eqb refusal 0 h, append_assoc);
}

pub short-spelt : (records asked refusal : ℕ) → ShortSpelling records asked refusal
unfolding short_line
short-spelt records asked refusal = record {
  ended = simp append_assoc;
  stopped = λ h. simp (ne_eqb refusal 0 h, append_assoc);
}

pub sample-spelt : SampleSpelling
unfolding sample_line
sample-spelt number x y z lost back = simp (signed-spelt x, signed-spelt y, signed-spelt z, append_assoc)

pub refused-spelt : RefusedSpelling
unfolding refused_line wrote_text
refused-spelt number byte address refusal = simp append_assoc

pub in-force-spelt : (a : Account) → InForceSpelling a
unfolding range_line mode_line
in-force-spelt a = record {
  range = simp (range-spelt a.range, sign-spelt a.doubts.range, because-spelt a.doubts.range 0x0F, append_assoc);
  mode = simp (mode-spelt a.mode, sign-spelt a.doubts.mode, room-spelt a.mode, because-spelt a.doubts.mode 0x3E, append_assoc);
}

pub totals-spelt : (from behind : Account) → TotalsSpelling from behind
unfolding totals_line
totals-spelt from behind = simp append_assoc
