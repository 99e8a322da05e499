-- Texts of counts in g, letter by letter: Q-8's own two among them.
-- Assumes nothing.
use mathlib.Core.Path.{◌≡◌, refl}
use lib.IntN.{pos, negsuc}
use Rattle.codes.specs.declared.Range.{Range}
use Rattle.codes.specs.declared.Range.TheVariants.{G2, G4, G8, G16, Reserved}
use Rattle.text.specs.Text.{ascii, decimal, last_digits}
use Rattle.measure.specs.Measure.{places, fraction_text, unsigned_text, signed_text, g_text}

-- -2048 at 2 g
pub least-at-2g : g_text (negsuc 2047) G2 ≡ ascii "-2"
unfolding g_text signed_text unsigned_text fraction_text places decimal last_digits
least-at-2g = refl

pub some-at-2g : g_text (pos 291) G2 ≡ ascii "0.2841796875"
unfolding g_text signed_text unsigned_text fraction_text places decimal last_digits
some-at-2g = refl

pub most-at-2g : g_text (pos 2047) G2 ≡ ascii "1.9990234375"
unfolding g_text signed_text unsigned_text fraction_text places decimal last_digits
most-at-2g = refl

-- -3 at 2 g: zeros behind the point
pub small-at-2g : g_text (negsuc 2) G2 ≡ ascii "-0.0029296875"
unfolding g_text signed_text unsigned_text fraction_text places decimal last_digits
small-at-2g = refl

pub zero-at : (range : Range) → g_text (pos 0) range ≡ ascii "0"
unfolding g_text signed_text unsigned_text fraction_text places decimal last_digits
zero-at G2 = refl
zero-at G4 = refl
zero-at G8 = refl
zero-at G16 = refl
zero-at Reserved = refl

-- the same count at 4 g and at 8 g
pub one-at-4g : g_text (pos 1) G4 ≡ ascii "0.001953125"
unfolding g_text signed_text unsigned_text fraction_text places decimal last_digits
one-at-4g = refl

pub one-at-8g : g_text (pos 1) G8 ≡ ascii "0.00390625"
unfolding g_text signed_text unsigned_text fraction_text places decimal last_digits
one-at-8g = refl

pub one-at-16g : g_text (pos 1) G16 ≡ ascii "0.0078125"
unfolding g_text signed_text unsigned_text fraction_text places decimal last_digits
one-at-16g = refl

pub least-at-16g : g_text (negsuc 2047) G16 ≡ ascii "-16"
unfolding g_text signed_text unsigned_text fraction_text places decimal last_digits
least-at-16g = refl

pub most-at-16g : g_text (pos 2047) G16 ≡ ascii "15.9921875"
unfolding g_text signed_text unsigned_text fraction_text places decimal last_digits
most-at-16g = refl

-- no chip has such a count: a whole number of three digits
pub beyond : g_text (negsuc 32767) G16 ≡ ascii "-256"
unfolding g_text signed_text unsigned_text fraction_text places decimal last_digits
beyond = refl
