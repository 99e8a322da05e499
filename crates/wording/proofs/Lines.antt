-- Texts that are spelt one after the other are one text, and no line is longer than is said.
-- Assumes nothing.
use Rattle.std.proofs.Common.{ℕ, ◌+◌, ◌≤◌, Bool, true, false, eqb, List, [], ◌∷◌, ◌++◌, length, ℤ, pos, nat_abs, arith, length-append, Option, None, Some}
use Prim.Native.String.{String}
use lib.Signed.{lt_z}
use Rattle.laws.specs.Choice.{pick}
use Rattle.benchlog.specs.Answers.{stop_number}
use Rattle.codes.specs.Addresses.{range_at, control_at}
use Rattle.codes.specs.declared.Mode.{Mode}
use Rattle.codes.specs.declared.Mode.TheVariants.{Bypass, Fifo, Stream}
use Rattle.codes.specs.declared.Mode.TheVariants as mode
use Rattle.codes.specs.declared.Range.{Range}
use Rattle.codes.specs.declared.Range.TheVariants.{G2, G4, G8, G16, Reserved}
use Rattle.text.specs.Text.{ascii, decimal, most_digits, hex}
use Rattle.text.proofs.Texts.{length-decimal, pushed-two, pushed_none}
use Rattle.counts.specs.Counts.{sum, differences}
use Rattle.counts.specs.declared.Account.{Account}
use Rattle.counts.specs.declared.Counts.{Counts}
use Rattle.counts.specs.declared.Doubt.{Doubt}
use Rattle.counts.specs.declared.Why.{Why}
use Rattle.counts.specs.declared.Why.TheVariants as why
use Rattle.wording.specs.Wording.{longest_wording, Spelt, phrase, column, range_word, mode_word, doubt_sign, why_word, counts_text, stretch_columns, stretch_line, moded_line, stopped_at, last_line, signed_column, sample_line, wrote_text, refused_line, because_text, from_text, range_line, frames_word, mode_line, totals_text, held_text, totals_line, ended_word, short_line, over_line, line_text}
use Rattle.wording.specs.declared.Line.{Line}
use Rattle.wording.specs.declared.Line.TheVariants as line

-- ---- spelt
pub spelt-two : {m n : ℕ} {o₀ : List ℕ} {at : ℕ} {a o₁ : List ℕ} {p : ℕ} {b o₂ : List ℕ} {q : ℕ} → Spelt m o₀ at a o₁ p → Spelt n o₁ p b o₂ q → Spelt (m + n) o₀ at (a ++ b) o₂ q
spelt-two {a = a} {b = b} f g = record { pushed = pushed-two f.pushed g.pushed; short = omega (arith, length-append a b, f.short, g.short) }

pub spelt-within : {m n : ℕ} {out : List ℕ} {at : ℕ} {text out' : List ℕ} {next : ℕ} → m ≤ n → Spelt m out at text out' next → Spelt n out at text out' next
spelt-within h s = record { pushed = s.pushed; short = omega (arith, s.short) }

-- no text at all
pub spelt-none : {n : ℕ} (out : List ℕ) (at : ℕ) → at ≤ length out → Spelt n out at [] out at
spelt-none out at h = record { pushed = pushed_none out at h; short = omega arith }

-- ---- lengths
record Within (most : ℕ) (text : List ℕ) : Type 0 where
  short : length text ≤ most

wider : {m n : ℕ} {text : List ℕ} → m ≤ n → Within m text → Within n text
wider h w = record { short = omega (arith, w.short) }

-- one text behind the other
two : {m n : ℕ} {a b : List ℕ} → Within m a → Within n b → Within (m + n) (a ++ b)
two {a = a} {b = b} f g = record { short = omega (arith, length-append a b, f.short, g.short) }

-- one of two texts
one_of : {m : ℕ} {a b : List ℕ} (t : Bool) → Within m a → Within m b → Within m (pick t a b)
one_of true f g = f
one_of false f g = g

letters : (s : String) → Within (length (ascii s)) (ascii s)
letters s = record { short = omega arith }

numeral : (n : ℕ) → Within most_digits (decimal n)
numeral n = record { short = length-decimal n }

phrase-within : (n : ℕ) (s : String) → Within (most_digits + length (ascii s)) (phrase n s)
phrase-within n s = two (numeral n) (letters s)

column-within : (n : ℕ) → Within 21 (column n)
column-within n = phrase-within n " "

range-within : (r : Range) → Within 3 (range_word r)
range-within G2 = record { short = omega arith }
range-within G4 = record { short = omega arith }
range-within G8 = record { short = omega arith }
range-within G16 = record { short = omega arith }
range-within Reserved = record { short = omega arith }

mode-within : (m : Mode) → Within 6 (mode_word m)
mode-within Bypass = record { short = omega arith }
mode-within Fifo = record { short = omega arith }
mode-within Stream = record { short = omega arith }
mode-within mode.Reserved = record { short = omega arith }

sign-within : (d : Option Doubt) → Within 1 (doubt_sign d)
sign-within None = record { short = omega arith }
sign-within (Some d) = record { short = omega arith }

-- ---- stretches
why-within : (w : Option Why) → Within 7 (why_word w)
why-within None = record { short = omega arith }
why-within (Some why.Readout) = record { short = omega arith }
why-within (Some why.Range) = record { short = omega arith }
why-within (Some why.Refused) = record { short = omega arith }
why-within (Some why.Reset) = record { short = omega arith }

counts-within : (n : Counts) (held : ℕ) → Within 126 (counts_text n held)
counts-within n held =
    two (column-within n.accepted)
    (two (column-within n.taken) (two (column-within n.lost) (two (column-within n.cleared) (two (column-within held) (column-within n.refused)))))

columns-within : (from before behind : Account) (w : Option Why) → Within 180 (stretch_columns from before behind w)
unfolding stretch_columns
columns-within from before behind w =
    two (column-within (sum from.number 1))
    (two (column-within behind.number)
    (two (two (range-within before.range) (two (sign-within before.doubts.range) (letters " ")))
    (two (counts-within (differences from.counts behind.counts) behind.held) (why-within w))))

length-stretch : (from before behind : Account) (w : Option Why) → length (stretch_line from before behind w) ≤ longest_wording
unfolding stretch_line
length-stretch from before behind w =
    let line = two (columns-within from before behind w) (letters "\n") in
    omega (arith, line.short)

length-moded : (from before behind : Account) (w : Option Why) → length (moded_line from before behind w) ≤ longest_wording
unfolding moded_line
length-moded from before behind w =
    let line =
    two (columns-within from before behind w)
    (two (letters " ") (two (mode-within before.mode) (two (sign-within before.doubts.mode) (letters "\n")))) in
    omega (arith, line.short)

length_last : (begun : Bool) (number refusal : ℕ) → length (last_line begun number refusal) ≤ longest_wording
unfolding last_line
length_last begun number refusal =
    let ended = two (letters "end ") (phrase-within number "\n") in
    let stopped = two (letters "stop ") (two (column-within (stopped_at begun number)) (phrase-within refusal "\n")) in
    (one_of {m = longest_wording} (eqb refusal 0) (wider (omega arith) ended) (wider (omega arith) stopped)).short

-- ---- samples
signed-within : (z : ℤ) → Within 22 (signed_column z)
unfolding signed_column
signed-within z = two {m = 1} (one_of (lt_z z (pos 0)) (letters "-") (record { short = omega arith })) (column-within (nat_abs z))

pub length-sample : (number : ℕ) (x y z : ℤ) (lost back : ℕ) → length (sample_line number x y z lost back) ≤ longest_wording
unfolding sample_line
length-sample number x y z lost back =
    let line =
    two (letters "sample ")
    (two (column-within number)
    (two (signed-within x)
    (two (signed-within y) (two (signed-within z) (two (column-within lost) (phrase-within back "\n")))))) in
    omega (arith, line.short)

-- ---- words
hex-within : (byte : ℕ) → Within 2 (hex (byte ∷ []))
hex-within byte = record { short = omega arith }

wrote-within : (n byte address : ℕ) → Within 51 (wrote_text n byte address)
unfolding wrote_text
wrote-within n byte address =
    two (phrase-within n " wrote ") (two (hex-within byte) (two (letters " to ") (two (hex-within address) (letters " and was refused"))))

because-within : (d : Option Doubt) (address : ℕ) → Within 69 (because_text d address)
because-within None address = record { short = omega arith }
because-within (Some d) address = two (letters ", because record ") (two (wrote-within d.number d.byte address) (letters "\n"))

length-refused : (n byte address refusal : ℕ) → length (refused_line n byte address refusal) ≤ longest_wording
unfolding refused_line
length-refused n byte address refusal =
    let line = two (letters "record ") (two (wrote-within n byte address) (two (letters " ") (phrase-within refusal "\n"))) in
    omega (arith, line.short)

from-within : (n : ℕ) → Within 34 (from_text n)
from-within n = two (letters "from record ") (phrase-within (sum n 1) ": ")

length-range : (a : Account) → length (range_line a) ≤ longest_wording
unfolding range_line
length-range a =
    let line =
    two (from-within a.number) (two (range-within a.range) (two (sign-within a.doubts.range) (because-within a.doubts.range range_at))) in
    omega (arith, line.short)

frames-within : (m : Mode) → Within 11 (frames_word m)
frames-within Bypass = record { short = omega arith }
frames-within Fifo = record { short = omega arith }
frames-within Stream = record { short = omega arith }
frames-within mode.Reserved = record { short = omega arith }

length-mode : (a : Account) → length (mode_line a) ≤ longest_wording
unfolding mode_line
length-mode a =
    let line =
    two (from-within a.number)
    (two (mode-within a.mode)
    (two (sign-within a.doubts.mode) (two (frames-within a.mode) (because-within a.doubts.mode control_at)))) in
    omega (arith, line.short)

totals-within : (n : Counts) → Within 116 (totals_text n)
totals-within n =
    two (phrase-within n.accepted " accepted, ")
    (two (phrase-within n.taken " taken, ") (two (phrase-within n.lost " lost, ") (phrase-within n.cleared " cleared, ")))

held-within : (before behind refused : ℕ) → Within 96 (held_text before behind refused)
held-within before behind refused =
    two (phrase-within before " held before, ") (two (phrase-within behind " held after, ") (phrase-within refused " refused\n"))

length-totals : (from to : Account) → length (totals_line from to) ≤ longest_wording
unfolding totals_line
length-totals from to =
    let line =
    two (letters "records ")
    (two (phrase-within (sum from.number 1) " to ")
    (two (phrase-within to.number ": ")
    (two (totals-within (differences from.counts to.counts))
    (held-within from.held to.held (differences from.counts to.counts).refused)))) in
    omega (arith, line.short)

ended-within : (refusal : ℕ) → Within 40 (ended_word refusal)
ended-within refusal = one_of (eqb refusal 0) (record { short = omega arith }) (two (letters "the log was refused ") (numeral refusal))

length-short : (refusal number asked : ℕ) → length (short_line refusal number asked) ≤ longest_wording
unfolding short_line
length-short refusal number asked =
    let line =
    two (ended-within refusal)
    (two (letters " after record ") (two (phrase-within number "; what came up to record ") (phrase-within asked " is not known\n"))) in
    omega (arith, line.short)

length_over : (begun : Bool) (number refusal : ℕ) → length (over_line begun number refusal) ≤ longest_wording
unfolding over_line
length_over begun number refusal =
    let ended = two (letters "the log ends after record ") (phrase-within number "\n") in
    let stopped = two (letters "the log was refused ") (two (phrase-within refusal " at record ") (phrase-within (stopped_at begun number) "\n")) in
    (one_of {m = longest_wording} (eqb refusal 0) (wider (omega arith) ended) (wider (omega arith) stopped)).short

-- ---- any line
pub length-line : (l : Line) → length (line_text l) ≤ longest_wording
length-line (line.Stretch from before behind w) = length-stretch from before behind w
length-line (line.Moded from before behind w) = length-moded from before behind w
length-line (line.Last begun number refusal) = length_last begun number (stop_number refusal)
length-line (line.Range a) = length-range a
length-line (line.Mode a) = length-mode a
length-line (line.Refused n byte address refusal) = length-refused n byte address refusal
length-line (line.Totals from to) = length-totals from to
length-line line.Lost = omega arith
length-line line.NoReadout = omega arith
length-line (line.Short refusal number asked) = length-short (stop_number refusal) number asked
length-line (line.Over begun number refusal) = length_over begun number (stop_number refusal)
