-- The text of a month is nineteen lines, and no newline stands in one of them.
-- Assumes nothing.
use Prim.Native.Nat.{ℕ, zero, suc, ◌*◌, ◌/◌, ◌%◌}
use mathlib.Core.Bool.{Bool, true, false}
use mathlib.Core.List.{List, [], ◌∷◌, ◌++◌, append_assoc}
use mathlib.Core.Path.{◌≡◌, refl, sym, ap, ◌∙◌}
use native.Mathlib.Omega.{arith}
use borrow.Author.Tests.{le-ltb, ne_eqb}
use lib.Dec.{eqb}
use lib.IntN.{ℤ, pos, negsuc, nat_abs}
use lib.ListN.{length}
use Rattle.std.specs.Prelude.{Option, Some, None}
use lib.Signed.{lt_z}
use Rattle.laws.specs.Choice.{pick}
use Rattle.codes.specs.declared.Range.{Range}
use Rattle.codes.specs.declared.Range.TheVariants.{G2, G4, G8, G16}
use Rattle.text.specs.Text.{ascii, newline, digit, most_digits, decimal}
use Rattle.text.proofs.Texts.{by_digits}
use Rattle.sheets.specs.declared.ByAxis.{ByAxis}
use Rattle.sheets.specs.declared.Extremes.{Extremes}
use Rattle.sheets.specs.declared.Month.{Month}
use Rattle.sheets.specs.declared.Tally.{Tally}
use Rattle.wording.specs.Wording.{signed_column}
use Rattle.measure.specs.Measure.{in1024ths, most_places, places, fraction_text, unsigned_text, signed_text, g_text}
use Rattle.sheetlines.specs.Lines.{count_line, counts_text, in_g_text, numbers_text, extremes_text, tally_line, axes_text, ranges_text, logs_line, month_text}
use Rattle.sheetlines.specs.Plain.{on_first, lines_of, ended, words, signed, count_words, extremes_words, tally_words, month_lines, MonthSpelling}
use Rattle.sheetlines.proofs.Lengths.{length-month}

-- ---- no newline stands in a text
abbrev free : List ℕ → Bool
free [] = true
free (c ∷ cs) = pick (eqb c newline) false (free cs)

record Free (text : List ℕ) : Type 0 where
  is : free text ≡ true

no : {A : Type 0} → false ≡ true → A
no e = let z : ◌≡◌ {A = ℕ} 0 1 = cc in absurd (omega arith)

free_on : (a b : List ℕ) → free a ≡ true → free b ≡ true → free (a ++ b) ≡ true
free_on [] b f g = g
free_on (c ∷ a) b f g = go (eqb c newline) (λ h. free_on a b h g) f
  where
    go : (t : Bool) → (free a ≡ true → free (a ++ b) ≡ true) → pick t false (free a) ≡ true → pick t false (free (a ++ b)) ≡ true
    go true more f = no f
    go false more f = more f

two : {a b : List ℕ} → Free a → Free b → Free (a ++ b)
two {a} {b} f g = record { is = free_on a b f.is g.is }

one_of : (t : Bool) {a b : List ℕ} → Free a → Free b → Free (pick t a b)
one_of true f g = f
one_of false f g = g

nothing : Free []
nothing = record { is = refl }

digit-first : (d : ℕ) {l : List ℕ} → Free l → Free (digit d ∷ l)
digit-first d f = record { is = rw (ne_eqb (digit d) newline (λ e. omega arith)) f.is }

numeral : (n : ℕ) → Free (decimal n)
unfolding decimal
numeral n = by_digits (λ k n l. Free l) (λ n. nothing) (λ k n h. digit-first n nothing) (λ k n l h f. two f (digit-first (n % 10) nothing)) most_digits n

signed-free : (z : ℤ) → Free (signed z)
signed-free (pos n) = numeral n
signed-free (negsuc n) = two {a = ascii "-"} (record { is = refl }) (numeral (suc n))

places-free : (k rest : ℕ) → Free (places k rest)
unfolding places
places-free zero rest = nothing
places-free (suc k) rest = one_of (eqb rest 0) nothing (digit-first (rest * 10 / 1024) (places-free k (rest * 10 % 1024)))

fraction-free : (rest : ℕ) → Free (fraction_text rest)
unfolding fraction_text
fraction-free rest = one_of (eqb rest 0) nothing (two {a = ascii "."} (record { is = refl }) (places-free most_places rest))

unsigned-free : (n : ℕ) → Free (unsigned_text n)
unfolding unsigned_text
unsigned-free n = two (numeral (n / 1024)) (fraction-free (n % 1024))

in-g-free : (count : ℤ) (range : Range) → Free (g_text count range)
unfolding g_text signed_text
in-g-free count range =
    let n = in1024ths count range in
    two (one_of (lt_z n (pos 0)) {a = ascii "-"} (record { is = refl }) nothing) (unsigned-free (nat_abs n))

abbrev AllFree : List (List ℕ) → Type 0
AllFree [] = Unit {0}
AllFree (l ∷ ls) = Free l × AllFree ls

words-free : (ws : List (List ℕ)) → AllFree ws → Free (words ws)
words-free [] f = nothing
words-free (w ∷ []) f = f.0
words-free (w ∷ v ∷ ws) f = two f.0 (two {a = ascii " "} (record { is = refl }) (words-free (v ∷ ws) f.1))

extremes-free : (range : Range) (e : Option Extremes) (sum : ℤ) → AllFree (extremes_words range e sum)
extremes-free range None sum = (record { is = refl }, tt)
extremes-free range (Some e) sum =
    (signed-free e.smallest, (signed-free e.largest, (signed-free sum, (in-g-free e.smallest range, (in-g-free e.largest range, tt)))))

-- ---- a reader cuts the lines apart
line_first : (l rest : List ℕ) → free l ≡ true → lines_of (l ++ (newline ∷ rest)) ≡ l ∷ lines_of rest
line_first [] rest f = refl
line_first (c ∷ l) rest f = go (eqb c newline) (λ h. line_first l rest h) f
  where
    go : (t : Bool) → (free l ≡ true → lines_of (l ++ (newline ∷ rest)) ≡ l ∷ lines_of rest) → pick t false (free l) ≡ true
        → pick t ([] ∷ lines_of (l ++ (newline ∷ rest))) (on_first c (lines_of (l ++ (newline ∷ rest)))) ≡ (c ∷ l) ∷ lines_of rest
    go true more f = no f
    go false more f = rw (more f)

cut_apart : (ls : List (List ℕ)) → AllFree ls → lines_of (ended ls) ≡ ls
cut_apart [] f = refl
cut_apart (l ∷ ls) f = line_first l (ended ls) f.0.is ∙ ap (λ (m : List (List ℕ)). l ∷ m) (cut_apart ls f.1)

-- ---- a text is these lines
record Said (text : List ℕ) (lines : List (List ℕ)) : Type 0 where
  whole : text ≡ ended lines
  apart : AllFree lines

ended-on : (a b : List (List ℕ)) → ended (a ++ b) ≡ ended a ++ ended b
ended-on [] b = refl
ended-on (l ∷ a) b = rw (ended-on a b) (sym (append_assoc l (newline ∷ ended a) (ended b)))

all-free-on : (a b : List (List ℕ)) → AllFree a → AllFree b → AllFree (a ++ b)
all-free-on [] b f g = g
all-free-on (l ∷ a) b f g = (f.0, all-free-on a b f.1 g)

behind : {s t : List ℕ} {a b : List (List ℕ)} → Said s a → Said t b → Said (s ++ t) (a ++ b)
behind {a = a} {b = b} p q = record { whole = rw (p.whole, q.whole) (sym (ended-on a b)); apart = all-free-on a b p.apart q.apart }

-- one line
line : {l : List ℕ} → Free l → Said (l ++ ascii "\n") (l ∷ [])
line f = record { whole = refl; apart = (f, tt) }

count : (name : List ℕ) (n : ℕ) → free name ≡ true → Said (count_line (name ++ ascii " ") n) (count_words name n ∷ [])
count name n f =
    let e : count_line (name ++ ascii " ") n ≡ count_words name n ++ ascii "\n" = simp append_assoc in
    rw e (line (words-free (name ∷ decimal n ∷ []) (record { is = f }, (numeral n, tt))))

signed-spelt : (z : ℤ) → signed_column z ≡ signed z ++ ascii " "
unfolding signed_column
signed-spelt (pos n) = rw (le-ltb n 0 (omega arith))
signed-spelt (negsuc n) = refl

spelt : (name axis : List ℕ) (range : Range) (e : Option Extremes) (sum : ℤ)
    → name ++ ((ascii " " ++ (axis ++ ascii " ")) ++ extremes_text range e sum) ≡ words (name ∷ axis ∷ extremes_words range e sum) ++ ascii "\n"
unfolding numbers_text in_g_text
spelt name axis range None sum = simp append_assoc
spelt name axis range (Some e) sum = simp (signed-spelt e.smallest, signed-spelt e.largest, signed-spelt sum, append_assoc)

module _ (name : List ℕ) (f : free name ≡ true) (range : Range) where
  tally : (axis : List ℕ) → free axis ≡ true → (t : Tally) → Said (tally_line name (ascii " " ++ (axis ++ ascii " ")) range t) (tally_words name axis range t ∷ [])
  unfolding tally_line
  tally axis g t =
      rw (spelt name axis range t.extremes t.sum)
      (line (words-free (name ∷ axis ∷ extremes_words range t.extremes t.sum) (record { is = f }, (record { is = g }, extremes-free range t.extremes t.sum))))

  axes : (a : ByAxis) → Said (axes_text name range a) (tally_words name (ascii "x") range a.x ∷ tally_words name (ascii "y") range a.y ∷ tally_words name (ascii "z") range a.z ∷ [])
  unfolding axes_text
  axes a = behind (tally (ascii "x") refl a.x) (behind (tally (ascii "y") refl a.y) (tally (ascii "z") refl a.z))

logs : (n refused : ℕ) → Said (logs_line n refused) (words (ascii "logs" ∷ decimal n ∷ ascii "refused" ∷ decimal refused ∷ []) ∷ [])
logs n refused =
    let ws = ascii "logs" ∷ decimal n ∷ ascii "refused" ∷ decimal refused ∷ [] in
    let e : logs_line n refused ≡ words ws ++ ascii "\n" = simp append_assoc in
    rw e (line (words-free ws (record { is = refl }, (numeral n, (record { is = refl }, (numeral refused, tt))))))

-- ---- a month is its nineteen
module _ (m : Month) where
  said : Said (month_text m) (month_lines m)
  unfolding month_text counts_text ranges_text
  said =
      behind
      (behind (count (ascii "accepted") m.sheet.accepted refl)
      (behind (count (ascii "taken") m.sheet.taken refl)
      (behind (count (ascii "held") m.sheet.held refl)
      (behind (count (ascii "lost") m.sheet.lost refl)
      (behind (count (ascii "cleared") m.sheet.cleared refl) (count (ascii "clock") m.sheet.clock refl))))))
      (behind
      (behind (axes (ascii "2g") refl G2 m.sheet.ranges.g2)
      (behind (axes (ascii "4g") refl G4 m.sheet.ranges.g4)
      (behind (axes (ascii "8g") refl G8 m.sheet.ranges.g8) (axes (ascii "16g") refl G16 m.sheet.ranges.g16))))
      (logs m.logs m.refused))

  pub month-spelt : MonthSpelling m
  month-spelt =
      let lines : lines_of (month_text m) ≡ month_lines m = ap lines_of said.whole ∙ cut_apart (month_lines m) said.apart in
      record { lines = lines; nineteen = ap length lines; whole = said.whole; short = length-month m }
