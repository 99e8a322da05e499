-- What each program takes its words for, for every count and all bytes.
-- Assumes nothing.
use Prim.Native.Nat.{ℕ, zero, suc, ◌+◌, ◌-◌, ◌*◌, ◌^◌, ◌≤◌, ◌<◌}
use mathlib.Core.Bool.{Bool, true, false, not}
use mathlib.Core.List.Memᴰ
use mathlib.Core.List.{List, [], ◌∷◌, Memᴰ}
use mathlib.Core.Logic.{◌↔◌, ◌⊎◌, inl, inr}
use mathlib.Core.Path.{◌≡◌, refl, sym, ap, ◌∙◌}
use native.Mathlib.Omega.{arith}
use native.Mathlib.Nat.{zero-add, zero-mul, add_assoc, add-mul, mul_assoc, pow-succ'}
use borrow.Author.Tests.{ltb-true, ltb-false, lt-ltb, le-ltb, eq-eqb, eqb-true, ne_eqb}
use contract.Lifetimes.{Lfts}
use denote.Triple.Clauses.{AtExit}
use denote.Triple.Entry.{Args, Res}
use lib.Dec.{eqb, ltb}
use lib.ListN.{length, get_or}
use Rattle.std.specs.Prelude.{Option, Some, None}
use Rattle.laws.specs.Choice.{pick, both}
use Rattle.laws.proofs.Finite.{left, right}
use Rattle.text.specs.Text.{ascii, value, value_on, decimal, most_digits}
use Rattle.text.proofs.Numerals.{value-decimal, wide_enough, digits-only, decimal-zero, no-zero-first}
use Rattle.answers.specs.declared.Asked.{Asked}
use Rattle.answers.specs.declared.Asked.TheVariants.{Stretches, Modes, Samples, Between, Whole}
use Rattle.arguments.specs.Words.{is_digit, are_digits, limit, number_of, same_word, by_word, between_of, wanted_of, pins_wanted_of}
use Rattle.arguments.specs.Arguments.{place_value, Numeral, Asks, AnswerAsked, AsksPins, ReplayAsked}
use Rattle.arguments.proofs.Digits.{same_word_lem}
use Rattle.arguments.specs.contracts.wanted_of as wanted-of
use Rattle.arguments.proofs.wanted_of.Reads as wanted-of-reads
use Rattle.arguments.specs.contracts.pins_of as pins-of
use Rattle.arguments.proofs.pins_of.Reads as pins-of-reads

-- ---- numbers
-- a character is a digit exactly where it is one of `0` to `9`
pub digit-exactly : (c : ℕ) → (is_digit c ≡ true) ↔ ((48 ≤ c) × (c ≤ 57))
digit-exactly c = (go (ltb c 48) (ltb c 58) refl refl, λ h. rw (le-ltb c 48 h.0, lt-ltb c 58 (omega (arith, h.1))))
  where
    go : (s t : Bool) → ltb c 48 ≡ s → ltb c 58 ≡ t → both (not s) t ≡ true → (48 ≤ c) × (c ≤ 57)
    go false true p q e = (ltb-false c 48 p, omega (arith, ltb-true c 58 q))
    go false false p q e = let z : ◌≡◌ {A = ℕ} 0 1 = cc in absurd (omega arith)
    go true t p q e = let z : ◌≡◌ {A = ℕ} 0 1 = cc in absurd (omega arith)

digits-exactly : (w : List ℕ) → (are_digits w ≡ true) ↔ ((c : ℕ) → Memᴰ c w → (48 ≤ c) × (c ≤ 57))
digits-exactly [] = (λ e c m. absurd (Memᴰ.not-nil m), λ h. refl)
digits-exactly (d ∷ w) = (
  λ e c m. each (left (is_digit d) (are_digits w) e) ((digits-exactly w).0 (right (is_digit d) (are_digits w) e) c) (Memᴰ.cases_cons m),
  λ h. rw ((digit-exactly d).1 (h d (Memᴰ.head refl)), (digits-exactly w).1 (λ c m. h c (Memᴰ.tail m))),
)
  where
    each : {c : ℕ} → is_digit d ≡ true → (Memᴰ c w → (48 ≤ c) × (c ≤ 57)) → (c ≡ d) ⊎ Memᴰ c w → (48 ≤ c) × (c ≤ 57)
    each e later (inl s) = rw s ((digit-exactly d).0 e)
    each e later (inr m) = later m

-- digit by digit from the left is by place value
places : (n : ℕ) (w : List ℕ) → value_on n w ≡ n * 10 ^ length w + place_value w
places n [] = omega arith
places n (c ∷ w) =
    let place = 10 ^ length w in
    places (n * 10 + (c - 48)) w
    ∙ rw (add-mul (n * 10) (c - 48) place, mul_assoc n 10 place, pow-succ' 10 (length w), add_assoc (n * (10 * place)) ((c - 48) * place) (place_value w))

pub place-value : (w : List ℕ) → value w ≡ place_value w
place-value w = places 0 w ∙ rw (zero-mul (10 ^ length w), zero-add (place_value w))

-- a word is taken for n exactly where it is the numeral of n
pub number-exactly : (w : List ℕ) (n : ℕ) → (number_of w ≡ Some n) ↔ Numeral w n
unfolding number_of
number-exactly w n = (go (eqb (length w) 0) (are_digits w) (ltb (value w) limit) refl refl refl, back)
  where
    go : (s d t : Bool) → eqb (length w) 0 ≡ s → are_digits w ≡ d → ltb (value w) limit ≡ t
        → pick (both (not s) (both d t)) (Some (value w)) None ≡ Some n → Numeral w n
    go false true true p q r e =
        let v : value w ≡ n = cc in
        record {
          some = λ z. let y = sym (eq-eqb (length w) 0 (ap length z)) ∙ p in let x : ◌≡◌ {A = ℕ} 0 1 = cc in absurd (omega arith);
          digits = (digits-exactly w).0 q;
          value = sym v ∙ place-value w;
          fits = omega (arith, v, ltb-true (value w) limit r);
        }
    go false true false p q r e = let z : ◌≡◌ {A = ℕ} 0 1 = cc in absurd (omega arith)
    go false false t p q r e = let z : ◌≡◌ {A = ℕ} 0 1 = cc in absurd (omega arith)
    go true d t p q r e = let z : ◌≡◌ {A = ℕ} 0 1 = cc in absurd (omega arith)

    back : Numeral w n → pick (both (not (eqb (length w) 0)) (both (are_digits w) (ltb (value w) limit))) (Some (value w)) None ≡ Some n
    back h =
        let v : value w ≡ n = place-value w ∙ sym h.value in
        rw (v, ne_eqb (length w) 0 (λ z. h.some (nil w z)), (digits-exactly w).1 h.digits, lt-ltb n limit h.fits)
      where
        nil : (l : List ℕ) → length l ≡ 0 → l ≡ []
        nil [] z = refl
        nil (c ∷ l) z = absurd (omega arith)

-- a number that is printed is read as itself
pub printed-number : (n : ℕ) → n < 2 ^ 64 → number_of (decimal n) ≡ Some n
printed-number n h =
    let wide : n < 10 ^ most_digits = omega (arith, wide_enough) in
    (number-exactly (decimal n) n).1 (record {
      some = some n wide;
      digits = digits-only n;
      value = sym (value-decimal n wide) ∙ place-value (decimal n);
      fits = h;
    })
  where
    some : (n : ℕ) → n < 10 ^ most_digits → decimal n ≡ [] → ⊥
    some zero wide e = let z = ap length (sym decimal-zero ∙ e) in absurd (omega arith)
    some (suc n) wide e = let z = ap (λ (l : List ℕ). get_or l 0 0) e in absurd (omega (arith, no-zero-first (suc n) wide (omega arith)))

-- ---- words
module _ (count : ℕ) (first second : List ℕ) where
  -- the words of what is wanted, where something is
  abbrev WordsOf : Option Asked → Type 0
  WordsOf None = Unit {0}
  WordsOf (Some a) = Asks count first second a

  chosen : (t : Bool) (x y : Option Asked) → (t ≡ true → WordsOf x) → WordsOf y → WordsOf (pick t x y)
  chosen true x y f g = f refl
  chosen false x y f g = g

  -- one word behind the name asks for what it names
  pub one_word : count ≡ 2 → WordsOf (by_word first)
  unfolding by_word
  one_word e =
      chosen (same_word first (ascii "modes")) (Some Modes) _ (λ s. (e, same_word_lem first (ascii "modes") s))
      (chosen (same_word first (ascii "samples")) (Some Samples) _ (λ s. (e, same_word_lem first (ascii "samples") s))
      (chosen (same_word first (ascii "all")) (Some Whole) None (λ s. (e, same_word_lem first (ascii "all") s)) tt))

  -- and two for what came between them, where both are numbers and the first is smaller
  pub two-numbers : count ≡ 3 → WordsOf (between_of (number_of first) (number_of second))
  two-numbers e = go (number_of first) (number_of second) refl refl
    where
      go : (x y : Option ℕ) → number_of first ≡ x → number_of second ≡ y → WordsOf (between_of x y)
      go None y p q = tt
      go (Some m) None p q = tt
      go (Some m) (Some n) p q = chosen (ltb m n) (Some (Between m n)) None (λ l. (e, (number-exactly first m).0 p, (number-exactly second n).0 q, ltb-true m n l)) tt

  -- nothing is asked for by other words
  pub wanted-words : WordsOf (wanted_of count first second)
  unfolding wanted_of
  wanted-words =
      chosen (eqb count 1) (Some Stretches) _ (λ e. eqb-true count 1 e)
      (chosen (eqb count 2) (by_word first) _ (λ e. one_word (eqb-true count 2 e))
      (chosen (eqb count 3) (between_of (number_of first) (number_of second)) None (λ e. two-numbers (eqb-true count 3 e)) tt))

  -- and all of it by these
  pub words-wanted : (a : Asked) → Asks count first second a → wanted_of count first second ≡ Some a
  unfolding wanted_of by_word same_word
  words-wanted Stretches e = rw (eq-eqb count 1 e)
  words-wanted Modes (e, w) = rw (ne_eqb count 1 (λ z. omega (arith, e, z)), eq-eqb count 2 e, w)
  words-wanted Samples (e, w) = rw (ne_eqb count 1 (λ z. omega (arith, e, z)), eq-eqb count 2 e, w)
  words-wanted Whole (e, w) = rw (ne_eqb count 1 (λ z. omega (arith, e, z)), eq-eqb count 2 e, w)
  words-wanted (Between m n) (e, h, k, l) =
      let not-1 = ne_eqb count 1 (λ z. omega (arith, e, z)) in
      let not-2 = ne_eqb count 2 (λ z. omega (arith, e, z)) in
      rw (not-1, not-2, eq-eqb count 3 e, (number-exactly first m).1 h, (number-exactly second n).1 k, lt-ltb m n l)

  pub wanted-exactly : AnswerAsked count first second (wanted_of count first second)
  wanted-exactly = record {
    asked = λ a. (λ e. rw e at wanted-words, words-wanted a);
    wrong = (
      λ e a h. let z = sym e ∙ words-wanted a h in let y : ◌≡◌ {A = ℕ} 0 1 = cc in absurd (omega arith),
      λ none. go none (wanted_of count first second) refl,
    );
  }
    where
      go : ((a : Asked) → ¬ Asks count first second a) → (w : Option Asked) → wanted_of count first second ≡ w → w ≡ None
      go none None e = refl
      go none (Some a) e = absurd (none a (rw e at wanted-words))

-- ---- of the replay
module _ (count : ℕ) (first : List ℕ) where
  abbrev PinWordsOf : Option Bool → Type 0
  PinWordsOf None = Unit {0}
  PinWordsOf (Some with_pins) = AsksPins count first with_pins

  -- nothing is asked for by other words, and both by these
  pub pins-words : PinWordsOf (pins_wanted_of count first)
  unfolding pins_wanted_of
  pins-words = go (eqb count 1) (eqb count 2) (same_word first (ascii "pins")) refl refl refl
    where
      go : (s t u : Bool) → eqb count 1 ≡ s → eqb count 2 ≡ t → same_word first (ascii "pins") ≡ u
          → PinWordsOf (pick s (Some false) (pick t (pick u (Some true) None) None))
      go true t u p q r = eqb-true count 1 p
      go false true true p q r = (eqb-true count 2 q, same_word_lem first (ascii "pins") r)
      go false true false p q r = tt
      go false false u p q r = tt

  pub words-pins : (with_pins : Bool) → AsksPins count first with_pins → pins_wanted_of count first ≡ Some with_pins
  unfolding pins_wanted_of same_word
  words-pins false e = rw (eq-eqb count 1 e)
  words-pins true (e, w) = rw (ne_eqb count 1 (λ z. omega (arith, e, z)), eq-eqb count 2 e, w)

  pub pins-exactly : ReplayAsked count first (pins_wanted_of count first)
  pins-exactly = record {
    asked = λ a. (λ e. rw e at pins-words, words-pins a);
    wrong = (
      λ e a h. let z = sym e ∙ words-pins a h in let y : ◌≡◌ {A = ℕ} 0 1 = cc in absurd (omega arith),
      λ none. go none (pins_wanted_of count first) refl,
    );
  }
    where
      go : ((a : Bool) → ¬ AsksPins count first a) → (w : Option Bool) → pins_wanted_of count first ≡ w → w ≡ None
      go none None e = refl
      go none (Some a) e = absurd (none a (rw e at pins-words))

-- ---- of the contracts themselves, as the toolchain reads them from the source
pub wanted-of-asked : (κs : Lfts 2) (a : Args wanted-of.signature κs) (r : Res wanted-of.signature κs) (e : AtExit wanted-of.ended κs)
    → wanted-of-reads.Learnt κs a r e → AnswerAsked a.0 a.1.0.now a.1.1.0.now r
wanted-of-asked κs a r e p = rw p (wanted-exactly a.0 a.1.0.now a.1.1.0.now)

pub pins-of-asked : (κs : Lfts 1) (a : Args pins-of.signature κs) (r : Res pins-of.signature κs) (e : AtExit pins-of.ended κs)
    → pins-of-reads.Learnt κs a r e → ReplayAsked a.0 a.1.0.now r
pins-of-asked κs a r e p = rw p (pins-exactly a.0 a.1.0.now)
