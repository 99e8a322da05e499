-- What was read is written as the same bytes, and its numbers fit.
-- Assumes nothing.
use Prim.Native.Nat.{ℕ, ◌+◌, ◌*◌, ◌/◌, ◌%◌, ◌≤◌, ◌<◌, ◌^◌}
use mathlib.Core.Bool.{Bool, true, false}
use mathlib.Core.List.{List, [], ◌∷◌, ◌++◌}
use mathlib.Core.Path.{◌≡◌, refl, sym, ap, ◌∙◌}
use native.Mathlib.Omega.{arith}
use borrow.Author.Tests.{eqb-true}
use lib.Dec.{eqb}
use lib.IntN.{ℤ}
use lib.ListN.{length, get_or, take, drop, length-drop}
use lib.Seq.{take-add, take_all, drop-drop}
use mir.Syntax.{w16, w64}
use mir.Val.{Fits, SFits, to_z}
use mir.Facts.{of_z-to_z, sfits_to_z}
use Rattle.std.specs.Prelude.{None}
use Rattle.laws.specs.Choice.{pick, both}
use Rattle.laws.proofs.Finite.{left, right}
use Rattle.laws.proofs.Words.{signed-fits, signed_high, signed_low}
use Rattle.benchlog.specs.Format.{big_endian4, signed}
use Rattle.benchlog.specs.Reader.{signed_at}
use Rattle.benchlog.specs.Whole.{Bytes}
use Rattle.benchlog.proofs.Signed.{parted4, fits4}
use Rattle.benchlog.proofs.Bodies.{bytes_drop, listed}
use Rattle.sheets.specs.Sheets.{from_to}
use Rattle.sheetfile.specs.Format.{mark, version, big_endian8, signed8, flag_of, smallest_of, largest_of, tally_bytes, axes_bytes, ranges_bytes, head_bytes, four_numbers, counts_bytes, encode, size}
use Rattle.sheetfile.specs.Reader.{four_in, eight_in, extremes_of, tally_in, axes_in, ranges_in, month_in, tally_stands, axes_stand, ranges_stand, head_stands}
use Rattle.sheetfile.specs.Whole.{ExtremesFit, TallyFits, AxesFit, RangesFit, NumbersFit}

-- ---- pieces that lie one behind the other
module _ (n : ℕ) (s : List ℕ) where
  two-pieces : take n s ++ take n (drop n s) ≡ take (n + n) s
  two-pieces = sym (take-add n n s)

  three-pieces : take n s ++ take n (drop n s) ++ take n (drop (n + n) s) ≡ take (n + n + n) s
  three-pieces = rw two-pieces (sym (take-add (n + n) n s))

  four-pieces : take n s ++ take n (drop n s) ++ take n (drop (n + n) s) ++ take n (drop (n + n + n) s) ≡ take (n + n + n + n) s
  four-pieces = rw three-pieces (sym (take-add (n + n + n) n s))

-- ---- numbers
module _ (s : List ℕ) (h : Bytes s) where
  four-back : 4 ≤ length s → big_endian4 (four_in s) ≡ take 4 s
  unfolding four_in
  four-back long = parted4 _ _ _ _ (h 0) (h 1) (h 2) (h 3) ∙ sym (listed 4 0 s long)

  four-fits : four_in s < 4294967296
  unfolding four_in
  four-fits = fits4 _ _ _ _ (h 0) (h 1) (h 2) (h 3)

  signed_back : (i : ℕ) → signed (signed_at s i) ≡ get_or s i 0 ∷ get_or s (i + 1) 0 ∷ []
  signed_back i = rw (signed_high _ _ (h i) (h (i + 1)), signed_low _ _ (h i) (h (i + 1)))

module _ (s : List ℕ) (h : Bytes s) where
  eight_fits : eight_in s < 2 ^ 64
  unfolding eight_in
  eight_fits = let f = four-fits s h in let g = four-fits (drop 4 s) (bytes_drop 4 s h) in omega arith

  eight-back : 8 ≤ length s → big_endian8 (eight_in s) ≡ take 8 s
  unfolding big_endian8 eight_in
  eight-back long =
      let f = four-fits s h in
      let g = four-fits (drop 4 s) (bytes_drop 4 s h) in
      let high : (four_in s * 4294967296 + four_in (drop 4 s)) / 4294967296 ≡ four_in s = omega arith in
      let low : (four_in s * 4294967296 + four_in (drop 4 s)) % 4294967296 ≡ four_in (drop 4 s) = omega arith in
      let rest : 4 ≤ length (drop 4 s) = simp length-drop (omega arith) in
      let p = four-back s h (omega arith) in
      let q = four-back (drop 4 s) (bytes_drop 4 s h) rest in
      rw (high, low) ((λ i. p i ++ q i) ∙ two-pieces 4 s)

-- ---- a tally
fit_of : (t : Bool) {a b : ℤ} → SFits w16 a → SFits w16 b → ExtremesFit (pick t None (from_to a b))
fit_of true p q = tt
fit_of false p q = (p, q)

module _ (s : List ℕ) (h : Bytes s) where
  sum_fits : Fits w64 (eight_in (drop 5 s))
  sum_fits = record { fits = eight_fits (drop 5 s) (bytes_drop 5 s h) }

  tally-fits : TallyFits (tally_in s)
  unfolding tally_in
  tally-fits = record {
    extremes = fit_of (eqb (get_or s 0 0) 0) (signed-fits _ _ (h 1) (h 2)) (signed-fits _ _ (h 3) (h 4));
    sum = sfits_to_z sum_fits;
  }

  module _ (long : 13 ≤ length s) where
    sum_back : signed8 (to_z w64 (eight_in (drop 5 s))) ≡ take 8 (drop 5 s)
    sum_back = rw (of_z-to_z sum_fits) (eight-back (drop 5 s) (bytes_drop 5 s h) (simp length-drop (omega arith)))

    -- the flag, the smallest and the largest
    extremes-back : tally_stands s ≡ true
        → (let e = extremes_of (get_or s 0 0) (signed_at s 1) (signed_at s 3) in flag_of e ∷ signed (smallest_of e) ++ signed (largest_of e)) ≡ take 5 s
    unfolding tally_stands
    extremes-back = go (eqb (get_or s 0 0) 0) refl
      where
        go : (t : Bool) → eqb (get_or s 0 0) 0 ≡ t → pick t (eqb (four_in (drop 1 s)) 0) (eqb (get_or s 0 0) 1) ≡ true
            → (let e = pick t None (from_to (signed_at s 1) (signed_at s 3)) in flag_of e ∷ signed (smallest_of e) ++ signed (largest_of e)) ≡ take 5 s
        go true f e =
            let none = eqb-true (get_or s 0 0) 0 f in
            let q : big_endian4 0 ≡ take 4 (drop 1 s) = rw (eqb-true (four_in (drop 1 s)) 0 e) at (four-back (drop 1 s) (bytes_drop 1 s h) (simp length-drop (omega arith))) in
            (λ i. sym none i ∷ q i) ∙ sym (take-add 1 4 s ∙ ap (λ (l : List ℕ). l ++ take 4 (drop 1 s)) (listed 1 0 s (omega arith)))
        go false f e =
            let one = eqb-true (get_or s 0 0) 1 e in
            (λ i. sym one i ∷ signed_back s h 1 i ++ signed_back s h 3 i) ∙ sym (listed 5 0 s (omega arith))

    tally-back : tally_stands s ≡ true → tally_bytes (tally_in s) ≡ take 13 s
    unfolding tally_bytes tally_in
    tally-back e = (λ i. extremes-back e i ++ sum_back i) ∙ sym (take-add 5 8 s)

-- ---- three of them
module _ (s : List ℕ) (h : Bytes s) where
  axes-fit : AxesFit (axes_in s)
  unfolding axes_in
  axes-fit = record { x = tally-fits s h; y = tally-fits (drop 13 s) (bytes_drop 13 s h); z = tally-fits (drop 26 s) (bytes_drop 26 s h) }

  axes-back : 39 ≤ length s → axes_stand s ≡ true → axes_bytes (axes_in s) ≡ take 39 s
  unfolding axes_bytes axes_in axes_stand
  axes-back long e =
      let x = tally_stands s in
      let y = tally_stands (drop 13 s) in
      let z = tally_stands (drop 26 s) in
      let yz = right x (both y z) e in
      let px = tally-back s h (omega arith) (left x (both y z) e) in
      let py = tally-back (drop 13 s) (bytes_drop 13 s h) (simp length-drop (omega arith)) (left y z yz) in
      let pz = tally-back (drop 26 s) (bytes_drop 26 s h) (simp length-drop (omega arith)) (right y z yz) in
      (λ i. px i ++ py i ++ pz i) ∙ three-pieces 13 s

-- ---- and four of those
module _ (s : List ℕ) (h : Bytes s) where
  ranges-fit : RangesFit (ranges_in s)
  unfolding ranges_in
  ranges-fit = record { g2 = axes-fit s h; g4 = axes-fit (drop 39 s) (bytes_drop 39 s h); g8 = axes-fit (drop 78 s) (bytes_drop 78 s h); g16 = axes-fit (drop 117 s) (bytes_drop 117 s h) }

  ranges-back : 156 ≤ length s → ranges_stand s ≡ true → ranges_bytes (ranges_in s) ≡ take 156 s
  unfolding ranges_bytes ranges_in ranges_stand
  ranges-back long e =
      let a = axes_stand s in
      let b = axes_stand (drop 39 s) in
      let c = axes_stand (drop 78 s) in
      let d = axes_stand (drop 117 s) in
      let ab = left (both a b) (both c d) e in
      let cd = right (both a b) (both c d) e in
      let pa = axes-back s h (omega arith) (left a b ab) in
      let pb = axes-back (drop 39 s) (bytes_drop 39 s h) (simp length-drop (omega arith)) (right a b ab) in
      let pc = axes-back (drop 78 s) (bytes_drop 78 s h) (simp length-drop (omega arith)) (left c d cd) in
      let pd = axes-back (drop 117 s) (bytes_drop 117 s h) (simp length-drop (omega arith)) (right c d cd) in
      (λ i. pa i ++ pb i ++ pc i ++ pd i) ∙ four-pieces 39 s

-- ---- a month
module _ (s : List ℕ) (h : Bytes s) where
  count_fits : (k : ℕ) → eight_in (drop k s) < 2 ^ 64
  count_fits k = eight_fits (drop k s) (bytes_drop k s h)

  pub month-fits : NumbersFit (month_in s)
  unfolding month_in
  month-fits = record {
    counts = record {
      accepted = count_fits 5;
      taken = count_fits 13;
      held = count_fits 21;
      lost = count_fits 29;
      cleared = count_fits 37;
      clock = count_fits 45;
      logs = count_fits 53;
      refused = count_fits 61;
    };
    ranges = ranges-fit (drop 69 s) (bytes_drop 69 s h);
  }

  head-back : 5 ≤ length s → head_stands s ≡ true → head_bytes ≡ take 5 s
  unfolding head_bytes head_stands
  head-back long e =
      let m = eqb (four_in s) mark in
      let v = eqb (get_or s 4 0) version in
      let p : big_endian4 mark ≡ take 4 s = rw (eqb-true (four_in s) mark (left m v e)) at (four-back s h (omega arith)) in
      let q : version ∷ [] ≡ take 1 (drop 4 s) = ap (λ (b : ℕ). b ∷ []) (sym (eqb-true (get_or s 4 0) version (right m v e))) ∙ sym (listed 1 4 s long) in
      (λ i. p i ++ q i) ∙ sym (take-add 4 1 s)

  -- four counts from a place on
  numbers-back : (k : ℕ) → k + 32 ≤ length s → four_numbers (eight_in (drop k s)) (eight_in (drop (k + 8) s)) (eight_in (drop (k + 16) s)) (eight_in (drop (k + 24) s)) ≡ take 32 (drop k s)
  unfolding four_numbers
  numbers-back k long =
      let a = eight-back (drop k s) (bytes_drop k s h) (simp length-drop (omega arith)) in
      let b = eight-back (drop (k + 8) s) (bytes_drop (k + 8) s h) (simp length-drop (omega arith)) in
      let c = eight-back (drop (k + 16) s) (bytes_drop (k + 16) s h) (simp length-drop (omega arith)) in
      let d = eight-back (drop (k + 24) s) (bytes_drop (k + 24) s h) (simp length-drop (omega arith)) in
      (λ i. a i ++ b i ++ c i ++ d i) ∙ rw (← drop-drop 8 k s, ← drop-drop 16 k s, ← drop-drop 24 k s) (four-pieces 8 (drop k s))

  pub month-back : length s ≡ size → head_stands s ≡ true → ranges_stand (drop 69 s) ≡ true → encode (month_in s) ≡ s
  unfolding counts_bytes encode month_in
  month-back long e f =
      let p = head-back (omega arith) e in
      let a = numbers-back 5 (omega arith) in
      let b = numbers-back 37 (omega arith) in
      let r = ranges-back (drop 69 s) (bytes_drop 69 s h) (simp length-drop (omega arith)) f in
      let counts : take 32 (drop 5 s) ++ take 32 (drop 37 s) ≡ take 64 (drop 5 s) = rw (← drop-drop 32 5 s) (two-pieces 32 (drop 5 s)) in
      (λ i. p i ++ (a i ++ b i) ++ r i) ∙ rw (counts, ← take-add 5 64 s, ← take-add 69 156 s) (take_all size s (omega arith))
