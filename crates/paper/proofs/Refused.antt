-- The refusals of writes in 01's words are those that the contracts cite: at each address, of any number that is written.
-- Assumes nothing.
use Prim.Native.Nat.{ℕ, ◌/◌, ◌%◌, ◌<◌}
use mathlib.Core.Bool.{Bool, true, false, not}
use mathlib.Core.List.{List, [], ◌∷◌}
use mathlib.Core.Path.{◌≡◌, refl, ◌∙◌}
use native.Mathlib.Omega.{arith}
use lib.Dec.{eqb, leb, ltb}
use lib.ListN.{get_or}
use borrow.Author.Tests.{ltb-true, ltb-false, le-leb, lt-leb}
use Rattle.laws.specs.Bits.{bit}
use Rattle.laws.specs.Choice.{pick, both, either}
use Rattle.laws.specs.Keys.{Key, meaning_of}
use Rattle.laws.specs.Lists.{is_in}
use Rattle.laws.proofs.Finite.{alike}
use Rattle.laws.proofs.Keys.{codes_of, EachMeaning}
use Rattle.codes.specs.Addresses.{frames_at}
use Rattle.codes.specs.Mode as mode
use Rattle.codes.specs.Mode.{mode_of}
use Rattle.codes.specs.Range as range
use Rattle.codes.specs.Range.{range_of}
use Rattle.codes.specs.Wait as wait
use Rattle.table.specs.Rows.{row_at, the_table}
use Rattle.std.specs.Prelude.{Err}
use Rattle.registers.specs.Answers.{done, refusal_number, number, accepted}
use Rattle.registers.specs.Refused.{write_answer, answer_at, reserved_code, not_modelled, lack_at}
use Rattle.registers.specs.declared.Refusal.TheVariants.{ReservedCode}
use Rattle.registers.proofs.Answers.{lack-any}
use Rattle.paper.specs.Ranges.{is_known_range}
use Rattle.paper.specs.Refused.{means_no_wait, is_reserved_write, is_detector_write, is_power_mode_write, is_test_or_trim_write, is_lacking, accepts}
use Rattle.paper.proofs.Bits.{share_one, share-one}

-- ---- 2
-- of a list of meanings, none of which is the other one: a number means the other where it is not in the list
means-other : {A : Type 0} (is_other : A → Bool) (other : A) → is_other other ≡ true → (ks : List (Key A)) → EachMeaning (λ x. is_other x ≡ false) ks
    → (n : ℕ) → is_other (meaning_of ks other n) ≡ not (is_in (codes_of ks) n)
means-other is_other other o [] ps n = o
means-other is_other other o (k ∷ ks) ps n = go (eqb n k.code) (means-other is_other other o ks ps.1 n)
  where
    go : (t : Bool) → is_other (meaning_of ks other n) ≡ not (is_in (codes_of ks) n)
        → is_other (pick t k.meaning (meaning_of ks other n)) ≡ not (either t (is_in (codes_of ks) n))
    go true later = ps.0
    go false later = later

pub reserved-range : (byte : ℕ) → range.is_reserved_range (range_of byte) ≡ not (is_known_range byte)
unfolding range_of
reserved-range byte = means-other range.is_reserved_range _ refl range.ranges (refl, (refl, (refl, (refl, tt)))) (byte % 16)

pub reserved-mode : (byte : ℕ) → mode.is_reserved_mode (mode_of byte) ≡ not (is_in (0b00 ∷ 0b01 ∷ 0b10 ∷ []) (byte / 64))
unfolding mode_of
reserved-mode byte = means-other mode.is_reserved_mode _ refl mode.modes (refl, (refl, (refl, tt))) (byte / 64)

reserved-wait : (byte : ℕ) → wait.is_reserved_wait byte ≡ means_no_wait byte
unfolding wait.wait_of
reserved-wait byte = alike (λ c. eqb (wait.wait_of c) 0) (λ c. both (leb 22 c) (leb c 31)) 64 refl (byte / 4 % 64) (omega arith)

module _ (regs : List ℕ) where
  abbrev pub held_in : ℕ → ℕ
  held_in a = get_or regs a 0

  pub reserved-is : (a b : ℕ) → a < 64 → reserved_code regs a b ≡ is_reserved_write held_in a b
  unfolding reserved_code is_reserved_write
  reserved-is a b = alike (λ i. reserved_code regs i b) (λ i. is_reserved_write held_in i b) 64 (rw (reserved-range b, reserved-mode b, reserved-wait b, reserved-wait (get_or regs 0x27 0))) a

-- ---- 11 to 13
-- the bits that are refused at an address are of a byte
refused-small : (a : ℕ) → a < 64 → (row_at a).2 < 256
unfolding the_table
refused-small a h = ltb-true (row_at a).2 256 (alike (λ i. ltb (row_at i).2 256) (λ i. true) 64 refl a h)

module _ (regs : List ℕ) (a b : ℕ) (h : a < 64) where
  -- whether a setting of the register is not modelled and n is the number of what is lacking there
  abbrev lack_numbered : ℕ → Bool
  lack_numbered n = both (eqb n (refusal_number (lack_at a))) (not_modelled regs (row_at a) a b)

  not-modelled : not_modelled regs (row_at a) a b ≡ share_one (row_at a).2 b
  unfolding not_modelled
  not-modelled = share-one (row_at a).2 b (refused-small a h)

  pub detector-is : lack_numbered 11 ≡ is_detector_write a b
  unfolding lack_at the_table is_detector_write bit
  detector-is = rw not-modelled (alike (λ i. both (eqb 11 (refusal_number (lack_at i))) (share_one (row_at i).2 b)) (λ i. is_detector_write i b) 64 refl a h)

  pub power-mode-is : lack_numbered 12 ≡ is_power_mode_write a b
  unfolding lack_at the_table is_power_mode_write bit
  power-mode-is = rw not-modelled (alike (λ i. both (eqb 12 (refusal_number (lack_at i))) (share_one (row_at i).2 b)) (λ i. is_power_mode_write i b) 64 refl a h)

  pub test-or-trim-is : lack_numbered 13 ≡ is_test_or_trim_write a b
  unfolding lack_at the_table is_test_or_trim_write bit
  test-or-trim-is = rw not-modelled (alike (λ i. both (eqb 13 (refusal_number (lack_at i))) (share_one (row_at i).2 b)) (λ i. is_test_or_trim_write i b) 64 refl a h)

-- what is lacking has one of the three numbers
abbrev one_of_three : ℕ → Bool → Bool
one_of_three n t = either (both (eqb 11 n) t) (either (both (eqb 12 n) t) (both (eqb 13 n) t))

pub some_number : (a : ℕ) (t : Bool) → t ≡ one_of_three (refusal_number (lack_at a)) t
some_number a true = lack-any (λ x. true ≡ one_of_three (refusal_number x) true) refl refl refl a
some_number a false = lack-any (λ x. false ≡ one_of_three (refusal_number x) false) refl refl refl a

module _ (regs : List ℕ) where
  pub lacking-is : (a b : ℕ) → a < 64 → not_modelled regs (row_at a) a b ≡ is_lacking a b
  lacking-is a b h = some_number a (not_modelled regs (row_at a) a b) ∙ rw (detector-is regs a b h, power-mode-is regs a b h, test-or-trim-is regs a b h)

  -- ---- every write
  pub accepts-is : (a b : ℕ) → accepted (write_answer regs a b) ≡ accepts (λ k. get_or regs k 0) a b
  unfolding answer_at accepts
  accepts-is a b = go (ltb frames_at a) refl
    where
      tests : (r s : Bool) → accepted (pick r (Err ReservedCode) (pick s (Err (lack_at a)) done)) ≡ not (either r s)
      tests true s = refl
      tests false true = refl
      tests false false = refl

      go : (t : Bool) → ltb frames_at a ≡ t → accepted (write_answer regs a b) ≡ accepts (λ k. get_or regs k 0) a b
      go true e = let h = ltb-true frames_at a e in rw (e, lt-leb a 0x3F h)
      go false e =
          let h = ltb-false frames_at a e in
          let low : a < 64 = omega arith in
          rw (e, le-leb a 0x3F h, reserved-is regs a b low, lacking-is a b low) (tests (is_reserved_write (λ k. get_or regs k 0) a b) (is_lacking a b))
