-- What every detector of the device goes by is what 01 names: the codes of 0x21, and the writes that begin something anew. Assumes nothing.
use Prim.Native.Nat.{ℕ, ◌%◌, ◌≤◌}
use mathlib.Core.Bool.{Bool, true, false, not}
use mathlib.Core.List.{List, [], ◌∷◌}
use mathlib.Core.Path.{◌≡◌, refl, sym, ap, ◌∙◌}
use native.Mathlib.Omega.{arith}
use borrow.Author.Tests.{eqb-true, le-leb}
use lib.Dec.{eqb, leb}
use Rattle.laws.specs.Choice.{pick, both, either}
use Rattle.laws.specs.Lists.{is_in}
use Rattle.laws.specs.Table.{up_from}
use Rattle.laws.proofs.Finite.{of-pick, alike}
use Rattle.codes.specs.Latch.{latch_of, is_unlatched, hold_of}
use Rattle.table.specs.Rows.{row_at}
use Rattle.table.specs.declared.Row.{Row}
use Rattle.registers.specs.Answers.{accepted}
use Rattle.registers.specs.Refused.{write_answer}
use Rattle.registers.specs.Deeds.{deeds_of, no_deeds, judgement}
use Rattle.registers.specs.declared.Deeds.{Deeds}
use Rattle.events.specs.Event.{Event, power_up, write, read, sample, cycle, clock}
use Rattle.events.specs.Bank.{bank}
use Rattle.paper.specs.Stored.{is_soft_reset, starts_anew, is_spared, none, last, byte_left, last_write, byte_by, is_accepted}
use Rattle.paper.proofs.Stored.{accepted-is}
use Rattle.lookback.specs.InForce.{means_non_latched, means_latched, time_of_code, means_time, is_non_latched, is_latched, time_asked, begins_anew}

-- ---- 0x21
module _ (byte : ℕ) where
  -- what is alike of each of the sixteen codes is alike of the byte
  of_code : {A : Type 0} (f g : ℕ → A) → up_from f 0 16 ≡ up_from g 0 16 → f (byte % 16) ≡ g (byte % 16)
  of_code f g e = alike f g 16 e (byte % 16) (omega arith)

  low : latch_of byte ≡ latch_of (byte % 16)
  unfolding latch_of
  low = let e : byte % 16 % 16 ≡ byte % 16 = omega arith in rw e

  pub latch-is : is_unlatched (latch_of byte) ≡ means_non_latched byte
  unfolding latch_of
  latch-is = ap is_unlatched low ∙ of_code (λ code. is_unlatched (latch_of code)) (is_in (0b0000 ∷ 0b1000 ∷ [])) refl

  -- Q-4: "Codes 0001 to 0110 hold for 250 ms, 500 ms, ..": the table of codes has these times
  pub hold-is : hold_of (latch_of byte) ≡ means_time byte
  unfolding latch_of
  hold-is = ap hold_of low ∙ of_code (λ code. hold_of (latch_of code)) time_of_code refl

  one-latch : means_latched byte ≡ not (either (means_non_latched byte) (leb 1 (means_time byte)))
  one-latch = of_code (is_in (0b0111 ∷ 0b1111 ∷ [])) (λ code. not (either (is_in (0b0000 ∷ 0b1000 ∷ []) code) (leb 1 (time_of_code code)))) refl

  not-both : both (means_non_latched byte) (leb 1 (means_time byte)) ≡ false
  not-both = of_code (λ code. both (is_in (0b0000 ∷ 0b1000 ∷ []) code) (leb 1 (time_of_code code))) (λ code. false) refl

module _ (es : List Event) where
  -- "low nibble 0000 and 1000 non-latched, 0111 and 1111 latched", and Q-4's codes for a time: at any time it is one of the three
  pub latched-or-not : is_latched es ≡ not (either (is_non_latched es) (leb 1 (time_asked es)))
  latched-or-not = one-latch (byte_by es 0x21)

  -- and what is held for a time is not non-latched
  pub timed-holds : 1 ≤ time_asked es → is_non_latched es ≡ false
  timed-holds h = go (is_non_latched es) (leb 1 (time_asked es)) (le-leb 1 (time_asked es) h) (not-both (byte_by es 0x21))
    where
      go : (u t : Bool) → t ≡ true → both u t ≡ false → u ≡ false
      go true t e f = sym e ∙ f
      go false t e f = refl

-- ---- writes
-- a deed that is done at these addresses is done where a write to one of them is accepted
pub deed-is : (deed : Deeds → Bool) (addresses : List ℕ) → ((regs : List ℕ) (r : Row) (a byte : ℕ) → deed (deeds_of regs r a byte) ≡ is_in addresses a) → deed no_deeds ≡ false
    → (es : List Event) (a byte : ℕ) → deed (judgement (bank es) a byte).deeds ≡ both (is_accepted es a byte) (is_in addresses a)
unfolding judgement
deed-is deed addresses done undone es a byte =
    of-pick deed (accepted (write_answer (bank es) a byte)) (deeds_of (bank es) (row_at a) a byte) no_deeds
    ∙ rw (accepted-is es a byte, done (bank es) (row_at a) a byte, undone) (go (is_accepted es a byte))
  where
    go : (t : Bool) → pick t (is_in addresses a) false ≡ both t (is_in addresses a)
    go true = refl
    go false = refl

-- what is in force at these addresses changes where it begins anew only
pub in-force-kept : (addresses : List ℕ) (es : List Event) (e : Event) → begins_anew addresses es e ≡ false → (c : ℕ) → is_in addresses c ≡ true → byte_by (e ∷ es) c ≡ byte_by es c
unfolding byte_by begins_anew
in-force-kept addresses es power_up h c m = let z : ◌≡◌ {A = ℕ} 0 1 = cc in absurd (omega arith)
in-force-kept addresses es (write a byte) h c m = go (is_soft_reset a byte) (eqb a c) refl (is_accepted es a byte) (is_spared c) h
  where
    go : (r t : Bool) → eqb a c ≡ t → (s u : Bool) → either r (both s (is_in addresses a)) ≡ false
        → byte_left c (pick (both t s) (last byte) (pick (both r (not u)) none (last_write es c))) ≡ byte_left c (last_write es c)
    go true t e s u f = cc
    go false true e true u f = let n : is_in addresses c ≡ false = rw (← eqb-true a c e) f in cc
    go false true e false u f = refl
    go false false e s u f = refl
in-force-kept addresses es (read a n) h c m = refl
in-force-kept addresses es (sample x y z t) h c m = refl
in-force-kept addresses es cycle h c m = refl
in-force-kept addresses es (clock us) h c m = refl

-- power-up and soft reset begin everything anew
pub anew-begins : (addresses : List ℕ) (es : List Event) (e : Event) → starts_anew e ≡ true → begins_anew addresses es e ≡ true
unfolding begins_anew
anew-begins addresses es e h = rw h

pub not-anew : (addresses : List ℕ) (es : List Event) (e : Event) → begins_anew addresses es e ≡ false → starts_anew e ≡ false
not-anew addresses es e r = go (starts_anew e) refl
  where
    go : (t : Bool) → starts_anew e ≡ t → t ≡ false
    go true h = sym (anew-begins addresses es e h) ∙ r
    go false h = refl
