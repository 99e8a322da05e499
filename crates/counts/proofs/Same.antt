-- What is the same in two accounts is equal in them: the tests of the code are tests of equality.
-- Assumes nothing.
use Rattle.std.proofs.Common.{◌≡◌, ℕ, Bool, true, false, eqb, ◌↔◌, sym, refl, ap, ◌∙◌, eq-eqb, eqb-true, Option, None, Some}
use Rattle.laws.specs.Choice.{pick, both}
use Rattle.codes.specs.declared.Mode.{Mode}
use Rattle.codes.specs.declared.Mode.TheVariants.{Bypass, Fifo, Stream}
use Rattle.codes.specs.declared.Mode.TheVariants as mode
use Rattle.codes.specs.declared.Range.{Range}
use Rattle.codes.specs.declared.Range.TheVariants.{G2, G4, G8, G16}
use Rattle.codes.specs.declared.Range.TheVariants as range
use Rattle.counts.specs.Counts.{is_same_doubt, in_g, mode_bits, is_same_range, is_same_mode}
use Rattle.counts.specs.declared.Account.{Account}
use Rattle.counts.specs.declared.Doubt.{Doubt}

both_of : (s t : Bool) → both s t ≡ true → (s ≡ true) × (t ≡ true)
both_of true t h = (refl, h)
both_of false t h = (cc, cc)

same_number : (n : ℕ) → eqb n n ≡ true
same_number n = eq-eqb n n refl

-- ---- doubts
doubt-equal : (d d' : Option Doubt) → is_same_doubt d d' ≡ true → d ≡ d'
doubt-equal None None h = refl
doubt-equal None (Some d) h = cc
doubt-equal (Some d) None h = cc
doubt-equal (Some d) (Some d') h =
    let p = both_of (eqb d.number d'.number) (eqb d.byte d'.byte) h in
    λ i. Some (record { byte = eqb-true d.byte d'.byte p.1 i; number = eqb-true d.number d'.number p.0 i })

doubt-same : (d : Option Doubt) → is_same_doubt d d ≡ true
doubt-same None = refl
doubt-same (Some d) = rw (same_number d.number, same_number d.byte)

-- ---- ranges and modes: no two have the same size, or the same bits
of_g : ℕ → Range
of_g n = pick (eqb n 2) G2 (pick (eqb n 4) G4 (pick (eqb n 8) G8 (pick (eqb n 16) G16 range.Reserved)))

back-from-g : (r : Range) → of_g (in_g r) ≡ r
unfolding of_g
back-from-g G2 = refl
back-from-g G4 = refl
back-from-g G8 = refl
back-from-g G16 = refl
back-from-g range.Reserved = refl

of_bits : ℕ → Mode
of_bits n = pick (eqb n 0b00) Bypass (pick (eqb n 0b01) Fifo (pick (eqb n 0b10) Stream mode.Reserved))

back-from-bits : (m : Mode) → of_bits (mode_bits m) ≡ m
unfolding of_bits
back-from-bits Bypass = refl
back-from-bits Fifo = refl
back-from-bits Stream = refl
back-from-bits mode.Reserved = refl

-- ---- accounts
pub same-range-is : (a b : Account) → (is_same_range a b ≡ true) ↔ ((a.range ≡ b.range) × (a.doubts.range ≡ b.doubts.range))
same-range-is a b = (to, from)
  where
    to : is_same_range a b ≡ true → (a.range ≡ b.range) × (a.doubts.range ≡ b.doubts.range)
    to h =
        let p = both_of (eqb (in_g a.range) (in_g b.range)) (is_same_doubt a.doubts.range b.doubts.range) h in
        (sym (back-from-g a.range) ∙ ap of_g (eqb-true _ _ p.0) ∙ back-from-g b.range, doubt-equal a.doubts.range b.doubts.range p.1)

    from : (a.range ≡ b.range) × (a.doubts.range ≡ b.doubts.range) → is_same_range a b ≡ true
    from p = rw (p.0, p.1, same_number (in_g b.range), doubt-same b.doubts.range)

pub same-mode-is : (a b : Account) → (is_same_mode a b ≡ true) ↔ ((a.mode ≡ b.mode) × (a.doubts.mode ≡ b.doubts.mode))
same-mode-is a b = (to, from)
  where
    to : is_same_mode a b ≡ true → (a.mode ≡ b.mode) × (a.doubts.mode ≡ b.doubts.mode)
    to h =
        let p = both_of (eqb (mode_bits a.mode) (mode_bits b.mode)) (is_same_doubt a.doubts.mode b.doubts.mode) h in
        (sym (back-from-bits a.mode) ∙ ap of_bits (eqb-true _ _ p.0) ∙ back-from-bits b.mode, doubt-equal a.doubts.mode b.doubts.mode p.1)

    from : (a.mode ≡ b.mode) × (a.doubts.mode ≡ b.doubts.mode) → is_same_mode a b ≡ true
    from p = rw (p.0, p.1, same_number (mode_bits b.mode), doubt-same b.doubts.mode)
