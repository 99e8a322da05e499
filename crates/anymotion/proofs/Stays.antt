-- 01, "Interrupts and pins", any-motion, event by event: what clears the status, what the marks do, and what bit 3 outlasts.
-- Assumes nothing.
use Prim.Native.Nat.{◌%◌}
use mathlib.Core.Bool.{true, false}
use mathlib.Core.List.{List, [], ◌∷◌}
use mathlib.Core.Path.{◌≡◌, sym, ◌∙◌}
use native.Mathlib.Numerals.{add-one}
use Rattle.laws.specs.Bits.{bit}
use Rattle.events.specs.Event.{Event}
use Rattle.paper.specs.Stored.{starts_anew, byte_by}
use Rattle.lookback.specs.Sight.{point}
use Rattle.lookback.specs.Watch.{restarts, point_at}
use Rattle.lookback.specs.Seen.{seen, expires, sets_at}
use Rattle.lookback.specs.Marks.{sign_shown}
use Rattle.lookback.proofs.Seen as lookback
use Rattle.lookback.proofs.Stays as stays
use Rattle.anymotion.specs.Status.{any_motion, is_set}
use Rattle.anymotion.specs.Marks.{marks_byte}
use Rattle.anymotion.proofs.Detector.{sets-is, lawful}
use Rattle.anymotion.proofs.Promise.{marks-apart}

module _ (es : List Event) (e : Event) where
  -- "An accepted write to 0x0F, 0x16, 0x21, 0x27 or 0x28 clears status"
  pub restart-clears : restarts any_motion es e ≡ true → is_set (e ∷ es) ≡ false
  restart-clears r = lookback.restart-clears any_motion lawful es e r

  -- "The marks clear with the status"
  pub marks-clear : is_set es ≡ false → marks_byte es % 8 ≡ 0
  marks-clear h = (marks-apart es).1 ∙ stays.marks-clear any_motion es h

  -- bit 3 is the sign
  of-sign : sign_shown any_motion (e ∷ es) ≡ sign_shown any_motion es → bit 3 (marks_byte (e ∷ es)) ≡ bit 3 (marks_byte es)
  of-sign s = (marks-apart (e ∷ es)).0 ∙ s ∙ sym (marks-apart es).0

  -- "A status already set is not set again": mark and sign stay those of the setting
  pub not-set-again : is_set es ≡ true → is_set (e ∷ es) ≡ true → marks_byte (e ∷ es) ≡ marks_byte es
  unfolding marks_byte
  not-set-again s t = let m = stays.not-set-again any_motion lawful es e s t in rw (m.0, m.1)

  module _ (old : starts_anew e ≡ false) where
    -- "bit 3 stays until the next setting or soft reset"
    pub bit-3-stays : sets_at any_motion es e ≡ false → bit 3 (marks_byte (e ∷ es)) ≡ bit 3 (marks_byte es)
    bit-3-stays n = of-sign (stays.sign-stays any_motion lawful es e old n)

    -- bit 3 outlasts the writes that clear status, marks and runs
    pub bit-3-over-restart : restarts any_motion es e ≡ true → bit 3 (marks_byte (e ∷ es)) ≡ bit 3 (marks_byte es)
    bit-3-over-restart r = of-sign (stays.sign-over-restart any_motion lawful es e old r)

    -- and Q-4's expiry: "The status clears, with marks and runs", and bit 3 is none of these
    pub bit-3-over-expiry : expires any_motion es e ≡ true → bit 3 (marks_byte (e ∷ es)) ≡ bit 3 (marks_byte es)
    bit-3-over-expiry x = of-sign (stays.sign-over-expiry any_motion lawful es e old x)

    -- and calm points, also those that clear the status
    pub bit-3-over-calm : point_at any_motion es e ≡ [] ∷ [] → bit 3 (marks_byte (e ∷ es)) ≡ bit 3 (marks_byte es)
    bit-3-over-calm h = of-sign (stays.sign-over-point any_motion lawful es e old [] h (sets-is es (point [] ∷ seen any_motion es) ∙ rw (add-one (byte_by es 0x27 % 4))))
