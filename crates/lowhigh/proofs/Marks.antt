-- Q-5, "High marks and the sample's sign sit in 0x0C bits 3:0, kept as any-motion's are": of the sample that set the status, and how long they
-- stay. Assumes nothing.
use Prim.Native.Nat.{ℕ, ◌+◌, ◌%◌, ◌<◌}
use mathlib.Core.Bool.{true, false}
use mathlib.Core.List.{List, [], ◌∷◌}
use mathlib.Core.Path.{◌≡◌, sym, ◌∙◌}
use Rattle.laws.specs.Bits.{bit, worth}
use Rattle.alarm.proofs.Laws as alarm
use Rattle.alarm.proofs.Laws.{marks-whole}
use Rattle.events.specs.Event.{Event, read, bytes, gives}
use Rattle.events.specs.Run.{after}
use Rattle.paper.specs.Stored.{starts_anew}
use Rattle.rules.specs.Shown.{bit_seen}
use Rattle.lookback.specs.Watch.{restarts}
use Rattle.lookback.specs.Seen.{is_set, expires, sets_at}
use Rattle.lookback.specs.Marks.{mark_shown, sign_shown, Setter}
use Rattle.lookback.proofs.Marks.{mark-small}
use Rattle.lookback.proofs.Setter as lookback
use Rattle.lookback.proofs.Stays as stays
use Rattle.lasting.proofs.Parts.{alarm_of}
use Rattle.lowhigh.specs.High.{mark_of, high_lasting, high_g, high_marks_byte}
use Rattle.lowhigh.proofs.High.{lawful, small, high-seen, reads-marks}

module _ (es : List Event) where
  -- the marks in bits 2:0 and the sign in bit 3
  pub marks-apart : (bit 3 (high_marks_byte es) ≡ sign_shown high_g es) × (high_marks_byte es % 8 ≡ mark_shown high_g es) × (high_marks_byte es < 16)
  unfolding high_marks_byte
  marks-apart =
      let a = alarm_of high_lasting es in
      let m = mark-small high_g small es in
      rw (← marks-whole a m) (alarm.marks-apart a m)

  -- while the status is 1 there is one sample that set it
  pub set_at : bit_seen es 0x09 1 ≡ true → Setter high_g es
  set_at h = lookback.set_at high_g lawful es (sym (high-seen es) ∙ h)

  -- and 0x0C marks the first axis above at that one, with its sign
  pub marks-of-setter : (s : Setter high_g es) → let m = mark_of s.came.setter in gives (after es) (read 0x0C 1) ≡ bytes ((m.axis + worth 8 m.negative) ∷ [])
  unfolding high_marks_byte
  marks-of-setter s = let m = lookback.marks-of-setter high_g lawful es s in reads-marks es ∙ rw (m.1, m.2)

  -- "The marks clear with the status"
  pub marks-clear : is_set high_g es ≡ false → high_marks_byte es % 8 ≡ 0
  marks-clear h = marks-apart.1 ∙ stays.marks-clear high_g es h

module _ (es : List Event) (e : Event) where
  -- bit 3 is the sign
  of-sign : sign_shown high_g (e ∷ es) ≡ sign_shown high_g es → bit 3 (high_marks_byte (e ∷ es)) ≡ bit 3 (high_marks_byte es)
  of-sign s = (marks-apart (e ∷ es)).0 ∙ s ∙ sym (marks-apart es).0

  -- a status already set is not set again: mark and sign stay those of the setting
  pub not-set-again : is_set high_g es ≡ true → is_set high_g (e ∷ es) ≡ true → high_marks_byte (e ∷ es) ≡ high_marks_byte es
  unfolding high_marks_byte
  not-set-again s t = let m = stays.not-set-again high_g lawful es e s t in rw (m.0, m.1)

  module _ (old : starts_anew e ≡ false) where
    -- "bit 3 stays until the next setting or soft reset"
    pub bit-3-stays : sets_at high_g es e ≡ false → bit 3 (high_marks_byte (e ∷ es)) ≡ bit 3 (high_marks_byte es)
    bit-3-stays n = of-sign (stays.sign-stays high_g lawful es e old n)

    -- over the writes that restart it
    pub bit-3-over-restart : restarts high_g es e ≡ true → bit 3 (high_marks_byte (e ∷ es)) ≡ bit 3 (high_marks_byte es)
    bit-3-over-restart r = of-sign (stays.sign-over-restart high_g lawful es e old r)

    -- and over an expiry
    pub bit-3-over-expiry : expires high_g es e ≡ true → bit 3 (high_marks_byte (e ∷ es)) ≡ bit 3 (high_marks_byte es)
    bit-3-over-expiry x = of-sign (stays.sign-over-expiry high_g lawful es e old x)
