-- The device's high-g is the one that looking back tells, and reads of 0x09 and 0x0C show it. Assumes nothing.
use Prim.Native.Nat.{ℕ, ◌<◌}
use mathlib.Core.List.{List, [], ◌∷◌}
use mathlib.Core.Path.{◌≡◌, refl, ap, ◌∙◌}
use native.Mathlib.Omega.{arith}
use lib.ListN.{get_or}
use Rattle.laws.specs.Choice.{both}
use Rattle.laws.proofs.Finite.{picked}
use Rattle.alarm.specs.Alarm.{marks_of}
use Rattle.alarm.specs.declared.Alarm.{Alarm}
use Rattle.alarm.proofs.Laws.{marks-whole}
use Rattle.spell.specs.Spell.{after_sample}
use Rattle.spell.specs.declared.Spell.{Spell}
use Rattle.detectors.specs.Detectors.{high_status, high_marks}
use Rattle.gravity.specs.Gravity.{high_spell, both_restarted, both_clocked, high_sampled, both_sampled}
use Rattle.events.specs.Event.{Event, read, bytes, gives}
use Rattle.events.specs.Run.{after}
use Rattle.events.specs.Bank.{bank}
use Rattle.paper.specs.Ranges.{is_known_range}
use Rattle.paper.specs.Stored.{byte_by}
use Rattle.paper.specs.Samples.{Values}
use Rattle.paper.proofs.Stored.{stored_is}
use Rattle.lookback.proofs.InForce.{latch-is, hold-is}
use Rattle.lookback.specs.Seen.{is_set, mark_of}
use Rattle.lookback.proofs.Seen.{Lawful}
use Rattle.lookback.proofs.Marks.{mark-small}
use Rattle.lasting.proofs.Parts as parts
use Rattle.lasting.proofs.Parts.{shown_by, after_shown, Kept, Spelled}
use Rattle.rules.specs.Shown.{bit_seen}
use Rattle.rules.proofs.Reading as rules
use Rattle.lowhigh.specs.High.{Measured, enabled_axes, is_some, high_lasting, high_g, high_marks_byte}
use Rattle.lowhigh.proofs.Delays.{high-counted}
use Rattle.lowhigh.proofs.HighPoints.{high-apart, high_one, high_small, high-shown}

-- an accepted sample
sampled : (es : List Event) (v : Values) (s : Spell)
    → high_sampled (bank es) v.x v.y v.z s ≡ after_shown high_lasting es s (shown_by high_lasting (high_lasting.point_of es v))
unfolding high_sampled after_sample
sampled es v s =
    let byte : (a : ℕ) → a < 64 → get_or (bank es) a 0 ≡ byte_by es a = stored_is es in
    rw (byte 0x0F (omega arith), byte 0x17 (omega arith), byte 0x21 (omega arith), byte 0x24 (omega arith), byte 0x25 (omega arith), byte 0x26 (omega arith), latch-is (byte_by es 0x21), hold-is (byte_by es 0x21))
    (high-shown (byte_by es 0x17) (byte_by es 0x0F) (byte_by es 0x26) (byte_by es 0x24) v (after_shown high_lasting es s) s refl)

kept : Kept
unfolding both_restarted both_clocked
kept = record { get = high_spell; quiet_is = refl; restarts = λ g. refl; clocks = λ us g. refl }

spelled : Spelled high_lasting
unfolding kept both_sampled
spelled = record {
  apart = high-apart;
  one = λ es v. high_one (byte_by es 0x17) (byte_by es 0x0F) (byte_by es 0x26) (byte_by es 0x24) v;
  delays = refl;
  counted = high-counted;
  kept = kept;
  samples = λ es v g. sampled es v (high_spell g);
}

pub lawful : Lawful high_g
lawful = parts.lawful high_lasting spelled

-- what a point marks is below 8
pub small : (es : List Event) (v : Values) → (mark_of high_g (high_lasting.point_of es v)).axis < 8
small es v =
    picked (λ (ps : List Measured). (mark_of high_g ps).axis < 8) (both (is_some (enabled_axes (byte_by es 0x17) v)) (is_known_range (byte_by es 0x0F)))
    (high_small (byte_by es 0x17) v _) (omega arith)

module _ (es : List Event) where
  alarm-is : (after es).detectors.gravity.high ≡ parts.alarm_of high_lasting es
  unfolding kept spelled
  alarm-is = parts.alarm-is high_lasting spelled es

  pub high_is : high_status (after es).detectors ≡ is_set high_g es
  high_is = ap (λ (a : Alarm). a.status) alarm-is

  -- Q-5: "low and high are bits 0 and 1 of 0x09"
  pub high-seen : bit_seen es 0x09 1 ≡ is_set high_g es
  high-seen = rules.high-seen es ∙ high_is

  -- "High marks and the sample's sign sit in 0x0C bits 3:0": the byte that the device shows
  pub marks-are : high_marks (after es).detectors ≡ high_marks_byte es
  unfolding high_marks_byte
  marks-are = ap marks_of alarm-is ∙ marks-whole (parts.alarm_of high_lasting es) (mark-small high_g small es)

  pub reads-marks : gives (after es) (read 0x0C 1) ≡ bytes (high_marks_byte es ∷ [])
  reads-marks = rules.reads-high-marks es ∙ rw marks-are
