-- The device's low-g is the one that looking back tells, and reads of 0x09 show it. Assumes nothing.
use Prim.Native.Nat.{ℕ, ◌<◌}
use mathlib.Core.List.{List}
use mathlib.Core.Path.{◌≡◌, refl, ap, ◌∙◌}
use native.Mathlib.Omega.{arith}
use lib.ListN.{get_or}
use Rattle.alarm.specs.declared.Alarm.{Alarm}
use Rattle.spell.specs.Spell.{after_sample}
use Rattle.spell.specs.declared.Spell.{Spell}
use Rattle.detectors.specs.Detectors.{low_status}
use Rattle.gravity.specs.Gravity.{low_spell, both_restarted, both_clocked, low_sampled, both_sampled}
use Rattle.events.specs.Event.{Event}
use Rattle.events.specs.Run.{after}
use Rattle.events.specs.Bank.{bank}
use Rattle.paper.specs.Stored.{byte_by}
use Rattle.paper.specs.Samples.{Values}
use Rattle.paper.proofs.Stored.{stored_is}
use Rattle.lookback.proofs.InForce.{latch-is, hold-is}
use Rattle.lookback.specs.Seen.{is_set}
use Rattle.lookback.proofs.Seen.{Lawful}
use Rattle.lasting.proofs.Parts as parts
use Rattle.lasting.proofs.Parts.{shown_by, after_shown, Kept, Spelled}
use Rattle.rules.specs.Shown.{bit_seen}
use Rattle.rules.proofs.Reading as rules
use Rattle.lowhigh.specs.Low.{low_lasting, low_g}
use Rattle.lowhigh.proofs.Delays.{low-counted}
use Rattle.lowhigh.proofs.LowPoints.{low-apart, low-one, low-shown}

-- an accepted sample
sampled : (es : List Event) (v : Values) (s : Spell)
    → low_sampled (bank es) v.x v.y v.z s ≡ after_shown low_lasting es s (shown_by low_lasting (low_lasting.point_of es v))
unfolding low_sampled after_sample
sampled es v s =
    let byte : (a : ℕ) → a < 64 → get_or (bank es) a 0 ≡ byte_by es a = stored_is es in
    rw (byte 0x0F (omega arith), byte 0x17 (omega arith), byte 0x21 (omega arith), byte 0x22 (omega arith), byte 0x23 (omega arith), byte 0x24 (omega arith), latch-is (byte_by es 0x21), hold-is (byte_by es 0x21))
    (low-shown (byte_by es 0x17) (byte_by es 0x0F) (byte_by es 0x23) (byte_by es 0x24) v (after_shown low_lasting es s) s refl)

kept : Kept
unfolding both_restarted both_clocked
kept = record { get = low_spell; quiet_is = refl; restarts = λ g. refl; clocks = λ us g. refl }

spelled : Spelled low_lasting
unfolding kept both_sampled
spelled = record {
  apart = low-apart;
  one = λ es v. low-one (byte_by es 0x17) (byte_by es 0x0F) (byte_by es 0x23) (byte_by es 0x24) v;
  delays = refl;
  counted = low-counted;
  kept = kept;
  samples = λ es v g. sampled es v (low_spell g);
}

pub lawful : Lawful low_g
lawful = parts.lawful low_lasting spelled

module _ (es : List Event) where
  pub low-is : low_status (after es).detectors ≡ is_set low_g es
  unfolding kept spelled
  low-is = ap (λ (a : Alarm). a.status) (parts.alarm-is low_lasting spelled es)

  -- Q-5: "low and high are bits 0 and 1 of 0x09"
  pub low-seen : bit_seen es 0x09 0 ≡ is_set low_g es
  low-seen = rules.low-seen es ∙ low-is
