-- Q-4: what an expiry leaves of any-motion is what a write to 0x21 leaves, of the byte that it holds: both clear status, marks and runs, and
-- nothing else.
-- Assumes nothing.
use Prim.Native.Nat.{ℕ, ◌-◌, ◌%◌}
use mathlib.Core.Bool.{Bool, true, false}
use mathlib.Core.List.{List, [], ◌∷◌, ◌++◌}
use mathlib.Core.Path.{◌≡◌, refl, sym, ap, ◌∙◌}
use native.Mathlib.Omega.{arith}
use lib.Bits.{bit_and, and_mask, and_zero_r, or_zero_r}
use lib.Seq.{set-get_or}
use Rattle.laws.specs.Choice.{pick}
use Rattle.table.specs.Rows.{row_at, merged, writable, the_table}
use Rattle.motion.specs.Detector.{restarted, clocked}
use Rattle.motion.proofs.Clock.{clocked-reached}
use Rattle.motion.specs.declared.Motion.{Motion}
use Rattle.alarm.specs.Alarm.{marks_of}
use Rattle.detectors.specs.Detectors.{detectors_sampled, detectors_clocked, detectors_written}
use Rattle.detectors.specs.declared.Detectors.{Detectors}
use Rattle.registers.specs.Answers.{accepted}
use Rattle.registers.specs.Refused.{reserved_code, not_modelled, answer_at, write_answer}
use Rattle.registers.specs.Deeds.{deeds_of, judgement}
use Rattle.registers.specs.declared.Deeds.{Deeds}
use Rattle.device.specs.Sample.{sample_answer, detectors_stored}
use Rattle.events.specs.Event.{Event, power_up, write, read, sample, cycle, clock, bytes}
use Rattle.events.specs.Run.{after}
use Rattle.events.specs.Bank.{bank_next, bank, stored}
use Rattle.events.specs.Parts.{detectors_next}
use Rattle.events.proofs.Parts.{detectors-next}
use Rattle.events.proofs.Runs.{bank-is}
use Rattle.paper.specs.Computed.{the_paper}
use Rattle.paper.specs.Table.{masked}
use Rattle.paper.proofs.Table.{masked-is}
use Rattle.paper.proofs.Stored.{stored_is, always-stored}
use Rattle.lookback.specs.InForce.{time_asked}
use Rattle.lookback.specs.Watch.{going_by}
use Rattle.lookback.specs.Seen.{clock_since, expires}
use Rattle.lookback.proofs.Seen.{expiry-when, below}
use Rattle.rules.proofs.Reading as rules
use Rattle.anymotion.specs.Status.{any_motion}
use Rattle.anymotion.specs.Held.{SameShown}
use Rattle.anymotion.proofs.Detector.{lawful, motion_after, detector-is}

-- ---- what any-motion goes by after two histories: the registers, the previous sample, and the detector itself
pub record Alike (es fs : List Event) : Type 0 where
  pub registers : bank es ≡ bank fs
  pub previous : (after es).detectors.previous ≡ (after fs).detectors.previous
  pub motion : (after es).detectors.motion ≡ (after fs).detectors.motion

-- the two parts of the detectors that it goes by
record SameMotion (d d' : Detectors) : Type 0 where
  previous : d.previous ≡ d'.previous
  motion : d.motion ≡ d'.motion

-- no event lets the other parts touch these
same_next : (regs : List ℕ) (e : Event) (d d' : Detectors) → SameMotion d d' → SameMotion (detectors_next regs e d) (detectors_next regs e d')
unfolding detectors_written detectors_sampled detectors_clocked
same_next regs power_up d d' s = record { previous = refl; motion = refl }
same_next regs (write a byte) d d' s = go (judgement regs a byte).deeds.resets refl
  where
    deeds : Deeds
    deeds = (judgement regs a byte).deeds

    go : (t : Bool) → deeds.resets ≡ t → SameMotion (detectors_written deeds d) (detectors_written deeds d')
    go true e = record { previous = rw e; motion = rw e }
    go false e = record { previous = rw (e, s.previous); motion = rw (e, s.motion) }
same_next regs (read a n) d d' s = s
same_next regs (sample x y z t) d d' s = go (accepted (sample_answer x y z))
  where
    go : (t : Bool) → SameMotion (pick t (detectors_stored regs x y z d) d) (pick t (detectors_stored regs x y z d') d')
    go true = record { previous = refl; motion = rw (s.previous, s.motion) }
    go false = s
same_next regs cycle d d' s = s
same_next regs (clock us) d d' s = record { previous = s.previous; motion = ap (clocked us) s.motion }

steps : (es : List Event) (e : Event) → SameMotion (after (e ∷ es)).detectors (detectors_next (bank es) e (after es).detectors)
unfolding after
steps es e =
    let n = detectors-next (after es) e ∙ ap (λ (regs : List ℕ). detectors_next regs e (after es).detectors) (bank-is es) in
    record { previous = ap (λ (d : Detectors). d.previous) n; motion = ap (λ (d : Detectors). d.motion) n }

-- what is alike stays so when the same events come later
pub alike-later : (later es fs : List Event) → Alike es fs → Alike (later ++ es) (later ++ fs)
unfolding bank
alike-later [] es fs a = a
alike-later (e ∷ later) es fs a = go (alike-later later es fs a)
  where
    go : Alike (later ++ es) (later ++ fs) → Alike (e ∷ (later ++ es)) (e ∷ (later ++ fs))
    go b =
        let n = same_next (bank (later ++ fs)) e (after (later ++ es)).detectors (after (later ++ fs)).detectors (record { previous = b.previous; motion = b.motion }) in
        let l = steps (later ++ es) e in
        let r = steps (later ++ fs) e in
        let same = ap (λ (regs : List ℕ). detectors_next regs e (after (later ++ es)).detectors) b.registers in
        record {
          registers = ap (λ (regs : List ℕ). bank_next regs e) b.registers;
          previous = l.previous ∙ ap (λ (d : Detectors). d.previous) same ∙ n.previous ∙ sym r.previous;
          motion = l.motion ∙ ap (λ (d : Detectors). d.motion) same ∙ n.motion ∙ sym r.motion;
        }

-- and shows the same
pub same-shown : (es fs : List Event) → Alike es fs → SameShown es fs
same-shown es fs a = record {
  status = rules.motion-seen es ∙ ap (λ (m : Motion). m.alarm.status) a.motion ∙ sym (rules.motion-seen fs);
  marks = rules.reads-marks es ∙ ap (λ (m : Motion). bytes (marks_of m.alarm ∷ [])) a.motion ∙ sym (rules.reads-marks fs);
}

-- ---- the write
-- Q-4, "14 is gone": 0x21 takes every byte
latch-accepted : (regs : List ℕ) (byte : ℕ) → accepted (write_answer regs 0x21 byte) ≡ true
unfolding answer_at reserved_code not_modelled the_table
latch-accepted regs byte = rw (and_zero_r byte)

latch-writable : writable 0x21 ≡ true
unfolding the_table
latch-writable = refl

-- and what it holds stays as it is when it is written again
merged-again : (byte : ℕ) → merged (row_at 0x21) (merged (row_at 0x21) byte) ≡ merged (row_at 0x21) byte
unfolding the_table
merged-again byte =
    let e : byte % 16 % 16 ≡ byte % 16 = omega arith in
    rw (or_zero_r (bit_and byte 0x0F), and_mask byte 4, or_zero_r (bit_and (byte % 16) 0x0F), and_mask (byte % 16) 4, e)

latch-again : (es : List Event) → merged (row_at 0x21) (stored es 0x21) ≡ stored es 0x21
unfolding the_table the_paper
latch-again es =
    let left_by : (byte : ℕ) → merged (row_at 0x21) (masked 0x21 byte) ≡ masked 0x21 byte = λ byte. rw (← masked-is 0x21 byte (omega arith) refl) (merged-again byte) in
    rw (stored_is es 0x21 (omega arith)) (always-stored (λ v. merged (row_at 0x21) v ≡ v) 0x21 refl (λ es byte ok. left_by byte) es)

-- ---- the clock
module _ (es : List Event) (us : ℕ) (x : expires any_motion es (clock us) ≡ true) where
  motion-restarts : clocked us (after es).detectors.motion ≡ restarted (after es).detectors.motion
  unfolding going_by
  motion-restarts =
      let w = expiry-when any_motion lawful es (clock us) x in
      let b = below any_motion lawful es w.0 w.1 in
      let r : (motion_after es).alarm.remaining ≡ time_asked es - clock_since any_motion es = rw w.0 in
      rw (detector-is es) (clocked-reached (motion_after es) us (rw r (omega (arith, b))) (rw r (omega (arith, w.2))))

  pub as_written : Alike (clock us ∷ es) (write 0x21 (stored es 0x21) ∷ es)
  unfolding bank judgement deeds_of detectors_clocked detectors_written
  as_written =
      let again = write 0x21 (stored es 0x21) in
      let ok = latch-accepted (bank es) (stored es 0x21) in
      record {
        registers = rw (ok, latch-writable, latch-again es, set-get_or (bank es) 0x21 0);
        previous = (steps es (clock us)).previous ∙ sym ((steps es again).previous ∙ rw ok);
        motion = (steps es (clock us)).motion ∙ motion-restarts ∙ sym ((steps es again).motion ∙ rw ok);
      }
