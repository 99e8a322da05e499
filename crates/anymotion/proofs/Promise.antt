-- Demand 2 for any-motion: after any history, what reads of 0x09 and 0x0B show is what 01 says of its events. Assumes nothing.
use Prim.Native.Nat.{ℕ, ◌%◌, ◌<◌, ◌≤◌}
use mathlib.Core.Bool.{Bool, true, false}
use mathlib.Core.List.{List, [], ◌∷◌}
use mathlib.Core.Logic.{◌↔◌}
use mathlib.Core.Path.{◌≡◌, refl, sym, ap, ◌∙◌}
use native.Mathlib.Omega.{arith}
use lib.Dec.{leb}
use borrow.Author.Tests.{not-true}
use Rattle.laws.specs.Choice.{either}
use Rattle.laws.specs.Bits.{bit}
use Rattle.laws.proofs.Finite.{picked}
use Rattle.alarm.specs.Alarm.{marks_of}
use Rattle.alarm.proofs.Laws.{marks-whole}
use Rattle.alarm.proofs.Laws as alarm
use Rattle.motion.specs.declared.Motion.{Motion}
use Rattle.detectors.specs.Detectors.{motion_marks}
use Rattle.events.specs.Event.{Event, bytes}
use Rattle.events.specs.Run.{after}
use Rattle.rules.specs.Shown.{bit_seen}
use Rattle.rules.proofs.Reading as rules
use Rattle.paper.specs.Stored.{byte_by}
use Rattle.paper.specs.Samples.{Values}
use Rattle.lookback.specs.InForce.{is_non_latched, is_latched, time_asked}
use Rattle.lookback.specs.Watch.{going_by}
use Rattle.lookback.specs.Seen.{seen, mark_of}
use Rattle.lookback.specs.Marks.{mark_shown, sign_shown}
use Rattle.lookback.specs.InRow.{InRow}
use Rattle.lookback.proofs.Marks.{mark-small}
use Rattle.lookback.proofs.InForce.{latched-or-not, timed-holds}
use Rattle.lookback.proofs.InRow.{set_when}
use Rattle.points.specs.Points.{OverAxes, samples, is_over, is_calm, any_enabled, point_of_two, point_by}
use Rattle.points.proofs.Points.{above-small}
use Rattle.anymotion.specs.Status.{points_asked, any_motion, points, is_set, Came}
use Rattle.anymotion.specs.Marks.{marks_byte}
use Rattle.anymotion.specs.Held.{reads}
use Rattle.anymotion.proofs.Detector.{some-asked, sets-is, clears-is, motion_after, detector-is}

-- what a point marks is below 8
small : (es : List Event) (s : Values) → (mark_of any_motion (point_by 0x16 0x28 es s)).axis < 8
small es s = go (samples es)
  where
    go : (olds : List Values) → (mark_of any_motion (point_of_two (byte_by es 0x16) (byte_by es 0x28) s olds)).axis < 8
    go [] = omega arith
    go (old ∷ olds) = picked (λ (ps : List OverAxes). (mark_of any_motion ps).axis < 8) (any_enabled (byte_by es 0x16)) (above-small (byte_by es 0x16) (byte_by es 0x28) old s) (omega arith)

module _ (es : List Event) where
  -- ---- looking back
  -- "any-motion (0x09 bit 2)"
  pub status-seen : bit_seen es 0x09 2 ≡ is_set es
  status-seen = rules.motion-seen es ∙ ap (λ (m : Motion). m.alarm.status) (detector-is es)

  -- "0x0B bits 2:0 (z, y, x) mark the first over axis .., and bit 3 is 1 for a negative difference": the byte that the device shows
  pub marks-are : motion_marks (after es).detectors ≡ marks_byte es
  unfolding marks_byte
  marks-are = ap (λ (m : Motion). marks_of m.alarm) (detector-is es) ∙ marks-whole (motion_after es).alarm (mark-small any_motion small es)

  pub reads-marks : reads es 0x0B ≡ bytes (marks_byte es ∷ [])
  reads-marks = rules.reads-marks es ∙ rw marks-are

  -- which are the mark in bits 2:0 and the sign in bit 3
  pub marks-apart : (bit 3 (marks_byte es) ≡ sign_shown any_motion es) × (marks_byte es % 8 ≡ mark_shown any_motion es) × (marks_byte es < 16)
  unfolding marks_byte
  marks-apart =
      let a = (motion_after es).alarm in
      let m = mark-small any_motion small es in
      rw (← marks-whole a m) (alarm.marks-apart a m)

  -- ---- the status, in one sentence: non-latched it is 1 exactly when since the last restart N over points in a row came and no N calm
  -- points in a row after them; latched, the first half alone; held for a time (Q-4), that half since the last restart or expiry
  set_is : (is_set es ≡ true) ↔ Came es
  unfolding going_by
  set_is = set_when any_motion (going_by any_motion es) is_over (points_asked es) (some-asked es) (sets-is es) (clears-is es) (seen any_motion es)

  pub set-exactly : (bit_seen es 0x09 2 ≡ true) ↔ Came es
  set-exactly = rw status-seen set_is

  pub clear-exactly : (bit_seen es 0x09 2 ≡ false) ↔ (¬ Came es)
  clear-exactly = rw status-seen (go (is_set es) refl)
    where
      go : (t : Bool) → is_set es ≡ t → (t ≡ false) ↔ (¬ Came es)
      go true e = ((λ h. let z : ◌≡◌ {A = ℕ} 0 1 = cc in absurd (omega arith)), (λ n. absurd (n (set_is.0 e))))
      go false e = ((λ h c. let s : is_set es ≡ true = set_is.1 c in let z : ◌≡◌ {A = ℕ} 0 1 = cc in omega arith), (λ n. refl))

  -- the modes apart
  pub non-latched-exactly : is_non_latched es ≡ true
      → (bit_seen es 0x09 2 ≡ true) ↔ ((r : InRow is_over (points_asked es) (points es)) × (¬ InRow is_calm (points_asked es) r.later))
  non-latched-exactly u = ((λ h. let c = set-exactly.0 h in (c.came, c.since u)), (λ r. set-exactly.1 (record { came = r.0; since = λ v. r.1 })))

  held-exactly : is_non_latched es ≡ false → (bit_seen es 0x09 2 ≡ true) ↔ InRow is_over (points_asked es) (points es)
  held-exactly n = ((λ h. (set-exactly.0 h).came), (λ r. set-exactly.1 (record { came = r; since = λ u. let z : ◌≡◌ {A = ℕ} 0 1 = cc in absurd (omega arith) })))

  pub latched-exactly : is_latched es ≡ true → (bit_seen es 0x09 2 ≡ true) ↔ InRow is_over (points_asked es) (points es)
  latched-exactly l =
      held-exactly (not-either (is_non_latched es) (leb 1 (time_asked es)) (not-true (either (is_non_latched es) (leb 1 (time_asked es))) (sym (latched-or-not es) ∙ l)))
    where
      not-either : (u t : Bool) → either u t ≡ false → u ≡ false
      not-either true t e = e
      not-either false t e = refl

  pub timed-exactly : 1 ≤ time_asked es → (bit_seen es 0x09 2 ≡ true) ↔ InRow is_over (points_asked es) (points es)
  timed-exactly t = held-exactly (timed-holds es t)
