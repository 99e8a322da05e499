-- 01, "On setting, 0x0B bits 2:0 (z, y, x) mark the first over axis (x before y before z) at that point, and bit 3 is 1 for a negative
-- difference": while the status is 1 there is a point that set it, and 0x0B marks that one. Assumes nothing.
use mathlib.Core.Bool.{true}
use mathlib.Core.List.{List, [], ◌∷◌}
use mathlib.Core.Path.{◌≡◌, sym, ◌∙◌}
use Rattle.events.specs.Event.{Event, bytes}
use Rattle.rules.specs.Shown.{bit_seen}
use Rattle.lookback.specs.Watch.{going_by}
use Rattle.lookback.specs.Seen.{seen}
use Rattle.lookback.proofs.InRow.{setter-in-row, in-row-setter}
use Rattle.lookback.proofs.Setter as lookback
use Rattle.points.specs.Points.{is_over}
use Rattle.anymotion.specs.Status.{points_asked, any_motion}
use Rattle.anymotion.specs.Marks.{marks_byte, SetAt, marks_byte_at}
use Rattle.anymotion.specs.Held.{reads}
use Rattle.anymotion.proofs.Detector.{some-asked, sets-is, clears-is, lawful}
use Rattle.anymotion.proofs.Promise.{status-seen, reads-marks}

module _ (es : List Event) where
  -- "On setting": while the status is 1 there is a point that set it
  pub set_at : bit_seen es 0x09 2 ≡ true → SetAt es
  unfolding going_by
  set_at h =
      setter-in-row any_motion (going_by any_motion es) is_over (points_asked es) (some-asked es) (sets-is es) (clears-is es) (seen any_motion es)
      (lookback.set_at any_motion lawful es (sym (status-seen es) ∙ h))

  -- and 0x0B marks that point
  pub marks-of-setter : (s : SetAt es) → reads es 0x0B ≡ bytes (marks_byte_at s.point ∷ [])
  unfolding marks_byte going_by
  marks-of-setter s =
      let a = in-row-setter any_motion (going_by any_motion es) is_over (points_asked es) (some-asked es) (sets-is es) (clears-is es) (seen any_motion es) s in
      let m = lookback.marks-of-setter any_motion lawful es a.0 in
      reads-marks es ∙ rw (m.1, m.2, a.1)
