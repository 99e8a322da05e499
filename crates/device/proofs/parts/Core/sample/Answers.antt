use Rattle.std.proofs.Common.{◌∙◌, ◌<◌, refl, sym, arith}
use lib.Signed.{mag}
use Rattle.std.proofs.Math.Facts.{to_z-of_z}
use Rattle.laws.proofs.Ints.{same-in-16-bits}
use Rattle.device.specs.Parts.{whole}
use Rattle.device.proofs.Events.{sample-is, sample-refused}
use Rattle.device.proofs.parts.Core.sample.Goals as goal

pub returns-then-is_accepted : goal.returns-then-is_accepted
returns-then-is_accepted c =
    let a = c.args in
    let f = c.ranges in
    let t = simp (to_z-of_z f.x, to_z-of_z f.y, to_z-of_z f.z) at c.sample_answer-answer.ensures in
    let r = c.stored_by-stored.result in
    let s = simp (to_z-of_z f.x, to_z-of_z f.y, to_z-of_z f.z) at c.stored_by-stored.ensures in
    let hx : mag r.x < 32768 = omega arith in
    let hy : mag r.y < 32768 = omega arith in
    let hz : mag r.z < 32768 = omega arith in
    let kx = same-in-16-bits r.x hx in
    let ky = same-in-16-bits r.y hy in
    let kz = same-in-16-bits r.z hz in
    let k = rw (kx, ky, kz, s) at c.codes_of-codes.ensures in
    sample-is (whole a.self a.regs.now a.frames.now) _ _ _ _ _ t (sym c.is_accepted.ensures ∙ c.if-is_accepted.true) _ record {
      regs = refl;
      channels = c.sample-self.ensures ∙ rw k refl;
      temperature = refl;
      came = refl;
      flat = c.push-self.ensures ∙ rw (c.frame_of-frame.ensures, c.mode_of-mode.ensures, c.axes_of-axes.ensures, k);
      detectors = c.sample-self-then-is_accepted.ensures ∙ rw (kx, ky, kz, s);
    }

pub returns-else-is_accepted : goal.returns-else-is_accepted
returns-else-is_accepted c =
    let a = c.args in
    let f = c.ranges in
    let t = simp (to_z-of_z f.x, to_z-of_z f.y, to_z-of_z f.z) at c.sample_answer-answer.ensures in
    sample-refused (whole a.self a.regs.now a.frames.now) _ _ _ _ _ t (sym c.is_accepted.ensures ∙ c.if-is_accepted.false)
