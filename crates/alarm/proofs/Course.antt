-- Q-4, of any detector with an alarm whose run adds clocks up: "Two clock events in a row equal one of their sum". Assumes nothing.
use Prim.Native.Nat.{ℕ, ◌+◌, ◌-◌, ◌<◌, ◌≤◌}
use mathlib.Core.Bool.{Bool, true, false}
use mathlib.Core.Path.{◌≡◌, refl, sym, ◌∙◌}
use native.Mathlib.Omega.{arith}
use borrow.Author.Tests.{eqb-true, eqb-false, ltb-true, ltb-false}
use lib.Dec.{eqb, ltb}
use Rattle.alarm.specs.Alarm.{waited, cleared}
use Rattle.alarm.specs.Course.{Course, Adds, Detector, clocked}
use Rattle.alarm.proofs.Laws.{idle, stands, time-reached, none_passes}

module _ (c : Course) (d : Detector c.Run) where
  -- where no time is running
  pub clocked-idle : (us : ℕ) → d.alarm.remaining ≡ 0 → clocked c us d ≡ record { run = c.later us d.run; alarm = d.alarm }
  unfolding clocked
  clocked-idle us h = rw (idle us d.alarm h)

  -- before the time is reached
  pub clocked-stands : (us : ℕ) → us < d.alarm.remaining → clocked c us d ≡ record { run = c.later us d.run; alarm = waited us d.alarm }
  unfolding clocked
  clocked-stands us h = rw (stands us d.alarm h)

  -- where it is reached
  pub clocked-reached : (us : ℕ) → ¬ (d.alarm.remaining ≡ 0) → d.alarm.remaining ≤ us
      → clocked c us d ≡ record { run = c.later (us - d.alarm.remaining) c.begun; alarm = cleared d.alarm }
  unfolding clocked
  clocked-reached us h k = rw (time-reached us d.alarm h k)

module _ (c : Course) (adds : Adds c) where
  pub clocked-none : (d : Detector c.Run) → clocked c 0 d ≡ d
  unfolding clocked
  clocked-none d = rw (none_passes d.alarm, adds.none d.run)

  module _ (a b : ℕ) (d : Detector c.Run) where
    abbrev left : ℕ
    left = d.alarm.remaining

    -- the detector with this run and so much time left
    abbrev with : c.Run → ℕ → Detector c.Run
    with r n = record { run = r; alarm = record { status = d.alarm.status; mark = d.alarm.mark; negative = d.alarm.negative; remaining = n } }

    abbrev over : c.Run → Detector c.Run
    over r = record { run = r; alarm = cleared d.alarm }

    -- the time is not reached in the first
    second : a < left → clocked c b (with (c.later a d.run) (left - a)) ≡ clocked c (a + b) d
    second h = go (ltb b (left - a)) refl
      where
        e : Detector c.Run
        e = with (c.later a d.run) (left - a)

        go : (t : Bool) → ltb b (left - a) ≡ t → clocked c b (with (c.later a d.run) (left - a)) ≡ clocked c (a + b) d
        go true f =
            let p = ltb-true b (left - a) f in
            let n : left - a - b ≡ left - (a + b) = omega arith in
            clocked-stands c (with (c.later a d.run) (left - a)) b p ∙ rw (adds.sum a b d.run, n) (sym (clocked-stands c d (a + b) (omega arith)))
        go false f =
            let p = ltb-false b (left - a) f in
            let n : b - (left - a) ≡ a + b - left = omega arith in
            clocked-reached c (with (c.later a d.run) (left - a)) b (omega arith) p ∙ rw n (sym (clocked-reached c d (a + b) (omega arith) (omega arith)))

    pub clocked-sum : clocked c b (clocked c a d) ≡ clocked c (a + b) d
    clocked-sum = go (eqb left 0) refl (ltb a left) refl
      where
        go : (t : Bool) → eqb left 0 ≡ t → (s : Bool) → ltb a left ≡ s → clocked c b (clocked c a d) ≡ clocked c (a + b) d
        go true f s g =
            let n = eqb-true left 0 f in
            rw (clocked-idle c d a n, clocked-idle c d (a + b) n, clocked-idle c (with (c.later a d.run) left) b n, adds.sum a b d.run)
        go false f true g = let p = ltb-true a left g in rw (clocked-stands c d a p) (second p)
        go false f false g =
            let n = eqb-false left 0 f in
            let p = ltb-false a left g in
            let q : a - left + b ≡ a + b - left = omega arith in
            rw (clocked-reached c d a n p, clocked-reached c d (a + b) n (omega arith), clocked-idle c (over (c.later (a - left) c.begun)) b refl, adds.sum (a - left) b c.begun, q)
