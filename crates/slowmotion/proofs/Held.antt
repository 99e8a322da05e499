-- Slow motion and no-motion as reads of 0x09 show them: when the status is 1, how long it is held, and what begins it anew. Assumes nothing.
use Prim.Native.Nat.{ℕ, ◌+◌, ◌-◌, ◌<◌, ◌≤◌}
use mathlib.Core.Bool.{Bool, true, false}
use mathlib.Core.List.{List, [], ◌∷◌, ◌++◌}
use mathlib.Core.Logic.{◌↔◌}
use mathlib.Core.Path.{◌≡◌, refl, sym, ap, ◌∙◌}
use native.Mathlib.Omega.{arith}
use lib.ListN.{length, length-append}
use Rattle.events.specs.Event.{Event, write, clock}
use Rattle.rules.specs.Shown.{bit_seen}
use Rattle.lookback.specs.Sight.{Sight, point, passed, points_in, clock_in}
use Rattle.lookback.specs.Watch.{restarts}
use Rattle.lookback.specs.Seen.{seen, is_set}
use Rattle.lookback.specs.Held.{clock_over, samples_over, SetFor}
use Rattle.lookback.proofs.Held as lookback
use Rattle.points.specs.Points.{OverAxes}
use Rattle.slowmotion.specs.Status.{is_no_motion, points_asked, wait_asked, slow_motion}
use Rattle.slowmotion.specs.Words.{CameOver, CameCalm}
use Rattle.slowmotion.specs.Held.{BeginsAnew, HeldFor}
use Rattle.slowmotion.proofs.Detector.{lawful, slow-seen}
use Rattle.slowmotion.proofs.Words as words

module _ (es : List Event) where
  -- "Slow motion counts points as any-motion does"
  pub slow-exactly : is_no_motion es ≡ false → (bit_seen es 0x09 3 ≡ true) ↔ CameOver es
  slow-exactly e = rw (slow-seen es) (words.slow-exactly es e)

  -- "It fires at a calm point when the clock since the last over point, restart or expiry has reached that, and clears at an over point"
  pub calm-exactly : is_no_motion es ≡ true → (bit_seen es 0x09 3 ≡ true) ↔ CameCalm es
  calm-exactly e = rw (slow-seen es) (words.calm-exactly es e)

-- what is not 1 is 0
not-one : (t : Bool) → ¬ (t ≡ true) → t ≡ false
not-one true n = absurd (n refl)
not-one false n = refl

clock-joined : (ss ts : List (Sight OverAxes)) → clock_in (ss ++ ts) ≡ clock_in ss + clock_in ts
clock-joined [] ts = omega arith
clock-joined (point p ∷ ss) ts = clock-joined ss ts
clock-joined (passed us ∷ ss) ts = rw (clock-joined ss ts) (omega arith)

module _ (es : List Event) (waited : ℕ) (no-point : points_in (seen slow_motion es) ≡ []) (so_far : clock_in (seen slow_motion es) ≤ waited) where
  -- fewer samples than N set nothing
  too_few : (later : List Event) → is_no_motion (later ++ es) ≡ false → samples_over later < points_asked (later ++ es) → bit_seen (later ++ es) 0x09 3 ≡ false
  too_few later e few = not-one (bit_seen (later ++ es) 0x09 3) (λ t.
      let r = ((slow-exactly (later ++ es) e).0 t).came in
      let l = simp length-append at (ap length r.split) in
      omega (arith, lookback.points-since slow_motion lawful es no-point later, r.many))

  -- less clock than the wait sets nothing
  too-soon : (later : List Event) → is_no_motion (later ++ es) ≡ true → waited + clock_over later < wait_asked (later ++ es) → bit_seen (later ++ es) 0x09 3 ≡ false
  too-soon later e few = not-one (bit_seen (later ++ es) 0x09 3) (λ t.
      let c = (calm-exactly (later ++ es) e).0 t in
      let f = c.calm-for in
      let l : clock_in (seen slow_motion (later ++ es)) ≡ clock_in c.later + (clock_in f.waited + clock_in f.earlier) =
      rw (c.split, f.split) (clock-joined c.later (point f.calm ∷ (f.waited ++ f.earlier)) ∙ rw (clock-joined f.waited f.earlier)) in
      omega (arith, lookback.clock-since slow_motion lawful es waited so_far later, f.reached, l))

  anew-behind : BeginsAnew waited es
  anew-behind = record { counts = too_few; waits = too-soon }

-- "it latches as any-motion does", which Q-4's times include
pub slow-held : (es : List Event) (e : Event) (later : List Event) → SetFor slow_motion es e later → HeldFor es e later
slow-held es e later s =
    let h = lookback.held slow_motion lawful es e later s in
    record {
      stands = λ short. slow-seen (later ++ (e ∷ es)) ∙ h.stands short;
      clears = λ us short long.
          let left = (h.clears us short long).left in
          anew-behind (clock us ∷ (later ++ (e ∷ es))) _ (ap {A = List (Sight OverAxes)} points_in left) (rw left (omega arith));
    }

module _ (es : List Event) where
  -- "an accepted write to 0x0F, 0x18, 0x21, 0x27 or 0x29 restarts it", and so do power-up and soft reset: the waiting starts there
  pub slow-anew : (e : Event) → restarts slow_motion es e ≡ true → BeginsAnew 0 (e ∷ es)
  unfolding seen
  slow-anew e r = let n : seen slow_motion (e ∷ es) ≡ [] = rw r in anew-behind (e ∷ es) 0 (rw n) (rw n (omega arith))

  -- no other write does anything to it
  pub slow-other : (a byte : ℕ) → restarts slow_motion es (write a byte) ≡ false → bit_seen (write a byte ∷ es) 0x09 3 ≡ bit_seen es 0x09 3
  slow-other a byte n = slow-seen (write a byte ∷ es) ∙ lookback.write-other slow_motion lawful es a byte n ∙ sym (slow-seen es)
