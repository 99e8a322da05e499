-- No-motion's waits and its stopwatch: the table is what the code reckons, and the stopwatch says whether the clock since the last over point,
-- restart or expiry has reached a time of it. Assumes nothing.
use Prim.Native.Nat.{ℕ, ◌+◌, ◌-◌, ◌*◌, ◌/◌, ◌%◌, ◌<◌, ◌≤◌, min}
use mathlib.Core.Bool.{Bool, true, false, not}
use mathlib.Core.List.{List, [], ◌∷◌}
use mathlib.Core.Path.{◌≡◌, refl, sym, ap, ◌∙◌}
use native.Mathlib.Omega.{arith}
use borrow.Author.Tests.{ne_eqb, eqb-false, ltb-true}
use lib.Dec.{eqb, leb, ltb}
use lib.ListN.{get_or}
use Rattle.laws.specs.Bits.{bit}
use Rattle.laws.specs.Choice.{both}
use Rattle.laws.proofs.Finite.{alike}
use Rattle.codes.specs.Wait.{wait_code, wait_of}
use Rattle.spell.specs.Stopwatch.{started, most, longer, going_on, is_reached}
use Rattle.spell.proofs.Laws.{counted-far}
use Rattle.events.specs.Event.{Event}
use Rattle.paper.specs.Refused.{means_no_wait}
use Rattle.paper.specs.Stored.{byte_by}
use Rattle.paper.proofs.Codes.{never-together}
use Rattle.lookback.specs.Sight.{Sight, point, passed, clock_in}
use Rattle.lasting.specs.Run.{run}
use Rattle.lasting.proofs.Runs.{watch_of}
use Rattle.points.specs.Points.{OverAxes, is_over, is_calm}
use Rattle.slowmotion.specs.Status.{waits, is_no_motion, wait_asked}

-- ---- the table, code by code
wait-at : (code : ℕ) → code < 64 → wait_of code ≡ get_or waits code 0 * 1000000
unfolding wait_of
wait-at = alike wait_of (λ c. get_or waits c 0 * 1000000) 64 refl

-- "Codes 22 to 31 have no meaning there"
no-wait : (code : ℕ) → code < 64 → eqb (get_or waits code 0) 0 ≡ both (leb 22 code) (leb code 31)
no-wait = alike (λ c. eqb (get_or waits c 0) 0) (λ c. both (leb 22 c) (leb c 31)) 64 refl

module _ (es : List Event) where
  pub wait-is : wait_of (wait_code (byte_by es 0x27)) ≡ wait_asked es
  wait-is = wait-at (byte_by es 0x27 / 4 % 64) (omega arith)

  -- every wait is counted whole
  pub wait-counted : wait_asked es < most
  wait-counted = ltb-true (wait_asked es) most (alike (λ c. ltb (get_or waits c 0 * 1000000) most) (λ c. true) 64 refl (byte_by es 0x27 / 4 % 64) (omega arith))

  -- no-motion always has one
  pub some-wait : is_no_motion es ≡ true → 1 ≤ wait_asked es
  some-wait e =
      let code = byte_by es 0x27 / 4 % 64 in
      let known : means_no_wait (byte_by es 0x27) ≡ false = rw e at (never-together es) in
      let n = eqb-false (get_or waits code 0) 0 (no-wait code (omega arith) ∙ known) in
      omega arith

-- ---- the stopwatch
-- the clock that no-motion goes by
abbrev pub clock_calm : List (Sight OverAxes) → ℕ
clock_calm ss = clock_in (run is_calm ss)

-- it is started with the first sight, and again at each over point
counted : (ss : List (Sight OverAxes)) → (watch_of started is_calm ss).count ≡ 1 + min (clock_calm ss) (most - 1)
unfolding longer
counted [] = refl
counted (point [] ∷ ss) =
    let w = watch_of started is_calm ss in
    let n : eqb w.count 0 ≡ false = ne_eqb w.count 0 (omega (arith, counted ss)) in
    rw n (counted ss)
counted (point (a ∷ axes) ∷ ss) = refl
counted (passed us ∷ ss) =
    let w = watch_of started is_calm ss in
    let h = counted ss in
    let n : eqb w.count 0 ≡ false = ne_eqb w.count 0 (omega (arith, h)) in
    rw n (omega (arith, h))

pub reached-is : (ss : List (Sight OverAxes)) (time : ℕ) → time < most → is_reached time (watch_of started is_calm ss) ≡ leb time (clock_calm ss)
reached-is ss time h = rw (counted ss) (counted-far time (clock_calm ss) h)
