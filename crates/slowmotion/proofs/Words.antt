-- What is counted is what the request says in words: of slow motion by rows of points, of no-motion by the clock since the last over point,
-- restart or expiry. Assumes nothing.
use Prim.Native.Nat.{ℕ, ◌+◌, ◌≤◌}
use mathlib.Core.Bool.{Bool, true, false}
use mathlib.Core.List.{List, [], ◌∷◌, ◌++◌}
use mathlib.Core.Logic.{◌↔◌}
use mathlib.Core.Path.{◌≡◌, refl, sym, ap, ◌∙◌}
use native.Mathlib.Omega.{arith}
use borrow.Author.Tests.{le-leb, leb-true}
use lib.Dec.{leb}
use Rattle.laws.specs.Choice.{pick, both}
use Rattle.laws.proofs.Finite.{left, right}
use Rattle.events.specs.Event.{Event}
use Rattle.lookback.specs.InForce.{is_non_latched}
use Rattle.lookback.specs.Sight.{Sight, point, passed, clock_in}
use Rattle.lookback.specs.Watch.{going_by}
use Rattle.lookback.specs.Seen.{is_set, seen}
use Rattle.lookback.specs.Came as lookback
use Rattle.lookback.specs.Came.{NoneClears}
use Rattle.lookback.proofs.Came as lookback-came
use Rattle.lookback.proofs.InRow as in_row
use Rattle.lasting.specs.Run.{run}
use Rattle.lasting.specs.Words.{AllAre, NoneIs}
use Rattle.points.specs.Points.{OverAxes, is_over, is_calm}
use Rattle.slowmotion.specs.Status.{is_no_motion, points_asked, wait_asked, has_waited, slow_motion}
use Rattle.slowmotion.specs.Words.{CameOver, EndsWaiting, CalmFor, CameCalm}
use Rattle.slowmotion.proofs.Detector.{some-asked, sets-is, clears-is}

abbrev Sights : Type 0
Sights = List (Sight OverAxes)

-- ---- no-motion's clock
-- what was seen since the last over point, and what came before
abbrev before : Sights → Sights
before [] = []
before (point [] ∷ ss) = before ss
before (point (a ∷ axes) ∷ ss) = point (a ∷ axes) ∷ ss
before (passed us ∷ ss) = before ss

run-split : (ss : Sights) → ss ≡ run is_calm ss ++ before ss
run-split [] = refl
run-split (point [] ∷ ss) = ap {B = Sights} (λ l. point [] ∷ l) (run-split ss)
run-split (point (a ∷ axes) ∷ ss) = refl
run-split (passed us ∷ ss) = ap {B = Sights} (λ l. passed us ∷ l) (run-split ss)

run-calm : (ss : Sights) → AllAre is_calm (run is_calm ss)
run-calm [] = tt
run-calm (point [] ∷ ss) = (refl, run-calm ss)
run-calm (point (a ∷ axes) ∷ ss) = tt
run-calm (passed us ∷ ss) = run-calm ss

ends : (ss : Sights) → EndsWaiting (before ss)
ends [] = tt
ends (point [] ∷ ss) = ends ss
ends (point (a ∷ axes) ∷ ss) = refl
ends (passed us ∷ ss) = ends ss

-- calm sights are all of the run
calm_run : (waited earlier : Sights) → AllAre is_calm waited → EndsWaiting earlier → run is_calm (waited ++ earlier) ≡ waited
calm_run [] [] a e = refl
calm_run [] (point [] ∷ ss) a e = cc
calm_run [] (point (b ∷ axes) ∷ ss) a e = refl
calm_run [] (passed us ∷ ss) a e = absurd e
calm_run (point [] ∷ ws) earlier a e = ap {B = Sights} (λ l. point [] ∷ l) (calm_run ws earlier a.1 e)
calm_run (point (b ∷ axes) ∷ ws) earlier a e = let z = a.0 in cc
calm_run (passed us ∷ ws) earlier a e = ap {B = Sights} (λ l. passed us ∷ l) (calm_run ws earlier a e)

module _ (wait : ℕ) where
  calm-for : (ss : Sights) → has_waited wait ss ≡ true → CalmFor wait ss
  calm-for [] h = let f : false ≡ true = right (leb 1 wait) _ h in let z : ◌≡◌ {A = ℕ} 0 1 = cc in absurd (omega arith)
  calm-for (passed us ∷ ss) h = let f : false ≡ true = right (leb 1 wait) _ h in let z : ◌≡◌ {A = ℕ} 0 1 = cc in absurd (omega arith)
  calm-for (point (a ∷ axes) ∷ ss) h = let f : false ≡ true = right (leb 1 wait) _ h in let z : ◌≡◌ {A = ℕ} 0 1 = cc in absurd (omega arith)
  calm-for (point [] ∷ ss) h = record {
    calm = [];
    waited = run is_calm ss;
    earlier = before ss;
    split = ap {B = Sights} (λ l. point [] ∷ l) (run-split ss);
    at-calm = refl;
    no-over = run-calm ss;
    since = ends ss;
    some = leb-true 1 wait (left (leb 1 wait) _ h);
    reached = leb-true wait (clock_in (run is_calm ss)) (right (leb 1 wait) _ h);
  }

  has-waited : (ss : Sights) → CalmFor wait ss → has_waited wait ss ≡ true
  has-waited ss c = rw c.split (go c.calm c.at-calm)
    where
      go : (p : OverAxes) → is_calm p ≡ true → has_waited wait (point p ∷ (c.waited ++ c.earlier)) ≡ true
      go [] e = rw (le-leb 1 wait c.some, calm_run c.waited c.earlier c.no-over c.since) (le-leb wait (clock_in c.waited) c.reached)
      go (a ∷ axes) e = cc

  pub waited-exactly : (ss : Sights) → (has_waited wait ss ≡ true) ↔ CalmFor wait ss
  waited-exactly ss = (calm-for ss, has-waited ss)

-- ---- the status
module _ (es : List Event) where
  -- "Slow motion counts points as any-motion does"
  pub slow-exactly : is_no_motion es ≡ false → (is_set slow_motion es ≡ true) ↔ CameOver es
  unfolding going_by
  slow-exactly e = in_row.set_when slow_motion (going_by slow_motion es) is_over (points_asked es) (some-asked es) (sets-is es e) (clears-is es e) (seen slow_motion es)

  module _ (waits : is_no_motion es ≡ true) where
    sets-when : (ss : Sights) → slow_motion.sets (going_by slow_motion es).own ss ≡ has_waited (wait_asked es) ss
    unfolding going_by
    sets-when ss = rw waits

    none_over : (ss later : Sights) → NoneClears slow_motion (going_by slow_motion es) ss later → NoneIs is_over later
    unfolding going_by
    none_over ss [] n = tt
    none_over ss (point p ∷ later) n = (rw waits at n.0, none_over ss later n.1)
    none_over ss (passed us ∷ later) n = none_over ss later n

    none-clears : (ss later : Sights) → NoneIs is_over later → NoneClears slow_motion (going_by slow_motion es) ss later
    unfolding going_by
    none-clears ss [] n = tt
    none-clears ss (point p ∷ later) n = (rw waits n.0, none-clears ss later n.1)
    none-clears ss (passed us ∷ later) n = none-clears ss later n

    came : lookback.Came slow_motion es → CameCalm es
    came c = record {
      later = c.later;
      fired = point c.setter ∷ c.earlier;
      split = c.split;
      calm-for = (waited-exactly (wait_asked es) (point c.setter ∷ c.earlier)).0 (sym (sets-when (point c.setter ∷ c.earlier)) ∙ c.sets);
      since = λ u. none_over (point c.setter ∷ c.earlier) c.later (unfold going_by in c.since u);
    }

    back : CameCalm es → lookback.Came slow_motion es
    back c =
        let f = c.calm-for in
        let e = f.waited ++ f.earlier in
        record {
          later = c.later;
          setter = f.calm;
          earlier = e;
          split = c.split ∙ ap (λ (m : Sights). c.later ++ m) f.split;
          sets = sets-when (point f.calm ∷ e) ∙ ap (has_waited (wait_asked es)) (sym f.split) ∙ (waited-exactly (wait_asked es) c.fired).1 f;
          since = λ u. none-clears (point f.calm ∷ e) c.later (unfold going_by in c.since u);
        }

    -- "It fires at a calm point when the clock since the last over point, restart or expiry has reached that, and clears at an over point"
    pub calm-exactly : (is_set slow_motion es ≡ true) ↔ CameCalm es
    calm-exactly = let s = lookback-came.set-exactly slow_motion es in ((λ h. came (s.0 h)), (λ c. s.1 (back c)))
