-- Where no point counts, as behind a restart or an expiry, a run begins at the next sample: until as much clock has come as the delay asks for
-- the status is not set. Assumes nothing.
use Prim.Native.Nat.{ℕ, ◌+◌, ◌*◌, ◌<◌, ◌≤◌}
use mathlib.Core.Bool.{Bool, true, false}
use mathlib.Core.List.{List, [], ◌∷◌, ◌++◌}
use mathlib.Core.Path.{◌≡◌, refl, sym, ap, ◌∙◌}
use native.Mathlib.Omega.{arith}
use borrow.Author.Tests.{leb-true}
use lib.Dec.{leb}
use Rattle.laws.specs.Choice.{pick, both}
use Rattle.laws.proofs.Finite.{left, right}
use Rattle.events.specs.Event.{Event}
use Rattle.paper.specs.Samples.{microseconds_at}
use Rattle.lookback.specs.InForce.{is_non_latched}
use Rattle.lookback.specs.Sight.{Sight, point, passed, points_in, clock_in}
use Rattle.lookback.specs.Watch.{going_by}
use Rattle.lookback.specs.Seen.{is_set_by, seen, is_set}
use Rattle.lookback.specs.Held.{clock_over}
use Rattle.lookback.proofs.Seen.{Lawful, Next, anew, rest, more, one, none, kept, next}
use Rattle.lasting.specs.Run.{has_point, since_first, run, lasted, is_met_for}
use Rattle.lasting.specs.Lasting.{Lasting, delay_asked, watch}
use Rattle.lasting.proofs.Runs.{no-clock}

module _ {P : Type 0} (is_met : P → Bool) where
  no_run : (ss : List (Sight P)) → points_in ss ≡ [] → has_point (run is_met ss) ≡ false
  no_run [] h = refl
  no_run (point p ∷ ss) h = cc
  no_run (passed us ∷ ss) h = no_run ss h

  none-lasted : (ss : List (Sight P)) → points_in ss ≡ [] → lasted is_met ss ≡ 0
  none-lasted ss h = no-clock (run is_met ss) (no_run ss h)

  -- a clock makes a run no longer than itself, and a point makes it no longer at all
  clock-more : (us : ℕ) (ss : List (Sight P)) → lasted is_met (passed us ∷ ss) ≤ us + lasted is_met ss
  clock-more us ss = go (has_point (run is_met ss))
    where
      go : (t : Bool) → clock_in (pick t (passed us ∷ since_first (run is_met ss)) []) ≤ us + lasted is_met ss
      go true = omega arith
      go false = omega arith

  point-more : (p : P) (ss : List (Sight P)) → lasted is_met (point p ∷ ss) ≤ lasted is_met ss
  point-more p ss = go (is_met p)
    where
      go : (t : Bool) → clock_in (since_first (pick t (point p ∷ run is_met ss) [])) ≤ lasted is_met ss
      go true = omega arith
      go false = omega arith

module _ (l : Lasting) (lawful : Lawful (watch l)) (es : List Event) (fresh : points_in (seen (watch l) es) ≡ []) where
  -- after these later events: how long the run has lasted, and what has come where the status is set
  record Short (later : List Event) : Type 0 where
    lasts : lasted l.is_met (seen (watch l) (later ++ es)) ≤ clock_over later
    set : is_set (watch l) (later ++ es) ≡ true → delay_asked l (later ++ es) ≤ clock_over later

  not_set : (ss : List (Sight l.Point)) → points_in ss ≡ [] → is_set_by (watch l) (going_by (watch l) es) ss ≡ false
  unfolding is_set_by
  not_set [] h = refl
  not_set (point p ∷ ss) h = cc
  not_set (passed us ∷ ss) h = not_set ss h

  first : Short []
  first = record {
    lasts = rw (none-lasted l.is_met (seen (watch l) es) fresh) (omega arith);
    set = λ h. let n = not_set (seen (watch l) es) fresh in let z : ◌≡◌ {A = ℕ} 0 1 = cc in absurd (omega arith);
  }

  module _ (e : Event) (later : List Event) (b : Short later) where
    abbrev before : List Event
    before = later ++ es

    -- what is asked for stays where nothing restarts
    same : going_by (watch l) (e ∷ before) ≡ going_by (watch l) before → delay_asked l (e ∷ before) ≡ delay_asked l before
    unfolding going_by
    same k = ap (λ g. g.own) k

    at-point : (p : l.Point) → lasted l.is_met (point p ∷ seen (watch l) before) ≤ lasted l.is_met (seen (watch l) before)
        → is_set_by (watch l) (going_by (watch l) before) (point p ∷ seen (watch l) before) ≡ true → delay_asked l before ≤ clock_over (e ∷ later)
    unfolding going_by is_set_by
    at-point p short = go (is_met_for l.is_met (delay_asked l before) (point p ∷ seen (watch l) before)) refl (both (is_non_latched before) (l.is_far p))
      where
        go : (t : Bool) → is_met_for l.is_met (delay_asked l before) (point p ∷ seen (watch l) before) ≡ t → (c : Bool)
            → pick t true (pick c false (is_set (watch l) before)) ≡ true → delay_asked l before ≤ clock_over (e ∷ later)
        go true e c h =
            let m = leb-true (delay_asked l before) (lasted l.is_met (point p ∷ seen (watch l) before)) (right (l.is_met p) (leb (delay_asked l before) (lasted l.is_met (point p ∷ seen (watch l) before))) e) in
            omega (arith, m, short, b.lasts)
        go false e true h = let z : ◌≡◌ {A = ℕ} 0 1 = cc in absurd (omega arith)
        go false e false h = omega (arith, b.set h)

    step : Next (watch l) before e → Short (e ∷ later)
    unfolding is_set_by
    step (anew r s) = record { lasts = rw s (omega arith); set = rw s (λ h. let z : ◌≡◌ {A = ℕ} 0 1 = cc in absurd (omega arith)) }
    step (rest us is r x s) = record { lasts = rw s (omega arith); set = rw s (λ h. let z : ◌≡◌ {A = ℕ} 0 1 = cc in absurd (omega arith)) }
    step (more us is r x s) =
        let k = kept (watch l) lawful before e r in
        let q : microseconds_at e ≡ us = ap microseconds_at is in
        record {
          lasts = rw s (omega (arith, clock-more l.is_met us (seen (watch l) before), b.lasts, q));
          set = rw (same k) (rw (k, s) (λ h. omega (arith, b.set h)));
        }
    step (one p n r f s) =
        let k = kept (watch l) lawful before e r in
        let short = point-more l.is_met p (seen (watch l) before) in
        record {
          lasts = rw s (omega (arith, short, b.lasts));
          set = rw (same k) (rw (k, s) (at-point p short));
        }
    step (none c n r f s) =
        let k = kept (watch l) lawful before e r in
        record { lasts = rw s (omega (arith, b.lasts)); set = rw (same k) (rw (k, s) (λ h. omega (arith, b.set h))) }

  short : (later : List Event) → Short later
  short [] = first
  short (e ∷ later) = step e later (short later) (next (watch l) lawful (later ++ es) e)

  pub new-run : (later : List Event) → clock_over later < delay_asked l (later ++ es) → is_set (watch l) (later ++ es) ≡ false
  new-run later few = go (is_set (watch l) (later ++ es)) refl
    where
      go : (t : Bool) → is_set (watch l) (later ++ es) ≡ t → t ≡ false
      go true h = absurd (omega (arith, (short later).set h, few))
      go false h = refl
