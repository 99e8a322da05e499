-- Q-4: a status that is held for a time stands until the clock since its setting reaches it, and no longer. Assumes nothing.
use Prim.Native.Nat.{ℕ, ◌+◌, ◌-◌, ◌<◌, ◌≤◌}
use mathlib.Core.Bool.{Bool, true, false, not}
use mathlib.Core.List.{List, [], ◌∷◌, ◌++◌}
use mathlib.Core.Path.{◌≡◌, refl, sym, ap, ◌∙◌}
use native.Mathlib.Omega.{arith}
use borrow.Author.Tests.{le-leb}
use lib.Dec.{leb}
use lib.ListN.{length}
use Rattle.laws.specs.Choice.{pick, both}
use Rattle.laws.proofs.Finite.{right}
use Rattle.events.specs.Event.{Event, write, clock}
use Rattle.laws.specs.Bits.{worth}
use Rattle.paper.specs.Samples.{is_sample, values_at, microseconds_at}
use Rattle.lookback.specs.InForce.{begins_anew}
use Rattle.lookback.specs.Sight.{point, points_in, clock_in}
use Rattle.lookback.specs.Watch.{Watch, Going, going_by, restarts, point_among, point_at}
use Rattle.lookback.specs.Seen.{is_set_by, since_by, seen, is_set, clock_since, expires, sets_at}
use Rattle.lookback.specs.Held.{clock_over, samples_over, NoneRestarts, SetFor, Clears, HeldFor}
use Rattle.lookback.proofs.InForce.{timed-holds}
use Rattle.lookback.proofs.Seen.{Lawful, Next, anew, rest, more, one, none, kept, expiry-when, below, seen-expired, next, expiry-clears}
use Rattle.lookback.proofs.Stays.{marks-clear, sign-over-expiry}

module _ (w : Watch) (l : Lawful w) where
  abbrev time : List Event → ℕ
  time es = (going_by w es).time

  timed-not : (es : List Event) → 1 ≤ time es → (going_by w es).non_latched ≡ false
  unfolding going_by
  timed-not es h = timed-holds es h

  -- an event that does not restart and does not reach the time
  module _ (es : List Event) (e : Event) (same : restarts w es e ≡ false) (set : is_set w es ≡ true) (timed : 1 ≤ time es) (short : clock_since w es + microseconds_at e < time es) where
    abbrev Goes : Type 0
    Goes = (is_set w (e ∷ es) ≡ true) × (clock_since w (e ∷ es) ≡ clock_since w es + microseconds_at e)

    goes_on : Goes
    unfolding is_set_by since_by
    goes_on = go (next w l es e)
      where
        at : (t u c : Bool) → u ≡ false → (pick t true (pick (both u c) false true) ≡ true) × (clock_since w es ≡ clock_since w es + 0)
        at true u c h = (refl, omega arith)
        at false u c h = (rw h, omega arith)

        go : Next w es e → Goes
        go (anew r s) = let z : true ≡ false = sym r ∙ same in let y : ◌≡◌ {A = ℕ} 0 1 = cc in absurd (omega arith)
        go (rest us is r x s) = let k = expiry-when w l es e x in absurd (omega (arith, k.2))
        go (more us is r x s) = let m = ap microseconds_at is in rw (kept w l es e r, s, m) (set, refl)
        go (one p n r f s) =
            rw (kept w l es e r, s, set, n)
            (at (w.sets (going_by w es).own (point p ∷ seen w es)) (going_by w es).non_latched (w.clears (going_by w es).own (point p ∷ seen w es)) (timed-not es timed))
        go (none c n r f s) = rw (kept w l es e r, s, n) (set, omega arith)

  -- ---- the events since the one that set it
  module _ (es : List Event) (e : Event) (set : sets_at w es e ≡ true) (timed : 1 ≤ time (e ∷ es)) where
    abbrev behind : List Event → List Event
    behind later = later ++ (e ∷ es)

    record Waits (later : List Event) : Type 0 where
      status : is_set w (behind later) ≡ true
      since : clock_since w (behind later) ≡ clock_over later
      same : time (behind later) ≡ time (e ∷ es)

    -- from the point that set it, which sees the clock begin
    first : Waits []
    unfolding sets_at is_set_by since_by
    first = record { status = right (not (is_set w es)) (is_set w (e ∷ es)) set; since = go (next w l es e); same = refl }
      where
        not_set : is_set w (e ∷ es) ≡ is_set w es → clock_since w (e ∷ es) ≡ 0
        not_set q = at (is_set w es) (rw q at set)
          where
            at : (t : Bool) → both (not t) t ≡ true → clock_since w (e ∷ es) ≡ 0
            at true h = let z : ◌≡◌ {A = ℕ} 0 1 = cc in absurd (omega arith)
            at false h = let z : ◌≡◌ {A = ℕ} 0 1 = cc in absurd (omega arith)

        go : Next w es e → clock_since w (e ∷ es) ≡ 0
        go (anew r s) = rw s
        go (rest us is r x s) = let n = expiry-clears w l es e x in let t = right (not (is_set w es)) (is_set w (e ∷ es)) set in let z : ◌≡◌ {A = ℕ} 0 1 = cc in absurd (omega arith)
        go (more us is r x s) = not_set (rw (kept w l es e r, s))
        go (one p n r f s) = rw (kept w l es e r, s) (let k : both (not (is_set w es)) (is_set_by w (going_by w es) (point p ∷ seen w es)) ≡ true = rw (kept w l es e r, s) at set in rw k)
        go (none c n r f s) = not_set (rw (kept w l es e r, s))

    more-waits : (f : Event) (later : List Event) → restarts w (behind later) f ≡ false → clock_over (f ∷ later) < time (e ∷ es) → Waits later → Waits (f ∷ later)
    more-waits f later same short k =
        let t : 1 ≤ time (behind later) = rw k.same timed in
        let s : clock_since w (behind later) + microseconds_at f < time (behind later) = rw (k.since, k.same) (omega (arith, short)) in
        let g = goes_on (behind later) f same k.status t s in
        record {
          status = g.0;
          since = g.1 ∙ rw k.since (omega arith);
          same = ap (λ (g : Going w.Setting). g.time) (kept w l (behind later) f same) ∙ k.same;
        }

    waits : (later : List Event) → NoneRestarts w (e ∷ es) later → clock_over later < time (e ∷ es) → Waits later
    waits [] n h = first
    waits (f ∷ later) n h = more-waits f later n.0 h (waits later n.1 (omega (arith, h)))

    module _ (later : List Event) (us : ℕ) (k : Waits later) (long : time (e ∷ es) ≤ us + clock_over later) where
      reaches : expires w (behind later) (clock us) ≡ true
      unfolding expires
      reaches =
          let t : leb 1 (time (behind later)) ≡ true = rw k.same (le-leb 1 (time (e ∷ es)) timed) in
          let r : leb (time (behind later)) (clock_since w (behind later) + us) ≡ true = rw (k.since, k.same) (le-leb (time (e ∷ es)) (clock_over later + us) (omega (arith, long))) in
          rw (k.status, t, r)

      cleared_at : Clears w (behind later) us (us + clock_over later - time (e ∷ es))
      unfolding begins_anew
      cleared_at =
          let n = expiry-clears w l (behind later) (clock us) reaches in
          let q : clock_since w (behind later) + us - time (behind later) ≡ us + clock_over later - time (e ∷ es) = rw (k.since, k.same) (omega arith) in
          record {
            expired = reaches;
            status = n;
            mark = marks-clear w (clock us ∷ behind later) n;
            sign = sign-over-expiry w l (behind later) (clock us) refl reaches;
            left = seen-expired w l (behind later) (clock us) us refl refl reaches ∙ rw q;
          }

  pub held : (es : List Event) (e : Event) (later : List Event) → SetFor w es e later → HeldFor w es e later
  unfolding going_by
  held es e later s = record {
    stands = λ short. (waits es e s.set s.timed later s.none short).status;
    clears = λ us short long. cleared_at es e s.set s.timed later us (waits es e s.set s.timed later s.none short) long;
  }

  -- ---- no write but those that restart does anything to the status
  pub write-other : (es : List Event) (a byte : ℕ) → restarts w es (write a byte) ≡ false → is_set w (write a byte ∷ es) ≡ is_set w es
  unfolding point_at
  write-other es a byte n = go (next w l es (write a byte))
    where
      go : Next w es (write a byte) → is_set w (write a byte ∷ es) ≡ is_set w es
      go (anew r s) = let z : ◌≡◌ {A = ℕ} 0 1 = cc in absurd (omega arith)
      go (rest us is r x s) = cc
      go (more us is r x s) = cc
      go (one p m r f s) = cc
      go (none c m r f s) = rw (s, kept w l es (write a byte) r)

  -- ---- no more points than samples: where no point counts, those that count later are no more than the samples that came since
  module _ (es : List Event) (none_left : points_in (seen w es) ≡ []) where
    pub points-since : (later : List Event) → length (points_in (seen w (later ++ es))) ≤ samples_over later
    unfolding point_at
    points-since [] = rw none_left (omega arith)
    points-since (e ∷ later) = go (points-since later) (next w l (later ++ es) e)
      where
        brought : (p : w.Point) (t : Bool) → point_among w (later ++ es) (pick t (values_at (later ++ es) e ∷ []) []) ≡ p ∷ [] → 1 ≤ worth 1 t
        brought p true f = omega arith
        brought p false f = let z : ◌≡◌ {A = ℕ} 0 1 = cc in absurd (omega arith)

        go : length (points_in (seen w (later ++ es))) ≤ samples_over later → Next w (later ++ es) e → length (points_in (seen w (e ∷ (later ++ es)))) ≤ worth 1 (is_sample e) + samples_over later
        go few (anew r s) = rw s (omega arith)
        go few (rest us is r x s) = rw s (omega arith)
        go few (more us is r x s) = rw s (omega (arith, few))
        go few (one p n r f s) = rw s (omega (arith, few, brought p (is_sample e) f))
        go few (none c n r f s) = rw s (omega (arith, few))

  -- ---- no more clock than came: of what is seen, the clock that was waited before and what came since
  module _ (es : List Event) (waited : ℕ) (so_far : clock_in (seen w es) ≤ waited) where
    pub clock-since : (later : List Event) → clock_in (seen w (later ++ es)) ≤ waited + clock_over later
    clock-since [] = omega (arith, so_far)
    clock-since (e ∷ later) = go (clock-since later) (next w l (later ++ es) e)
      where
        go : clock_in (seen w (later ++ es)) ≤ waited + clock_over later → Next w (later ++ es) e → clock_in (seen w (e ∷ (later ++ es))) ≤ waited + (microseconds_at e + clock_over later)
        go few (anew r s) = rw s (omega arith)
        go few (rest us is r x s) =
            let k = expiry-when w l (later ++ es) e x in
            rw s (omega (arith, below w l (later ++ es) k.0 k.1, ap microseconds_at is))
        go few (more us is r x s) = rw s (omega (arith, few, ap microseconds_at is))
        go few (one p n r f s) = rw s (omega (arith, few))
        go few (none c n r f s) = rw s (omega (arith, few))
