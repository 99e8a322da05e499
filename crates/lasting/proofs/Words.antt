-- What is_met_for counts is what the request says in words; and the status by it. Assumes nothing.
use Prim.Native.Nat.{ℕ, ◌+◌, ◌*◌, ◌≤◌}
use mathlib.Core.Bool.{Bool, true, false}
use mathlib.Core.List.{List, [], ◌∷◌, ◌++◌}
use mathlib.Core.Logic.{◌↔◌}
use mathlib.Core.Path.{◌≡◌, refl, sym, ap, ◌∙◌}
use native.Mathlib.Omega.{arith}
use borrow.Author.Tests.{le-leb, leb-true}
use lib.Dec.{leb}
use Rattle.laws.specs.Choice.{pick, both}
use Rattle.laws.proofs.Finite.{left, right}
use Rattle.events.specs.Event.{Event}
use Rattle.lookback.specs.Sight.{Sight, point, passed, clock_in}
use Rattle.lookback.specs.Watch.{going_by}
use Rattle.lookback.specs.Seen.{is_set, seen}
use Rattle.lookback.specs.Came as lookback
use Rattle.lookback.specs.Came.{NoneClears}
use Rattle.lookback.proofs.Came as lookback-came
use Rattle.lasting.specs.Run.{has_point, since_first, run, lasted, latest_is, is_met_for}
use Rattle.lasting.specs.Lasting.{Lasting, delay_asked, watch}
use Rattle.lasting.specs.Words.{AllAre, NoneIs, MetThrough, CameMet, Came}
use Rattle.lasting.proofs.Runs.{no-clock}

module _ {P : Type 0} (is_met : P → Bool) where
  -- a run that has a point has a first one
  record Begun (ss : List (Sight P)) : Type 0 where
    between : List (Sight P)
    first : P
    earlier : List (Sight P)
    split : ss ≡ between ++ (point first ∷ earlier)
    at_first : is_met first ≡ true
    at_each : AllAre is_met between
    clock : clock_in between ≡ lasted is_met ss

  begun : (ss : List (Sight P)) → has_point (run is_met ss) ≡ true → Begun ss
  begun [] h = let z : ◌≡◌ {A = ℕ} 0 1 = cc in absurd (omega arith)
  begun (point p ∷ ss) h = go (begun ss) (is_met p) refl (has_point (run is_met ss)) refl
    where
      go : (has_point (run is_met ss) ≡ true → Begun ss) → (a : Bool) → is_met p ≡ a → (b : Bool) → has_point (run is_met ss) ≡ b → Begun (point p ∷ ss)
      go before true e true f =
          let r = before f in
          record {
            between = point p ∷ r.between;
            first = r.first;
            earlier = r.earlier;
            split = ap {B = List (Sight P)} (λ l. point p ∷ l) r.split;
            at_first = r.at_first;
            at_each = (e, r.at_each);
            clock = rw e r.clock;
          }
      go before true e false f = record { between = []; first = p; earlier = ss; split = refl; at_first = e; at_each = tt; clock = rw e (sym (no-clock (run is_met ss) f)) }
      go before false e b f = let k : false ≡ true = rw e at h in let z : ◌≡◌ {A = ℕ} 0 1 = cc in absurd (omega arith)
  begun (passed us ∷ ss) h =
      let r = begun ss h in
      record {
        between = passed us ∷ r.between;
        first = r.first;
        earlier = r.earlier;
        split = ap {B = List (Sight P)} (λ l. passed us ∷ l) r.split;
        at_first = r.at_first;
        at_each = r.at_each;
        clock = rw (h, r.clock);
      }

  -- and what was met since a first point is a run that has one
  lasts : (between : List (Sight P)) (first : P) (earlier : List (Sight P)) → is_met first ≡ true → AllAre is_met between
      → (has_point (run is_met (between ++ (point first ∷ earlier))) ≡ true) × (clock_in between ≤ lasted is_met (between ++ (point first ∷ earlier)))
  lasts [] first earlier f a = (rw f, omega arith)
  lasts (point p ∷ ss) first earlier f a = let r = lasts ss first earlier f a.1 in (rw a.0, rw a.0 r.1)
  lasts (passed us ∷ ss) first earlier f a = let r = lasts ss first earlier f a in (r.0, rw r.0 (omega (arith, r.1)))

  module _ (time : ℕ) (some : 1 ≤ time) where
    through : (ss : List (Sight P)) → is_met_for is_met time ss ≡ true → MetThrough is_met time ss
    through [] h = let z : ◌≡◌ {A = ℕ} 0 1 = cc in absurd (omega arith)
    through (passed us ∷ ss) h = let z : ◌≡◌ {A = ℕ} 0 1 = cc in absurd (omega arith)
    through (point p ∷ ss) h = go (has_point (run is_met ss)) refl
      where
        e : is_met p ≡ true
        e = left (is_met p) (leb time (lasted is_met (point p ∷ ss))) h

        long : time ≤ lasted is_met ss
        long = leb-true time (lasted is_met ss) (rw e at (right (is_met p) (leb time (lasted is_met (point p ∷ ss))) h))

        go : (b : Bool) → has_point (run is_met ss) ≡ b → MetThrough is_met time (point p ∷ ss)
        go true f =
            let r = begun ss f in
            record {
              latest = p;
              between = r.between;
              first = r.first;
              earlier = r.earlier;
              split = ap {B = List (Sight P)} (λ l. point p ∷ l) r.split;
              at-latest = e;
              at_first = r.at_first;
              at_each = r.at_each;
              reached = rw r.clock long;
            }
        go false f = absurd (omega (arith, some, long, no-clock (run is_met ss) f))

    is-met : (ss : List (Sight P)) → MetThrough is_met time ss → is_met_for is_met time ss ≡ true
    is-met ss m =
        let r = lasts m.between m.first m.earlier m.at_first m.at_each in
        rw (m.split, m.at-latest) (le-leb time (lasted is_met (m.between ++ (point m.first ∷ m.earlier))) (omega (arith, m.reached, r.1)))

    pub met-exactly : (ss : List (Sight P)) → (is_met_for is_met time ss ≡ true) ↔ MetThrough is_met time ss
    met-exactly ss = (through ss, is-met ss)

-- ---- the status: set exactly when since the last restart or expiry the condition was met for the time and, non-latched, no later sample was far
-- from it
module _ (l : Lasting) (es : List Event) where
  none-clears : (ss later : List (Sight l.Point)) → NoneClears (watch l) (going_by (watch l) es) ss later → NoneIs l.is_far later
  none-clears ss [] n = tt
  none-clears ss (point p ∷ later) n = (n.0, none-clears ss later n.1)
  none-clears ss (passed us ∷ later) n = none-clears ss later n

  none_is : (ss later : List (Sight l.Point)) → NoneIs l.is_far later → NoneClears (watch l) (going_by (watch l) es) ss later
  none_is ss [] n = tt
  none_is ss (point p ∷ later) n = (n.0, none_is ss later n.1)
  none_is ss (passed us ∷ later) n = none_is ss later n

  some-delay : 1 ≤ delay_asked l es
  some-delay = omega arith

  came : lookback.Came (watch l) es → Came l es
  unfolding going_by
  came c = record {
    later = c.later;
    met = point c.setter ∷ c.earlier;
    split = c.split;
    through = (met-exactly l.is_met (delay_asked l es) some-delay (point c.setter ∷ c.earlier)).0 c.sets;
    since = λ u. none-clears (point c.setter ∷ c.earlier) c.later (c.since u);
  }

  back : Came l es → lookback.Came (watch l) es
  unfolding going_by
  back c =
      let t = c.through in
      let e = t.between ++ (point t.first ∷ t.earlier) in
      record {
        later = c.later;
        setter = t.latest;
        earlier = e;
        split = c.split ∙ ap (λ (m : List (Sight l.Point)). c.later ++ m) t.split;
        sets = ap (is_met_for l.is_met (delay_asked l es)) (sym t.split) ∙ (met-exactly l.is_met (delay_asked l es) some-delay c.met).1 t;
        since = λ u. none_is (point t.latest ∷ e) c.later (c.since u);
      }

  pub set-exactly : (is_set (watch l) es ≡ true) ↔ Came l es
  set-exactly = let s = lookback-came.set-exactly (watch l) es in ((λ h. came (s.0 h)), (λ c. s.1 (back c)))
