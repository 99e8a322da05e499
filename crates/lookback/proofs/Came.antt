-- The status is 1 exactly when a point set it and, non-latched, no later one cleared it. Assumes nothing.
use Prim.Native.Nat.{ℕ}
use mathlib.Core.Bool.{Bool, true, false}
use mathlib.Core.List.{List, [], ◌∷◌, ◌++◌}
use mathlib.Core.Logic.{◌↔◌}
use mathlib.Core.Path.{◌≡◌, refl, sym, ap, ◌∙◌}
use native.Mathlib.Omega.{arith}
use Rattle.laws.specs.Choice.{pick, both}
use Rattle.events.specs.Event.{Event}
use Rattle.lookback.specs.Sight.{Sight, point, passed}
use Rattle.lookback.specs.Watch.{Watch, Sights, Going, going_by}
use Rattle.lookback.specs.Seen.{is_set_by, seen, is_set}
use Rattle.lookback.specs.Came.{NoneClears, CameSet, Came}

module _ (w : Watch) (g : Going w.Setting) where
  -- one sight more
  abbrev pub further : (x : Sight w.Point) (ss : Sights w) (c : CameSet w g ss)
      → (g.non_latched ≡ true → NoneClears w g (point c.setter ∷ c.earlier) (x ∷ c.later)) → CameSet w g (x ∷ ss)
  further x ss c n = record {
    later = x ∷ c.later;
    setter = c.setter;
    earlier = c.earlier;
    split = ap {B = Sights w} (λ l. x ∷ l) c.split;
    sets = c.sets;
    since = n;
  }

  abbrev pub here : (p : w.Point) (ss : Sights w) → w.sets g.own (point p ∷ ss) ≡ true → CameSet w g (point p ∷ ss)
  here p ss e = record { later = []; setter = p; earlier = ss; split = refl; sets = e; since = λ u. tt }

  -- a point more, that does not clear
  abbrev pub on : (p : w.Point) (ss : Sights w) (c : CameSet w g ss) → (g.non_latched ≡ true → w.clears g.own (point p ∷ ss) ≡ false) → CameSet w g (point p ∷ ss)
  on p ss c n = further (point p) ss c (λ u. (ap (λ (l : Sights w). w.clears g.own (point p ∷ l)) (sym c.split) ∙ n u, c.since u))

  set-came : (ss : Sights w) → is_set_by w g ss ≡ true → CameSet w g ss
  unfolding is_set_by
  set-came [] h = let z : ◌≡◌ {A = ℕ} 0 1 = cc in absurd (omega arith)
  set-came (point p ∷ ss) h = go (set-came ss) (w.sets g.own (point p ∷ ss)) refl (both g.non_latched (w.clears g.own (point p ∷ ss))) refl h
    where
      go : (is_set_by w g ss ≡ true → CameSet w g ss) → (o : Bool) → w.sets g.own (point p ∷ ss) ≡ o → (c : Bool) → both g.non_latched (w.clears g.own (point p ∷ ss)) ≡ c
          → pick o true (pick c false (is_set_by w g ss)) ≡ true → CameSet w g (point p ∷ ss)
      go before true e c f k = here p ss e
      go before false e true f k = let z : ◌≡◌ {A = ℕ} 0 1 = cc in absurd (omega arith)
      go before false e false f k = on p ss (before k) (λ u. rw u at f)
  set-came (passed us ∷ ss) h = let c = set-came ss h in further (passed us) ss c c.since

  module _ (p : w.Point) (earlier : Sights w) (set : w.sets g.own (point p ∷ earlier) ≡ true) where
    pub came-set : (later : Sights w) → (g.non_latched ≡ true → NoneClears w g (point p ∷ earlier) later) → is_set_by w g (later ++ (point p ∷ earlier)) ≡ true
    unfolding is_set_by
    came-set [] n = rw set
    came-set (point q ∷ later) n =
        rw (came-set later (λ u. (n u).1)) (go (w.sets g.own (point q ∷ (later ++ (point p ∷ earlier)))) g.non_latched refl (w.clears g.own (point q ∷ (later ++ (point p ∷ earlier)))) refl)
      where
        go : (o u : Bool) → g.non_latched ≡ u → (c : Bool) → w.clears g.own (point q ∷ (later ++ (point p ∷ earlier))) ≡ c → pick o true (pick (both u c) false true) ≡ true
        go true u e c f = refl
        go false false e c f = refl
        go false true e false f = refl
        go false true e true f = sym (n e).0 ∙ f
    came-set (passed us ∷ later) n = came-set later n

  pub set_when : (ss : Sights w) → (is_set_by w g ss ≡ true) ↔ CameSet w g ss
  set_when ss = (set-came ss, λ c. rw c.split (came-set c.setter c.earlier c.sets c.later c.since))

pub set-exactly : (w : Watch) (es : List Event) → (is_set w es ≡ true) ↔ Came w es
set-exactly w es = set_when w (going_by w es) (seen w es)
