-- While the status of any detector with an alarm is set there is one point that set it, and what is marked is marked at that one. Assumes nothing.
use Prim.Native.Nat.{ℕ}
use mathlib.Core.Bool.{Bool, true, false, not}
use mathlib.Core.List.{List, [], ◌∷◌, ◌++◌}
use mathlib.Core.Path.{◌≡◌, refl, sym, ap, ◌∙◌}
use native.Mathlib.Omega.{arith}
use Rattle.laws.specs.Choice.{pick, both}
use Rattle.events.specs.Event.{Event}
use Rattle.lookback.specs.Sight.{point, passed}
use Rattle.lookback.specs.Watch.{Mark, no_mark, Watch, Sights, Going, going_by, restarts, point_at}
use Rattle.lookback.specs.Seen.{is_set_by, seen, is_set, mark_of, marked}
use Rattle.lookback.specs.Came.{NoneClears}
use Rattle.lookback.specs.Marks.{mark_shown, sign_shown, SetAt, Setter}
use Rattle.lookback.proofs.Seen.{Lawful, Next, anew, rest, more, one, none, kept, next, marked_next}
use Rattle.lookback.proofs.Came.{further, here, on, came-set}

-- ---- among sights
module _ (w : Watch) (g : Going w.Setting) where
  -- what was marked at the last point at which the status was set
  abbrev set_mark : Sights w → Mark
  set_mark [] = no_mark
  set_mark (point p ∷ ss) = pick (both (not (is_set_by w g ss)) (is_set_by w g (point p ∷ ss))) (w.mark p) (set_mark ss)
  set_mark (passed us ∷ ss) = set_mark ss

  -- there is one
  module _ (apart : (p : w.Point) (ss : Sights w) → w.clears g.own (point p ∷ ss) ≡ true → w.sets g.own (point p ∷ ss) ≡ false) where
    found : (ss : Sights w) → is_set_by w g ss ≡ true → SetAt w g ss
    unfolding is_set_by
    found [] h = let z : ◌≡◌ {A = ℕ} 0 1 = cc in absurd (omega arith)
    found (point p ∷ ss) h = go (found ss) (is_set_by w g ss) refl
      where
        sets : is_set_by w g ss ≡ false → w.sets g.own (point p ∷ ss) ≡ true
        sets e = at (w.sets g.own (point p ∷ ss)) (both g.non_latched (w.clears g.own (point p ∷ ss))) (rw e at h)
          where
            at : (o c : Bool) → pick o true (pick c false false) ≡ true → o ≡ true
            at true c h = refl
            at false true h = h
            at false false h = h

        not-cleared : g.non_latched ≡ true → w.clears g.own (point p ∷ ss) ≡ false
        not-cleared u = at (w.clears g.own (point p ∷ ss)) refl
          where
            at : (t : Bool) → w.clears g.own (point p ∷ ss) ≡ t → t ≡ false
            at true f = sym (rw (apart p ss f, u, f) at h)
            at false f = refl

        go : (is_set_by w g ss ≡ true → SetAt w g ss) → (t : Bool) → is_set_by w g ss ≡ t → SetAt w g (point p ∷ ss)
        go before true e = let a = before e in record { came = on w g p ss a.came not-cleared; before = a.before }
        go before false e = record { came = here w g p ss (sets e); before = e }
    found (passed us ∷ ss) h = let a = found ss h in record { came = further w g (passed us) ss a.came a.came.since; before = a.before }

  -- and no other
  module _ (p : w.Point) (earlier : Sights w) (sets : w.sets g.own (point p ∷ earlier) ≡ true) (new : is_set_by w g earlier ≡ false) where
    only : (later : Sights w) → (g.non_latched ≡ true → NoneClears w g (point p ∷ earlier) later) → set_mark (later ++ (point p ∷ earlier)) ≡ w.mark p
    only [] n = rw (new, came-set w g p earlier sets [] n)
    only (point q ∷ later) n = let t : g.non_latched ≡ true → NoneClears w g (point p ∷ earlier) later = λ u. (n u).1 in rw (came-set w g p earlier sets later t) (only later t)
    only (passed us ∷ later) n = only later n

  set-only : (ss : Sights w) (a : SetAt w g ss) → (is_set_by w g ss ≡ true) × (set_mark ss ≡ w.mark a.came.setter)
  set-only ss a =
      let c = a.came in
      rw c.split (came-set w g c.setter c.earlier c.sets c.later c.since, only c.setter c.earlier c.sets a.before c.later c.since)

-- ---- after a history
module _ (w : Watch) (l : Lawful w) where
  abbrev Marked : List Event → Type 0
  Marked es = is_set w es ≡ true → marked w es ≡ set_mark w (going_by w es) (seen w es)

  module _ (es : List Event) (e : Event) (before : Marked es) where
    unset : is_set w (e ∷ es) ≡ false → Marked (e ∷ es)
    unset n = λ h. let z : ◌≡◌ {A = ℕ} 0 1 = cc in absurd (omega arith)

    -- nothing is seen, or time that passes
    quiet : restarts w es e ≡ false → (ss : Sights w) → seen w (e ∷ es) ≡ ss → is_set_by w (going_by w es) ss ≡ is_set w es
        → set_mark w (going_by w es) ss ≡ set_mark w (going_by w es) (seen w es) → Marked (e ∷ es)
    quiet r ss s a b = rw (marked_next w l es e r ss s, kept w l es e r, s, a, b) (go (is_set w es) refl)
      where
        go : (t : Bool) → is_set w es ≡ t → t ≡ true → pick (both (not t) t) (mark_of w (point_at w es e)) (marked w es) ≡ set_mark w (going_by w es) (seen w es)
        go true f h = before f
        go false f h = let z : ◌≡◌ {A = ℕ} 0 1 = cc in absurd (omega arith)

    marked-on : Next w es e → Marked (e ∷ es)
    unfolding is_set_by
    marked-on (anew r s) = unset (rw s)
    marked-on (rest us is r x s) = unset (rw s)
    marked-on (more us is r x s) = quiet r (passed us ∷ seen w es) s refl refl
    marked-on (one p n r f s) = rw (marked_next w l es e r (point p ∷ seen w es) s, kept w l es e r, s, f) (λ h. rw h (go (is_set w es) refl))
      where
        go : (t : Bool) → is_set w es ≡ t → pick (both (not t) true) (w.mark p) (marked w es) ≡ pick (both (not t) true) (w.mark p) (set_mark w (going_by w es) (seen w es))
        go true f = before f
        go false f = refl
    marked-on (none c n r f s) = quiet r (seen w es) s refl refl

  marked_all : (es : List Event) → Marked es
  unfolding seen is_set_by
  marked_all [] = λ h. let z : ◌≡◌ {A = ℕ} 0 1 = cc in absurd (omega arith)
  marked_all (e ∷ es) = marked-on es e (marked_all es) (next w l es e)

  -- what is shown is what the setter marks
  pub marks-of-setter : (es : List Event) (a : Setter w es)
      → (is_set w es ≡ true) × (mark_shown w es ≡ (w.mark a.came.setter).axis) × (sign_shown w es ≡ (w.mark a.came.setter).negative)
  marks-of-setter es a =
      let o = set-only w (going_by w es) (seen w es) a in
      let k = marked_all es o.0 ∙ o.1 in
      (o.0, rw (o.0, k), ap (λ (m : Mark). m.negative) k)

  -- "On setting": while the status is set there is a point that set it
  pub set_at : (es : List Event) → is_set w es ≡ true → Setter w es
  unfolding going_by
  set_at es h = found w (going_by w es) (l.apart es) (seen w es) h
