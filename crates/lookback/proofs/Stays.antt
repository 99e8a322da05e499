-- Any detector with an alarm, event by event: what clears the status, what the marks do, and what the sign outlasts. Assumes nothing.
use mathlib.Core.Bool.{Bool, true, false, not}
use mathlib.Core.List.{List, [], ◌∷◌}
use mathlib.Core.Path.{◌≡◌, refl, sym, ap, ◌∙◌}
use Rattle.laws.specs.Choice.{pick, both}
use Rattle.events.specs.Event.{Event}
use Rattle.paper.specs.Stored.{starts_anew}
use Rattle.lookback.specs.Sight.{point}
use Rattle.lookback.specs.Watch.{Mark, Watch, going_by, restarts, point_at}
use Rattle.lookback.specs.Seen.{is_set_by, seen, is_set, expires, sets_at, marked}
use Rattle.lookback.specs.Marks.{mark_shown, sign_shown}
use Rattle.lookback.proofs.InForce.{anew-begins}
use Rattle.lookback.proofs.Seen.{Lawful, Next, anew, rest, more, one, none, kept, next, restart-clears, expiry-clears}

neither : (t : Bool) → both (not t) false ≡ false
neither true = refl
neither false = refl

-- "The marks clear with the status"
pub marks-clear : (w : Watch) (es : List Event) → is_set w es ≡ false → mark_shown w es ≡ 0
marks-clear w es h = rw h

module _ (w : Watch) (l : Lawful w) (es : List Event) (e : Event) where
  clears-not : is_set w (e ∷ es) ≡ false → sets_at w es e ≡ false
  unfolding sets_at
  clears-not n = rw n (neither (is_set w es))

  module _ (old : starts_anew e ≡ false) where
    marked-stays : sets_at w es e ≡ false → marked w (e ∷ es) ≡ marked w es
    unfolding marked
    marked-stays n = rw (old, n)

    -- the sign "stays until the next setting or soft reset"
    pub sign-stays : sets_at w es e ≡ false → sign_shown w (e ∷ es) ≡ sign_shown w es
    sign-stays n = ap (λ (m : Mark). m.negative) (marked-stays n)

    -- it outlasts the writes that clear status, marks and runs
    pub sign-over-restart : restarts w es e ≡ true → sign_shown w (e ∷ es) ≡ sign_shown w es
    sign-over-restart r = sign-stays (clears-not (restart-clears w l es e r))

    -- and Q-4's expiry: "The status clears, with marks and runs", and the sign is none of these
    pub sign-over-expiry : expires w es e ≡ true → sign_shown w (e ∷ es) ≡ sign_shown w es
    sign-over-expiry x = sign-stays (clears-not (expiry-clears w l es e x))

    -- and every point that does not set, also one that clears the status
    pub sign-over-point : (p : w.Point) → point_at w es e ≡ p ∷ [] → w.sets (going_by w es).own (point p ∷ seen w es) ≡ false → sign_shown w (e ∷ es) ≡ sign_shown w es
    unfolding sets_at is_set_by
    sign-over-point p f n = sign-stays (go (next w l es e))
      where
        same : (t : Bool) → both (not t) t ≡ false
        same true = refl
        same false = refl

        at : (c t : Bool) → both (not t) (pick c false t) ≡ false
        at true t = neither t
        at false t = same t

        go : Next w es e → sets_at w es e ≡ false
        go (anew r s) = clears-not (restart-clears w l es e r)
        go (rest us is r x s) = clears-not (expiry-clears w l es e x)
        go (more us is r x s) = rw (kept w l es e r, s) (same (is_set w es))
        go (one q m r g s) =
            let i : q ≡ p = cc in
            rw (kept w l es e r, s, i, n) (at (both (going_by w es).non_latched (w.clears (going_by w es).own (point p ∷ seen w es))) (is_set w es))
        go (none c m r g s) = rw (kept w l es e r, s) (same (is_set w es))

  -- "A status already set is not set again": mark and sign stay those of the setting
  pub not-set-again : is_set w es ≡ true → is_set w (e ∷ es) ≡ true → (mark_shown w (e ∷ es) ≡ mark_shown w es) × (sign_shown w (e ∷ es) ≡ sign_shown w es)
  unfolding sets_at
  not-set-again s t = let k : marked w (e ∷ es) ≡ marked w es = marked-stays (go (starts_anew e) refl) (rw s) in (rw (s, t, k), ap (λ (m : Mark). m.negative) k)
    where
      go : (b : Bool) → starts_anew e ≡ b → b ≡ false
      go true a = sym t ∙ restart-clears w l es e (anew-begins w.clearing es e a)
      go false a = refl
