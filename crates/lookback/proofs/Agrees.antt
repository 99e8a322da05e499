-- After any history a part of the device's detectors that steps as its watch says is the one that looking back tells. Assumes nothing.
use Prim.Native.Nat.{ℕ, ◌+◌, ◌-◌}
use mathlib.Core.Bool.{Bool, true, false, not}
use mathlib.Core.List.{List, [], ◌∷◌}
use mathlib.Core.Path.{◌≡◌, refl, sym, ap, ◌∙◌}
use native.Mathlib.Omega.{arith}
use borrow.Author.Tests.{leb-true, leb-false}
use lib.Dec.{leb}
use Rattle.laws.specs.Choice.{pick, both}
use Rattle.alarm.specs.Alarm.{raised, cleared}
use Rattle.alarm.specs.Course.{Detector, clocked}
use Rattle.alarm.specs.declared.Alarm.{Alarm}
use Rattle.alarm.proofs.Course.{clocked-idle, clocked-stands, clocked-reached}
use Rattle.events.specs.Event.{Event, clock}
use Rattle.paper.specs.Stored.{starts_anew}
use Rattle.paper.specs.Samples.{microseconds_at}
use Rattle.lookback.specs.Sight.{point, passed}
use Rattle.lookback.specs.Watch.{Mark, Watch, Sights, Going, going_by, restarts, point_at}
use Rattle.lookback.specs.Seen.{is_set_by, since_by, seen, is_set, clock_since, expires, sets_at, mark_of, marked}
use Rattle.lookback.proofs.Seen.{Lawful, Next, anew, rest, more, one, none, is_clock, kept, expiry-when, expiry-not, below, next, marked_next}
use Rattle.lookback.proofs.Parts.{Part, held, held_first, held-clock, held-anew, held-restarted, held-idle, held-judged}

abbrev pub alarm_by : Bool → Mark → ℕ → Alarm
alarm_by status m left = record { status = status; mark = pick status m.axis 0; negative = m.negative; remaining = pick status left 0 }

module _ (w : Watch) (l : Lawful w) (part : Part w) where
  -- as looking back tells
  abbrev told_by : Going w.Setting → Sights w → Mark → Detector part.course.Run
  told_by g ss m = record { run = part.run_of g ss; alarm = alarm_by (is_set_by w g ss) m (g.time - since_by w g ss) }

  abbrev pub told : List Event → Detector part.course.Run
  told es = told_by (going_by w es) (seen w es) (marked w es)

  module _ (es : List Event) (e : Event) (h : held w part es ≡ told es) where
    told-next : restarts w es e ≡ false → (ss : Sights w) → seen w (e ∷ es) ≡ ss
        → told (e ∷ es) ≡ told_by (going_by w es) ss (pick (both (not (is_set w es)) (is_set_by w (going_by w es) ss)) (mark_of w (point_at w es e)) (marked w es))
    told-next r ss s = rw (marked_next w l es e r ss s, kept w l es e r, s)

    anew-case : restarts w es e ≡ true → seen w (e ∷ es) ≡ [] → (t : Bool) → starts_anew e ≡ t → held w part (e ∷ es) ≡ told (e ∷ es)
    unfolding marked sets_at is_set_by
    anew-case r s true a = held-anew w part es e a ∙ rw (s, a, part.begins (going_by w (e ∷ es)))
    anew-case r s false a = held-restarted w part es e a r ∙ rw (h, s, a, part.begins (going_by w (e ∷ es))) (go (is_set w es))
      where
        go : (t : Bool) → ◌≡◌ {A = Detector part.course.Run}
            (record { run = part.course.begun; alarm = cleared (alarm_by (is_set w es) (marked w es) ((going_by w es).time - clock_since w es)) })
            (record { run = part.course.begun; alarm = alarm_by false (pick (both (not t) false) (mark_of w (point_at w es e)) (marked w es)) ((going_by w (e ∷ es)).time - 0) })
        go true = refl
        go false = refl

    -- a clock
    module _ (us : ℕ) (is : e ≡ clock us) (r : restarts w es e ≡ false) where
      abbrev time : ℕ
      time = (going_by w es).time

      abbrev since : ℕ
      since = clock_since w es

      clocked-on : held w part (e ∷ es) ≡ clocked part.course us (told es)
      clocked-on = ap (λ (f : Event). held w part (f ∷ es)) is ∙ held-clock w part es us ∙ ap (clocked part.course us) h

      -- with this status and so much time left
      abbrev standing : Bool → ℕ → Detector part.course.Run
      standing t n = record { run = part.course.later us (part.run_of (going_by w es) (seen w es)); alarm = alarm_by t (marked w es) n }

      waits : expires w es e ≡ false → (t : Bool) → is_set w es ≡ t → (b : Bool) → leb 1 time ≡ b → clocked part.course us (told es) ≡ standing (is_set w es) (time - (since + us))
      waits x false f b g = clocked-idle part.course (told es) us (rw f) ∙ rw f
      waits x true f false g =
          let n = leb-false 1 time g in
          clocked-idle part.course (told es) us (rw f (omega arith)) ∙ rw f (ap (standing true) (omega arith))
      waits x true f true g =
          let n = expiry-not w l es e x f (leb-true 1 time g) in
          clocked-stands part.course (told es) us (rw f (omega (arith, n, ap microseconds_at is))) ∙ rw f (ap (standing true) (omega arith))

      more-case : expires w es e ≡ false → seen w (e ∷ es) ≡ passed us ∷ seen w es → held w part (e ∷ es) ≡ told (e ∷ es)
      unfolding is_set_by since_by
      more-case x s =
          clocked-on ∙ waits x (is_set w es) refl (leb 1 time) refl
          ∙ sym (told-next r (passed us ∷ seen w es) s ∙ rw (part.passes (going_by w es) us (seen w es)) (go (is_set w es)))
        where
          go : (t : Bool) → ◌≡◌ {A = Detector part.course.Run}
              (record {
                run = part.course.later us (part.run_of (going_by w es) (seen w es));
                alarm = alarm_by (is_set w es) (pick (both (not t) t) (mark_of w (point_at w es e)) (marked w es)) (time - (since + us));
              })
              (standing (is_set w es) (time - (since + us)))
          go true = refl
          go false = refl

      rest-case : expires w es e ≡ true → seen w (e ∷ es) ≡ passed (since + us - time) ∷ [] → held w part (e ∷ es) ≡ told (e ∷ es)
      unfolding is_set_by
      rest-case x s =
          let k = expiry-when w l es e x in
          let b = below w l es k.0 k.1 in
          let m = ap microseconds_at is in
          let q : (told es).alarm.remaining ≡ time - since = rw k.0 in
          let n : us - (time - since) ≡ since + us - time = omega (arith, k.2, b, m) in
          clocked-on ∙ clocked-reached part.course (told es) us (rw q (omega (arith, b))) (rw q (omega (arith, k.2, m)))
          ∙ ap (λ (m : ℕ). record { run = part.course.later m part.course.begun; alarm = cleared (told es).alarm }) (ap (λ (m : ℕ). us - m) q ∙ n)
          ∙ sym (told-next r (passed (since + us - time) ∷ []) s ∙ rw (part.passes (going_by w es) (since + us - time) [], part.begins (going_by w es), k.0))

    none-case : is_clock e ≡ false → restarts w es e ≡ false → point_at w es e ≡ [] → seen w (e ∷ es) ≡ seen w es → held w part (e ∷ es) ≡ told (e ∷ es)
    none-case c r f s = held-idle w part es e c r f ∙ h ∙ sym (told-next r (seen w es) s ∙ go (is_set w es))
      where
        go : (t : Bool) → told_by (going_by w es) (seen w es) (pick (both (not t) t) (mark_of w (point_at w es e)) (marked w es)) ≡ told es
        go true = refl
        go false = refl

    -- by whether the point sets, whether it clears, and whether the status was set
    one-case : (p : w.Point) → restarts w es e ≡ false → point_at w es e ≡ p ∷ [] → seen w (e ∷ es) ≡ point p ∷ seen w es → held w part (e ∷ es) ≡ told (e ∷ es)
    unfolding is_set_by since_by
    one-case p r f s =
        held-judged w part es e p f (seen w es) (rw h)
        ∙ rw h (go (w.sets (going_by w es).own (point p ∷ seen w es)) (both (going_by w es).non_latched (w.clears (going_by w es).own (point p ∷ seen w es))) (is_set w es))
        ∙ sym (rw f at (told-next r (point p ∷ seen w es) s))
      where
        time : ℕ
        time = (going_by w es).time

        since : ℕ
        since = clock_since w es

        m : Mark
        m = marked w es

        run : part.course.Run
        run = part.run_of (going_by w es) (point p ∷ seen w es)

        before : Bool → Alarm
        before t = alarm_by t m (time - since)

        go : (o c t : Bool) → ◌≡◌ {A = Detector part.course.Run}
            (record { run = run; alarm = pick o (raised (w.mark p).axis (w.mark p).negative time (before t)) (pick c (cleared (before t)) (before t)) })
            (record {
              run = run;
              alarm =
                  let now = pick o true (pick c false t) in
                  alarm_by now (pick (both (not t) now) (w.mark p) m) (time - pick (both (not t) now) 0 since);
            })
        go true c true = refl
        go true c false = ap (λ (n : ℕ). record { run = run; alarm = alarm_by true (w.mark p) n }) (omega arith)
        go false true true = refl
        go false true false = refl
        go false false true = refl
        go false false false = refl

    agrees-next : Next w es e → held w part (e ∷ es) ≡ told (e ∷ es)
    agrees-next (anew r s) = anew-case r s (starts_anew e) refl
    agrees-next (rest us is r x s) = rest-case us is r x s
    agrees-next (more us is r x s) = more-case us is r x s
    agrees-next (one p n r f s) = one-case p r f s
    agrees-next (none c n r f s) = none-case c r f s

  pub part-is : (es : List Event) → held w part es ≡ told es
  unfolding seen marked is_set_by since_by
  part-is [] = held_first w part ∙ rw (part.begins (going_by w []))
  part-is (e ∷ es) = agrees-next es e (part-is es) (next w l es e)
