-- A spell steps as the runs say, for whichever condition, whatever a run begins with and however its time is told. Assumes nothing.
use Prim.Native.Nat.{ℕ}
use mathlib.Core.Bool.{Bool, true, false}
use mathlib.Core.List.{List, [], ◌∷◌}
use mathlib.Core.Path.{◌≡◌, refl, sym, ap, ◌∙◌}
use lib.Dec.{leb}
use Rattle.laws.specs.Choice.{pick, both}
use Rattle.alarm.specs.Alarm.{raised, cleared}
use Rattle.alarm.specs.declared.Alarm.{Alarm}
use Rattle.spell.specs.Stopwatch.{going_on, is_reached}
use Rattle.spell.specs.Spell.{after_met, after_unmet, after_sample}
use Rattle.spell.specs.declared.Stopwatch.{Stopwatch}
use Rattle.spell.specs.declared.Spell.{Spell}
use Rattle.spell.specs.declared.Shown.{Shown}
use Rattle.spell.specs.declared.Shown.TheVariants.{Met, Unmet, FarFromMet}
use Rattle.spell.proofs.Clock.{as_detector}
use Rattle.lookback.specs.Sight.{Sight, point}
use Rattle.lookback.specs.Watch.{Mark}
use Rattle.lasting.proofs.Runs.{watch_of}

module _ {P : Type 0} (is_met is_far : P → Bool) (mark : P → Mark) where
  -- what a point shows
  abbrev pub shown_at : P → Shown
  shown_at p = pick (is_met p) (Met (mark p).axis (mark p).negative) (pick (is_far p) FarFromMet Unmet)

  module _ (fresh : Stopwatch) (lasted : List (Sight P) → ℕ) (apart : (p : P) → is_far p ≡ true → is_met p ≡ false) (p : P) (ss : List (Sight P))
      (time hold : ℕ) (unlatched : Bool) (s : Spell)
      (counted : is_met p ≡ true → is_reached time (watch_of fresh is_met (point p ∷ ss)) ≡ leb time (lasted (point p ∷ ss))) (h : s.watch ≡ watch_of fresh is_met ss) where
    abbrev set : Alarm
    set = raised (mark p).axis (mark p).negative hold s.alarm

    abbrev unset : Alarm
    unset = cleared s.alarm

    abbrev reached : Bool
    reached = leb time (lasted (point p ∷ ss))

    -- the alarm, by whether the condition is met and whether it is far from met
    abbrev alarm_when : Bool → Bool → Alarm
    alarm_when a b = pick (both a reached) set (pick (both unlatched b) unset s.alarm)

    abbrev Judged : Type 0
    Judged = as_detector (after_sample fresh (shown_at p) time unlatched hold s) ≡ record { run = watch_of fresh is_met (point p ∷ ss); alarm = alarm_when (is_met p) (is_far p) }

    abbrev after : Shown → Spell
    after shown = after_sample fresh shown time unlatched hold s

    alarm-by : (a b : Bool) → is_met p ≡ a → is_far p ≡ b → alarm_when a b ≡ alarm_when (is_met p) (is_far p)
    alarm-by a b e f = ap (λ (t : Bool). alarm_when t b) (sym e) ∙ ap (alarm_when (is_met p)) (sym f)

    shown_by : (a b : Bool) → is_met p ≡ a → is_far p ≡ b → shown_at p ≡ pick a (Met (mark p).axis (mark p).negative) (pick b FarFromMet Unmet)
    shown_by a b e f =
        ap (λ (t : Bool). pick t (Met (mark p).axis (mark p).negative) (pick (is_far p) FarFromMet Unmet)) e
        ∙ ap (λ (t : Bool). pick a (Met (mark p).axis (mark p).negative) (pick t FarFromMet Unmet)) f

    run_by : (a : Bool) → is_met p ≡ a → pick a (going_on s.watch) fresh ≡ watch_of fresh is_met (point p ∷ ss)
    run_by a e = ap (λ (w : Stopwatch). pick a (going_on w) fresh) h ∙ ap (λ (t : Bool). pick t (going_on (watch_of fresh is_met ss)) fresh) (sym e)

    met : is_met p ≡ true → is_far p ≡ false → Judged
    unfolding after_sample after_met
    met e f = ap (λ (t : Shown). as_detector (after t)) (shown_by true false e f) ∙ (λ i. record { run = run_by true e i; alarm = alarms i })
      where
        keep : (b u : Bool) → pick b set s.alarm ≡ pick b set (pick (both u false) unset s.alarm)
        keep true u = refl
        keep false true = refl
        keep false false = refl

        alarms : pick (is_reached time (going_on s.watch)) set s.alarm ≡ alarm_when (is_met p) (is_far p)
        alarms =
            ap (λ (t : Bool). pick t set s.alarm) (ap (is_reached time) (run_by true e) ∙ counted e)
            ∙ keep reached unlatched ∙ alarm-by true false e f

    unmet : is_met p ≡ false → is_far p ≡ false → Judged
    unfolding after_sample after_unmet
    unmet e f = ap (λ (t : Shown). as_detector (after t)) (shown_by false false e f) ∙ (λ i. record { run = run_by false e i; alarm = (keep unlatched ∙ alarm-by false false e f) i })
      where
        keep : (u : Bool) → s.alarm ≡ pick (both u false) unset s.alarm
        keep true = refl
        keep false = refl

    far : is_met p ≡ false → is_far p ≡ true → Judged
    unfolding after_sample after_unmet
    far e f = ap (λ (t : Shown). as_detector (after t)) (shown_by false true e f) ∙ (λ i. record { run = run_by false e i; alarm = (keep unlatched ∙ alarm-by false true e f) i })
      where
        keep : (u : Bool) → pick u unset s.alarm ≡ pick (both u true) unset s.alarm
        keep true = refl
        keep false = refl

    pub spell-judges : Judged
    spell-judges = go (is_far p) refl (is_met p) refl
      where
        go : (b : Bool) → is_far p ≡ b → (a : Bool) → is_met p ≡ a → Judged
        go true f a e = far (apart p f) f
        go false f true e = met e f
        go false f false e = unmet e f
