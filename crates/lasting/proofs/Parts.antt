-- A spell of the device that is shown what the events tell is the one that looking back tells: for whichever condition. What a write, a clock
-- and a sample make of all detectors they make of each spell that is kept among them. Assumes nothing.
use Prim.Native.Nat.{ℕ, ◌-◌, ◌<◌}
use mathlib.Core.Bool.{Bool, true, false}
use mathlib.Core.List.{List, [], ◌∷◌}
use mathlib.Core.Path.{◌≡◌, refl, ap, ◌∙◌}
use lib.Dec.{leb}
use Rattle.laws.specs.Choice.{pick, both}
use Rattle.laws.specs.Lists.{is_in}
use Rattle.laws.proofs.Finite.{of-pick}
use Rattle.alarm.specs.Course.{Detector}
use Rattle.alarm.specs.declared.Alarm.{Alarm}
use Rattle.registers.specs.Deeds.{deeds_of, judgement}
use Rattle.registers.specs.declared.Deeds.{Deeds}
use Rattle.spell.specs.Stopwatch.{stopped, most}
use Rattle.spell.specs.Spell.{quiet, clocked, restarted, after_sample}
use Rattle.spell.specs.declared.Stopwatch.{Stopwatch}
use Rattle.spell.specs.declared.Spell.{Spell}
use Rattle.spell.specs.declared.Shown.{Shown}
use Rattle.spell.specs.declared.Shown.TheVariants.{Nothing}
use Rattle.spell.proofs.Clock.{as_detector, by_time, restart-as, clock-as}
use Rattle.gravity.specs.Gravity.{both_quiet, both_restarted, both_clocked, both_sampled}
use Rattle.gravity.specs.declared.Gravity.{Gravity}
use Rattle.detectors.specs.Detectors.{detectors_sampled, detectors_clocked, detectors_written}
use Rattle.detectors.specs.declared.Detectors.{Detectors}
use Rattle.events.specs.Event.{Event}
use Rattle.events.specs.Run.{after}
use Rattle.events.specs.Bank.{bank}
use Rattle.paper.specs.Stored.{is_accepted}
use Rattle.paper.specs.Samples.{Values}
use Rattle.lookback.specs.InForce.{is_non_latched, time_asked}
use Rattle.lookback.specs.Sight.{Sight, point}
use Rattle.lookback.specs.Watch.{going_by}
use Rattle.lookback.specs.Seen.{is_set, marked, clock_since}
use Rattle.lookback.proofs.InForce.{deed-is, in-force-kept}
use Rattle.lookback.proofs.Seen.{OneOrNone, Lawful}
use Rattle.lookback.proofs.Parts.{judged_by, Part}
use Rattle.lookback.proofs.Agrees.{alarm_by, part-is}
use Rattle.lasting.specs.Run.{lasted}
use Rattle.lasting.specs.Lasting.{clearing, Lasting, delay_asked, watch}
use Rattle.lasting.proofs.Runs.{watch_of, reached-is}
use Rattle.lasting.proofs.Spells.{shown_at, spell-judges}

-- one of the two spells that the device keeps together: as at power-up, at a restart and at a clock
pub record Kept : Type 0 where
  pub get : Gravity → Spell
  pub quiet_is : get both_quiet ≡ quiet stopped
  pub restarts : (g : Gravity) → get (both_restarted g) ≡ restarted stopped (get g)
  pub clocks : (us : ℕ) (g : Gravity) → get (both_clocked us g) ≡ clocked stopped us (get g)

-- among all detectors: at a write and at a clock
module _ (k : Kept) where
  abbrev spell_of : Detectors → Spell
  spell_of d = k.get d.gravity

  written : (d : Deeds) (t : Detectors) → d.resets ≡ false → spell_of (detectors_written d t) ≡ pick d.restarts.gravity (restarted stopped (spell_of t)) (spell_of t)
  unfolding detectors_written
  written d t r = rw (r, ← k.restarts t.gravity) (of-pick k.get d.restarts.gravity (both_restarted t.gravity) t.gravity)

  clocks : (us : ℕ) (t : Detectors) → spell_of (detectors_clocked us t) ≡ clocked stopped us (spell_of t)
  unfolding detectors_clocked
  clocks us t = k.clocks us t.gravity

module _ (l : Lasting) where
  -- what a sample shows, by the points that it gives
  abbrev pub shown_by : List l.Point → Shown
  shown_by [] = Nothing
  shown_by (p ∷ ps) = shown_at l.is_met l.is_far l.mark p

  -- what a spell becomes that is shown something, by what is in force after a history
  abbrev pub after_shown : List Event → Spell → Shown → Spell
  after_shown es s t = after_sample stopped t (delay_asked l es) (is_non_latched es) (time_asked es) s

  -- what has to hold of a spell of the device
  pub record Spelled : Type 0 where
    -- no point is both; a sample gives one at the most
    pub apart : (p : l.Point) → l.is_far p ≡ true → l.is_met p ≡ false
    pub one : (es : List Event) (v : Values) → OneOrNone (l.point_of es v)
    -- the delay changes at restarts only, and its time is counted
    pub delays : is_in clearing l.delay_at ≡ true
    pub counted : (es : List Event) → delay_asked l es < most
    -- it is kept, and at a sample it is shown the point
    pub kept : Kept
    pub samples : (es : List Event) (v : Values) (g : Gravity)
        → kept.get (both_sampled (bank es) v.x v.y v.z g) ≡ after_shown es (kept.get g) (shown_by (l.point_of es v))

-- "an accepted write to 0x0F, 0x17, 0x21 or 0x22 to 0x26 restarts them"
restarts-are : (es : List Event) (a byte : ℕ) → (judgement (bank es) a byte).deeds.restarts.gravity ≡ both (is_accepted es a byte) (is_in clearing a)
unfolding deeds_of
restarts-are = deed-is (λ d. d.restarts.gravity) clearing (λ regs r a byte. refl) refl

-- the alarm that looking back tells
abbrev pub alarm_of : Lasting → List Event → Alarm
alarm_of l es = alarm_by (is_set (watch l) es) (marked (watch l) es) (time_asked es - clock_since (watch l) es)

module _ (l : Lasting) (s : Spelled l) where
  not-both : (time : ℕ) (p : l.Point) (ss : List (Sight l.Point)) → l.is_far p ≡ true → both (l.is_met p) (leb time (lasted l.is_met (point p ∷ ss))) ≡ false
  not-both time p ss f = ap (λ (t : Bool). both t (leb time (lasted l.is_met (point p ∷ ss)))) (s.apart p f)

  pub lawful : Lawful (watch l)
  lawful = record {
    one = s.one;
    latches = refl;
    kept = λ es e r. rw (in-force-kept clearing es e r l.delay_at s.delays);
    apart = λ es p ss f. not-both (delay_asked l es) p ss f;
  }

  abbrev pub spell_after : List Event → Spell
  spell_after es = spell_of s.kept (after es).detectors

  -- an accepted sample
  module _ (es : List Event) (v : Values) where
    abbrev sampled : Spell
    sampled = spell_of s.kept (detectors_sampled (bank es) v.x v.y v.z (after es).detectors)

    shown : (ps : List l.Point) → l.point_of es v ≡ ps → as_detector sampled ≡ as_detector (after_shown l es (spell_after es) (shown_by l ps))
    unfolding detectors_sampled
    shown ps n = ap as_detector (s.samples es v (after es).detectors.gravity ∙ ap (λ (qs : List l.Point). after_shown l es (spell_after es) (shown_by l qs)) n)

    idle : l.point_of es v ≡ [] → as_detector sampled ≡ as_detector (spell_after es)
    unfolding after_sample
    idle n = shown [] n

    judges : (p : l.Point) → l.point_of es v ≡ p ∷ [] → (ss : List (Sight l.Point)) → (spell_after es).watch ≡ watch_of stopped l.is_met ss
        → as_detector sampled ≡ record { run = watch_of stopped l.is_met (point p ∷ ss); alarm = judged_by (watch l) (going_by (watch l) es) p ss (spell_after es).alarm }
    unfolding going_by
    judges p n ss h =
        shown (p ∷ []) n
        ∙ spell-judges l.is_met l.is_far l.mark stopped (lasted l.is_met) s.apart p ss (delay_asked l es) (time_asked es) (is_non_latched es) (spell_after es)
        (λ e. reached-is l.is_met (delay_asked l es) (s.counted es) (point p ∷ ss) (rw e)) h

  part : Part (watch l)
  part = record {
    course = by_time stopped;
    get = λ d. as_detector (spell_of s.kept d);
    run_of = λ g ss. watch_of stopped l.is_met ss;
    begins = λ g. refl;
    passes = λ g us ss. refl;
    quiet = ap as_detector s.kept.quiet_is;
    deed = λ d. d.restarts.gravity;
    deed-at = restarts-are;
    written = λ d t r. ap as_detector (written s.kept d t r) ∙ restart-as stopped d.restarts.gravity (spell_of s.kept t);
    clocks = λ us t. ap as_detector (clocks s.kept us t) ∙ clock-as stopped us (spell_of s.kept t);
    idle = idle;
    judges = judges;
  }

  -- after any history
  pub alarm-is : (es : List Event) → (spell_after es).alarm ≡ alarm_of l es
  unfolding part going_by
  alarm-is es = ap (λ (d : Detector Stopwatch). d.alarm) (part-is (watch l) lawful part es)
