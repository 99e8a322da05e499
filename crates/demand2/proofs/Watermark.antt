-- Q-2, "Watermark means reached": whatever the events, the device meets it.
-- Assumes nothing.
use Prim.Native.Nat.{ℕ, suc, ◌+◌, ◌-◌, ◌/◌, ◌≤◌, min}
use mathlib.Core.Bool.{Bool, true, false, not}
use mathlib.Core.List.{List, [], ◌∷◌, ◌++◌}
use mathlib.Core.Logic.{◌↔◌}
use mathlib.Core.Path.{◌≡◌, refl, sym, ap, ◌∙◌}
use native.Mathlib.Omega.{arith}
use lib.Dec.{eqb, leb}
use borrow.Author.Tests.{leb-true, le-leb, eqb-true, eq-eqb}
use Rattle.laws.specs.Bits.{bit, worth}
use Rattle.laws.specs.Choice.{pick, both}
use Rattle.laws.specs.Lists.{is_in}
use Rattle.laws.proofs.Finite.{left, right, picked}
use Rattle.fifo.specs.Ledger as fifo
use Rattle.fifo.specs.declared.Setting.{Setting}
use Rattle.events.specs.Event.{Event, power_up, write, read, sample, cycle, clock}
use Rattle.demand3.specs.Chip.{Said, sampled, read_out, nothing, onto, since}
use Rattle.demand3.specs.Counts.{begun, held_after}
use Rattle.history.specs.History.{accelerometer, control, setting, frame_at, says_here}
use Rattle.demand3.proofs.Chip.{is_cleared}
use Rattle.history.proofs.Conserve.{demand3, lawful, over-clears-here}
use Rattle.history.proofs.Holds.{holds_after}
use Rattle.demand3.proofs.Whole.{next-held}
use Rattle.rules.specs.Rules.{depth_by, watermark_status}
use Rattle.paper.specs.Stored.{byte_by, is_accepted}
use Rattle.paper.specs.Readouts.{reads_out, clears_fifo}
use Rattle.paper.specs.Samples.{is_sample, values_at}
use Rattle.rules.proofs.Reading.{depth_is}
use Rattle.demand2.specs.Demand2.{elsewhere}
use Rattle.demand2.specs.Watermark.{watermark_bit, level, frame_count, frame_size, Reaches, set_up_at, goes_on, go_on, arrived, frames_asked_by, frames_asked, Watermark}
use Rattle.demand2.proofs.Demand2.{status-seen, out}

-- ---- tests and what they say
tests : (enable : Bool) (level most many : ℕ)
    → (both enable (both (both (leb 1 level) (leb level most)) (leb level many)) ≡ true) ↔ ((enable ≡ true) × (1 ≤ level) × (level ≤ most) × (level ≤ many))
tests enable level most many = (apart, λ h. rw (h.0, le-leb 1 level h.1, le-leb level most h.2, le-leb level many h.3))
  where
    apart : both enable (both (both (leb 1 level) (leb level most)) (leb level many)) ≡ true → (enable ≡ true) × (1 ≤ level) × (level ≤ most) × (level ≤ many)
    apart h =
        let e = left enable (both (both (leb 1 level) (leb level most)) (leb level many)) h in
        let r = right enable (both (both (leb 1 level) (leb level most)) (leb level many)) h in
        let bounds = left (both (leb 1 level) (leb level most)) (leb level many) r in
        (e, leb-true 1 level (left (leb 1 level) (leb level most) bounds), leb-true level most (right (leb 1 level) (leb level most) bounds), leb-true level many (right (both (leb 1 level) (leb level most)) (leb level many) r))

not_seen : (t : Bool) → (t ≡ true → ⊥) → t ≡ false
not_seen true h = absurd (h refl)
not_seen false h = refl

-- ---- after any events
module _ (es : List Event) where
  seen-is : watermark_bit es ≡ watermark_status (elsewhere es) es
  unfolding elsewhere
  seen-is = status-seen es 0x0A refl 6

  reached-here : (watermark_bit es ≡ true) ↔ Reaches es 32 (frame_count es)
  unfolding elsewhere
  reached-here = rw seen-is (tests (bit 6 (byte_by es 0x17)) (level es) 32 (frame_count es))

  -- "Depth is 32 in FIFO and STREAM, 1 in BYPASS"; "The held frames never exceed the depth"
  deep : (setting es).depth ≡ depth_by es
  deep = depth_is (control es) (holds_after es).mode

  few : frame_count es ≤ depth_by es
  few = omega (arith, (demand3 es).demand.few, deep)

-- ---- an event that leaves the settings alone
not_written : (a : ℕ) → not (is_in set_up_at a) ≡ true → (c : ℕ) → is_in set_up_at c ≡ true → eqb a c ≡ false
not_written a on c m = go (eqb a c) refl
  where
    go : (t : Bool) → eqb a c ≡ t → t ≡ false
    go true e = let z : false ≡ true = rw (eqb-true a c e, m) at on in cc
    go false e = refl

clears-not : (es : List Event) (a byte : ℕ) → not (is_in set_up_at a) ≡ true → clears_fifo es (write a byte) ≡ false
clears-not es a byte on = rw (not_written a on 0x14 refl, not_written a on 0x3E refl) (go (is_accepted es a byte))
  where
    go : (t : Bool) → both t false ≡ false
    go true = refl
    go false = refl

none-less : (n : ℕ) → n ≡ n - 0
none-less n = omega arith

module _ (es : List Event) where
  same_byte : (e : Event) → goes_on e ≡ true → (c : ℕ) → is_in set_up_at c ≡ true → byte_by (e ∷ es) c ≡ byte_by es c
  unfolding byte_by
  same_byte power_up on c m = cc
  same_byte (write a byte) on c m = rw (not_written a on c m, not_written a on 0x14 refl)
  same_byte (read a n) on c m = refl
  same_byte (sample x y z t) on c m = refl
  same_byte cycle on c m = refl
  same_byte (clock us) on c m = refl

  goes_on_lem : (e : Event) → goes_on e ≡ true → is_cleared (says_here es e) ≡ false
  unfolding says_here
  goes_on_lem power_up on = cc
  goes_on_lem (write a byte) on = rw (clears-not es a byte on)
  goes_on_lem (read a n) on = picked (λ (w : Said). is_cleared w ≡ false) (reads_out a n) refl refl
  goes_on_lem (sample x y z t) on = picked (λ (w : Said). is_cleared w ≡ false) (is_sample (sample x y z t)) refl refl
  goes_on_lem cycle on = refl
  goes_on_lem (clock us) on = refl

  -- how many are held with one event more, by what it says
  held-said : (e : Event) → goes_on e ≡ true → (s : Setting) (es' : List (fifo.Event (List ℕ)))
      → held_after s (onto (says_here es e) es') ≡ pick (is_sample e) (min s.depth (suc (held_after s es'))) (held_after s es' - frames_asked_by s.size e)
  unfolding says_here held_after
  held-said power_up on s es' = cc
  held-said (write a byte) on s es' = rw (clears-not es a byte on) (none-less (held_after s es'))
  held-said (read a n) on s es' = go (reads_out a n)
    where
      go : (t : Bool) → held_after s (onto (pick t (read_out n) nothing) es') ≡ held_after s es' - pick t (begun s.size n) 0
      go true = refl
      go false = none-less (held_after s es')
  held-said (sample x y z t₀) on s es' = go (is_sample (sample x y z t₀))
    where
      go : (t : Bool) → held_after s (onto (pick t (sampled (frame_at es (values_at es (sample x y z t₀)))) nothing) es') ≡ pick t (min s.depth (suc (held_after s es'))) (held_after s es' - 0)
      go true = refl
      go false = none-less (held_after s es')
  held-said cycle on s es' = none-less (held_after s es')
  held-said (clock us) on s es' = none-less (held_after s es')

  module _ (e : Event) (on : goes_on e ≡ true) where
    same-setting : setting (e ∷ es) ≡ setting es
    same-setting = lawful.keeps es e (goes_on_lem e on)

    held_next : frame_count (e ∷ es) ≡ pick (is_sample e) (min (setting es).depth (suc (frame_count es))) (frame_count es - frames_asked_by (frame_size es) e)
    held_next =
        sym (over-clears-here (e ∷ es)).held
        ∙ next-held accelerometer es e (says_here es e) refl (setting es) same-setting
        ∙ held-said e on (setting es) (since accelerometer es)
        ∙ rw (over-clears-here es).held

-- ---- any number of them
record Later (es later : List Event) : Type 0 where
  enable : byte_by (later ++ es) 0x17 ≡ byte_by es 0x17
  same : level (later ++ es) ≡ level es
  set : setting (later ++ es) ≡ setting es
  -- no more are gone than the readouts asked for
  least : frame_count es ≤ frame_count (later ++ es) + frames_asked (frame_size es) later
  -- where they asked for none, all that the depth allows are held
  many : frames_asked (frame_size es) later ≡ 0 → frame_count (later ++ es) ≡ min (setting es).depth (frame_count es + arrived later)

module _ (es later : List Event) (i : Later es later) (e : Event) (on : goes_on e ≡ true) where
  abbrev h : List Event
  h = later ++ es

  next-is : frame_count (e ∷ h) ≡ pick (is_sample e) (min (setting es).depth (suc (frame_count h))) (frame_count h - frames_asked_by (frame_size es) e)
  next-is = held_next h e on ∙ ap (λ (s : Setting). pick (is_sample e) (min s.depth (suc (frame_count h))) (frame_count h - frames_asked_by s.size e)) i.set

  fits : frame_count h ≤ (setting es).depth
  fits = omega (arith, (demand3 h).demand.few, ap (λ (s : Setting). s.depth) i.set)

  least-next : frame_count es ≤ frame_count (e ∷ h) + (frames_asked_by (frame_size es) e + frames_asked (frame_size es) later)
  least-next = go (is_sample e) next-is
    where
      go : (t : Bool) → frame_count (e ∷ h) ≡ pick t (min (setting es).depth (suc (frame_count h))) (frame_count h - frames_asked_by (frame_size es) e)
          → frame_count es ≤ frame_count (e ∷ h) + (frames_asked_by (frame_size es) e + frames_asked (frame_size es) later)
      go true q = omega (arith, q, i.least, fits)
      go false q = omega (arith, q, i.least)

  many-next : frames_asked_by (frame_size es) e + frames_asked (frame_size es) later ≡ 0 → frame_count (e ∷ h) ≡ min (setting es).depth (frame_count es + (worth 1 (is_sample e) + arrived later))
  many-next none =
      let m = i.many (omega arith) in
      go m (is_sample e) next-is
    where
      go : frame_count h ≡ min (setting es).depth (frame_count es + arrived later) → (t : Bool)
          → frame_count (e ∷ h) ≡ pick t (min (setting es).depth (suc (frame_count h))) (frame_count h - frames_asked_by (frame_size es) e)
          → frame_count (e ∷ h) ≡ min (setting es).depth (frame_count es + (worth 1 t + arrived later))
      go m true q = omega (arith, q, m)
      go m false q = omega (arith, q, m, none)

  next-later : Later es (e ∷ later)
  next-later = record {
    enable = same_byte h e on 0x17 refl ∙ i.enable;
    same = same_byte h e on 0x30 refl ∙ i.same;
    set = same-setting h e on ∙ i.set;
    least = least-next;
    many = many-next;
  }

later-is : (es later : List Event) → go_on later ≡ true → Later es later
later-is es [] on = record { enable = refl; same = refl; set = refl; least = omega arith; many = λ none. omega (arith, (demand3 es).demand.few) }
later-is es (e ∷ later) on = next-later es later (later-is es later (right (goes_on e) (go_on later) on)) e (left (goes_on e) (go_on later) on)

depth-32 : (es : List Event) → depth_by es ≤ 32
depth-32 es = go (eqb (byte_by es 0x3E / 64) 0b00)
  where
    go : (t : Bool) → pick t 1 32 ≤ 32
    go true = omega arith
    go false = omega arith

module _ (es : List Event) where
  module _ (later : List Event) (on : go_on later ≡ true) where
    seen-later : (watermark_bit (later ++ es) ≡ true) ↔ Reaches es 32 (frame_count (later ++ es))
    seen-later =
        let i = later-is es later on in
        rw (i.enable, i.same) at (reached-here (later ++ es))

    late-here : frames_asked (frame_size es) later ≡ 0 → (watermark_bit (later ++ es) ≡ true) ↔ Reaches es (depth_by es) (frame_count es + arrived later)
    late-here none =
        let m = (later-is es later on).many none in
        let r = seen-later in (
          λ s. let p = r.0 s in (p.0, p.1, omega (arith, p.3, m, deep es), omega (arith, p.3, m)),
          λ p. r.1 (p.0, p.1, omega (arith, p.2, depth-32 es), omega (arith, p.2, p.3, m, deep es)),
        )

    lasts-here : level es + frames_asked (frame_size es) later ≤ frame_count es → watermark_bit es ≡ true → watermark_bit (later ++ es) ≡ true
    lasts-here enough s =
        let p = (reached-here es).0 s in
        seen-later.1 (p.0, p.1, p.2, omega (arith, enough, (later-is es later on).least))

  ends-here : (n : ℕ) → 1 ≤ n → n ≤ 192 → (watermark_bit (read 0x3F n ∷ es) ≡ true) ↔ Reaches es 32 (frame_count es - begun (frame_size es) n)
  unfolding byte_by
  ends-here n some most =
      let q : frame_count (read 0x3F n ∷ es) ≡ frame_count es - begun (frame_size es) n = held_next es (read 0x3F n) refl ∙ rw (out es n some most) in
      rw q at (reached-here (read 0x3F n ∷ es))

  above-here : (top : ℕ) → depth_by es ≡ top → suc top ≤ level es → watermark_bit es ≡ false
  above-here top d high = not_seen (watermark_bit es) (λ s. omega (arith, ((reached-here es).0 s).3, few es))

pub watermark : (es : List Event) → Watermark es
watermark es = record {
  reached = reached-here es;
  level-0 = λ z. not_seen (watermark_bit es) (λ s. omega (arith, ((reached-here es).0 s).1));
  above-1 = λ bypass high. above-here es 1 (rw (eq-eqb (byte_by es 0x3E / 64) 0b00 bypass)) high;
  above-32 = λ high. not_seen (watermark_bit es) (λ s. omega (arith, ((reached-here es).0 s).2));
  late = late-here es;
  lasts = lasts-here es;
  ends = ends-here es;
}
