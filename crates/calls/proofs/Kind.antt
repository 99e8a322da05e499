-- The entry's kinds: 1 to 5 are events, and any other kind is none. Of any record, whether power-up led to it or not.
-- Assumes nothing.
use Prim.Native.Nat.{ℕ, ◌≤◌}
use mathlib.Core.Bool.{Bool, true, false}
use mathlib.Core.Logic.{◌↔◌, ◌≢◌}
use mathlib.Core.Option.{Option, some, none}
use mathlib.Core.Path.{◌≡◌, refl, sym, ap, subst, ◌∙◌}
use native.Mathlib.Omega.{arith}
use lib.Dec.{eqb}
use lib.ListN.{length}
use borrow.Author.Tests.{ne_eqb, eqb-false}
use Rattle.laws.specs.Choice.{pick}
use Rattle.laws.specs.Lists.{is_in}
use Rattle.laws.proofs.Finite.{picked}
use Rattle.device.specs.Parts.{core_of, registers_of, frames_of}
use Rattle.device.specs.declared.Device.{Device}
use Rattle.events.specs.Event.{Event, power_up, write, read, sample, cycle, clock, gives}
use Rattle.outcomes.specs.Numbers.{answers_to}
use Rattle.outcomes.specs.Demand1.{DueOn, Askable}
use Rattle.outcomes.proofs.Demand1.{demand1}
use Rattle.outcomes.proofs.Refusals.{event-unchanged, read-unchanged, nothing-else}
use Rattle.outcomes.proofs.Words.{no}
use Rattle.twin.specs.Entry.{device_in, asked, step_of, lent_at}
use Rattle.twin.specs.declared.Harness.{Harness}
use Rattle.calls.specs.Calls.{Handed, Seen, requested, Leaves, event_for, OneCall}

-- the entry takes 01's numbers for the kinds
pub requested-is : (c : Handed) → requested c ≡ event_for c
unfolding asked
requested-is c = refl

-- the device says what the record is
pub record_is : {h h' : Harness} → device_in h' ≡ device_in h → h' ≡ h
record_is e = λ i. record { regs = registers_of (e i); core = core_of (e i); frames = frames_of (e i) }

-- ---- 8
not_none : {e : Event} → ◌≡◌ {A = Option Event} (some e) none → ⊥
not_none q = let z : ◌≡◌ {A = ℕ} 0 1 = cc in omega arith

-- any kind but 1 to 5 is no event, and these are
module _ (c : Handed) where
  abbrev IsKind : Type 0
  IsKind = (1 ≤ c.kind) × (c.kind ≤ 5)

  no-event : ¬ IsKind → event_for c ≡ none
  no-event h =
      let not1 : c.kind ≢ 1 = λ e. h (omega arith, omega arith) in
      let not2 : c.kind ≢ 2 = λ e. h (omega arith, omega arith) in
      let not3 : c.kind ≢ 3 = λ e. h (omega arith, omega arith) in
      let not4 : c.kind ≢ 4 = λ e. h (omega arith, omega arith) in
      let not5 : c.kind ≢ 5 = λ e. h (omega arith, omega arith) in
      rw (ne_eqb _ _ not1, ne_eqb _ _ not2, ne_eqb _ _ not3, ne_eqb _ _ not4, ne_eqb _ _ not5)

  some-event : event_for c ≡ none → ¬ IsKind
  some-event = go _ _ _ _ _ refl refl refl refl refl
    where
      go : (t1 t2 t3 t4 t5 : Bool) → eqb c.kind 1 ≡ t1 → eqb c.kind 2 ≡ t2 → eqb c.kind 3 ≡ t3 → eqb c.kind 4 ≡ t4 → eqb c.kind 5 ≡ t5
          → pick t1 (some (write c.address c.byte))
          (pick t2 (some (read c.address (length c.buffer)))
          (pick t3 (some (sample c.x c.y c.z c.byte))
          (pick t4 (some cycle)
          (pick t5 (some (clock c.microseconds)) none))))
          ≡ none → ¬ IsKind
      go true t2 t3 t4 t5 p1 p2 p3 p4 p5 q h = not_none q
      go false true t3 t4 t5 p1 p2 p3 p4 p5 q h = not_none q
      go false false true t4 t5 p1 p2 p3 p4 p5 q h = not_none q
      go false false false true t5 p1 p2 p3 p4 p5 q h = not_none q
      go false false false false true p1 p2 p3 p4 p5 q h = not_none q
      go false false false false false p1 p2 p3 p4 p5 q h =
          let not1 : c.kind ≢ 1 = eqb-false c.kind 1 p1 in
          let not2 : c.kind ≢ 2 = eqb-false c.kind 2 p2 in
          let not3 : c.kind ≢ 3 = eqb-false c.kind 3 p3 in
          let not4 : c.kind ≢ 4 = eqb-false c.kind 4 p4 in
          let not5 : c.kind ≢ 5 = eqb-false c.kind 5 p5 in
          omega arith

-- no event is answered 8
never-8 : (d : Device) (e : Event) → (gives d e).number ≢ 8
never-8 d e is = no (sym (without e) ∙ ap (is_in (answers_to e)) (sym is) ∙ nothing-else.event d e)
  where
    without : (e : Event) → is_in (answers_to e) 8 ≡ false
    without power_up = refl
    without (write a byte) = refl
    without (read a n) = refl
    without (sample x y z temperature) = refl
    without cycle = refl
    without (clock us) = refl

eight-none : (d : Device) (e : Option Event) → (step_of d e).number ≡ 8 → e ≡ none
eight-none d (some e) is = absurd (never-8 d e is)
eight-none d none is = refl

-- ---- whatever is not answered 0 leaves device and buffer as they were
module _ (d : Device) (c : Handed) where
  abbrev Unchanged : Option Event → Type 0
  Unchanged e = (step_of d e).number ≢ 0 → ((step_of d e).device ≡ d) × (lent_at d e c.buffer ≡ c.buffer)

  unchanged : Unchanged (event_for c)
  unchanged =
      picked Unchanged (eqb c.kind 1) (λ h. ((event-unchanged d (write c.address c.byte) h).0, refl))
      (picked Unchanged (eqb c.kind 2) (λ h. read-unchanged d c.address c.buffer h)
      (picked Unchanged (eqb c.kind 3) (λ h. ((event-unchanged d (sample c.x c.y c.z c.byte) h).0, refl))
      (picked Unchanged (eqb c.kind 4) (λ h. ((event-unchanged d cycle h).0, refl))
      (picked Unchanged (eqb c.kind 5) (λ h. ((event-unchanged d (clock c.microseconds) h).0, refl)) (λ h. (refl, refl))))))

-- ---- an event that is asked for can be
module _ (c : Handed) where
  abbrev AskableIf : Option Event → Type 0
  AskableIf (some e) = Askable e c.buffer
  AskableIf none = Unit {0}

  askable : AskableIf (event_for c)
  askable =
      picked AskableIf (eqb c.kind 1) tt
      (picked AskableIf (eqb c.kind 2) refl (picked AskableIf (eqb c.kind 3) tt (picked AskableIf (eqb c.kind 4) tt (picked AskableIf (eqb c.kind 5) tt tt))))

  exactly : (d : Device) (e : Event) → event_for c ≡ some e → {number : ℕ} → number ≡ (step_of d (event_for c)).number → (n : ℕ) → (number ≡ n) ↔ DueOn d e n
  exactly d e is p = rw (p, is) (demand1.event d e c.buffer (subst AskableIf is askable)).exactly

-- ---- so of one call
pub one-call : (h h' : Harness) (c : Handed) (s : Seen) → Leaves (device_in h) c s (device_in h') → OneCall h c s h'
one-call h h' c s p =
    let q = rw (requested-is c) at p in
    let still : s.number ≢ 0 → (h' ≡ h) × (s.buffer ≡ c.buffer) = λ n. let u = unchanged (device_in h) c (λ z. n (q.0 ∙ z)) in (record_is (q.1 ∙ u.0), q.2 ∙ u.1) in
    record {
      refused = still;
      no_kind = (λ is. some-event c (eight-none (device_in h) (event_for c) (sym q.0 ∙ is)), λ no. q.0 ∙ ap (λ (e : Option Event). (step_of (device_in h) e).number) (no-event c no));
      tabled = λ e is. record { exactly = exactly c (device_in h) e is q.0; unchanged = λ n. let u = still n in λ i. (u.0 i, u.1 i) };
    }
