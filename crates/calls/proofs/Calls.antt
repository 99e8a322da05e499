-- Power-up and then calls are the events that they ask for: whatever the contracts allow the calls to leave is what the events say.
-- Assumes nothing.
use Prim.Native.Nat.{ℕ}
use mathlib.Core.Bool.{Bool, true, false}
use mathlib.Core.List.{List, [], ◌∷◌}
use mathlib.Core.Option.{Option, some, none}
use mathlib.Core.Path.{◌≡◌, refl, ap, subst, ◌∙◌}
use lib.Dec.{eqb}
use lib.ListN.{length}
use borrow.Author.Tests.{eqb-false}
use Rattle.laws.specs.Choice.{pick}
use Rattle.laws.proofs.Finite.{picked}
use Rattle.registers.proofs.Answers.{zero-accepted}
use Rattle.device.specs.declared.Device.{Device}
use Rattle.events.specs.Event.{Event, power_up, write, read, sample, cycle, clock, happens, lent_by, gives, Given, bytes}
use Rattle.events.specs.Run.{after}
use Rattle.events.proofs.Given.{read-gives}
use Rattle.history.proofs.Conserve.{demand3}
use Rattle.outcomes.proofs.Refusals.{read-unchanged}
use Rattle.demand2.proofs.Demand2.{demand2, readout}
use Rattle.demand2.proofs.Watermark.{watermark}
use Rattle.twin.specs.Entry.{device_in, step_of, lent_at}
use Rattle.twin.specs.declared.Harness.{Harness}
use Rattle.calls.specs.Calls.{Handed, Call, powers_up, Seen, Leaves, CallsMade, no_more, on-power-up, on-event, event_for, event_onto, events_asked_onto, seen_of, all_seen, Served}
use Rattle.calls.proofs.Kind.{requested-is}
use Rattle.calls.proofs.PinCodes.{pins-coded}

-- ---- one call
-- the buffer of a read whose length is the buffer's
module _ (d : Device) (a : ℕ) (buffer : List ℕ) where
  abbrev given : Given
  given = gives d (read a (length buffer))

  lent-read : lent_by d (read a (length buffer)) buffer ≡ pick (eqb given.number 0) given.bytes buffer
  lent-read = go (eqb given.number 0) refl
    where
      go : (t : Bool) → eqb given.number 0 ≡ t → lent_by d (read a (length buffer)) buffer ≡ pick t given.bytes buffer
      go true e = rw (zero-accepted (happens d (read a (length buffer))).answer, e) at (read-gives d a (length buffer) buffer refl)
      go false e = (read-unchanged d a buffer (eqb-false given.number 0 e)).1

-- what is seen, and the device behind it, of an event that may be asked for: a read has the buffer's length
abbrev Stated : List Event → List ℕ → Option Event → Type 0
Stated es buffer e =
    (◌≡◌ {A = Seen} (record { number = (step_of (after es) e).number; buffer = lent_at (after es) e buffer }) (seen_of es e buffer)) × ((step_of (after es) e).device ≡ after (event_onto e es))

with-buffer : {n : ℕ} {b b' : List ℕ} → b ≡ b' → ◌≡◌ {A = Seen} (record { number = n; buffer = b }) (record { number = n; buffer = b' })
with-buffer {n} h = λ i. record { number = n; buffer = h i }

-- what holds of each event that may be asked for, and of none, holds of the one that is
by_kind : (P : Option Event → Type 0) (c : Handed)
    → P (some (write c.address c.byte)) → P (some (read c.address (length c.buffer))) → P (some (sample c.x c.y c.z c.byte)) → P (some cycle) → P (some (clock c.microseconds)) → P none
    → P (event_for c)
by_kind P c w r s y k n = picked P (eqb c.kind 1) w (picked P (eqb c.kind 2) r (picked P (eqb c.kind 3) s (picked P (eqb c.kind 4) y (picked P (eqb c.kind 5) k n))))

module _ (es : List Event) (c : Handed) where
  one-stated : Stated es c.buffer (event_for c)
  unfolding after
  one-stated = by_kind (Stated es c.buffer) c (refl, refl) (with-buffer (lent-read (after es) c.address c.buffer), refl) (refl, refl) (refl, refl) (refl, refl) (refl, refl)

  -- whatever the contract allows is what the events say
  pub call-leaves : {d d' : Device} (s : Seen) → d ≡ after es → Leaves d c s d' → (s ≡ seen_of es (event_for c) c.buffer) × (d' ≡ after (event_onto (event_for c) es))
  call-leaves {d} {d'} s h p =
      let q : Leaves (after es) c s d' = subst (λ (x : Device). Leaves x c s d') h p in
      let r = requested-is c in (
        (λ i. record { number = q.0 i; buffer = q.2 i }) ∙ ap (λ (e : Option Event). record { number = (step_of (after es) e).number; buffer = lent_at (after es) e c.buffer }) r ∙ one-stated.0,
        q.1 ∙ ap (λ (e : Option Event). (step_of (after es) e).device) r ∙ one-stated.1,
      )

-- ---- a run
run_is : (es : List Event) {h end : Harness} {cs : List Call} {ss : List Seen} → device_in h ≡ after es → CallsMade h cs ss end
    → (ss ≡ all_seen es cs) × (device_in end ≡ after (events_asked_onto es cs))
unfolding after
run_is es e no_more = (refl, e)
run_is es e (on-power-up p later) = run_is (power_up ∷ es) p later
run_is es e (on-event {c = c} {s = s} p later) =
    let one = call-leaves es c s e p in
    let on = run_is (event_onto (event_for c) es) one.1 later in
    (λ i. one.0 i ∷ on.0 i, on.1)

-- ---- what the next call sees that reads
module _ (es : List Event) {d d' : Device} (c : Handed) (s : Seen) (e : d ≡ after es) (p : Leaves d c s d') (k : c.kind ≡ 2) where
  reads : event_for c ≡ some (read c.address (length c.buffer))
  reads = rw k

  pub read-sees : (bs : List ℕ) → gives (after es) (read c.address (length c.buffer)) ≡ bytes bs → s ≡ record { number = 0; buffer = bs }
  read-sees bs g =
      (call-leaves es c s e p).0
      ∙ ap (λ (o : Option Event). seen_of es o c.buffer) reads
      ∙ ap (λ (x : Given). record { number = x.number; buffer = pick (eqb x.number 0) x.bytes c.buffer }) g

-- ---- power-up, and then any calls, on whatever record
pub served : {h end : Harness} {cs : List Call} {ss : List Seen} → CallsMade h (powers_up ∷ cs) ss end → Served cs ss end
unfolding after
served {cs = cs} (on-power-up p later) =
    let es = events_asked_onto [] cs in
    let r = run_is [] p later in
    let two = demand2 es in
    record {
      seen = r.0;
      is-after = r.1;
      pins = rw r.1 (pins-coded (after es));
      demand2 = two;
      watermark = watermark es;
      demand3 = demand3 es;
      below = λ c s h q k b. read-sees es c s r.1 q k _ (two.below c.address (length c.buffer) b);
      frames = λ c s h q k a m n. read-sees es c s r.1 q k _ (rw a (readout es (length c.buffer) m n));
    }
