-- Q-4: a status that is held for a time stands until the clock since its setting reaches it, and no longer, as reads show it. Assumes nothing.
use Prim.Native.Nat.{ℕ, ◌+◌, ◌<◌}
use mathlib.Core.Bool.{false}
use mathlib.Core.List.{List, [], ◌∷◌, ◌++◌}
use mathlib.Core.Path.{◌≡◌, refl, sym, ap, ◌∙◌}
use native.Mathlib.Omega.{arith}
use lib.ListN.{length, length-append}
use Rattle.laws.specs.Bits.{bit, worth}
use Rattle.events.specs.Event.{Event, write, clock, bytes}
use Rattle.events.specs.Bank.{stored}
use Rattle.rules.specs.Shown.{bit_seen}
use Rattle.paper.proofs.Stored.{stored_is}
use Rattle.rules.proofs.Registers.{reads-tabled}
use Rattle.lookback.specs.Sight.{Sight, points_in}
use Rattle.lookback.specs.Held.{samples_over, SetFor, Clears}
use Rattle.lookback.proofs.Held as lookback
use Rattle.points.specs.Points.{OverAxes}
use Rattle.anymotion.specs.Status.{points_asked, any_motion, points}
use Rattle.anymotion.specs.Marks.{marks_byte}
use Rattle.anymotion.specs.Held.{ClearsAt, HeldFor}
use Rattle.anymotion.proofs.Detector.{lawful}
use Rattle.anymotion.proofs.Promise.{status-seen, reads-marks, marks-apart, clear-exactly}
use Rattle.anymotion.proofs.Expired.{as_written, alike-later, same-shown}

-- where no point counts, fewer samples than N set nothing
too_few : (es : List Event) → points es ≡ [] → (later : List Event) → samples_over later < points_asked (later ++ es) → bit_seen (later ++ es) 0x09 2 ≡ false
too_few es none later few = (clear-exactly (later ++ es)).1 (λ c.
    let r = c.came in
    let l = simp length-append at (ap length r.split) in
    omega (arith, lookback.points-since any_motion lawful es none later, r.many))

module _ (es : List Event) (us rest : ℕ) (c : Clears any_motion es us rest) where
  -- of the byte of 0x0B bit 3 is left
  sign-left : marks_byte (clock us ∷ es) ≡ worth 8 (bit 3 (marks_byte es))
  unfolding marks_byte
  sign-left = rw (c.mark, c.sign, (marks-apart es).0) (omega arith)

  cleared_at : ClearsAt es us
  cleared_at = record {
    status = status-seen (clock us ∷ es) ∙ c.status;
    marked = marks_byte es;
    before = reads-marks es;
    marks = reads-marks (clock us ∷ es) ∙ ap (λ (b : ℕ). bytes (b ∷ [])) sign-left;
    runs = too_few (clock us ∷ es) (ap {A = List (Sight OverAxes)} points_in c.left);
    latch = stored es 0x21;
    holds = reads-tabled es 0x21 (omega arith) refl ∙ ap (λ (b : ℕ). bytes (b ∷ [])) (sym (stored_is es 0x21 (omega arith)));
    no_more = λ later. same-shown (later ++ (clock us ∷ es)) (later ++ (write 0x21 (stored es 0x21) ∷ es)) (alike-later later (clock us ∷ es) (write 0x21 (stored es 0x21) ∷ es) (as_written es us c.expired));
  }

pub held : (es : List Event) (e : Event) (later : List Event) → SetFor any_motion es e later → HeldFor es e later
held es e later s =
    let h = lookback.held any_motion lawful es e later s in
    record {
      stands = λ short. status-seen (later ++ (e ∷ es)) ∙ h.stands short;
      clears = λ us short long. cleared_at (later ++ (e ∷ es)) us _ (h.clears us short long);
    }
