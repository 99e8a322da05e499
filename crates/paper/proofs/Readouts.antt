-- The readouts and the clears in 01's words are those of the device.
-- Assumes nothing.
use Prim.Native.Nat.{ℕ}
use mathlib.Core.Bool.{Bool, true, false, not}
use mathlib.Core.List.{List, ◌∷◌}
use mathlib.Core.Path.{◌≡◌, refl, sym, ◌∙◌}
use mathlib.Core.Logic.{◌≢◌}
use native.Mathlib.Omega.{arith}
use borrow.Author.Tests.{eqb-true, eqb-false, ltb-true, ltb-false, lt-leb, le-leb}
use lib.Dec.{eqb, leb, ltb}
use Rattle.laws.specs.Choice.{pick, both, either}
use Rattle.codes.specs.Addresses.{control_at, frames_at}
use Rattle.codes.specs.Mode.{mode_of, is_reserved_mode}
use Rattle.std.specs.Prelude.{Err}
use Rattle.registers.specs.Answers.{done, accepted}
use Rattle.registers.specs.Deeds.{is_reset, clears}
use Rattle.registers.specs.Refused.{read_answer}
use Rattle.registers.specs.declared.Refusal.TheVariants.{BadLength}
use Rattle.registers.proofs.Verdicts.{control-accepted}
use Rattle.events.specs.Event.{Event, power_up, write, read, sample, cycle, clock}
use Rattle.events.specs.Bank.{bank}
use Rattle.events.specs.Parts.{reads_frames}
use Rattle.paper.specs.Stored.{is_soft_reset, none, last, byte_left, last_write, byte_by, is_accepted}
use Rattle.paper.specs.Readouts.{reads_out, clears_fifo}
use Rattle.paper.proofs.Stored.{accepted-is}

-- ---- readouts
at-frames : (n : ℕ) → accepted (read_answer frames_at n) ≡ both (leb 1 n) (leb n 192)
unfolding read_answer
at-frames n = go (eqb n 0) refl (ltb 192 n) refl
  where
    go : (t : Bool) → eqb n 0 ≡ t → (s : Bool) → ltb 192 n ≡ s → accepted (read_answer frames_at n) ≡ both (leb 1 n) (leb n 192)
    go true e s f = rw (eqb-true n 0 e)
    go false e s f =
        let some : n ≢ 0 = eqb-false n 0 e in
        rw (e, f, le-leb 1 n (omega arith)) (long s f)
      where
        long : (s : Bool) → ltb 192 n ≡ s → accepted (pick s (Err BadLength) done) ≡ leb n 192
        long true f = sym (lt-leb n 192 (ltb-true 192 n f))
        long false f = sym (le-leb n 192 (ltb-false 192 n f))

pub readout-is : (a n : ℕ) → reads_frames a n ≡ reads_out a n
unfolding reads_out
readout-is a n = go (eqb a frames_at) refl
  where
    go : (t : Bool) → eqb a frames_at ≡ t → reads_frames a n ≡ both (eqb a 0x3F) (both (leb 1 n) (leb n 192))
    go true e = rw (eqb-true a frames_at e) (last (accepted (read_answer frames_at n)) ∙ at-frames n)
      where
        last : (t : Bool) → both t true ≡ t
        last true = refl
        last false = refl
    go false e = rw e (none (accepted (read_answer a n)))
      where
        none : (t : Bool) → both t false ≡ false
        none true = refl
        none false = refl

-- ---- clears
pub clears-is : (es : List Event) (a byte : ℕ) → clears a byte ≡ clears_fifo es (write a byte)
unfolding clears
clears-is es a byte = go (eqb a control_at) refl
  where
    swapped : (t s u : Bool) → u ≡ t → either t s ≡ either s (both u true)
    swapped true true u e = refl
    swapped true false u e = rw e
    swapped false true u e = refl
    swapped false false u e = rw e

    alone : (s t : Bool) → s ≡ either s (both t false)
    alone true t = refl
    alone false true = refl
    alone false false = refl

    go : (t : Bool) → eqb a control_at ≡ t → clears a byte ≡ clears_fifo es (write a byte)
    go true e =
        rw (eqb-true a control_at e)
        (swapped (not (is_reserved_mode (mode_of byte))) (is_reset control_at byte) (is_accepted es control_at byte)
        (sym (accepted-is es control_at byte) ∙ control-accepted (bank es) byte))
    go false e = rw e (alone (is_reset a byte) (is_accepted es a byte))

-- what does not clear the FIFO leaves 0x3E
pub control-kept : (es : List Event) (e : Event) → clears_fifo es e ≡ false → byte_by (e ∷ es) 0x3E ≡ byte_by es 0x3E
unfolding byte_by
control-kept es power_up h = cc
control-kept es (write a byte) h = go (is_soft_reset a byte) (is_accepted es a byte) (eqb a 0x3E) h
  where
    go : (r t s : Bool) → either r (both t (either s false)) ≡ false
        → byte_left 0x3E (pick (both s t) (last byte) (pick (both r true) none (last_write es 0x3E))) ≡ byte_left 0x3E (last_write es 0x3E)
    go true t s e = cc
    go false true true e = cc
    go false true false e = refl
    go false false true e = refl
    go false false false e = refl
control-kept es (read a n) h = refl
control-kept es (sample x y z t) h = refl
control-kept es cycle h = refl
control-kept es (clock us) h = refl
