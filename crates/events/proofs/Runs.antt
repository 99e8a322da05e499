-- What holds after any history: the registers are those that the events alone tell, and a script behind a history is a history.
-- Assumes nothing.
use Prim.Native.Nat.{ℕ, ◌+◌}
use mathlib.Core.Bool.{Bool, true, false}
use mathlib.Core.List.{List, [], ◌∷◌, ◌++◌}
use mathlib.Core.Path.{◌≡◌, refl, ap, ◌∙◌}
use lib.Dec.{ltb}
use lib.ListN.{length, set, length-set}
use Rattle.laws.specs.Choice.{pick}
use Rattle.table.proofs.Rows.{reset-length}
use Rattle.registers.specs.Deeds.{judgement}
use Rattle.device.specs.Device as device
use Rattle.device.specs.Device.{first_bytes}
use Rattle.device.specs.Write.{regs_reset}
use Rattle.device.specs.declared.Device.{Device}
use Rattle.device.specs.declared.Answered.{Answered}
use Rattle.device.proofs.Laws.{clock-sum, clock-none}
use Rattle.events.specs.Event.{Event, power_up, write, read, sample, cycle, clock}
use Rattle.events.specs.Run.{next, after, script_onto, onward}
use Rattle.events.specs.Bank.{bank_next, bank}
use Rattle.events.proofs.Parts.{regs-next}

-- ---- the registers
pub bank-is : (es : List Event) → (after es).regs ≡ bank es
unfolding after bank device.power_up
bank-is [] = refl
bank-is (e ∷ es) = regs-next (after es) e ∙ rw (bank-is es)

pub first-length : length first_bytes ≡ 64
unfolding first_bytes
first-length = simp length-set reset-length

length-next : (regs : List ℕ) → length regs ≡ 64 → (e : Event) → length (bank_next regs e) ≡ 64
length-next regs h power_up = first-length
length-next regs h (write a byte) = let j = judgement regs a byte in go j.deeds.resets j.deeds.stores (ltb a 64) j.stored
  where
    go : (r s t : Bool) (v : ℕ) → length (pick r (regs_reset regs) (pick s (pick t (set regs a v) regs) regs)) ≡ 64
    go true s t v = simp (length-set, first-length)
    go false true true v = simp length-set h
    go false true false v = h
    go false false t v = h
length-next regs h (read a n) = h
length-next regs h (sample x y z t) = h
length-next regs h cycle = h
length-next regs h (clock us) = h

pub bank-length : (es : List Event) → length (bank es) ≡ 64
unfolding bank
bank-length [] = first-length
bank-length (e ∷ es) = length-next (bank es) (bank-length es) e

-- ---- Q-4: "Two clock events in a row equal one of their sum", and a clock of 0 changes nothing: of every device, not only what it answers
pub two-clocks : (a b : ℕ) (d : Device) → next (next d (clock a)) (clock b) ≡ next d (clock (a + b))
two-clocks a b d = ap (λ (x : Answered). x.device) (clock-sum a b d)

pub clock-of-0 : (d : Device) → next d (clock 0) ≡ d
clock-of-0 d = clock-none d

-- ---- scripts, and events that come later
pub onward-after : (h es : List Event) → onward (after h) es ≡ after (script_onto es h)
unfolding after
onward-after h [] = refl
onward-after h (e ∷ es) = onward-after (e ∷ h) es

-- two histories that leave one device still do when the same events come later
pub alike-later : (later es fs : List Event) → after es ≡ after fs → after (later ++ es) ≡ after (later ++ fs)
unfolding after
alike-later [] es fs h = h
alike-later (e ∷ later) es fs h = ap (λ (d : Device). next d e) (alike-later later es fs h)
