-- Demand 2: whatever the events, the device meets it.
-- Assumes nothing.
use Prim.Native.Nat.{ℕ, ◌≤◌}
use mathlib.Core.Bool.{true, false}
use mathlib.Core.List.{List, [], ◌∷◌}
use mathlib.Core.Path.{◌≡◌, ap, subst, ◌∙◌}
use native.Mathlib.Omega.{arith}
use lib.Dec.{eqb, ltb}
use borrow.Author.Tests.{le-ltb, le-leb, ne_eqb}
use Rattle.laws.specs.Lists.{is_in}
use Rattle.laws.specs.Bits.{bit}
use Rattle.laws.specs.Keys.{◌means◌}
use Rattle.laws.specs.Bytes.{first_or_zeros}
use Rattle.laws.proofs.Bytes.{length-zeros}
use Rattle.fifo.specs.Flat.{flat, packed}
use Rattle.fifo.specs.Ledger.{held_of}
use Rattle.interrupts.specs.Statuses.{statuses_of}
use Rattle.registers.specs.Answers.{accepted}
use Rattle.registers.specs.Refused.{read_answer}
use Rattle.device.specs.Read.{read_of, burst_bytes, buffer_after}
use Rattle.device.specs.Show.{pins_of}
use Rattle.events.specs.Event.{Event, read, bytes, gives}
use Rattle.events.specs.Run.{after}
use Rattle.paper.specs.Readouts.{reads_out}
use Rattle.demand3.specs.Chip.{read_out}
use Rattle.demand3.specs.Demand.{fates}
use Rattle.history.specs.History.{accelerometer, says_here, twin}
use Rattle.history.proofs.Conserve.{demand3, device-holds}
use Rattle.lowhigh.proofs.Low.{low-is}
use Rattle.lowhigh.proofs.High.{high_is}
use Rattle.lowhigh.proofs.High as high
use Rattle.slowmotion.proofs.Detector.{slow-is}
use Rattle.anymotion.proofs.Detector.{detector-is}
use Rattle.anymotion.proofs.Promise.{marks-are}
use Rattle.rules.specs.Shown.{bit_seen}
use Rattle.rules.specs.Rules.{status, Elsewhere, status_addresses, statuses_by, ruled, maps, is_one, some_mapped, Leveled}
use Rattle.rules.proofs.Shown.{elsewhere_in}
use Rattle.rules.proofs.Worths.{holds_at}
use Rattle.rules.proofs.Reading.{reads, rule-seen}
use Rattle.rules.proofs.Pins.{pins}
use Rattle.demand2.specs.Demand2.{elsewhere, Demand2}

-- ---- what the device shows of the FIFO and of its detectors is what the events tell
pub elsewhere-is : (es : List Event) → elsewhere_in (after es) ≡ elsewhere es
unfolding elsewhere packed statuses_of
elsewhere-is es = λ i. record {
  count = (device-holds es i).count;
  overrun = (device-holds es i).overrun;
  statuses = status 0x09 0 (low-is es i) ∷ status 0x09 1 (high_is es i) ∷ status 0x09 2 (detector-is es i).alarm.status ∷ status 0x09 3 (slow-is es i) ∷ [];
  marks = 0x0B means marks-are es i ∷ 0x0C means high.marks-are es i ∷ [];
}

-- 0x09 and 0x0A bit by bit: the status that shows there, and 0 where none does
pub status-seen : (es : List Event) (a : ℕ) → is_in status_addresses a ≡ true → (k : ℕ) → bit_seen es a k ≡ holds_at a k (statuses_by (elsewhere es) es)
status-seen es a m k = rule-seen es a m k ∙ ap (λ (w : Elsewhere). holds_at a k (statuses_by w es)) (elsewhere-is es)

-- ---- a readout
module _ (es : List Event) (n : ℕ) (some : 1 ≤ n) (few : n ≤ 192) where
  taken : read_answer 0x3F n ≡ read_answer 0x3F 1
  unfolding read_answer
  taken =
      let p : eqb n 0 ≡ false = ne_eqb n 0 (omega arith) in
      let q : ltb 192 n ≡ false = le-ltb 192 n few in
      rw (p, q)

  ok : accepted (read_answer 0x3F n) ≡ true
  unfolding read_answer
  ok = rw taken

  pub out : reads_out 0x3F n ≡ true
  unfolding reads_out
  out = rw (le-leb 1 n some, le-leb n 192 few)

  said : says_here es (read 0x3F n) ≡ read_out n
  unfolding says_here
  said = rw out

  given : burst_bytes (after es) 0x3F n ≡ twin es 0x3F n
  unfolding twin buffer_after
  given = rw (length-zeros, ok)

  pub readout : gives (after es) (read 0x3F n) ≡ bytes (first_or_zeros n (flat (held_of (fates accelerometer es))))
  unfolding read_of read_answer
  readout = rw (ok, taken, given, (demand3 es).demand.next (read 0x3F n) n said)

pub demand2 : (es : List Event) → Demand2 es
demand2 es =
    let p = subst (λ (w : Elsewhere). let r = ruled w es in
    Leveled (some_mapped (is_one r) (λ m. m.int1) maps) (bit 0 (r 0x20)) (bit 1 (r 0x20)) (pins_of (after es)).int1
    × Leveled (some_mapped (is_one r) (λ m. m.int2) maps) (bit 2 (r 0x20)) (bit 3 (r 0x20)) (pins_of (after es)).int2) (elsewhere-is es) (pins es) in
    record {
      below = λ a n h. reads es a n h ∙ rw (elsewhere-is es);
      frames = λ n some few. readout es n some few;
      int1 = p.0;
      int2 = p.1;
    }
