-- Demand 1: every event gets an answer, refusals are given exactly when documents 01 and 02 say, and leave device, lent buffer and log as
-- they were.
-- Assumes nothing.
use Prim.Native.Nat.{ℕ, ◌+◌, ◌<◌}
use mathlib.Core.Bool.{Bool, true, false, not}
use mathlib.Core.List.{List, [], ◌∷◌}
use mathlib.Core.Logic.{◌↔◌, ◌≢◌, ⊎_elim}
use mathlib.Core.Path.{◌≡◌, refl, sym, ap, ◌∙◌}
use native.Mathlib.Omega.{arith}
use borrow.Author.Tests.{ne_eqb}
use lib.Dec.{eqb, ltb}
use lib.IntN.{ℤ, pos}
use lib.ListN.{length}
use Rattle.laws.specs.Bits.{bit}
use Rattle.laws.specs.Choice.{pick, both, either}
use Rattle.laws.specs.Lists.{is_in}
use Rattle.laws.specs.Refusals.{row, due}
use Rattle.laws.proofs.Refusals.{apart, exact, ways, first-in}
use Rattle.codes.specs.Addresses.{frames_at, latch_at}
use Rattle.codes.specs.Mode.{mode_of}
use Rattle.codes.specs.Range.{range_of}
use Rattle.channels.specs.Codes.{in_range}
use Rattle.table.specs.Rows.{row_at, the_table}
use Rattle.std.specs.Prelude.{Result, Ok, Err}
use Rattle.registers.specs.Answers.{Answer, done, number, accepted}
use Rattle.registers.specs.Deeds.{judgement}
use Rattle.registers.specs.Refused.{reserved_code, not_modelled, lack_at, write_rows, read_rows, answer_at, write_answer, read_answer}
use Rattle.registers.specs.declared.Refusal.TheVariants.{NoAddress, ReservedCode}
use Rattle.registers.proofs.Answers.{zero-accepted, lack-any}
use Rattle.device.specs.Write.{write_of}
use Rattle.device.specs.Read.{read_of, buffer_after}
use Rattle.device.specs.Sample.{sample_rows, sample_answer, sample_of, cycle_of}
use Rattle.device.specs.Clock.{clock_of}
use Rattle.device.specs.Device.{reg}
use Rattle.device.specs.declared.Device.{Device}
use Rattle.events.specs.Event.{Event, power_up, write, read, sample, cycle, clock, gives}
use Rattle.events.specs.Run.{next}
use Rattle.device.proofs.Laws.{write-refused, read-refused, sample-refused}
use Rattle.benchlog.specs.Answers.{found_number, begins_number, room_number}
use Rattle.benchlog.specs.Reader.{found_in, read_head, read_at, read_version}
use Rattle.benchlog.specs.Writer.{room_for, written, placed_as, out_after}
use Rattle.benchlog.specs.declared.NoRoom.{NoRoom}
use Rattle.benchlog.proofs.Exactly.{read-answers, version-answers, write-answers}
use Rattle.paper.specs.Refused.{is_reserved_write, is_detector_write, is_power_mode_write, is_test_or_trim_write}
use Rattle.paper.specs.Samples.{all_inside}
use Rattle.paper.proofs.Refused.{reserved-is, some_number, detector-is, power-mode-is, test-or-trim-is}
use Rattle.outcomes.specs.Numbers.{AboveLast, ReservedWrite, DetectorWrite, PowerModeWrite, TestOrTrimWrite, LackingWrite, SomeOutside, WrongReadLength, PassesEnd}
use Rattle.outcomes.specs.Numbers.{answers_to, NothingElse}
use Rattle.outcomes.specs.Demand1.{next_place}
use Rattle.outcomes.proofs.Words.{Means, no, when, same_test, isnt, likewise, last, less, equal, and, or, last_row, is_false, some-outside}

-- ---- exactly when the rows say
-- the rows of a write have different numbers, and none is 0, whichever is the register's
rows_apart : (p q t : Bool) (a : ℕ) → apart number (row (Err NoAddress) p ∷ row (Err ReservedCode) q ∷ row (Err (lack_at a)) t ∷ []) ≡ true
rows_apart p q t = lack-any (λ x. apart number (row (Err NoAddress) p ∷ row (Err ReservedCode) q ∷ row (Err x) t ∷ []) ≡ true) refl refl refl

pub write-exactly : (d : Device) (a byte n : ℕ) → eqb n (number (write_of d a byte).answer) ≡ due number (write_rows d.regs (row_at a) a byte) n
unfolding write_of judgement answer_at
write-exactly d a byte n = exact number done refl (write_rows d.regs (row_at a) a byte) n (rows_apart (ltb frames_at a) (reserved_code d.regs a byte) (not_modelled d.regs (row_at a) a byte) a)

pub read-exactly : (d : Device) (a count n : ℕ) → eqb n (number (read_of d a count).answer) ≡ due number (read_rows a count) n
unfolding read_of read_answer
read-exactly d a count n = exact number done refl (read_rows a count) n refl

pub sample-exactly : (d : Device) (x y z : ℤ) (t n : ℕ) → eqb n (number (sample_of d x y z t).answer) ≡ due number (sample_rows x y z) n
unfolding sample_of sample_answer
sample-exactly d x y z t n = exact number done refl (sample_rows x y z) n refl

pub cycle-done : (d : Device) → number (cycle_of d).answer ≡ 0
unfolding cycle_of
cycle-done d = refl

pub clock-done : (d : Device) (us : ℕ) → number (clock_of d us).answer ≡ 0
unfolding clock_of
clock-done d us = refl

-- both ways
pub write-when : (d : Device) (a byte n : ℕ) → (number (write_of d a byte).answer ≡ n) ↔ (due number (write_rows d.regs (row_at a) a byte) n ≡ true)
write-when d a byte n = ways (write-exactly d a byte n)

pub read-when : (d : Device) (a count n : ℕ) → (number (read_of d a count).answer ≡ n) ↔ (due number (read_rows a count) n ≡ true)
read-when d a count n = ways (read-exactly d a count n)

pub sample-when : (d : Device) (x y z : ℤ) (t n : ℕ) → (number (sample_of d x y z t).answer ≡ n) ↔ (due number (sample_rows x y z) n ≡ true)
sample-when d x y z t n = ways (sample-exactly d x y z t n)

-- ---- the rows in 01's words, and Q-1's. "A write tests 1, 2, 3", and 11 to 13 "stand in 3's place"
pub write-1 : (d : Device) (a byte : ℕ) → (number (write_of d a byte).answer ≡ 1) ↔ AboveLast a
write-1 d a byte = when (write-exactly d a byte 1) (less 0x3F a)

module _ (d : Device) (a byte : ℕ) where
  within : ¬ AboveLast a → a < 64
  within h = omega arith

  is-reserved : ¬ AboveLast a → Means (reserved_code d.regs a byte) (ReservedWrite (reg d) a byte)
  is-reserved h = same_test (reserved-is d.regs a byte (within h))

  abbrev lacking : Bool
  lacking = not_modelled d.regs (row_at a) a byte

  -- whether what is lacking has the number n
  abbrev numbered : ℕ → Bool
  numbered n = eqb n (number (Err (lack_at a)))

  is-detector : ¬ AboveLast a → Means (both (numbered 11) lacking) (DetectorWrite a byte)
  is-detector h = same_test (detector-is d.regs a byte (within h))

  is-power-mode : ¬ AboveLast a → Means (both (numbered 12) lacking) (PowerModeWrite a byte)
  is-power-mode h = same_test (power-mode-is d.regs a byte (within h))

  is-test-or-trim : ¬ AboveLast a → Means (both (numbered 13) lacking) (TestOrTrimWrite a byte)
  is-test-or-trim h = same_test (test-or-trim-is d.regs a byte (within h))

  is-lacking : ¬ AboveLast a → Means lacking (LackingWrite a byte)
  is-lacking h = likewise (some_number a lacking) (or (is-detector h) (or (is-power-mode h) (is-test-or-trim h)))

  -- in 3's place
  third : (n : ℕ) {P : Type 0} → (¬ AboveLast a → Means (both (numbered n) lacking) P) → ¬ AboveLast a
      → Means (both (not (reserved_code d.regs a byte)) (pick (numbered n) lacking (both (not lacking) false))) (¬ ReservedWrite (reg d) a byte × P)
  third n w h = and (isnt (is-reserved h)) (λ _. likewise (last_row (numbered n) lacking) (w h))

  zero-free : numbered 0 ≡ false
  zero-free = lack-any (λ x. eqb 0 (number (Err x)) ≡ false) refl refl refl a

  pub write-0 : (number (write_of d a byte).answer ≡ 0) ↔ (¬ AboveLast a × (¬ ReservedWrite (reg d) a byte × ¬ LackingWrite a byte))
  write-0 = when (write-exactly d a byte 0) (and (isnt (less 0x3F a)) (λ h. and (isnt (is-reserved h)) (λ _. rw zero-free (last (isnt (is-lacking h))))))

  pub write-2 : (number (write_of d a byte).answer ≡ 2) ↔ (¬ AboveLast a × ReservedWrite (reg d) a byte)
  write-2 = when (write-exactly d a byte 2) (and (isnt (less 0x3F a)) is-reserved)

  pub write-11 : (number (write_of d a byte).answer ≡ 11) ↔ (¬ AboveLast a × (¬ ReservedWrite (reg d) a byte × DetectorWrite a byte))
  write-11 = when (write-exactly d a byte 11) (and (isnt (less 0x3F a)) (third 11 is-detector))

  pub write-12 : (number (write_of d a byte).answer ≡ 12) ↔ (¬ AboveLast a × (¬ ReservedWrite (reg d) a byte × PowerModeWrite a byte))
  write-12 = when (write-exactly d a byte 12) (and (isnt (less 0x3F a)) (third 12 is-power-mode))

  pub write-13 : (number (write_of d a byte).answer ≡ 13) ↔ (¬ AboveLast a × (¬ ReservedWrite (reg d) a byte × TestOrTrimWrite a byte))
  write-13 = when (write-exactly d a byte 13) (and (isnt (less 0x3F a)) (third 13 is-test-or-trim))

-- Q-4: "14 is gone, and P10's first write gives 0", as every write to 0x21 does
pub latch-0 : (d : Device) (byte : ℕ) → number (write_of d latch_at byte).answer ≡ 0
unfolding is_reserved_write is_detector_write is_power_mode_write is_test_or_trim_write
latch-0 d byte = (write-0 d latch_at byte).1 (λ above. omega arith, (no, ⊎_elim no (⊎_elim no no)))

-- "a read tests 1, 5, 6"
module _ (d : Device) (a n : ℕ) where
  is-wrong : Means (either (eqb n 0) (ltb 192 n)) (WrongReadLength n)
  is-wrong = or (equal n 0) (less 192 n)

  is-passing : Means (both (ltb a 0x3F) (ltb 0x3F (a + n))) (PassesEnd a n)
  is-passing = and (less a 0x3F) (λ _. less 0x3F (a + n))

  pub read-0 : (number (read_of d a n).answer ≡ 0) ↔ (¬ AboveLast a × (¬ WrongReadLength n × ¬ PassesEnd a n))
  read-0 = when (read-exactly d a n 0) (and (isnt (less 0x3F a)) (λ _. and (isnt is-wrong) (λ _. last (isnt is-passing))))

  pub read-1 : (number (read_of d a n).answer ≡ 1) ↔ AboveLast a
  read-1 = when (read-exactly d a n 1) (less 0x3F a)

  pub read-5 : (number (read_of d a n).answer ≡ 5) ↔ (¬ AboveLast a × WrongReadLength n)
  read-5 = when (read-exactly d a n 5) (and (isnt (less 0x3F a)) (λ _. is-wrong))

  pub read-6 : (number (read_of d a n).answer ≡ 6) ↔ (¬ AboveLast a × (¬ WrongReadLength n × PassesEnd a n))
  read-6 = when (read-exactly d a n 6) (and (isnt (less 0x3F a)) (λ _. and (isnt is-wrong) (λ _. is-passing)))

-- a sample tests 4
module _ (d : Device) (x y z : ℤ) (t : ℕ) where
  is-outside : Means (either (not (in_range x)) (either (not (in_range y)) (not (in_range z)))) (SomeOutside x y z)
  is-outside = likewise (some-outside x y z) (is_false (all_inside x y z))

  pub sample-0 : (number (sample_of d x y z t).answer ≡ 0) ↔ (¬ SomeOutside x y z)
  sample-0 = when (sample-exactly d x y z t 0) (last (isnt is-outside))

  pub sample-4 : (number (sample_of d x y z t).answer ≡ 4) ↔ SomeOutside x y z
  sample-4 = when (sample-exactly d x y z t 4) is-outside

-- ---- a refused event leaves device and lent buffer as they were, and a refused writer the log
not-accepted : (x : Answer) → number x ≢ 0 → accepted x ≡ false
not-accepted x h = zero-accepted x ∙ ne_eqb (number x) 0 h

pub write-unchanged : (d : Device) (a byte : ℕ) → number (write_of d a byte).answer ≢ 0 → (write_of d a byte).device ≡ d
unfolding write_of judgement
write-unchanged d a byte h = write-refused d a byte (not-accepted (write_answer d.regs a byte) h)

pub read-unchanged : (d : Device) (a : ℕ) (buffer : List ℕ) → number (read_of d a (length buffer)).answer ≢ 0
    → ((read_of d a (length buffer)).device ≡ d) × (buffer_after d a buffer ≡ buffer)
unfolding read_of
read-unchanged d a buffer h = read-refused d a buffer (not-accepted (read_answer a (length buffer)) h)

pub sample-unchanged : (d : Device) (x y z : ℤ) (t : ℕ) → number (sample_of d x y z t).answer ≢ 0 → (sample_of d x y z t).device ≡ d
unfolding sample_of
sample-unchanged d x y z t h = sample-refused d x y z t (not-accepted (sample_answer x y z) h)

pub log-unchanged : (out : List ℕ) (place : ℕ) (bs : List ℕ) → room_number (written out place bs) ≢ 0
    → (out_after out place bs ≡ out) × (next_place place (written out place bs) ≡ place)
log-unchanged out place bs = go (room_for (length out) place (length bs))
  where
    go : (r : Result ℕ NoRoom) → room_number r ≢ 0 → (placed_as r out place bs ≡ out) × (next_place place r ≡ place)
    go (Ok next) h = absurd (h refl)
    go (Err refusal) h = (refl, refl)

-- of any event: neither the device changes nor are bytes given
pub event-unchanged : (d : Device) (e : Event) → (gives d e).number ≢ 0 → (next d e ≡ d) × ((gives d e).bytes ≡ [])
unfolding read_of
event-unchanged d power_up h = absurd (h refl)
event-unchanged d (write a byte) h = (write-unchanged d a byte h, refl)
event-unchanged d (read a n) h = let off = not-accepted (read_answer a n) h in (rw off, rw off)
event-unchanged d (sample x y z t) h = (sample-unchanged d x y z t h, refl)
event-unchanged d cycle h = absurd (h (cycle-done d))
event-unchanged d (clock us) h = absurd (h (clock-done d us))

-- ---- nothing else is answered: 0 to 13 but 3, each where 01, Q-1 and Q-4 have it
event-answers : (d : Device) (e : Event) → is_in (answers_to e) (gives d e).number ≡ true
unfolding write_of judgement answer_at read_of read_answer sample_of sample_answer cycle_of clock_of
event-answers d power_up = refl
event-answers d (write a byte) =
    let lack : is_in (answers_to (write a byte)) (number (Err (lack_at a))) ≡ true = lack-any (λ x. is_in (answers_to (write a byte)) (number (Err x)) ≡ true) refl refl refl a in
    first-in number (answers_to (write a byte)) done refl (write_rows d.regs (row_at a) a byte) (rw lack)
event-answers d (read a n) = first-in number (0 ∷ 1 ∷ 5 ∷ 6 ∷ []) done refl (read_rows a n) refl
event-answers d (sample x y z t) = first-in number (0 ∷ 4 ∷ []) done refl (sample_rows x y z) refl
event-answers d cycle = refl
event-answers d (clock us) = refl

pub nothing-else : NothingElse
nothing-else = record { event = event-answers; version = version-answers; entry = read-answers; room = write-answers }

-- a number that is not among them is given by no device and to no event
never-given : (n : ℕ) → ((e : Event) → is_in (answers_to e) n ≡ false) → (d : Device) (e : Event) → (gives d e).number ≢ n
never-given n without d e is = no (sym (without e) ∙ ap (is_in (answers_to e)) (sym is) ∙ event-answers d e)

without : (e : Event) → (is_in (answers_to e) 3 ≡ false) × (is_in (answers_to e) 14 ≡ false)
without power_up = (refl, refl)
without (write a byte) = (refl, refl)
without (read a n) = (refl, refl)
without (sample x y z temperature) = (refl, refl)
without cycle = (refl, refl)
without (clock us) = (refl, refl)

-- Q-1: "3 is never given again"
pub never-3 : (d : Device) (e : Event) → (gives d e).number ≢ 3
never-3 = never-given 3 (λ e. (without e).0)

-- Q-4: "14 is gone"
pub never-14 : (d : Device) (e : Event) → (gives d e).number ≢ 14
never-14 = never-given 14 (λ e. (without e).1)

-- each of the others is given somewhere, whatever the device
pub each-given : (d : Device)
    → number (write_of d 0x0F 0x05).answer ∷ number (write_of d 0x40 0x00).answer ∷ number (write_of d 0x0F 0x04).answer ∷
    number (sample_of d (pos 2048) (pos 0) (pos 0) 0).answer ∷
    number (read_of d 0x3F 193).answer ∷ number (read_of d 0x3E 2).answer ∷
    begins_number (read_version (2 ∷ [])) ∷ found_number (read_at (0 ∷ 9 ∷ []) 0) ∷ begins_number (read_version []) ∷
    room_number (written [] 0 (1 ∷ [])) ∷
    number (write_of d 0x16 0x80).answer ∷ number (write_of d 0x11 0x20).answer ∷ number (write_of d 0x36 0x80).answer ∷ []
    ≡ 0 ∷ 1 ∷ 2 ∷ 4 ∷ 5 ∷ 6 ∷ 7 ∷ 8 ∷ 9 ∷ 10 ∷ 11 ∷ 12 ∷ 13 ∷ []
unfolding write_of judgement answer_at reserved_code range_of mode_of bit not_modelled lack_at the_table read_of read_answer sample_of sample_answer read_version read_head found_in room_for
each-given d = refl
