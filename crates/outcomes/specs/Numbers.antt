-- 01, "Numbers given back", Q-1 and Q-4: the tests of the device's numbers in their words, and which numbers each event is answered with. No
-- contract cites these; proofs/Refusals holds them against the definitions that the contracts cite.
use Rattle.std.specs.Prelude.{ℕ, ◌+◌, ◌<◌, true, false, List, [], ◌∷◌, ◌⊎◌, ◌≡◌, ℤ}
use Rattle.laws.specs.Lists.{is_in}
use Rattle.device.specs.declared.Device.{Device}
use Rattle.events.specs.Event.{Event, power_up, write, read, sample, cycle, clock, gives}
use Rattle.paper.specs.Refused.{is_reserved_write, is_detector_write, is_power_mode_write, is_test_or_trim_write}
use Rattle.paper.specs.Samples.{all_inside}
use Rattle.benchlog.specs.Answers.{found_number, begins_number, room_number}
use Rattle.benchlog.specs.Reader.{read_at, read_version}
use Rattle.benchlog.specs.Writer.{written}

-- Of a write a is the address, b the byte and held are the bytes that the addresses hold before it; of a read a is the address of its first
-- byte and n its length. Which writes are refused, and which samples, the crate paper says.

-- 1, "address above 0x3F"
abbrev pub AboveLast : ℕ → Type 0
AboveLast a = 0x3F < a

-- 2, "write of a code the sheet reserves", and by Q-6 one "that would bring no-motion and such a code together"
abbrev pub ReservedWrite : (ℕ → ℕ) → ℕ → ℕ → Type 0
ReservedWrite held a b = is_reserved_write held a b ≡ true

-- 11, "a detector bit in 0x16 to 0x18", by Q-5 "no longer for 0x17" and by Q-6 "no longer for 0x18"; 12, "a power mode in 0x11"; 13, "self-test,
-- memory, calibration or offset in 0x32, 0x33, 0x36, 0x38 to 0x3A", by Q-7 "no longer for 0x38 to 0x3A"
abbrev pub DetectorWrite : ℕ → ℕ → Type 0
DetectorWrite a b = is_detector_write a b ≡ true

abbrev pub PowerModeWrite : ℕ → ℕ → Type 0
PowerModeWrite a b = is_power_mode_write a b ≡ true

abbrev pub TestOrTrimWrite : ℕ → ℕ → Type 0
TestOrTrimWrite a b = is_test_or_trim_write a b ≡ true

-- "which kind of thing the twin lacks": one of three. Q-1 had "14 a latch time in 0x21" as a fourth; Q-4: "14 is gone"
abbrev pub LackingWrite : ℕ → ℕ → Type 0
LackingWrite a b = DetectorWrite a b ⊎ (PowerModeWrite a b ⊎ TestOrTrimWrite a b)

-- 4, "x, y or z outside -2048..2047"; Q-7: "4 still tests the given sample"
abbrev pub SomeOutside : ℤ → ℤ → ℤ → Type 0
SomeOutside x y z = all_inside x y z ≡ false

-- 5, "read length 0 or above 192"
abbrev pub WrongReadLength : ℕ → Type 0
WrongReadLength n = (n ≡ 0) ⊎ (192 < n)

-- 6, "read starting below 0x3F that would pass 0x3E": n bytes from a on end before a + n
abbrev pub PassesEnd : ℕ → ℕ → Type 0
PassesEnd a n = (a < 0x3F) × (0x3F < a + n)

-- ---- the numbers that an event, a reader or a writer is answered with
-- "A write tests 1, 2, 3; a read tests 1, 5, 6"; 4 is a sample's. In 3's place 11 to 13 stand: "3 is never given again", and
-- by Q-4 "14 is gone". A clock, as a cycle start, tests nothing
abbrev pub answers_to : Event → List ℕ
answers_to power_up = 0 ∷ []
answers_to (write a byte) = 0 ∷ 1 ∷ 2 ∷ 11 ∷ 12 ∷ 13 ∷ []
answers_to (read a n) = 0 ∷ 1 ∷ 5 ∷ 6 ∷ []
answers_to (sample x y z temperature) = 0 ∷ 4 ∷ []
answers_to cycle = 0 ∷ []
answers_to (clock us) = 0 ∷ []

pub record NothingElse : Type 0 where
  pub event : (d : Device) (e : Event) → is_in (answers_to e) (gives d e).number ≡ true
  pub version : (s : List ℕ) → is_in (0 ∷ 7 ∷ 9 ∷ []) (begins_number (read_version s)) ≡ true
  pub entry : (s : List ℕ) (place : ℕ) → is_in (0 ∷ 8 ∷ 9 ∷ []) (found_number (read_at s place)) ≡ true
  pub room : (out : List ℕ) (place : ℕ) (bs : List ℕ) → is_in (0 ∷ 10 ∷ []) (room_number (written out place bs)) ≡ true
