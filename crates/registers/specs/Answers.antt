-- 01, "Numbers given back", and Q-1: "3 is never given again"; 11 to 13 stand in its place. Q-4: "14 is gone".
use Rattle.std.specs.Prelude.{ℕ, Bool, Result, Ok, Err, is_ok}
use Rattle.registers.specs.declared.Refusal.{Refusal}
use Rattle.registers.specs.declared.Refusal.TheVariants.{NoAddress, ReservedCode, OutOfRange, BadLength, PastEnd, NoDetector, NoPowerMode, NoTestOrTrim}

-- what an event is answered: that it is done, or why it is refused
abbrev pub Answer : Type 0
Answer = Result (Unit {0}) Refusal

abbrev pub done : Answer
done = Ok tt

abbrev pub refusal_number : Refusal → ℕ
refusal_number NoAddress = 1
refusal_number ReservedCode = 2
refusal_number OutOfRange = 4
refusal_number BadLength = 5
refusal_number PastEnd = 6
refusal_number NoDetector = 11
refusal_number NoPowerMode = 12
refusal_number NoTestOrTrim = 13

abbrev pub number : Answer → ℕ
number (Ok x) = 0
number (Err refusal) = refusal_number refusal

-- which of the refusals it is, in the order of their numbers, from 1 on
abbrev pub place : Refusal → ℕ
place NoAddress = 1
place ReservedCode = 2
place OutOfRange = 3
place BadLength = 4
place PastEnd = 5
place NoDetector = 6
place NoPowerMode = 7
place NoTestOrTrim = 8

abbrev pub accepted : Answer → Bool
accepted answer = is_ok answer
