-- What the numbers of the answers say: 0 is given where an event is done and nowhere else, and what is lacking has a number of its own.
-- Assumes nothing.
use Prim.Native.Nat.{ℕ}
use mathlib.Core.Path.{◌≡◌, refl}
use lib.Dec.{eqb}
use Rattle.std.specs.Prelude.{Ok, Err}
use Rattle.laws.proofs.Keys.{any-meaning}
use Rattle.registers.specs.Answers.{Answer, number, accepted}
use Rattle.registers.specs.Refused.{lacks, lack_at}
use Rattle.registers.specs.declared.Refusal.{Refusal}
use Rattle.registers.specs.declared.Refusal.TheVariants.{NoAddress, ReservedCode, OutOfRange, BadLength, PastEnd, NoDetector, NoPowerMode, NoTestOrTrim}

pub zero-accepted : (x : Answer) → accepted x ≡ eqb (number x) 0
zero-accepted (Ok x) = refl
zero-accepted (Err NoAddress) = refl
zero-accepted (Err ReservedCode) = refl
zero-accepted (Err OutOfRange) = refl
zero-accepted (Err BadLength) = refl
zero-accepted (Err PastEnd) = refl
zero-accepted (Err NoDetector) = refl
zero-accepted (Err NoPowerMode) = refl
zero-accepted (Err NoTestOrTrim) = refl

-- Q-1: what holds of each of the three holds of what is lacking at any address
pub lack-any : (P : Refusal → Type 0) → P NoDetector → P NoPowerMode → P NoTestOrTrim → (a : ℕ) → P (lack_at a)
unfolding lack_at
lack-any P detector power trim a = any-meaning P lacks NoTestOrTrim (power, (detector, tt)) trim a
