-- What holds of an alarm however it is used. Assumes nothing.
use Prim.Native.Nat.{ℕ, ◌+◌, ◌-◌, ◌/◌, ◌%◌, ◌^◌, ◌<◌, ◌≤◌}
use mathlib.Core.Bool.{Bool, true, false}
use mathlib.Core.Path.{◌≡◌, refl, ap, ◌∙◌}
use native.Mathlib.Omega.{arith}
use borrow.Author.Tests.{eq-eqb, ne_eqb, le-leb, lt-leb, lt-ltb, le-ltb, ltb-true, ltb-false}
use lib.Dec.{eqb, ltb}
use Rattle.laws.specs.Bits.{bit, worth}
use Rattle.alarm.specs.Alarm.{raised, is_running, waited, lapse_of, marks_of}
use Rattle.alarm.specs.declared.Alarm.{Alarm}
use Rattle.alarm.specs.declared.Lapse.{Lapse}
use Rattle.alarm.specs.declared.Lapse.TheVariants.{Stands, Expires}

-- ---- setting and clearing
-- "A status already set is not set again": status, mark and sign stay
pub raised-set : (mark : ℕ) (negative : Bool) (hold : ℕ) (a : Alarm) → a.status ≡ true → raised mark negative hold a ≡ a
raised-set mark negative hold a h = rw h refl

pub raised-clear : (mark : ℕ) (negative : Bool) (hold : ℕ) (a : Alarm) → a.status ≡ false → raised mark negative hold a ≡ record { status = true; mark = mark; negative = negative; remaining = hold }
raised-clear mark negative hold a h = rw h refl

-- ---- a clock of us microseconds
-- with this much remaining
abbrev remains : Alarm → ℕ → Alarm
remains a left = record { status = a.status; mark = a.mark; negative = a.negative; remaining = left }

module _ (us : ℕ) (a : Alarm) where
  -- where no time is running, nothing changes
  pub idle : a.remaining ≡ 0 → lapse_of us a ≡ Stands a
  unfolding lapse_of
  idle h = let n : is_running a ≡ false = le-ltb 0 a.remaining (omega arith) in rw n (ap (λ left. Stands (remains a left)) (omega arith))

  -- one microsecond less than what remains leaves one
  pub stands : us < a.remaining → lapse_of us a ≡ Stands (waited us a)
  unfolding lapse_of
  stands h = rw (lt-ltb 0 a.remaining (omega arith), lt-leb a.remaining us h)

  -- "when the clock since its setting reaches that time"
  pub time-reached : ¬ (a.remaining ≡ 0) → a.remaining ≤ us → lapse_of us a ≡ Expires (us - a.remaining)
  unfolding lapse_of
  time-reached h k = rw (lt-ltb 0 a.remaining (omega arith), le-leb a.remaining us k)

-- what of the clock comes after an expiry
abbrev pub rest_in : Lapse → ℕ
rest_in (Stands a) = 0
rest_in (Expires rest) = rest

-- "Two clock events in a row equal one of their sum": what remained and the rest that is told are the whole clock
pub parts : (us : ℕ) (a : Alarm) → ¬ (a.remaining ≡ 0) → a.remaining ≤ us → a.remaining + rest_in (lapse_of us a) ≡ us
parts us a h k = rw (time-reached us a h k) (omega arith)

-- a clock of 0 changes nothing
pub none_passes : (a : Alarm) → lapse_of 0 a ≡ Stands a
none_passes a = go (ltb 0 a.remaining) refl
  where
    go : (t : Bool) → ltb 0 a.remaining ≡ t → lapse_of 0 a ≡ Stands a
    go true h = let p = ltb-true 0 a.remaining h in stands 0 a p ∙ ap (λ left. Stands (remains a left)) (omega arith)
    go false h = let p = ltb-false 0 a.remaining h in idle 0 a (omega arith)

-- ---- the byte that shows them
pub marks-apart : (a : Alarm) → a.mark < 8 → (bit 3 (marks_of a) ≡ a.negative) × (marks_of a % 8 ≡ a.mark) × (marks_of a < 16)
unfolding bit
marks-apart a = go a.negative a.mark
  where
    go : (s : Bool) (m : ℕ) → m < 8 → (eqb ((m % 8 + worth 8 s) / 2 ^ 3 % 2) 1 ≡ s) × ((m % 8 + worth 8 s) % 8 ≡ m) × (m % 8 + worth 8 s < 16)
    go true m h = (eq-eqb ((m % 8 + 8) / 2 ^ 3 % 2) 1 (omega arith), omega arith, omega arith)
    go false m h = (ne_eqb ((m % 8 + 0) / 2 ^ 3 % 2) 1 (omega arith), omega arith, omega arith)

-- a mark below 8 is shown whole
pub marks-whole : (a : Alarm) → a.mark < 8 → marks_of a ≡ a.mark + worth 8 a.negative
marks-whole a h = let m : a.mark % 8 ≡ a.mark = omega arith in rw m
