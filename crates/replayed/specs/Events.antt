-- 01, "Bench log and replay": a record's bytes as its event.
use Rattle.std.specs.Prelude.{ℕ, ◌+◌, ◌*◌, List, [], ◌∷◌, ◌++◌, ◌≡◌, ℤ, length, drop}
use Rattle.std.specs.Int.{w16}
use Rattle.std.proofs.Common.{to_z}
use Rattle.benchlog.specs.Reader.{read_at, whole}
use Rattle.benchlog.specs.declared.Entry.{Entry}
use Rattle.events.specs.Event as event
use Rattle.events.specs.Event.{Event}
use Rattle.recorded.specs.Recorded.{record_of, events_in}

-- where these bytes stand in a log, whatever follows them, a record is read, the next place is behind them, and it comes to this event and no
-- other
pub record IsRecordOf (e : Event) (bytes : List ℕ) : Type 0 where
  pub entry : Entry
  pub reads : (log : List ℕ) (place : ℕ) (rest : List ℕ) → drop place log ≡ bytes ++ rest
      → read_at log place ≡ whole entry (place + length bytes)
  pub event-is : events_in (record_of entry) ≡ e ∷ []

-- two bytes "16-bit big-endian signed", and Q-4's four, "big-endian"
abbrev pub signed_of : ℕ → ℕ → ℤ
signed_of high low = to_z w16 (high * 256 + low)

abbrev pub four_of : ℕ → ℕ → ℕ → ℕ → ℕ
four_of a b c d = a * 16777216 + b * 65536 + c * 256 + d

-- every bit of every field reaches the event, whatever the bytes
pub record Fields : Type 0 where
  -- "1 write (address, byte; length 3)"
  pub write : (address byte : ℕ) → IsRecordOf (event.write address byte) (0 ∷ 3 ∷ 1 ∷ address ∷ byte ∷ [])
  -- "2 read (address, count; length 3)"
  pub read : (address count : ℕ) → IsRecordOf (event.read address count) (0 ∷ 3 ∷ 2 ∷ address ∷ count ∷ [])
  -- "3 sample (x, y, z as 16-bit big-endian signed, temperature; length 8)"
  pub sample : (x₁ x₀ y₁ y₀ z₁ z₀ temperature : ℕ)
      → IsRecordOf (event.sample (signed_of x₁ x₀) (signed_of y₁ y₀) (signed_of z₁ z₀) temperature) (0 ∷ 8 ∷ 3 ∷ x₁ ∷ x₀ ∷ y₁ ∷ y₀ ∷ z₁ ∷ z₀ ∷ temperature ∷ [])
  -- "4 cycle start (length 1)"
  pub cycle : IsRecordOf event.cycle (0 ∷ 1 ∷ 4 ∷ [])
  -- Q-4: "a 32-bit count of microseconds", "log kind 5 (length 5, big-endian)"
  pub clock : (a b c d : ℕ) → IsRecordOf (event.clock (four_of a b c d)) (0 ∷ 5 ∷ 5 ∷ a ∷ b ∷ c ∷ d ∷ [])
