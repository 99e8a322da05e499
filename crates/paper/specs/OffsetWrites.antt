-- Q-7, by its reading Q7-1: a write to 0x38 to 0x3A "restarts nothing, changes only later samples".
use Rattle.std.specs.Prelude.{ℕ, ◌%◌, List, [], ◌∷◌, ◌≢◌, ◌≡◌}
use Rattle.device.specs.Device.{flat_of}
use Rattle.events.specs.Event.{Event, write, gives, answer}
use Rattle.events.specs.Run.{after}
use Rattle.paper.specs.Stored.{byte_by}

abbrev pub offsets : List ℕ
offsets = 0x38 ∷ 0x39 ∷ 0x3A ∷ []

-- of a write of a byte to address a behind a history
pub record OffsetWrite (es : List Event) (a byte : ℕ) : Type 0 where
  -- "13 no longer for 0x38 to 0x3A"
  pub done : gives (after es) (write a byte) ≡ answer 0
  -- the offset is the byte, and every other register stays
  pub own : byte_by (write a byte ∷ es) a ≡ byte % 256
  pub others : (k : ℕ) → k ≢ a → byte_by (write a byte ∷ es) k ≡ byte_by es k
  -- "changes only later samples": what is stored stays, in the channels and in the FIFO's frames, and so do 0x08 and whether a sample came
  pub channels : (after (write a byte ∷ es)).channels ≡ (after es).channels
  pub frames : flat_of (after (write a byte ∷ es)) ≡ flat_of (after es)
  pub temperature : (after (write a byte ∷ es)).temperature ≡ (after es).temperature
  pub came : (after (write a byte ∷ es)).came ≡ (after es).came
  -- "restarts nothing": statuses, marks, runs, waits and the previous sample
  pub detectors : (after (write a byte ∷ es)).detectors ≡ (after es).detectors
