-- Q-13: "Take two event sequences from power-up alike but for accepted or refused reads below 0x3F: the FIFO bytes, 0x09 to 0x0C, 0x0E and
-- pins are the same." In a history the latest event stands first.
use Rattle.std.specs.Prelude.{ℕ, ◌≤◌, Bool, true, false, List, [], ◌∷◌, ◌≡◌, ltb}
use Rattle.laws.specs.Choice.{pick}
use Rattle.laws.specs.Lists.{is_in}
use Rattle.device.specs.Show.{pins_of}
use Rattle.events.specs.Event.{Event, read, Given, gives}
use Rattle.events.specs.Run.{after}
use Rattle.events.specs.Views.{at_read}

-- a poll: "accepted or refused reads below 0x3F", so of any length
abbrev pub is_poll : Event → Bool
is_poll e = at_read false (λ a n. ltb a 0x3F) e

-- a history without its polls
unfoldable pub without_polls : List Event → List Event
without_polls [] = []
without_polls (e ∷ es) = pick (is_poll e) (without_polls es) (e ∷ without_polls es)

-- what each event that is no poll gave when it came: its number, and the bytes of a readout
unfoldable pub gave_besides : List Event → List Given
gave_besides [] = []
gave_besides (e ∷ es) = pick (is_poll e) (gave_besides es) (gives (after es) e ∷ gave_besides es)

-- "0x09 to 0x0C, 0x0E"
abbrev pub status_addresses : List ℕ
status_addresses = 0x09 ∷ 0x0A ∷ 0x0B ∷ 0x0C ∷ 0x0E ∷ []

-- of two histories: what is seen after them, and was seen on the way
pub record Undisturbed (es fs : List Event) : Type 0 where
  -- "the FIFO bytes": of a read at 0x3F of any length, also of one that is refused
  pub frames : (n : ℕ) → gives (after es) (read 0x3F n) ≡ gives (after fs) (read 0x3F n)
  pub statuses : (a : ℕ) → is_in status_addresses a ≡ true → gives (after es) (read a 1) ≡ gives (after fs) (read a 1)
  -- "and pins"
  pub pins : pins_of (after es) ≡ pins_of (after fs)
  -- more than is asked: every read that begins behind the data registers, of any length
  pub behind : (a n : ℕ) → 0x08 ≤ a → gives (after es) (read a n) ≡ gives (after fs) (read a n)
  -- and the answer of every other event on the way, with the bytes of each readout
  pub besides : gave_besides es ≡ gave_besides fs
