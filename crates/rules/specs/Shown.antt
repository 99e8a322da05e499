-- What a recorder sees of an address after a history, whose latest event stands first: of a byte in which several rules have a part, its bits.
use Rattle.std.specs.Prelude.{ℕ, Bool, List, get_or}
use Rattle.laws.specs.Bits.{bit}
use Rattle.events.specs.Event.{Event, read, gives}
use Rattle.events.specs.Run.{after}

-- the byte that a read of one byte at address a gives
abbrev pub byte_seen : List Event → ℕ → ℕ
byte_seen es a = get_or (gives (after es) (read a 1)).bytes 0 0

-- its bit k
abbrev pub bit_seen : List Event → ℕ → ℕ → Bool
bit_seen es a k = bit k (byte_seen es a)
