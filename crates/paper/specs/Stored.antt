-- 01, "Register table": the byte that each address stores, by looking back over a history, whose latest event stands first.
use Rattle.std.specs.Prelude.{ℕ, Bool, false, not, List, [], ◌∷◌, eqb}
use Rattle.laws.specs.Choice.{pick, both, either}
use Rattle.laws.specs.Lists.{is_in}
use Rattle.events.specs.Event.{Event}
use Rattle.events.specs.Views.{is_power_up, at_write}
use Rattle.paper.specs.Table.{reset_of, masked}
use Rattle.paper.specs.Refused.{accepts}

-- "14: 0xB6 is a soft reset"
abbrev pub is_soft_reset : ℕ → ℕ → Bool
is_soft_reset a byte = both (eqb a 0x14) (eqb byte 0xB6)

-- power-up or soft reset: "everything as at power-up"
abbrev pub starts_anew : Event → Bool
starts_anew e = either (is_power_up e) (at_write false is_soft_reset e)

-- "0x3B and 0x3C excepted"
abbrev pub is_spared : ℕ → Bool
is_spared a = is_in (0x3B ∷ 0x3C ∷ []) a

-- the byte of an accepted write, or none
pub data LastWrite : Type 0 where
  none : LastWrite
  last : ℕ → LastWrite

-- "A write changes masked bits only; other bits keep their reset value"
abbrev pub byte_left : ℕ → LastWrite → ℕ
byte_left a none = reset_of a
byte_left a (last byte) = masked a byte

-- of the last accepted write to address a since power-up and, where a is not spared, since soft reset
abbrev pub last_write : List Event → ℕ → LastWrite
last_write [] a = none
last_write (e ∷ es) a =
    at_write (pick (is_power_up e) none (last_write es a))
    (λ c byte.
    pick (both (eqb c a) (accepts (λ k. byte_left k (last_write es k)) c byte)) (last byte)
    (pick (both (is_soft_reset c byte) (not (is_spared a))) none
    (last_write es a)))
    e

-- the byte that address a stores after the events
unfoldable pub byte_by : List Event → ℕ → ℕ
byte_by es a = byte_left a (last_write es a)

-- whether a write of a byte to address a is accepted after the events, and whether an event is such a write to one of these addresses
abbrev pub is_accepted : List Event → ℕ → ℕ → Bool
is_accepted es a byte = accepts (byte_by es) a byte

abbrev pub is_accepted_at : List ℕ → List Event → Event → Bool
is_accepted_at addresses es e = at_write false (λ a byte. both (is_accepted es a byte) (is_in addresses a)) e
