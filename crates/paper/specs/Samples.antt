-- 01, "Numbers given back" and "Data channels": the accepted sample that an event brings; by Q-7 what is stored of it; and, by Q-4, the time that
-- passes at an event.
use Rattle.std.specs.Prelude.{ℕ, ◌+◌, ◌*◌, ◌/◌, ◌%◌, Bool, false, List, [], ◌∷◌, ℤ, pos, neg_ℤ, nat_abs, ◌+ℤ◌, ◌-ℤ◌, ◌*ℤ◌}
use Rattle.std.specs.Int.Signed.{lt_z, le_z}
use Rattle.laws.specs.Bits.{bit, worth}
use Rattle.laws.specs.Choice.{pick, both}
use Rattle.laws.specs.Keys.{Key, ◌means◌, meaning_of}
use Rattle.events.specs.Event.{Event}
use Rattle.events.specs.Views.{at_sample, at_clock}
use Rattle.paper.specs.Ranges.{g_by}
use Rattle.paper.specs.Stored.{byte_by}

-- "a sample (x, y, z and temperature)"
pub record Values : Type 0 where
  pub x : ℤ
  pub y : ℤ
  pub z : ℤ
  pub temperature : ℕ

-- before any sample all is 0
abbrev pub no_values : Values
no_values = record { x = pos 0; y = pos 0; z = pos 0; temperature = 0 }

-- 4, "x, y or z outside -2048..2047": what is not refused lies inside; Q-7: "4 still tests the given sample"
abbrev pub is_inside : ℤ → Bool
is_inside v = both (le_z (neg_ℤ (pos 2048)) v) (le_z v (pos 2047))

abbrev pub all_inside : ℤ → ℤ → ℤ → Bool
all_inside x y z = both (is_inside x) (both (is_inside y) (is_inside z))

-- whether an event is an accepted sample
abbrev pub is_sample : Event → Bool
is_sample e = at_sample false (λ x y z temperature. all_inside x y z) e

-- ---- Q-7: what is stored of a sample, in the request's words. No contract cites this: proofs/Offsets holds the definitions that the contracts
-- cite against it
-- "Registers 0x38 to 0x3A are signed": bit 7 of a byte takes 128 away
abbrev pub signed : ℕ → ℤ
signed byte = pos (byte % 128) -ℤ pos (worth 128 (bit 7 byte))

-- "one step is 8, 4, 2 or 1 counts at 2, 4, 8 or 16 g"
abbrev pub steps : List (Key ℕ)
steps = 2 means 8 ∷ 4 means 4 ∷ 8 means 2 ∷ 16 means 1 ∷ []

-- of the byte of 0x0F
abbrev pub step_in : ℕ → ℕ
step_in code = meaning_of steps 0 (g_by code)

-- "held at -2048 or 2047 where it would pass"
abbrev pub held_at_limits : ℤ → ℤ
held_at_limits v = pick (is_inside v) v (pick (lt_z v (pos 0)) (neg_ℤ (pos 2048)) (pos 2047))

-- "The stored sample is the given one plus that": of an axis whose offset stands at an address, by what is in force after a history
unfoldable pub stored_behind : List Event → ℕ → ℤ → ℤ
stored_behind es offset given = held_at_limits (given +ℤ pos (step_in (byte_by es 0x0F)) *ℤ signed (byte_by es offset))

-- what is stored of a sample that comes behind a history: 0x38, 0x39 and 0x3A are the offsets of x, y and z
abbrev pub values_at : List Event → Event → Values
values_at es e =
    at_sample no_values
    (λ x y z temperature. record { x = stored_behind es 0x38 x; y = stored_behind es 0x39 y; z = stored_behind es 0x3A z; temperature = temperature })
    e

-- the sample that an event brings behind a history, as it is stored, where it is accepted
abbrev pub brings : List Event → Event → List Values
brings es e = pick (is_sample e) (values_at es e ∷ []) []

-- ---- a sample as bits, and as the two bytes of an axis
-- "A sample is 12-bit two's complement"
abbrev pub twelve_bits : ℤ → ℕ
twelve_bits v = nat_abs (v +ℤ pos 4096) % 4096

-- "The LSB register holds its low four bits in 7:4, 0 in 3:1 and the new-data bit in 0; the MSB register holds the upper eight"
abbrev pub lsb_byte : Bool → ℕ → ℕ
lsb_byte new bits = bits % 16 * 16 + worth 1 new

abbrev pub msb_byte : ℕ → ℕ
msb_byte bits = bits / 16

-- ---- clocks
-- the microseconds that pass at an event: none but at a clock
abbrev pub microseconds_at : Event → ℕ
microseconds_at e = at_clock 0 (λ us. us) e
