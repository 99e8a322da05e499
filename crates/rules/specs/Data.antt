-- 01, "Data channels": what 0x02 to 0x07 show, by looking back over a history of reads of one byte each, whose latest event stands first.
use Rattle.std.specs.Prelude.{ℕ, suc, Bool, false, not, List, [], ◌∷◌, eqb, ℤ}
use Rattle.laws.specs.Choice.{pick, both, either}
use Rattle.laws.specs.Bits.{bit}
use Rattle.events.specs.Event.{Event}
use Rattle.events.specs.Views.{at_write, at_read}
use Rattle.paper.specs.Stored.{starts_anew, byte_by}
use Rattle.paper.specs.Samples.{Values, no_values, is_sample, values_at, twelve_bits, lsb_byte, msb_byte}
use Rattle.paper.specs.Back.{some_since, of_last, before_last}

-- ---- events
-- a read of one byte, at address at
abbrev pub is_read : ℕ → Event → Bool
is_read at e = at_read false (λ a n. both (eqb a at) (eqb n 1)) e

-- "Writing 0x13 with bit 6 at 1 releases all locks"
abbrev pub is_release : Event → Bool
is_release e = at_write false (λ a byte. both (eqb a 0x13) (bit 6 byte)) e

-- ---- the last accepted sample since power-up or soft reset, as it was stored when it came; before any, all is 0
abbrev pub last_sample : List Event → Values
last_sample es = of_last no_values (λ e h. is_sample e) (λ e h. starts_anew e) (λ e h. values_at h e) es

-- ---- an axis: the address of its LSB register, behind which stands its MSB register, and its value in a sample
pub record Axis : Type 0 where
  pub lsb_at : ℕ
  pub value : Values → ℤ

module _ (axis : Axis) where
  -- the present sample's bits
  abbrev pub present : List Event → ℕ
  present es = twelve_bits (axis.value (last_sample es))

  -- "A sample sets all three new-data bits"; "Reading an LSB register clears that axis's bit after the byte is given"
  unfoldable pub new_data : List Event → Bool
  new_data es = some_since (λ e h. is_sample e) (λ e h. either (starts_anew e) (is_read axis.lsb_at e)) es

  -- "With 0x13 bit 6 at 0 it also locks the MSB to the present sample; reading the LSB again locks anew"
  abbrev pub locking : Event → List Event → Bool
  locking e h = both (is_read axis.lsb_at e) (not (bit 6 (byte_by h 0x13)))

  -- "Reading the MSB .. unlocks"; "Writing 0x13 with bit 6 at 1 releases all locks"
  abbrev pub unlocking : Event → List Event → Bool
  unlocking e h = either (starts_anew e) (either (is_read (suc axis.lsb_at) e) (is_release e))

  unfoldable pub is_locked : List Event → Bool
  is_locked es = some_since locking unlocking es

  abbrev pub lsb_shown : List Event → ℕ
  lsb_shown es = lsb_byte (new_data es) (present es)

  -- "Reading the MSB gives the locked byte .., or the present one": where it is locked, that of
  -- the sample that was the present one when it was last locked
  abbrev pub msb_shown : List Event → ℕ
  msb_shown es = msb_byte (present (pick (is_locked es) (before_last locking es) es))

-- 0x02 to 0x07: LSB and MSB of x, y and z
abbrev pub data_addresses : List ℕ
data_addresses = 0x02 ∷ 0x03 ∷ 0x04 ∷ 0x05 ∷ 0x06 ∷ 0x07 ∷ []

abbrev pub x_axis : Axis
x_axis = record { lsb_at = 0x02; value = λ v. v.x }

abbrev pub y_axis : Axis
y_axis = record { lsb_at = 0x04; value = λ v. v.y }

abbrev pub z_axis : Axis
z_axis = record { lsb_at = 0x06; value = λ v. v.z }

unfoldable pub data_by : List Event → ℕ → ℕ
data_by es a =
    pick (eqb a 0x02) (lsb_shown x_axis es)
    (pick (eqb a 0x03) (msb_shown x_axis es)
    (pick (eqb a 0x04) (lsb_shown y_axis es)
    (pick (eqb a 0x05) (msb_shown y_axis es)
    (pick (eqb a 0x06) (lsb_shown z_axis es)
    (pick (eqb a 0x07) (msb_shown z_axis es)
    0)))))
