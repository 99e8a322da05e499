-- 01, "Data channels": new-data bits and locks.
use Rattle.std.specs.Prelude.{ℕ, Bool, true, false, eqb}
use Rattle.laws.specs.Choice.{pick}
use Rattle.channels.specs.Codes.{lsb_of, msb_of}
use Rattle.channels.specs.declared.Channel.{Channel}
use Rattle.channels.specs.declared.Channels.{Channels}
use Rattle.channels.specs.declared.Codes.{Codes}

-- before any sample
abbrev pub no_sample : Channel
no_sample = record { code = 0; fresh = false; locked = false; held = 0 }

-- "A sample sets all three new-data bits"; a lock stays
abbrev pub with_sample : ℕ → Channel → Channel
with_sample code c = record { code = code; fresh = true; locked = c.locked; held = c.held }

-- the byte of the LSB register
abbrev pub lsb : Channel → ℕ
lsb c = lsb_of c.fresh c.code

-- "Reading the MSB gives the locked byte .. or the present one"
abbrev pub msb : Channel → ℕ
msb c = pick c.locked c.held (msb_of c.code)

-- "Reading an LSB register clears that axis's bit after the byte is given. With 0x13 bit 6 at 0 it also locks the MSB
-- to the present sample; reading the LSB again locks anew."
abbrev pub after_lsb : Bool → Channel → Channel
after_lsb locks c =
    pick locks
    (record { code = c.code; fresh = false; locked = true; held = msb_of c.code })
    (record { code = c.code; fresh = false; locked = c.locked; held = c.held })

-- "Reading the MSB .. unlocks"
abbrev pub unlocked : Channel → Channel
unlocked c = record { code = c.code; fresh = c.fresh; locked = false; held = c.held }

-- ---- the three of them
abbrev pub no_samples : Channels
no_samples = record { x = no_sample; y = no_sample; z = no_sample }

abbrev pub sampled : Codes → Channels → Channels
sampled k c = record { x = with_sample k.x c.x; y = with_sample k.y c.y; z = with_sample k.z c.z }

-- "Writing 0x13 with bit 6 at 1 releases all locks"
abbrev pub released : Channels → Channels
released c = record { x = unlocked c.x; y = unlocked c.y; z = unlocked c.z }

-- 0x02 to 0x07 are LSB and MSB of x, y and z: the byte that a read of one gives
unfoldable pub byte_at : Channels → ℕ → ℕ
byte_at c a =
    pick (eqb a 0x02) (lsb c.x)
    (pick (eqb a 0x03) (msb c.x)
    (pick (eqb a 0x04) (lsb c.y)
    (pick (eqb a 0x05) (msb c.y)
    (pick (eqb a 0x06) (lsb c.z)
    (pick (eqb a 0x07) (msb c.z)
    0)))))

abbrev pub with_x : Channels → Channel → Channels
with_x c k = record { x = k; y = c.y; z = c.z }

abbrev pub with_y : Channels → Channel → Channels
with_y c k = record { x = c.x; y = k; z = c.z }

abbrev pub with_z : Channels → Channel → Channels
with_z c k = record { x = c.x; y = c.y; z = k }

-- the channels after a read of one register; of any other address, as they were
unfoldable pub after_read : Bool → ℕ → Channels → Channels
after_read locks a c =
    pick (eqb a 0x02) (with_x c (after_lsb locks c.x))
    (pick (eqb a 0x03) (with_x c (unlocked c.x))
    (pick (eqb a 0x04) (with_y c (after_lsb locks c.y))
    (pick (eqb a 0x05) (with_y c (unlocked c.y))
    (pick (eqb a 0x06) (with_z c (after_lsb locks c.z))
    (pick (eqb a 0x07) (with_z c (unlocked c.z))
    c)))))
