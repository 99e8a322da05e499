-- 01, "Register table", "Data channels" and "Interrupts and pins", over a history whose latest event stands first: what each address below
-- 0x3F reads, and the pins.
use Rattle.std.specs.Prelude.{ℕ, zero, suc, ◌+◌, ◌/◌, ◌^◌, Bool, true, false, not, List, [], ◌∷◌, ◌++◌, ◌≡◌, eqb, leb}
use Rattle.laws.specs.Choice.{pick, both, either}
use Rattle.laws.specs.Lists.{is_in}
use Rattle.laws.specs.Keys.{Key, meaning_of}
use Rattle.laws.specs.Bits.{bit, worth}
use Rattle.interrupts.specs.declared.Level.{Level}
use Rattle.interrupts.specs.declared.Level.TheVariants.{Low, High, Released}
use Rattle.events.specs.Event.{Event, read}
use Rattle.events.specs.Views.{is_cycle}
use Rattle.paper.specs.Stored.{starts_anew, byte_by}
use Rattle.paper.specs.Samples.{is_sample}
use Rattle.rules.specs.Bursts.{opened}
use Rattle.paper.specs.Back.{some_since}
use Rattle.rules.specs.Data.{last_sample, data_addresses, data_by}

-- ---- statuses
-- a bit of a register
pub record Place : Type 0 where
  pub address : ℕ
  pub number : ℕ

abbrev pub place : ℕ → ℕ → Place
place a k = record { address = a; number = k }

-- a status: the bit that shows it, and whether it is 1
pub record Status : Type 0 where
  pub shown : Place
  pub holds : Bool

abbrev pub status : ℕ → ℕ → Bool → Status
status a k t = record { shown = place a k; holds = t }

-- what the statuses among ss are worth at an address
unfoldable pub worths_at : ℕ → List Status → ℕ
worths_at a [] = 0
worths_at a (s ∷ ss) = pick (eqb s.shown.address a) (worth (2 ^ s.shown.number) s.holds + worths_at a ss) (worths_at a ss)

-- ---- what the rules of the FIFO and of the detectors say at the end of the history
pub record Elsewhere : Type 0 where
  -- the frames held, and the overrun bit
  pub count : ℕ
  pub overrun : Bool
  -- each detector's status, and the bytes in which they mark what set them, by address
  pub statuses : List Status
  pub marks : List (Key ℕ)

-- ---- what else the statuses are made of
-- "an accepted sample came since the last cycle start or reset"
unfoldable pub came_by : List Event → Bool
came_by es = some_since (λ e h. is_sample e) (λ e h. either (starts_anew e) (is_cycle e)) es

-- "Depth is 32 in FIFO and STREAM, 1 in BYPASS"; "bits 7:6 are 00 BYPASS"
abbrev pub depth_by : List Event → ℕ
depth_by es = pick (eqb (byte_by es 0x3E / 64) 0b00) 1 32

-- the addresses that show statuses, and those that show marks
abbrev pub status_addresses : List ℕ
status_addresses = 0x09 ∷ 0x0A ∷ []

abbrev pub marks_addresses : List ℕ
marks_addresses = 0x0B ∷ 0x0C ∷ []

module _ (w : Elsewhere) (es : List Event) where
  -- ---- the statuses
  -- "0x17 bit 4 is 1 and an accepted sample came"
  abbrev pub data_status : Bool
  data_status = both (bit 4 (byte_by es 0x17)) (came_by es)

  -- "0x17 bit 5 is 1 and the count equals the depth"
  abbrev pub full_status : Bool
  full_status = both (bit 5 (byte_by es 0x17)) (eqb w.count (depth_by es))

  -- "0x17 bit 6 is 1" and, by Q-2, "the count is at or above a level from 1 to 32"
  abbrev pub watermark_status : Bool
  watermark_status =
      let level = byte_by es 0x30 in
      both (bit 6 (byte_by es 0x17)) (both (both (leb 1 level) (leb level 32)) (leb level w.count))

  -- all of them: the detectors', "data (0x0A bit 7)", "watermark (0x0A bit 6)", "full (0x0A bit 5)"
  abbrev pub statuses_by : List Status
  statuses_by = w.statuses ++ (status 0x0A 7 data_status ∷ status 0x0A 6 watermark_status ∷ status 0x0A 5 full_status ∷ [])

  -- ---- the byte that an address below 0x3F reads
  unfoldable pub ruled : ℕ → ℕ
  ruled a =
      pick (is_in data_addresses a) (data_by (opened es) a)
      -- "A sample sets .. 0x08"
      (pick (eqb a 0x08) (last_sample es).temperature
      -- "bits of 09 to 0C that no rule below names read 0"
      (pick (is_in status_addresses a) (worths_at a statuses_by)
      (pick (is_in marks_addresses a) (meaning_of w.marks 0 a)
      -- "0x0E is overrun in bit 7, frame count in 6:0"
      (pick (eqb a 0x0E) (worth 128 w.overrun + w.count)
      -- "Register table"
      (byte_by es a)))))

-- n bytes from address a on: "A burst below 0x3F equals single reads in rising address order"
abbrev pub ruled_from : Elsewhere → List Event → ℕ → ℕ → List ℕ
ruled_from w es a zero = []
ruled_from w es a (suc n) = ruled w es a ∷ ruled_from w (read a 1 ∷ es) (suc a) n

-- an address that reads a byte of the register table
abbrev pub is_tabled : ℕ → Bool
is_tabled a = not (either (is_in data_addresses a) (either (eqb a 0x08) (either (is_in status_addresses a) (either (is_in marks_addresses a) (eqb a 0x0E)))))

-- ---- the pins, from the bytes that are read
-- a status: the bit that shows it, and the bits that map it to INT1 and to INT2
pub record Mapped : Type 0 where
  pub shown : Place
  pub int1 : Place
  pub int2 : Place

-- "Maps: 0x19 bit 2 for INT1, 0x1B bit 2 for INT2; 0x1A bits 0, 1, 2 are data, watermark, full for INT1, and 7, 6, 5 for INT2"; Q-5: "low and
-- high are bits 0 and 1 of 0x09, 0x19 and 0x1B"; Q-6: "Status and maps are bit 3 of 0x09, 0x19 and 0x1B"
abbrev pub maps : List Mapped
maps =
    record { shown = place 0x09 0; int1 = place 0x19 0; int2 = place 0x1B 0 } ∷
    record { shown = place 0x09 1; int1 = place 0x19 1; int2 = place 0x1B 1 } ∷
    -- "any-motion (0x09 bit 2)"
    record { shown = place 0x09 2; int1 = place 0x19 2; int2 = place 0x1B 2 } ∷
    record { shown = place 0x09 3; int1 = place 0x19 3; int2 = place 0x1B 3 } ∷
    -- "data (0x0A bit 7)"
    record { shown = place 0x0A 7; int1 = place 0x1A 0; int2 = place 0x1A 7 } ∷
    -- "watermark (0x0A bit 6)"
    record { shown = place 0x0A 6; int1 = place 0x1A 1; int2 = place 0x1A 6 } ∷
    -- "full (0x0A bit 5)"
    record { shown = place 0x0A 5; int1 = place 0x1A 2; int2 = place 0x1A 5 } ∷ []

-- whether a bit is 1, of what is read at each address
abbrev pub is_one : (ℕ → ℕ) → Place → Bool
is_one r p = bit p.number (r p.address)

-- "A pin is active when some mapped status is 1": of which bits are 1, and of the bit that maps a status to the pin
abbrev pub some_mapped : (Place → Bool) → (Mapped → Place) → List Mapped → Bool
some_mapped one pin [] = false
some_mapped one pin (m ∷ ms) = either (both (one m.shown) (one (pin m))) (some_mapped one pin ms)

-- of whether a pin is active, whether its active level is high, and whether it is open-drive: "0x20 bits 0 and 2 give the active level of
-- INT1 and INT2; bits 1 and 3 choose open-drive, where an inactive pin is released"; one that is not open-drive has the other level
pub record Leveled (active high opendrive : Bool) (level : Level) : Type 0 where
  pub active-high : active ≡ true → high ≡ true → level ≡ High
  pub active-low : active ≡ true → high ≡ false → level ≡ Low
  pub idle-open : active ≡ false → opendrive ≡ true → level ≡ Released
  pub idle-high : active ≡ false → opendrive ≡ false → high ≡ false → level ≡ High
  pub idle-low : active ≡ false → opendrive ≡ false → high ≡ true → level ≡ Low
