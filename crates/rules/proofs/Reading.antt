-- Demand 2: after any events from power-up on, every read below 0x3F that is accepted, of any length, gives what the rules of 01 say.
-- Assumes nothing.
use Prim.Native.Nat.{ℕ, zero, suc, ◌+◌, ◌/◌, ◌<◌, ◌≤◌}
use mathlib.Core.Bool.{Bool, true, false}
use mathlib.Core.Path.{◌≡◌, refl, sym, ap, ◌∙◌}
use mathlib.Core.List.{List, [], ◌∷◌}
use native.Mathlib.Omega.{arith}
use lib.Dec.{eqb, leb}
use lib.ListN.{get_or}
use borrow.Author.Tests.{le-leb, leb-true}
use Rattle.laws.specs.Choice.{pick, both}
use Rattle.laws.specs.Lists.{is_in}
use Rattle.laws.specs.Bits.{bit}
use Rattle.laws.proofs.Finite.{at-any}
use Rattle.codes.specs.Addresses.{enables_at, level_at, control_at}
use Rattle.codes.specs.Mode.{mode_of, is_reserved_mode}
use Rattle.codes.specs.declared.Mode.TheVariants.{Bypass, Fifo, Stream, Reserved}
use Rattle.fifo.specs.Setting.{depth_in}
use Rattle.fifo.specs.Store.{count_at}
use Rattle.fifo.proofs.Bounds.{depth-most}
use Rattle.fifo.proofs.Store.{count-few}
use Rattle.interrupts.specs.Statuses.{reached, statuses_of}
use Rattle.interrupts.specs.Maps.{all_statuses, status_byte}
use Rattle.interrupts.specs.declared.Statuses.{Statuses}
use Rattle.detectors.specs.Detectors.{low_status, high_status, high_marks, motion_status, motion_marks, slow_status}
use Rattle.device.specs.Device.{depth, reg}
use Rattle.device.specs.Show.{inside_of, statuses_in, shown_byte}
use Rattle.device.specs.Read.{byte_from, single_byte}
use Rattle.device.specs.declared.Device.{Device}
use Rattle.events.specs.Event.{Event, read, Given, gives, bytes}
use Rattle.events.specs.Run.{after, all_given, bytes_joined}
use Rattle.events.specs.Bank.{stored}
use Rattle.events.proofs.Runs.{bank-is}
use Rattle.rules.specs.Bursts.{is_burst, singles}
use Rattle.rules.specs.Data.{last_sample}
use Rattle.rules.specs.Shown.{byte_seen, bit_seen}
use Rattle.rules.specs.Rules.{Elsewhere, worths_at, status_addresses, statuses_by, ruled, ruled_from, is_tabled}
use Rattle.rules.proofs.Few.{deep, few}
use Rattle.paper.proofs.Stored.{stored_is}
use Rattle.rules.proofs.Bursts.{burst-bounds, single, single-next, burst-gives}
use Rattle.rules.proofs.Data.{data_is}
use Rattle.rules.proofs.Past.{temperature-is, came-is}
use Rattle.rules.proofs.Worths.{holds_at, bit_is}
use Rattle.rules.proofs.Shown.{shown_in, byte_worth, elsewhere_in, single-is, tabled-byte}
use Rattle.rules.proofs.Registers.{mode-known}

-- "Depth is 32 in FIFO and STREAM, 1 in BYPASS"
pub depth_is : (b : ℕ) → is_reserved_mode (mode_of b) ≡ false → depth_in depth (mode_of b) ≡ pick (eqb (b / 64) 0b00) 1 32
unfolding mode_of
depth_is b = go (eqb (b / 64) 0b00) (eqb (b / 64) 0b01) (eqb (b / 64) 0b10)
  where
    go : (p q r : Bool) → is_reserved_mode (pick p Bypass (pick q Fifo (pick r Stream Reserved))) ≡ false
        → depth_in depth (pick p Bypass (pick q Fifo (pick r Stream Reserved))) ≡ pick p 1 32
    go true q r h = refl
    go false true r h = refl
    go false false true h = refl
    go false false false h = cc

-- Q-2: where no more are held than the depth, and the depth is at most 32, "a level from 1 to 32" and one up to the depth are the same
reached-is : (count depth level : ℕ) → count ≤ depth → depth ≤ 32 → reached count depth level ≡ both (both (leb 1 level) (leb level 32)) (leb level count)
reached-is count depth level few most = go (leb level count) refl
  where
    ends-false : (p q : Bool) → both (both p q) false ≡ false
    ends-false true true = refl
    ends-false true false = refl
    ends-false false q = refl

    go : (t : Bool) → leb level count ≡ t → both (both (leb 1 level) (leb level depth)) t ≡ both (both (leb 1 level) (leb level 32)) t
    go true e =
        let l = leb-true level count e in
        rw (le-leb level depth (omega arith), le-leb level 32 (omega arith))
    go false e = ends-false (leb 1 level) (leb level depth) ∙ sym (ends-false (leb 1 level) (leb level 32))

module _ (es : List Event) where
  abbrev d : Device
  d = after es

  abbrev w : Elsewhere
  w = elsewhere_in (after es)

  few-held : count_at depth (after es).fifo ≡ (after es).fifo.count
  few-held = count-few deep (mode_of (reg (after es) control_at)) (after es).fifo (few es)

  reached-here :
      let level = reg (after es) level_at in
      reached (after es).fifo.count (depth_in depth (mode_of (reg (after es) control_at))) level
      ≡ both (both (leb 1 level) (leb level 32)) (leb level (after es).fifo.count)
  reached-here =
      let mode = mode_of (reg (after es) control_at) in
      reached-is (after es).fifo.count (depth_in depth mode) (reg (after es) level_at) (few es) (depth-most deep mode)

  -- the statuses of the device
  abbrev pub statuses_now : Statuses
  statuses_now = statuses_in (after es).regs (inside_of (after es))

  -- one by one they are those of the rules
  pub statuses-are : shown_in statuses_now all_statuses ≡ statuses_by w es
  unfolding statuses_of
  statuses-are =
      rw (few-held, reached-here, came-is es, bank-is es, depth_is (stored es control_at) (mode-known es), stored_is es enables_at (omega arith), stored_is es level_at (omega arith), stored_is es control_at (omega arith))

  status-byte : (a : ℕ) → status_byte a statuses_now ≡ worths_at a (statuses_by w es)
  status-byte a = byte_worth a statuses_now ∙ ap (worths_at a) statuses-are

  pub byte-ruled : (a : ℕ) → a < 64 → single_byte (after es) a ≡ ruled (elsewhere_in (after es)) es a
  unfolding ruled
  byte-ruled a h = single-is (after es) a h ∙ rw (data_is es a, temperature-is es, status-byte a, few-held, ← stored_is es a h, ← bank-is es)

-- ---- any length
-- a read below 0x3F moves the channels alone
same-elsewhere : (es : List Event) (a : ℕ) → a < 0x3F → elsewhere_in (after (read a 1 ∷ es)) ≡ elsewhere_in (after es)
unfolding after
same-elsewhere es a h = ap elsewhere_in (single-next (after es) a h)

module _ (es : List Event) (a n : ℕ) (h : a < 0x3F) where
  one-ruled : gives (after es) (read a 1) ≡ bytes (ruled (elsewhere_in (after es)) es a ∷ [])
  one-ruled = single (after es) a h ∙ rw (byte-ruled es a (omega arith))

  more-ruled : bytes_joined (all_given (after (read a 1 ∷ es)) (singles (suc a) n)) ≡ ruled_from (elsewhere_in (after (read a 1 ∷ es))) (read a 1 ∷ es) (suc a) n
      → bytes_joined (all_given (after es) (singles a (suc n))) ≡ ruled_from (elsewhere_in (after es)) es a (suc n)
  unfolding after
  more-ruled same = rw (ap (λ (g : Given). g.bytes) one-ruled, same, same-elsewhere es a h)

singles-ruled : (es : List Event) (a n : ℕ) → a + n ≤ 0x3F → bytes_joined (all_given (after es) (singles a n)) ≡ ruled_from (elsewhere_in (after es)) es a n
singles-ruled es a zero h = refl
singles-ruled es a (suc n) h = more-ruled es a n (omega arith) (singles-ruled (read a 1 ∷ es) (suc a) n (omega arith))

pub reads : (es : List Event) (a n : ℕ) → is_burst a n ≡ true → gives (after es) (read a n) ≡ bytes (ruled_from (elsewhere_in (after es)) es a n)
reads es a n h = burst-gives (after es) a n h ∙ rw (singles-ruled es a n (burst-bounds a n h).1)

-- ---- the rule of each address that is not of the table
module _ (es : List Event) where
  -- "A sample sets .. 0x08"
  pub reads-temperature : gives (after es) (read 0x08 1) ≡ bytes ((last_sample es).temperature ∷ [])
  unfolding byte_from shown_byte
  reads-temperature = single (after es) 0x08 (omega arith) ∙ rw (temperature-is es)

  -- "0x0B bits 2:0 (z, y, x) mark the first over axis .., and bit 3 is 1 for a negative difference"
  pub reads-marks : gives (after es) (read 0x0B 1) ≡ bytes (motion_marks (after es).detectors ∷ [])
  unfolding byte_from shown_byte
  reads-marks = single (after es) 0x0B (omega arith)

  -- Q-5: "High marks and the sample's sign sit in 0x0C bits 3:0"
  pub reads-high-marks : gives (after es) (read 0x0C 1) ≡ bytes (high_marks (after es).detectors ∷ [])
  unfolding byte_from shown_byte
  reads-high-marks = single (after es) 0x0C (omega arith)

-- ---- what a recorder sees, bit by bit: whatever else the byte shows
module _ (es : List Event) where
  seen : (a : ℕ) → a < 0x3F → byte_seen es a ≡ single_byte (after es) a
  seen a h = ap (λ (g : Given). get_or g.bytes 0 0) (single (after es) a h)

  pub byte-seen : (a : ℕ) → a < 0x3F → byte_seen es a ≡ ruled (elsewhere_in (after es)) es a
  byte-seen a h = seen a h ∙ byte-ruled es a (omega arith)

  pub tabled-seen : (a : ℕ) → a < 0x3F → is_tabled a ≡ true → byte_seen es a ≡ reg (after es) a
  tabled-seen a h t = seen a h ∙ tabled-byte (after es) a (omega arith) t

  -- at each address that shows statuses, the status whose bit it is; and 0 where it is none's
  pub status-seen : (a : ℕ) → is_in status_addresses a ≡ true → (k : ℕ) → bit_seen es a k ≡ holds_at a k (shown_in (statuses_now es) all_statuses)
  unfolding byte_from shown_byte
  status-seen a m k =
      ap (bit k) (at-any (λ a. byte_seen es a ≡ status_byte a (statuses_now es)) status_addresses (seen 0x09 (omega arith), (seen 0x0A (omega arith), tt)) a m ∙ byte_worth a (statuses_now es))
      ∙ bit_is a (shown_in (statuses_now es) all_statuses) refl k

  -- as the rules have it
  pub rule-seen : (a : ℕ) → is_in status_addresses a ≡ true → (k : ℕ) → bit_seen es a k ≡ holds_at a k (statuses_by (elsewhere_in (after es)) es)
  rule-seen a m k = status-seen a m k ∙ ap (holds_at a k) (statuses-are es)

  -- Q-5: "low and high are bits 0 and 1 of 0x09"
  pub low-seen : bit_seen es 0x09 0 ≡ low_status (after es).detectors
  unfolding statuses_of
  low-seen = status-seen 0x09 refl 0

  pub high-seen : bit_seen es 0x09 1 ≡ high_status (after es).detectors
  unfolding statuses_of
  high-seen = status-seen 0x09 refl 1

  -- "any-motion (0x09 bit 2)"
  pub motion-seen : bit_seen es 0x09 2 ≡ motion_status (after es).detectors
  unfolding statuses_of
  motion-seen = status-seen 0x09 refl 2

  -- Q-6: "Status and maps are bit 3 of 0x09, 0x19 and 0x1B"
  pub slow-seen : bit_seen es 0x09 3 ≡ slow_status (after es).detectors
  unfolding statuses_of
  slow-seen = status-seen 0x09 refl 3
