-- A chip's FIFO: the bytes of its store and the numbers beside it, by the chip's depth, its mode and its axes. Over a store of any room;
-- then the accelerometer's. A depth for which the store has no room counts as what fits, and 0 as 1, so that every call has a meaning.
use Rattle.std.specs.Prelude.{ℕ, ◌+◌, ◌/◌, min, max, false, List}
use Rattle.laws.specs.Bits.{worth}
use Rattle.laws.specs.Bytes.{zeros}
use Rattle.codes.specs.declared.Mode.{Mode}
use Rattle.codes.specs.declared.Axes.{Axes}
use Rattle.fifo.specs.declared.Fifo.{Fifo}
use Rattle.fifo.specs.Setting.{longest_frame, size_of, setting_of}
use Rattle.fifo.specs.Flat.{Flat, flat_pushed, flat_read, bytes_read}

-- ---- a store of room bytes, on a chip of this depth
module _ (room depth : ℕ) where
  -- how many frames fit
  abbrev pub fitting : ℕ
  fitting = max 1 (min depth (room / longest_frame))

  -- "An accepted sample becomes a frame of the selected axes": after the frame has come
  unfoldable pub pushed_in : Mode → Axes → List ℕ → Flat → Flat
  pushed_in mode axes frame f = flat_pushed fitting (setting_of fitting mode axes) frame f

  -- "A read at 0x3F stays there and gives frames oldest first": after a readout of n bytes, and those bytes
  unfoldable pub read_in : Axes → ℕ → Flat → Flat
  read_in axes n f = flat_read fitting (size_of axes) n f

  unfoldable pub bytes_in : Axes → ℕ → Flat → List ℕ
  bytes_in axes n f = bytes_read fitting (size_of axes) n f

  -- how many frames are held: "The held frames never exceed the depth"
  unfoldable pub count_in : Fifo → ℕ
  count_in f = min f.count fitting

-- ---- the accelerometer's store
abbrev pub room : ℕ
room = 192

unfoldable pub no_frames : List ℕ
no_frames = zeros room

-- "empties the FIFO and clears overrun"
abbrev pub emptied : Flat
emptied = record { bytes = no_frames; count = 0; overrun = false }

-- each by the chip's depth
abbrev pub pushed_at : ℕ → Mode → Axes → List ℕ → Flat → Flat
pushed_at = pushed_in room

abbrev pub readout_at : ℕ → Axes → ℕ → Flat → Flat
readout_at = read_in room

abbrev pub readout_bytes_at : ℕ → Axes → ℕ → Flat → List ℕ
readout_bytes_at = bytes_in room

abbrev pub count_at : ℕ → Fifo → ℕ
count_at = count_in room

-- "0x0E is overrun in bit 7, frame count in 6:0"
abbrev pub status_at : ℕ → Fifo → ℕ
status_at depth f = worth 128 f.overrun + count_at depth f
