-- 01, "Data channels" and "FIFO": burst reads.
use Rattle.std.specs.Prelude.{ℕ, zero, suc, ◌+◌, Bool, not, List, [], ◌∷◌, ◌++◌, eqb, leb, ltb, length}
use Rattle.laws.specs.Choice.{pick, both}
use Rattle.laws.specs.Bits.{bit}
use Rattle.codes.specs.Addresses.{shadow_at, control_at, frames_at}
use Rattle.codes.specs.Axes.{axes_of}
use Rattle.channels.specs.Channels.{byte_at, after_read}
use Rattle.channels.specs.declared.Channels.{Channels}
use Rattle.fifo.specs.Store.{readout_at, readout_bytes_at}
use Rattle.registers.specs.Answers.{accepted}
use Rattle.registers.specs.Refused.{read_answer}
use Rattle.device.specs.Device.{depth, reg, flat_of, with_channels, with_flat}
use Rattle.device.specs.Show.{inside_of, shown_byte}
use Rattle.device.specs.declared.Device.{Device}
use Rattle.device.specs.declared.Answered.{Answered}
use Rattle.device.specs.declared.showing.Inside.{Inside}

-- 0x02 to 0x07: LSB and MSB of x, y and z
abbrev pub is_data : ℕ → Bool
is_data a = both (leb 0x02 a) (ltb a 0x08)

-- the byte of an address below 0x3F, from the channels, what shows beside them, and the registers
unfoldable pub byte_from : Channels → Inside → List ℕ → ℕ → ℕ
byte_from c s regs a = pick (is_data a) (byte_at c a) (shown_byte s regs a)

abbrev pub single_byte : Device → ℕ → ℕ
single_byte d a = byte_from d.channels (inside_of d) d.regs a

-- "With 0x13 bit 6 at 0 it also locks the MSB"
abbrev pub locks : Device → Bool
locks d = not (bit 6 (reg d shadow_at))

-- the device after a single read below 0x3F
abbrev pub after_single : Device → ℕ → Device
after_single d a = with_channels d (after_read (locks d) a d.channels)

-- "A burst below 0x3F equals single reads in rising address order": the device after n of them from a on, and their bytes
unfoldable pub after_singles : Device → ℕ → ℕ → Device
after_singles d a zero = d
after_singles d a (suc n) = after_single (after_singles d a n) (a + n)

unfoldable pub single_bytes : Device → ℕ → ℕ → List ℕ
single_bytes d a zero = []
single_bytes d a (suc n) = single_bytes d a n ++ (single_byte (after_singles d a n) (a + n) ∷ [])

-- "A read at 0x3F stays there and gives frames oldest first": the device after a readout of n bytes, and the bytes
abbrev pub after_readout : Device → ℕ → Device
after_readout d n = with_flat d (readout_at depth (axes_of (reg d control_at)) n (flat_of d))

abbrev pub readout_bytes : Device → ℕ → List ℕ
readout_bytes d n = readout_bytes_at depth (axes_of (reg d control_at)) n (flat_of d)

-- an accepted read of n bytes from a on: the device after it, and the bytes
abbrev pub burst_after : Device → ℕ → ℕ → Device
burst_after d a n = pick (eqb a frames_at) (after_readout d n) (after_singles d a n)

abbrev pub burst_bytes : Device → ℕ → ℕ → List ℕ
burst_bytes d a n = pick (eqb a frames_at) (readout_bytes d n) (single_bytes d a n)

-- "The read length is the length of the lent buffer itself": a read of n bytes from a on, and the buffer after a read
unfoldable pub read_of : Device → ℕ → ℕ → Answered
read_of d a n = record { answer = read_answer a n; device = pick (accepted (read_answer a n)) (burst_after d a n) d }

unfoldable pub buffer_after : Device → ℕ → List ℕ → List ℕ
buffer_after d a buffer = pick (accepted (read_answer a (length buffer))) (burst_bytes d a (length buffer)) buffer

-- ---- the same burst, over what it needs of the device: lock says whether an LSB read locks
unfoldable pub channels_read : Bool → Channels → ℕ → ℕ → Channels
channels_read lock c a zero = c
channels_read lock c a (suc n) = after_read lock (a + n) (channels_read lock c a n)

unfoldable pub bytes_from : Bool → Channels → Inside → List ℕ → ℕ → ℕ → List ℕ
bytes_from lock c s regs a zero = []
bytes_from lock c s regs a (suc n) = bytes_from lock c s regs a n ++ (byte_from (channels_read lock c a n) s regs (a + n) ∷ [])
