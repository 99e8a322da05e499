-- A burst over what it needs of the device: one more read, and that its bytes are those of single reads.
-- Assumes nothing.
use mathlib.Core.Bool.{Bool}
use mathlib.Core.Path.{◌≡◌, refl}
use mathlib.Core.List.{List}
use Prim.Native.Nat.{ℕ, zero, suc, ◌+◌, ◌<◌}
use native.Mathlib.Numerals.{add-one}
use lib.ListN.{length, take, set}
use lib.Seq.{take-suc-set}
use Rattle.channels.specs.Channels.{after_read}
use Rattle.channels.specs.declared.Channels.{Channels}
use Rattle.device.specs.Show.{inside_of}
use Rattle.device.specs.Read.{byte_from, locks, single_bytes, channels_read, bytes_from}
use Rattle.device.specs.declared.Device.{Device}
use Rattle.device.specs.declared.showing.Inside.{Inside}
use Rattle.device.proofs.Laws.{after_is}

module _ (lock : Bool) (c : Channels) (s : Inside) (regs : List ℕ) (a : ℕ) where
  -- one more single read, at the code's i + 1
  pub channels-next : (n : ℕ) → channels_read lock c a (n + 1) ≡ after_read lock (a + n) (channels_read lock c a n)
  unfolding channels_read
  channels-next n = rw add-one

  pub bytes_next : (l : List ℕ) (i v : ℕ) (k : Channels) → i < length l → take i l ≡ bytes_from lock c s regs a i → k ≡ channels_read lock c a i
      → v ≡ byte_from k s regs (a + i) → take (i + 1) (set l i v) ≡ bytes_from lock c s regs a (i + 1)
  unfolding bytes_from
  bytes_next l i v k h t e b = rw (add-one i, take-suc-set) (cc)

module _ (d : Device) (a : ℕ) where
  pub given_is : (n : ℕ) → single_bytes d a n ≡ bytes_from (locks d) d.channels (inside_of d) d.regs a n
  unfolding single_bytes bytes_from
  given_is zero = refl
  given_is (suc n) = rw (given_is n, after_is d a n)
