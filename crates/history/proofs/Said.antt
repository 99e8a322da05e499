-- What a byte of 0x3E says: the modes and axes that demand 3 names stand for the bits that 01 gives them.
-- Assumes nothing.
use Prim.Native.Nat.{ℕ, ◌/◌, ◌%◌}
use mathlib.Core.List.{◌++◌}
use mathlib.Core.Path.{◌≡◌}
use lib.IntN.{ℤ}
use Rattle.codes.specs.Axes.{axes_of}
use Rattle.codes.specs.Mode.{mode_of}
use Rattle.codes.specs.declared.Mode.TheVariants.{Bypass, Fifo, Stream, Reserved}
use Rattle.history.specs.History.{axis, frame}

module _ (byte : ℕ) where
  -- "bits 7:6 are 00 BYPASS, 01 FIFO, 10 STREAM"
  pub says-bypass : byte / 64 ≡ 0b00 → mode_of byte ≡ Bypass
  unfolding mode_of
  says-bypass h = rw h

  pub says-fifo : byte / 64 ≡ 0b01 → mode_of byte ≡ Fifo
  unfolding mode_of
  says-fifo h = rw h

  pub says-stream : byte / 64 ≡ 0b10 → mode_of byte ≡ Stream
  unfolding mode_of
  says-stream h = rw h

  pub says-reserved : byte / 64 ≡ 0b11 → mode_of byte ≡ Reserved
  unfolding mode_of
  says-reserved h = rw h

  -- "Bits 1:0 select 00 all axes, 01 x, 10 y, 11 z"
  module _ (x y z : ℤ) where
    pub says_all : byte % 4 ≡ 0b00 → frame (axes_of byte) x y z ≡ axis x ++ axis y ++ axis z
    unfolding axes_of frame
    says_all h = rw h

    pub says-x : byte % 4 ≡ 0b01 → frame (axes_of byte) x y z ≡ axis x
    unfolding axes_of frame
    says-x h = rw h

    pub says_y : byte % 4 ≡ 0b10 → frame (axes_of byte) x y z ≡ axis y
    unfolding axes_of frame
    says_y h = rw h

    pub says-z : byte % 4 ≡ 0b11 → frame (axes_of byte) x y z ≡ axis z
    unfolding axes_of frame
    says-z h = rw h
