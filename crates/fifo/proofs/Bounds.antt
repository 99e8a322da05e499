-- Bounds of a frame's size, of a depth and of a setting, whatever 3E holds.
-- Assumes nothing.
use Prim.Native.Nat.{ℕ, ◌*◌, ◌≤◌}
use mathlib.Core.Path.{◌≡◌}
use mathlib.Core.List.{List}
use native.Mathlib.Omega.{arith}
use native.Mathlib.Nat.{mul-le-mul_left, mul-le-mul_right}
use lib.ListN.{length}
use Rattle.codes.specs.declared.Mode.{Mode}
use Rattle.codes.specs.declared.Mode.TheVariants.{Bypass, Fifo, Stream, Reserved}
use Rattle.codes.specs.declared.Axes.{Axes}
use Rattle.codes.specs.declared.Axes.TheVariants.{All, X, Y, Z}
use Rattle.fifo.specs.declared.Drop.TheVariants.{Oldest}
use Rattle.fifo.specs.Setting.{size_of, depth_in, drops_in, setting_of, longest_frame}
use Rattle.fifo.specs.Flat.{Room}
use Rattle.fifo.specs.Store.{fitting}

pub size-bounds : (a : Axes) → (1 ≤ size_of a) × (size_of a ≤ longest_frame)
size-bounds All = omega arith
size-bounds X = omega arith
size-bounds Y = omega arith
size-bounds Z = omega arith

-- a depth, from 1 on, for whose frames a store of room bytes is enough
pub record Deep (room depth : ℕ) : Type 0 where
  pub some : 1 ≤ depth
  pub space : depth * longest_frame ≤ room

-- that is what a store of one frame at least makes of any depth, and such a depth it leaves as it is
pub fitting-deep : (room depth : ℕ) → longest_frame ≤ room → Deep room (fitting room depth)
fitting-deep room depth h = record { some = omega arith; space = omega arith }

pub fitting-is : {room depth : ℕ} → Deep room depth → fitting room depth ≡ depth
fitting-is h = omega (arith, h.some, h.space)

module _ {room depth : ℕ} (h : Deep room depth) where
  pub size-space : (a : Axes) → depth * size_of a ≤ room
  size-space a = omega (arith, h.space, mul-le-mul_left depth (size-bounds a).1)

  pub depth-most : (m : Mode) → depth_in depth m ≤ depth
  depth-most Bypass = h.some
  depth-most Fifo = omega arith
  depth-most Stream = omega arith
  depth-most Reserved = omega arith

  -- a setting that drops the oldest holds one at least
  pub depth-some : (m : Mode) → drops_in m ≡ Oldest → 1 ≤ depth_in depth m
  depth-some Bypass e = omega arith
  depth-some Fifo e = h.some
  depth-some Stream e = h.some
  depth-some Reserved e = let z : ◌≡◌ {A = ℕ} 0 1 = cc in omega arith

  -- the store has room for any setting, and for as many frames as the depth
  pub room_for : (m : Mode) (a : Axes) (n : ℕ) (bs frame : List ℕ) → n ≤ depth → room ≤ length bs → longest_frame ≤ length frame → Room n (setting_of depth m a) bs frame
  room_for m a n bs frame hn hb hf = record {
    holds = omega (arith, size-space a, mul-le-mul_right (size_of a) hn);
    whole = omega (arith, size-space a, mul-le-mul_right (size_of a) (depth-most m));
    long = omega (arith, (size-bounds a).1);
    some = depth-some m;
  }
