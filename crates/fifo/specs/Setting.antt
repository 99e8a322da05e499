-- 01, "FIFO": what the mode and the axes of 3E set, on a chip of any depth.
use Rattle.std.specs.Prelude.{ℕ}
use Rattle.codes.specs.declared.Mode.{Mode}
use Rattle.codes.specs.declared.Mode.TheVariants.{Bypass, Fifo, Stream, Reserved}
use Rattle.codes.specs.declared.Axes.{Axes}
use Rattle.codes.specs.declared.Axes.TheVariants.{All, X, Y, Z}
use Rattle.fifo.specs.declared.Drop.{Drop}
use Rattle.fifo.specs.declared.Drop.TheVariants.{Newcomer, Oldest}
use Rattle.fifo.specs.declared.Setting.{Setting}

-- the bytes of the longest frame
abbrev pub longest_frame : ℕ
longest_frame = 6

-- the bytes of a frame: "LSB then MSB" of each selected axis
abbrev pub size_of : Axes → ℕ
size_of All = longest_frame
size_of X = 2
size_of Y = 2
size_of Z = 2

-- "Depth is 32 in FIFO and STREAM, 1 in BYPASS": on a chip of depth full. With the reserved code, which no
-- accepted write leads to, nothing is held and each newcomer is lost
abbrev pub depth_in : ℕ → Mode → ℕ
depth_in full Bypass = 1
depth_in full Fifo = full
depth_in full Stream = full
depth_in full Reserved = 0

-- "FIFO mode drops the newcomer; STREAM and BYPASS drop the oldest"
abbrev pub drops_in : Mode → Drop
drops_in Bypass = Oldest
drops_in Fifo = Newcomer
drops_in Stream = Oldest
drops_in Reserved = Newcomer

abbrev pub setting_of : ℕ → Mode → Axes → Setting
setting_of full mode axes = record { depth = depth_in full mode; drops = drops_in mode; size = size_of axes }
