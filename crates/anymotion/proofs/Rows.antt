-- 01, "N is 0x27 bits 1:0 plus 1. N over points in a row set it .. Non-latched, N calm points in a row clear it": for each N both sides of
-- both edges, by computation. Assumes nothing.
use Prim.Native.Nat.{ℕ}
use mathlib.Core.Path.{◌≡◌, refl}
use mathlib.Core.List.{List, [], ◌∷◌, ◌++◌, map}
use lib.IntN.{pos}
use Rattle.device.specs.Device as device
use Rattle.device.specs.Computed.{the_device}
use Rattle.events.specs.Event.{Event, write, read, sample, Given}
use Rattle.events.specs.Run.{all_given}

-- a sample of x alone, and a read of 0x09 after it
abbrev x : ℕ → List Event
x v = sample (pos v) (pos 0) (pos 0) 0 ∷ read 0x09 1 ∷ []

-- x enabled and its threshold 4, with a byte in 0x27; then the first sample, four over points and four calm ones
abbrev script : ℕ → List Event
script byte = write 0x16 0x01 ∷ write 0x28 0x01 ∷ write 0x27 byte ∷ (x 0 ++ (x 5 ++ (x 0 ++ (x 5 ++ (x 0 ++ (x 0 ++ (x 0 ++ (x 0 ++ x 0))))))))

-- the bytes of the reads
abbrev read_bytes : List Given → List ℕ
read_bytes [] = []
read_bytes (g ∷ gs) = g.bytes ++ read_bytes gs

-- set at the Nth over point and not before, cleared at the Nth calm point and not before: N is 1, 2, 3 and 4
in_a_row :
    map (λ byte. read_bytes (all_given device.power_up (script byte))) (0 ∷ 1 ∷ 2 ∷ 3 ∷ [])
    ≡ (0 ∷ 4 ∷ 4 ∷ 4 ∷ 4 ∷ 0 ∷ 0 ∷ 0 ∷ 0 ∷ [])
    ∷ (0 ∷ 0 ∷ 4 ∷ 4 ∷ 4 ∷ 4 ∷ 0 ∷ 0 ∷ 0 ∷ [])
    ∷ (0 ∷ 0 ∷ 0 ∷ 4 ∷ 4 ∷ 4 ∷ 4 ∷ 0 ∷ 0 ∷ [])
    ∷ (0 ∷ 0 ∷ 0 ∷ 0 ∷ 4 ∷ 4 ∷ 4 ∷ 4 ∷ 0 ∷ [])
    ∷ []
unfolding the_device
in_a_row = refl
