-- The times that 0x22 and 0x25 can ask for are counted whole. Assumes nothing.
use Prim.Native.Nat.{ℕ, ◌+◌, ◌*◌, ◌<◌}
use mathlib.Core.List.{List}
use native.Mathlib.Omega.{arith}
use Rattle.spell.specs.Stopwatch.{most}
use Rattle.events.specs.Event.{Event}
use Rattle.paper.specs.Stored.{byte_by}
use Rattle.paper.proofs.Stored.{byte_small}

counted : (es : List Event) (a : ℕ) → a < 64 → (byte_by es a + 1) * 2000 < most
counted es a h = omega (arith, byte_small es a h)

pub low-counted : (es : List Event) → (byte_by es 0x22 + 1) * 2000 < most
low-counted es = counted es 0x22 (omega arith)

pub high-counted : (es : List Event) → (byte_by es 0x25 + 1) * 2000 < most
high-counted es = counted es 0x25 (omega arith)
