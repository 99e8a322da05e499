-- Q-2: "Level 0 and levels above the depth never fire", whatever the count is, in a record that no events led to as well.
-- Assumes nothing.
use Prim.Native.Nat.{ℕ, ◌<◌}
use mathlib.Core.Bool.{false}
use mathlib.Core.Path.{◌≡◌, refl}
use native.Mathlib.Omega.{arith}
use borrow.Author.Tests.{le-leb, lt-leb}
use Rattle.interrupts.specs.Statuses.{reached}

module _ (count depth : ℕ) where
  pub never-0 : reached count depth 0 ≡ false
  never-0 = refl

  pub never-above : (level : ℕ) → depth < level → reached count depth level ≡ false
  never-above level h = rw (le-leb 1 level (omega arith), lt-leb level depth h)
