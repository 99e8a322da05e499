-- Q-4, of low-g and high-g together: "Two clock events in a row equal one of their sum", and a clock of 0 changes nothing. Assumes nothing.
use Prim.Native.Nat.{ℕ, ◌+◌}
use mathlib.Core.Path.{◌≡◌}
use Rattle.spell.specs.Stopwatch.{stopped}
use Rattle.spell.proofs.Clock as spell
use Rattle.gravity.specs.Gravity.{low_spell, high_spell, both_clocked}
use Rattle.gravity.specs.declared.Gravity.{Gravity}

pub clocked-none : (g : Gravity) → both_clocked 0 g ≡ g
unfolding both_clocked
clocked-none g = rw (spell.clocked-none stopped (low_spell g), spell.clocked-none stopped (high_spell g))

pub clocked-sum : (a b : ℕ) (g : Gravity) → both_clocked b (both_clocked a g) ≡ both_clocked (a + b) g
unfolding both_clocked
clocked-sum a b g = rw (spell.clocked-sum stopped a b (low_spell g), spell.clocked-sum stopped a b (high_spell g))
