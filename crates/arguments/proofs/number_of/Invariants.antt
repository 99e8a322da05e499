use Prim.Native.Nat.{◌≤◌, ◌<◌}
use mathlib.Core.Path.{◌≡◌}
use lib.ListN.{length, drop}
use Rattle.arguments.specs.Words.{limit, number_of}
use Rattle.arguments.proofs.Digits.{number_left}
use Rattle.arguments.proofs.number_of.Given as goal

abbrev pub invariant-loop-c : goal.invariant-loop-c
invariant-loop-c l = (l.c-index ≤ length l.word) × (l.n < limit) × (number_of l.word ≡ number_left l.n (drop l.c-index l.word))
