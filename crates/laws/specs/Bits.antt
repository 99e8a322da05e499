-- Bits of a byte, counted from 0 as the data sheets count them.
use Rattle.std.specs.Prelude.{ℕ, ◌/◌, ◌%◌, ◌^◌, Bool, eqb}
use Rattle.laws.specs.Choice.{pick}

unfoldable pub bit : ℕ → ℕ → Bool
bit place byte = eqb (byte / 2 ^ place % 2) 1

-- a bit that is worth weight where it is 1
abbrev pub worth : ℕ → Bool → ℕ
worth weight b = pick b weight 0
