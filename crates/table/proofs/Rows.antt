-- The reset bytes, address by address; and a run of addresses whose rows are alike.
-- Assumes nothing.
use Prim.Native.Nat.{ℕ, ◌≤◌, ◌<◌}
use mathlib.Core.Bool.{false}
use mathlib.Core.List.{List}
use mathlib.Core.Path.{◌≡◌, refl, sym}
use native.Mathlib.Omega.{arith}
use lib.Dec.{ltb}
use lib.ListN.{length, get_or}
use borrow.Author.Tests.{lt-ltb, le-ltb}
use Rattle.laws.specs.Choice.{pick}
use Rattle.laws.specs.Lists.{is_in}
use Rattle.laws.specs.Table.{up_from}
use Rattle.laws.proofs.Finite.{alike}
use Rattle.laws.proofs.Table.{entry}
use Rattle.table.specs.declared.Row.{Row}
use Rattle.table.specs.Rows.{row_of, row_at, reset_bytes}

pub reset-at : (a : ℕ) → a < 64 → (row_at a).0 ≡ get_or reset_bytes a 0
unfolding row_at reset_bytes
reset-at a h = rw (lt-ltb a 64 h) (sym (entry (λ k. (row_of k).0) 0 64 a h))

pub reset-length : length reset_bytes ≡ 64
unfolding reset_bytes
reset-length = refl

-- a run of addresses, from one to before another, but for those that have an arm of their own in a match: the row of an address of the
-- run, and x at all others
abbrev in_run : List ℕ → ℕ → ℕ → Row → ℕ → Row
in_run own from to x a = pick (is_in own a) x (pick (ltb a from) x (pick (ltb a to) (row_at a) x))

-- where all rows of the run are x, which is found once, by computation, the row of any of its addresses is x
pub run : (own : List ℕ) (from to : ℕ) (x : Row) → to ≤ 64 → up_from (in_run own from to x) 0 64 ≡ up_from (λ a. x) 0 64 →
    (a : ℕ) → false ≡ is_in own a → from ≤ a → a < to → x ≡ row_at a
run own from to x l e a n f t =
    let same : in_run own from to x a ≡ x = alike (in_run own from to x) (λ k. x) 64 e a (omega arith) in
    sym (rw (sym n, le-ltb a from f, lt-ltb a to t) at same)
