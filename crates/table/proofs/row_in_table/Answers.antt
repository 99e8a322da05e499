-- The table of the code is compared with the rows of 01 once, by computation; `entry` carries it to each address.
use borrow.Author.Tests.{lt-ltb, le-ltb}
use Rattle.laws.proofs.Table.{entry}
use Rattle.table.specs.Rows.{row_at, row_of, paper_line_of, listed, reserved_addresses, refused_bits}
use Rattle.table.proofs.row_in_table.Goals as goal

pub returns-then-at-lt64 : goal.returns-then-at-lt64
unfolding row_at row_of paper_line_of listed reserved_addresses refused_bits
returns-then-at-lt64 c = simp (lt-ltb _ _ c.if-at-lt64.true) (entry row_of _ 64 c.args.address c.if-at-lt64.true)

pub returns-else-at-lt64 : goal.returns-else-at-lt64
unfolding row_at row_of paper_line_of listed reserved_addresses refused_bits
returns-else-at-lt64 c = simp (le-ltb _ _ c.if-at-lt64.false)
