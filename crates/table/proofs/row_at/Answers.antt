use mathlib.Core.Path.{ap, sym}
use Rattle.table.specs.Rows.{row_at, row_of, paper_line_of, listed, reserved_addresses, refused_bits}
use Rattle.table.proofs.row_at.Goals as goal

pub returns-in-15 : goal.returns-in-15
unfolding row_at row_of paper_line_of listed reserved_addresses refused_bits
returns-in-15 c = ap row_at (sym c.in-15.is)

pub returns-in-16 : goal.returns-in-16
unfolding row_at row_of paper_line_of listed reserved_addresses refused_bits
returns-in-16 c = ap row_at (sym c.in-16.is)

pub returns-in-17 : goal.returns-in-17
unfolding row_at row_of paper_line_of listed reserved_addresses refused_bits
returns-in-17 c = ap row_at (sym c.in-17.is)

pub returns-in-18 : goal.returns-in-18
unfolding row_at row_of paper_line_of listed reserved_addresses refused_bits
returns-in-18 c = ap row_at (sym c.in-18.is)

pub returns-in-19 : goal.returns-in-19
unfolding row_at row_of paper_line_of listed reserved_addresses refused_bits
returns-in-19 c = ap row_at (sym c.in-19.is)

pub returns-in-22 : goal.returns-in-22
unfolding row_at row_of paper_line_of listed reserved_addresses refused_bits
returns-in-22 c = ap row_at (sym c.in-22.is)

pub returns-in-23 : goal.returns-in-23
unfolding row_at row_of paper_line_of listed reserved_addresses refused_bits
returns-in-23 c = ap row_at (sym c.in-23.is)

pub returns-in-24 : goal.returns-in-24
unfolding row_at row_of paper_line_of listed reserved_addresses refused_bits
returns-in-24 c = ap row_at (sym c.in-24.is)

pub returns-in-25 : goal.returns-in-25
unfolding row_at row_of paper_line_of listed reserved_addresses refused_bits
returns-in-25 c = ap row_at (sym c.in-25.is)

pub returns-in-26 : goal.returns-in-26
unfolding row_at row_of paper_line_of listed reserved_addresses refused_bits
returns-in-26 c = ap row_at (sym c.in-26.is)

pub returns-in-27 : goal.returns-in-27
unfolding row_at row_of paper_line_of listed reserved_addresses refused_bits
returns-in-27 c = ap row_at (sym c.in-27.is)

pub returns-in-30 : goal.returns-in-30
unfolding row_at row_of paper_line_of listed reserved_addresses refused_bits
returns-in-30 c = ap row_at (sym c.in-30.is)
