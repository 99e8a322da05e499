-- An arm of one address is compared with its row, and an arm of a run with all of the run's.
use mathlib.Core.List.{[]}
use mathlib.Core.Path.{refl, ap, sym}
use native.Mathlib.Omega.{arith}
use Rattle.table.specs.Rows.{row_at, row_of, paper_line_of, listed, reserved_addresses, refused_bits}
use Rattle.table.proofs.Rows.{run}
use Rattle.table.proofs.row_from_20.Goals as goal

pub returns-in-32 : goal.returns-in-32
unfolding row_at row_of paper_line_of listed reserved_addresses refused_bits
returns-in-32 c = ap row_at (sym c.in-32.is)

pub returns-in-33 : goal.returns-in-33
unfolding row_at row_of paper_line_of listed reserved_addresses refused_bits
returns-in-33 c = ap row_at (sym c.in-33.is)

pub returns-in-34 : goal.returns-in-34
unfolding row_at row_of paper_line_of listed reserved_addresses refused_bits
returns-in-34 c = ap row_at (sym c.in-34.is)

pub returns-in-35 : goal.returns-in-35
unfolding row_at row_of paper_line_of listed reserved_addresses refused_bits
returns-in-35 c = ap row_at (sym c.in-35.is)

pub returns-in-36 : goal.returns-in-36
unfolding row_at row_of paper_line_of listed reserved_addresses refused_bits
returns-in-36 c = ap row_at (sym c.in-36.is)

pub returns-in-37 : goal.returns-in-37
unfolding row_at row_of paper_line_of listed reserved_addresses refused_bits
returns-in-37 c = ap row_at (sym c.in-37.is)

pub returns-in-38 : goal.returns-in-38
unfolding row_at row_of paper_line_of listed reserved_addresses refused_bits
returns-in-38 c = ap row_at (sym c.in-38.is)

pub returns-in-39 : goal.returns-in-39
unfolding row_at row_of paper_line_of listed reserved_addresses refused_bits
returns-in-39 c = ap row_at (sym c.in-39.is)

pub returns-in-42 : goal.returns-in-42
unfolding row_at row_of paper_line_of listed reserved_addresses refused_bits
returns-in-42 c = ap row_at (sym c.in-42.is)

pub returns-in-43 : goal.returns-in-43
unfolding row_at row_of paper_line_of listed reserved_addresses refused_bits
returns-in-43 c = ap row_at (sym c.in-43.is)

pub returns-in-44 : goal.returns-in-44
unfolding row_at row_of paper_line_of listed reserved_addresses refused_bits
returns-in-44 c = ap row_at (sym c.in-44.is)

pub returns-in-45 : goal.returns-in-45
unfolding row_at row_of paper_line_of listed reserved_addresses refused_bits
returns-in-45 c = ap row_at (sym c.in-45.is)

pub returns-in-46 : goal.returns-in-46
unfolding row_at row_of paper_line_of listed reserved_addresses refused_bits
returns-in-46 c = ap row_at (sym c.in-46.is)

pub returns-in-47 : goal.returns-in-47
unfolding row_at row_of paper_line_of listed reserved_addresses refused_bits
returns-in-47 c = ap row_at (sym c.in-47.is)

pub returns-in-48 : goal.returns-in-48
unfolding row_at row_of paper_line_of listed reserved_addresses refused_bits
returns-in-48 c = ap row_at (sym c.in-48.is)

pub returns-in-50 : goal.returns-in-50
unfolding row_at row_of paper_line_of listed reserved_addresses refused_bits
returns-in-50 c = ap row_at (sym c.in-50.is)

pub returns-in-51 : goal.returns-in-51
unfolding row_at row_of paper_line_of listed reserved_addresses refused_bits
returns-in-51 c = ap row_at (sym c.in-51.is)

pub returns-in-52 : goal.returns-in-52
unfolding row_at row_of paper_line_of listed reserved_addresses refused_bits
returns-in-52 c = ap row_at (sym c.in-52.is)

pub returns-in-54 : goal.returns-in-54
unfolding row_at row_of paper_line_of listed reserved_addresses refused_bits
returns-in-54 c = ap row_at (sym c.in-54.is)

pub returns-in-55 : goal.returns-in-55
unfolding row_at row_of paper_line_of listed reserved_addresses refused_bits
returns-in-55 c = ap row_at (sym c.in-55.is)

pub returns-in-62 : goal.returns-in-62
unfolding row_at row_of paper_line_of listed reserved_addresses refused_bits
returns-in-62 c = ap row_at (sym c.in-62.is)

pub returns-in-40-to-41 : goal.returns-in-40-to-41
unfolding row_at row_of paper_line_of listed reserved_addresses refused_bits
returns-in-40-to-41 c = run [] 40 42 _ (omega arith) refl c.args.address refl (omega arith) (omega arith)

pub returns-in-56-to-60 : goal.returns-in-56-to-60
unfolding row_at row_of paper_line_of listed reserved_addresses refused_bits
returns-in-56-to-60 c = run [] 56 61 _ (omega arith) refl c.args.address refl (omega arith) (omega arith)
