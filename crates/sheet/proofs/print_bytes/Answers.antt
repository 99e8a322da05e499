-- The bytes of the month stand in the buffer, and all of them are handed over.
use Rattle.std.proofs.Common.{rules}
use Rattle.sheet.proofs.Whole.{bytes-handed, bytes-there}
use Rattle.sheet.proofs.print_bytes.Goals as goal

pub slice_bounds-write_bytes-end : goal.slice_bounds-write_bytes-end
slice_bounds-write_bytes-end g c =
    let there = bytes-there c.args.gathering.month c.buffer-bytes.result c.buffer-bytes.ensures c.write_month.ensures.1 in
    search (rules, there)

pub write_bytes-requires : goal.write_bytes-requires
write_bytes-requires g c = (bytes-handed c.args.gathering.month c.buffer-bytes.result c.buffer-bytes.ensures c.write_month.ensures.1, c.requires)
