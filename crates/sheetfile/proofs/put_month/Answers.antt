use mathlib.Core.List.{◌++◌}
use mathlib.Core.Path.{◌≡◌}
use native.Mathlib.Omega.{arith}
use lib.ListN.{length, length-append}
use Rattle.sheetfile.specs.Format.{head_bytes, counts_bytes, ranges_bytes, encode}
use Rattle.sheetfile.proofs.Lengths.{length-head, length-counts, length-ranges}
use Rattle.sheetfile.proofs.Pieces.{put_whole, put-behind}
use Rattle.sheetfile.proofs.put_month.Goals as goal

pub returns : goal.returns
unfolding encode
returns c =
    let a = c.args in
    let m = a.month in
    let l : length (head_bytes ++ counts_bytes m) ≡ 69 = omega (arith, length-append head_bytes (counts_bytes m), length-head, length-counts m) in
    let p = put_whole a.out.now a.at head_bytes 5 length-head (omega arith) c.put_head.ensures in
    let q = put-behind a.out.now a.at head_bytes (counts_bytes m) 5 64 length-head (length-counts m) (omega arith) p c.put_counts.ensures.0 in
    let r = put-behind a.out.now a.at (head_bytes ++ counts_bytes m) (ranges_bytes m.sheet.ranges) 69 156 l (length-ranges m.sheet.ranges) (omega arith) q c.put_ranges.ensures.0 in
    (r.is, record { counts = c.put_counts.ensures.1; ranges = c.put_ranges.ensures.1 })
