use native.Mathlib.Omega.{arith}
use Rattle.benchlog.proofs.Places.{Put}
use Rattle.sheetfile.specs.Format.{four_numbers, counts_bytes}
use Rattle.sheetfile.specs.Whole.{CountsFit}
use Rattle.sheetfile.proofs.Lengths.{length-four}
use Rattle.sheetfile.proofs.Pieces.{put_whole, put-behind}
use Rattle.sheetfile.proofs.put_counts.Goals as goal

pub returns : goal.returns
unfolding counts_bytes
returns c =
    let a = c.args in
    let m = a.month in
    let front = four_numbers m.sheet.accepted m.sheet.taken m.sheet.held m.sheet.lost in
    let rest = four_numbers m.sheet.cleared m.sheet.clock m.logs m.refused in
    let p : Put a.out.now a.at front c.put_numbers.new.out = put_whole a.out.now a.at front 32 (length-four _ _ _ _) (omega arith) c.put_numbers.ensures.0 in
    let f = c.put_numbers.ensures.1 in
    let g = c.put_numbers-2.ensures.1 in
    let fits : CountsFit m = record { accepted = f.0; taken = f.1; held = f.2; lost = f.3; cleared = g.0; clock = g.1; logs = g.2; refused = g.3 } in
    ((put-behind a.out.now a.at front rest 32 32 (length-four _ _ _ _) (length-four _ _ _ _) (omega arith) p c.put_numbers-2.ensures.0).is, fits)
