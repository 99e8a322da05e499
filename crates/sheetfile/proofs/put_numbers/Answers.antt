use native.Mathlib.Omega.{arith}
use Rattle.sheetfile.specs.Format.{big_endian8, four_numbers}
use Rattle.sheetfile.proofs.Lengths.{length-eight}
use Rattle.sheetfile.proofs.Pieces.{four}
use Rattle.sheetfile.proofs.put_numbers.Goals as goal

pub returns : goal.returns
unfolding four_numbers
returns c =
    let a = c.args in
    let fits = c.ranges in (
      (four a.out.now a.at 8 (big_endian8 a.first) (big_endian8 a.second) (big_endian8 a.third) (length-eight _) (length-eight _) (length-eight _) (big_endian8 a.fourth) (length-eight _)
          (omega arith) c.put_eight.ensures c.put_eight-2.ensures c.put_eight-3.ensures c.put_eight-4.ensures).is,
      (fits.first.fits, fits.second.fits, fits.third.fits, fits.fourth.fits),
    )
