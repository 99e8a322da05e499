-- The month is that with the sheet that the bytes are.
use Rattle.sheet.specs.Program.{SheetTaken}
use Rattle.sheet.proofs.take_sheet.Goals as goal

pub returns : goal.returns
returns g c = SheetTaken.given _ c.with_sheet.ensures
