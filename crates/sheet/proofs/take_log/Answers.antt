-- A pump came to its end with the log.
use Rattle.sheet.specs.Program.{LogTaken}
use Rattle.sheet.proofs.take_log.Goals as goal

pub returns : goal.returns
returns g c = LogTaken.pumped _ c.pump_sheet-ended.ensures c.with_log.ensures
