use Rattle.sheetlines.specs.Lines.{month_text}
use Rattle.wording.proofs.Lines.{spelt-two}
use Rattle.sheetlines.proofs.write_month.Goals as goal

pub returns : goal.returns
unfolding month_text
returns c = spelt-two c.put_counts-to.ensures (spelt-two c.put_ranges-to.ensures c.put_logs.ensures)
