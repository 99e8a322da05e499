use Rattle.wording.proofs.write_line.Goals as goal

pub returns-in-Lost : goal.returns-in-Lost
returns-in-Lost c = rw c.in-Lost.is c.word.ensures.pushed

pub returns-in-NoReadout : goal.returns-in-NoReadout
returns-in-NoReadout c = rw c.in-NoReadout.is c.word-in-NoReadout.ensures.pushed
