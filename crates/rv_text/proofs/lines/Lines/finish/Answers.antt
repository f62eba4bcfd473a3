use Rattle.rv_text.proofs.Cut.{IsCut-lines_of}
use Rattle.rv_text.proofs.lines.Lines.finish.Goals as goal

pub returns-clause-lines : goal.returns-clause-lines
returns-clause-lines c = IsCut-lines_of
