use Rattle.rv_reader.proofs.inside.FormatLemmas.{ends, refuses}
use Rattle.rv_reader.proofs.reader.ReaderTextReader.finish.Goals as goal

pub returns-in-Ok-clause-stands : goal.returns-in-Ok-clause-stands
returns-in-Ok-clause-stands g c = λ text stood. ends g.S.Format.rules g.S.Format.as_fault g.S.Format.end_of g.S.Format.denoted g.met.S.Format.denotes c.args.self text c.in-Ok.whole c.end.result stood c.in-Ok.ensures.gives c.end.ensures

pub returns-in-Err-clause-stands : goal.returns-in-Err-clause-stands
returns-in-Err-clause-stands g c = λ text stood. rw c.fault.ensures (refuses g.S.Format.rules g.S.Format.as_fault g.S.Format.end_of g.S.Format.denoted g.met.S.Format.denotes c.args.self text c.in-Err.refusal stood c.in-Err.ensures.gives)
