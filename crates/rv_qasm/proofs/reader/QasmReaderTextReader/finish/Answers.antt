use Rattle.std.proofs.Common.{ap, ◌∙◌}
use Rattle.rv_qasm.specs.inside.Reached.{refusal_in}
use Rattle.rv_qasm.proofs.inside.Steps.{end_kept, kept_refusal}
use Rattle.rv_qasm.proofs.reader.QasmReaderTextReader.finish.Goals as goal

pub returns-clause-stands : goal.returns-clause-stands
returns-clause-stands c = λ text stood.
    end_kept c.args.self c.self.inside.refused c.self.inside.reached text c.finished.result (ap (λ r. r.progress) c.self.view_is) stood c.finished.ensures.kept c.finished.ensures.ended

pub returns-clause-stays : goal.returns-clause-stays
returns-clause-stays c = λ fault is.
    c.finished.ensures.kept fault (kept_refusal c.self.inside.refused c.self.inside.reached fault (ap (λ r. refusal_in r.progress) c.self.view_is ∙ is))
