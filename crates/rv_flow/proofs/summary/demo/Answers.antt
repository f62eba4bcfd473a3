use Rattle.std.proofs.Common.{◌∙◌}
use Rattle.std.proofs.lemmas.Result.{IfOk-weaker}
use Rattle.rv_flow.proofs.inside.Summaries.{summary-is}
use Rattle.rv_flow.proofs.summary.demo.Goals as goal

pub returns-in-Ok-clause-summary : goal.returns-in-Ok-clause-summary
returns-in-Ok-clause-summary c =
    let made = c.in-Ok in
    IfOk-weaker c.summed_up.result _ _
    (λ s is. is ∙ summary-is c.args.lines c.args.seed made.found made.simpler made.ensures.found made.ensures.simpler)
    c.summed_up.ensures.summary
